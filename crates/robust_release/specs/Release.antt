-- release (robust_unique_index_set.rs 441 to 477), one shared access at a time.
use Rattle.std.specs.Prelude.{ℕ, ◌+◌, ◌-◌, ◌%◌, ◌^◌, Bool, false, cond, nat_lt, Option, Some, None, Result, Ok, Err}
use Rattle.std.specs.declared.ops.ControlFlow.{ControlFlow}
use Rattle.std.specs.declared.ops.ControlFlow.TheVariants.{Continue, Break}
use Rattle.unique_index_set_enums.specs.declared.Generation.{Generation}
use Rattle.unique_index_set_enums.specs.declared.ReleaseMode.{ReleaseMode}
use Rattle.unique_index_set_enums.specs.declared.ReleaseMode.TheVariants.{Default, LockIfLastIndex}
use Rattle.unique_index_set_enums.specs.declared.ReleaseState.{ReleaseState}
use Rattle.unique_index_set_enums.specs.declared.ReleaseState.TheVariants.{Unlocked}
use Rattle.unique_index_set_enums.specs.declared.UnknownMode.{UnknownMode}
use Rattle.unique_index_set_enums.specs.Kinds.{index, owner, generation}
use Rattle.unique_index_set_enums.specs.Numbers.{mode_number, mode_read}
use Rattle.unique_index_set_enums.specs.Robust.{no_owner, is_empty}
use Rattle.thread_records.specs.declared.Remembered.{Remembered}
use Rattle.thread_records.specs.Records.{no_counting, robust_call, bump_counting}
use Rattle.robust_moves.specs.declared.Access.{Access}
use Rattle.robust_moves.specs.declared.Access.TheVariants as access
use Rattle.robust_moves.specs.declared.Saw.{Saw}
use Rattle.robust_moves.specs.declared.bump.BumpPlace.{BumpPlace}
use Rattle.robust_moves.specs.declared.bump.BumpPlace.TheVariants as bump
use Rattle.robust_moves.specs.declared.lock.LockPlace.{LockPlace}
use Rattle.robust_moves.specs.declared.lock.LockPlace.TheVariants as lock
use Rattle.robust_moves.specs.Bump.{bump_sound, bump_access, bump_resumed, bump_read, bump_closed}
use Rattle.robust_moves.specs.Lock.{lock_sound, lock_access, lock_resumed, lock_read, lock_closed}
use Rattle.robust_release.specs.declared.ReleasePlace.{ReleasePlace}
use Rattle.robust_release.specs.declared.ReleasePlace.TheVariants.{Cell, Bump, Lock}
use Rattle.robust_release.specs.declared.RobustUniqueIndexSetReleaseError.{RobustUniqueIndexSetReleaseError}
use Rattle.robust_release.specs.declared.RobustUniqueIndexSetReleaseError.TheVariants.{IndexIsNotOwnedByProvidedOwner}

-- what each place may remember
abbrev pub release_sound : ℕ → ReleasePlace → Bool
release_sound capacity (Cell i o m) = cond (is_empty o) false (nat_lt i.0 capacity)
release_sound capacity (Bump m b) = bump_sound b
release_sound capacity (Lock l) = lock_sound capacity l

-- 451, the bump's and the lock's
abbrev pub release_access : ReleasePlace → Access
release_access (Cell i o m) = access.ExchangeCell i o no_owner
release_access (Bump m b) = bump_access b
release_access (Lock l) = lock_access l

-- 472 to 476: mode 0 answers without looking
abbrev pub after_bump : ReleaseMode → ControlFlow (Result ReleaseState RobustUniqueIndexSetReleaseError) ReleasePlace
after_bump Default = Break (Ok Unlocked)
after_bump LockIfLastIndex = Continue (Lock lock.Look)

-- 463: the bump's result is ignored
abbrev pub release_bumped : ReleaseMode → ControlFlow Generation BumpPlace → ControlFlow (Result ReleaseState RobustUniqueIndexSetReleaseError) ReleasePlace
release_bumped m (Continue b) = Continue (Bump m b)
release_bumped m (Break g) = after_bump m

abbrev pub release_locked : ControlFlow ReleaseState LockPlace → ControlFlow (Result ReleaseState RobustUniqueIndexSetReleaseError) ReleasePlace
release_locked (Continue l) = Continue (Lock l)
release_locked (Break s) = Break (Ok s)

abbrev pub release_resumed : ℕ → ReleasePlace → Saw → ControlFlow (Result ReleaseState RobustUniqueIndexSetReleaseError) ReleasePlace
release_resumed capacity (Cell i o m) saw = cond saw.won (Continue (Bump m bump.Look)) (Break (Err IndexIsNotOwnedByProvidedOwner))
release_resumed capacity (Bump m b) saw = release_bumped m (bump_resumed b saw)
release_resumed capacity (Lock l) saw = release_locked (lock_resumed capacity l saw)

-- of a record: part 0 the cell, 1 and 2 the bump's, 3 to 8 the lock's, which no longer reads the mode
abbrev pub release_cell_in : Result ReleaseMode UnknownMode → Remembered → Option ReleasePlace
release_cell_in (Ok m) c = Some (Cell c.index c.owner m)
release_cell_in (Err e) c = None

unfoldable pub release_read_cell : Remembered → Option ReleasePlace
release_read_cell c = release_cell_in (mode_read c.mode) c

abbrev pub release_bump_in : Result ReleaseMode UnknownMode → BumpPlace → Option ReleasePlace
release_bump_in (Ok m) b = Some (Bump m b)
release_bump_in (Err e) b = None

abbrev pub release_bump_as : Option BumpPlace → Remembered → Option ReleasePlace
release_bump_as None c = None
release_bump_as (Some b) c = release_bump_in (mode_read c.mode) b

unfoldable pub release_read_bump : ℕ → Remembered → Option ReleasePlace
release_read_bump part c = release_bump_as (bump_read part c.counting.bump) c

abbrev pub release_lock_as : Option LockPlace → Option ReleasePlace
release_lock_as (Some l) = Some (Lock l)
release_lock_as None = None

unfoldable pub release_read_lock : ℕ → Remembered → Option ReleasePlace
release_read_lock part c = release_lock_as (lock_read part c.counting)

unfoldable pub release_read : ℕ → Remembered → Option ReleasePlace
release_read part c = cond (nat_lt part 1) (release_read_cell c) (cond (nat_lt part 3) (release_read_bump (part - 1) c) (release_read_lock (part - 3) c))

-- its places are the numbers from 32 on
abbrev pub release_closed : ReleasePlace → Remembered
release_closed (Cell i o m) = robust_call 32 (mode_number m) i o (generation 0) 0 0 no_counting
release_closed (Bump m b) = robust_call (((bump_closed b).part + 33) % 2 ^ 8) (mode_number m) (index 0) (owner 0) (generation 0) 0 0 (bump_counting (bump_closed b).seen)
release_closed (Lock l) = robust_call (((lock_closed l).part + 35) % 2 ^ 8) 0 (index 0) (owner 0) (generation 0) 0 0 (lock_closed l).counting
