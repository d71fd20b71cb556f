-- acquire (robust_unique_index_set.rs 313 to 371), one shared access at a time.
use Rattle.std.specs.Prelude.{ℕ, ◌+◌, ◌-◌, ◌%◌, ◌^◌, Bool, false, cond, not, ◌==◌, nat_le, nat_lt, Option, Some, None, Result, Ok, Err}
use Rattle.std.specs.declared.ops.ControlFlow.{ControlFlow}
use Rattle.std.specs.declared.ops.ControlFlow.TheVariants.{Continue, Break}
use Rattle.unique_index_set_enums.specs.declared.Index.{Index}
use Rattle.unique_index_set_enums.specs.declared.OwnerId.{OwnerId}
use Rattle.unique_index_set_enums.specs.declared.Generation.{Generation}
use Rattle.unique_index_set_enums.specs.declared.UniqueIndexSetAcquireFailure.{UniqueIndexSetAcquireFailure}
use Rattle.unique_index_set_enums.specs.declared.UniqueIndexSetAcquireFailure.TheVariants.{OutOfIndices, IsLocked}
use Rattle.unique_index_set_enums.specs.Kinds.{index, owner, generation}
use Rattle.unique_index_set_enums.specs.Robust.{no_owner, is_empty, is_locked_at}
use Rattle.thread_records.specs.declared.Remembered.{Remembered}
use Rattle.thread_records.specs.Records.{no_counting, robust_call, bump_counting}
use Rattle.robust_moves.specs.declared.Access.{Access}
use Rattle.robust_moves.specs.declared.Access.TheVariants as access
use Rattle.robust_moves.specs.declared.Saw.{Saw}
use Rattle.robust_moves.specs.declared.bump.BumpPlace.{BumpPlace}
use Rattle.robust_moves.specs.declared.bump.BumpPlace.TheVariants as bump
use Rattle.robust_moves.specs.Bump.{bump_sound, bump_access, bump_resumed, bump_read, bump_closed}
use Rattle.robust_moves.specs.Count.{cell_after}
use Rattle.robust_acquire.specs.declared.AcquirePlace.{AcquirePlace}
use Rattle.robust_acquire.specs.declared.AcquirePlace.TheVariants.{Look, Cell, Close, Bump}

-- what each place may remember
abbrev pub acquire_sound : ℕ → AcquirePlace → Bool
acquire_sound capacity (Look o) = not (is_empty o)
acquire_sound capacity (Cell o seen cell) = cond (is_empty o) false (cond (is_locked_at seen) false (nat_lt cell.0 capacity))
acquire_sound capacity (Close o seen) = cond (is_empty o) false (not (is_locked_at seen))
acquire_sound capacity (Bump won b) = cond (nat_le capacity won.0) false (bump_sound b)

-- 323, 334, 358 (the remembered generation for itself), and the bump's
abbrev pub acquire_access : AcquirePlace → Access
acquire_access (Look o) = access.Look
acquire_access (Cell o seen cell) = access.ExchangeCell cell no_owner o
acquire_access (Close o seen) = access.Exchange seen seen
acquire_access (Bump won b) = bump_access b

-- 326 to 331
unfoldable pub acquire_looked : OwnerId → Generation → ControlFlow (Result Index UniqueIndexSetAcquireFailure) AcquirePlace
acquire_looked o found = cond (is_locked_at found) (Break (Err IsLocked)) (Continue (Cell o found (index 0)))

-- 354: the next cell, or the closing exchange
abbrev pub acquire_on_at : Option Index → OwnerId → Generation → ControlFlow (Result Index UniqueIndexSetAcquireFailure) AcquirePlace
acquire_on_at (Some next) o seen = Continue (Cell o seen next)
acquire_on_at None o seen = Continue (Close o seen)

unfoldable pub acquire_on : ℕ → OwnerId → Generation → Index → ControlFlow (Result Index UniqueIndexSetAcquireFailure) AcquirePlace
acquire_on capacity o seen cell = acquire_on_at (cell_after capacity cell) o seen

-- 346 to 352: a bump that ends locked answers so, with the cell still populated
abbrev pub acquire_bumped : Index → ControlFlow Generation BumpPlace → ControlFlow (Result Index UniqueIndexSetAcquireFailure) AcquirePlace
acquire_bumped won (Continue b) = Continue (Bump won b)
acquire_bumped won (Break g) = cond (is_locked_at g) (Break (Err IsLocked)) (Break (Ok won))

-- 364 to 368: a closing exchange that fails is a look, and a new scan
abbrev pub acquire_resumed : ℕ → AcquirePlace → Saw → ControlFlow (Result Index UniqueIndexSetAcquireFailure) AcquirePlace
acquire_resumed capacity (Look o) saw = acquire_looked o saw.generation
acquire_resumed capacity (Cell o seen cell) saw = cond saw.won (Continue (Bump cell bump.Look)) (acquire_on capacity o seen cell)
acquire_resumed capacity (Close o seen) saw = cond saw.won (Break (Err OutOfIndices)) (acquire_looked o saw.generation)
acquire_resumed capacity (Bump won b) saw = acquire_bumped won (bump_resumed b saw)

-- of a record: parts 0 to 2 the look, a cell and the closing exchange, 3 and 4 the bump's
abbrev pub acquire_read_as : Option BumpPlace → Remembered → Option AcquirePlace
acquire_read_as (Some b) c = Some (Bump c.index b)
acquire_read_as None c = None

unfoldable pub acquire_read_bump : ℕ → Remembered → Option AcquirePlace
acquire_read_bump part c = acquire_read_as (bump_read part c.counting.bump) c

unfoldable pub acquire_read : ℕ → Remembered → Option AcquirePlace
acquire_read part c =
    cond (part == 0) (Some (Look c.owner))
    (cond (nat_lt part 2) (Some (Cell c.owner c.generation c.index))
    (cond (nat_lt part 3) (Some (Close c.owner c.generation)) (acquire_read_bump (part - 3) c)))

-- its places are the numbers from 16 on
abbrev pub acquire_closed : AcquirePlace → Remembered
acquire_closed (Look o) = robust_call 16 0 (index 0) o (generation 0) 0 0 no_counting
acquire_closed (Cell o seen cell) = robust_call 17 0 cell o seen 0 0 no_counting
acquire_closed (Close o seen) = robust_call 18 0 (index 0) o seen 0 0 no_counting
acquire_closed (Bump won b) = robust_call (((bump_closed b).part + 19) % 2 ^ 8) 0 won (owner 0) (generation 0) 0 0 (bump_counting (bump_closed b).seen)
