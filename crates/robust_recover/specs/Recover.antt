-- recover (robust_unique_index_set.rs 485 to 539), one shared access at a time; the owner list stands in for the predicate.
use Rattle.std.specs.Prelude.{ℕ, ◌+◌, ◌-◌, ◌%◌, ◌^◌, Bool, true, false, cond, ◌==◌, nat_le, nat_lt, Option, Some, None, is_some, Result, Ok, Err}
use Rattle.std.specs.declared.ops.ControlFlow.{ControlFlow}
use Rattle.std.specs.declared.ops.ControlFlow.TheVariants.{Continue, Break}
use Rattle.unique_index_set_enums.specs.declared.Index.{Index}
use Rattle.unique_index_set_enums.specs.declared.OwnerId.{OwnerId}
use Rattle.unique_index_set_enums.specs.declared.Generation.{Generation}
use Rattle.unique_index_set_enums.specs.declared.ReleaseMode.{ReleaseMode}
use Rattle.unique_index_set_enums.specs.declared.ReleaseMode.TheVariants.{Default, LockIfLastIndex}
use Rattle.unique_index_set_enums.specs.declared.ReleaseState.{ReleaseState}
use Rattle.unique_index_set_enums.specs.declared.ReleaseState.TheVariants as state
use Rattle.unique_index_set_enums.specs.declared.UnknownMode.{UnknownMode}
use Rattle.unique_index_set_enums.specs.Kinds.{index, owner, generation}
use Rattle.unique_index_set_enums.specs.Numbers.{mode_number, mode_read}
use Rattle.unique_index_set_enums.specs.Robust.{no_owner, is_empty, is_locked_at}
use Rattle.calls.specs.declared.Note.{Note}
use Rattle.calls.specs.declared.Note.TheVariants.{Freed}
use Rattle.thread_records.specs.declared.OwnerList.{OwnerList}
use Rattle.thread_records.specs.declared.Remembered.{Remembered}
use Rattle.thread_records.specs.Lists.{listed}
use Rattle.thread_records.specs.Records.{no_counting, robust_call, bump_counting}
use Rattle.robust_moves.specs.declared.Access.{Access}
use Rattle.robust_moves.specs.declared.Access.TheVariants as access
use Rattle.robust_moves.specs.declared.Saw.{Saw}
use Rattle.robust_moves.specs.declared.bump.BumpPlace.{BumpPlace}
use Rattle.robust_moves.specs.declared.bump.BumpPlace.TheVariants as bump
use Rattle.robust_moves.specs.declared.lock.LockPlace.{LockPlace}
use Rattle.robust_moves.specs.declared.lock.LockPlace.TheVariants as lock
use Rattle.robust_moves.specs.Bump.{bump_sound, bump_access, bump_resumed, bump_read, bump_closed}
use Rattle.robust_moves.specs.Count.{cell_after}
use Rattle.robust_moves.specs.Lock.{lock_sound, lock_access, lock_resumed, lock_read, lock_closed}
use Rattle.robust_recover.specs.declared.Rest.{Rest}
use Rattle.robust_recover.specs.declared.Rest.TheVariants as rest
use Rattle.robust_recover.specs.declared.RecoverPlace.{RecoverPlace}
use Rattle.robust_recover.specs.declared.RecoverPlace.TheVariants.{Look, Load, Exchange, Bump, Lock, LastLook}

-- a cell follows, below the capacity
unfoldable pub has_next : ℕ → Index → Bool
has_next capacity cell = is_some (cell_after capacity cell)

-- what each place may remember. Behind the cell at which the lock was called, the mode is left only where a further cell follows
abbrev pub rest_sound : ℕ → Rest → Bool
rest_sound capacity (rest.Cells cell m) = has_next capacity cell
rest_sound capacity (rest.LastLook cell) = cond (has_next capacity cell) false (nat_lt cell.0 capacity)

abbrev pub recover_sound : ℕ → RecoverPlace → Bool
recover_sound capacity (Look m) = true
recover_sound capacity (Load cell m) = nat_lt cell.0 capacity
recover_sound capacity (Exchange cell m o) = cond (is_empty o) false (nat_lt cell.0 capacity)
recover_sound capacity (Bump cell m b) = cond (nat_le capacity cell.0) false (bump_sound b)
recover_sound capacity (Lock r l) = cond (rest_sound capacity r) (lock_sound capacity l) false
recover_sound capacity LastLook = true

-- the list can still be read
abbrev pub rest_reads : Rest → Bool
rest_reads (rest.Cells cell m) = true
rest_reads (rest.LastLook cell) = false

abbrev pub reads_list : ℕ → RecoverPlace → Bool
reads_list capacity (Look m) = true
reads_list capacity (Load cell m) = true
reads_list capacity (Exchange cell m o) = has_next capacity cell
reads_list capacity (Bump cell m b) = has_next capacity cell
reads_list capacity (Lock r l) = rest_reads r
reads_list capacity LastLook = false

-- 493, 501, 509, the bump's and the lock's, 535
abbrev pub recover_access : RecoverPlace → Access
recover_access (Look m) = access.Look
recover_access (Load cell m) = access.Load cell
recover_access (Exchange cell m o) = access.ExchangeCell cell o no_owner
recover_access (Bump cell m b) = bump_access b
recover_access (Lock r l) = lock_access l
recover_access LastLook = access.Look

unfoldable pub rest_of : ℕ → Index → ReleaseMode → Rest
rest_of capacity cell m = cond (has_next capacity cell) (rest.Cells cell m) (rest.LastLook cell)

-- 493 to 499
unfoldable pub recover_looked : ReleaseMode → Generation → ControlFlow ReleaseState RecoverPlace
recover_looked m found = cond (is_locked_at found) (Break state.Locked) (Continue (Load (index 0) m))

-- on to the next cell, or to the last look
abbrev pub recover_next_at : Option Index → ReleaseMode → ControlFlow ReleaseState RecoverPlace
recover_next_at (Some next) m = Continue (Load next m)
recover_next_at None m = Continue LastLook

unfoldable pub recover_next : ℕ → Index → ReleaseMode → ControlFlow ReleaseState RecoverPlace
recover_next capacity cell m = recover_next_at (cell_after capacity cell) m

abbrev pub recover_rest : ℕ → Rest → ControlFlow ReleaseState RecoverPlace
recover_rest capacity (rest.Cells cell m) = recover_next capacity cell m
recover_rest capacity (rest.LastLook cell) = Continue LastLook

-- 503 to 508: an empty cell, or an owner that is not listed, is passed
unfoldable pub recover_loaded : ℕ → Index → ReleaseMode → OwnerList → OwnerId → ControlFlow ReleaseState RecoverPlace
recover_loaded capacity cell m list o =
    cond (is_empty o) (recover_next capacity cell m)
    (cond (listed list o) (Continue (Exchange cell m o)) (recover_next capacity cell m))

-- 529 to 531
abbrev pub after_freed : ℕ → Index → ReleaseMode → ControlFlow ReleaseState RecoverPlace
after_freed capacity cell Default = recover_next capacity cell Default
after_freed capacity cell LockIfLastIndex = Continue (Lock (rest_of capacity cell LockIfLastIndex) lock.Look)

-- 523 to 527: a bump that ends locked ends the call
abbrev pub recover_bumped : ℕ → Index → ReleaseMode → ControlFlow Generation BumpPlace → ControlFlow ReleaseState RecoverPlace
recover_bumped capacity cell m (Continue b) = Continue (Bump cell m b)
recover_bumped capacity cell m (Break g) = cond (is_locked_at g) (Break state.Locked) (after_freed capacity cell m)

-- 530: the lock's outcome is ignored
abbrev pub recover_locked : ℕ → Rest → ControlFlow ReleaseState LockPlace → ControlFlow ReleaseState RecoverPlace
recover_locked capacity r (Continue l) = Continue (Lock r l)
recover_locked capacity r (Break s) = recover_rest capacity r

-- 535 to 538
unfoldable pub last_looked : Generation → ControlFlow ReleaseState RecoverPlace
last_looked found = cond (is_locked_at found) (Break state.Locked) (Break state.Unlocked)

-- an exchange that fails is not tried again
abbrev pub recover_resumed : ℕ → RecoverPlace → OwnerList → Saw → ControlFlow ReleaseState RecoverPlace
recover_resumed capacity (Look m) list saw = recover_looked m saw.generation
recover_resumed capacity (Load cell m) list saw = recover_loaded capacity cell m list saw.owner
recover_resumed capacity (Exchange cell m o) list saw = cond saw.won (Continue (Bump cell m bump.Look)) (recover_next capacity cell m)
recover_resumed capacity (Bump cell m b) list saw = recover_bumped capacity cell m (bump_resumed b saw)
recover_resumed capacity (Lock r l) list saw = recover_locked capacity r (lock_resumed capacity l saw)
recover_resumed capacity LastLook list saw = last_looked saw.generation

-- 517: a freed index is reported in its step
abbrev pub recover_noted : RecoverPlace → Saw → Option Note
recover_noted (Look m) saw = None
recover_noted (Load cell m) saw = None
recover_noted (Exchange cell m o) saw = cond saw.won (Some (Freed cell o)) None
recover_noted (Bump cell m b) saw = None
recover_noted (Lock r l) saw = None
recover_noted LastLook saw = None

-- of a record: parts 0 to 2 the look, a load and the exchange, 3 and 4 the bump's, 5 to 10 the lock's, 11 the last look
abbrev pub recover_in : Result ReleaseMode UnknownMode → ℕ → Remembered → Option RecoverPlace
recover_in (Err e) part c = None
recover_in (Ok m) part c =
    cond (part == 0) (Some (Look m))
    (cond (part == 1) (Some (Load c.index m)) (Some (Exchange c.index m c.owner)))

unfoldable pub recover_read_in : ℕ → Remembered → Option RecoverPlace
recover_read_in part c = recover_in (mode_read c.mode) part c

abbrev pub recover_bump_in : Result ReleaseMode UnknownMode → Index → BumpPlace → Option RecoverPlace
recover_bump_in (Ok m) cell b = Some (Bump cell m b)
recover_bump_in (Err e) cell b = None

abbrev pub recover_bump_as : Option BumpPlace → Remembered → Option RecoverPlace
recover_bump_as None c = None
recover_bump_as (Some b) c = recover_bump_in (mode_read c.mode) c.index b

unfoldable pub recover_read_bump : ℕ → Remembered → Option RecoverPlace
recover_read_bump part c = recover_bump_as (bump_read part c.counting.bump) c

-- the mode is read only where a cell follows
abbrev pub rest_in : Result ReleaseMode UnknownMode → Index → Option Rest
rest_in (Ok m) cell = Some (rest.Cells cell m)
rest_in (Err e) cell = None

unfoldable pub rest_read : ℕ → Remembered → Option Rest
rest_read capacity c = cond (has_next capacity c.index) (rest_in (mode_read c.mode) c.index) (Some (rest.LastLook c.index))

abbrev pub recover_lock_in : Option Rest → LockPlace → Option RecoverPlace
recover_lock_in (Some r) l = Some (Lock r l)
recover_lock_in None l = None

abbrev pub recover_lock_as : Option LockPlace → Option Rest → Option RecoverPlace
recover_lock_as None r = None
recover_lock_as (Some l) r = recover_lock_in r l

unfoldable pub recover_read_lock : ℕ → ℕ → Remembered → Option RecoverPlace
recover_read_lock capacity part c = recover_lock_as (lock_read part c.counting) (rest_read capacity c)

unfoldable pub recover_read : ℕ → ℕ → Remembered → Option RecoverPlace
recover_read capacity part c =
    cond (nat_lt part 3) (recover_read_in part c)
    (cond (nat_lt part 5) (recover_read_bump (part - 3) c)
    (cond (nat_lt part 11) (recover_read_lock capacity (part - 5) c)
    (cond (part == 11) (Some LastLook) None)))

abbrev pub rest_cell : Rest → Index
rest_cell (rest.Cells cell m) = cell
rest_cell (rest.LastLook cell) = cell

abbrev pub rest_mode : Rest → ℕ
rest_mode (rest.Cells cell m) = mode_number m
rest_mode (rest.LastLook cell) = 0

-- its places are the numbers from 96 on
abbrev pub recover_closed : RecoverPlace → Remembered
recover_closed (Look m) = robust_call 96 (mode_number m) (index 0) (owner 0) (generation 0) 0 0 no_counting
recover_closed (Load cell m) = robust_call 97 (mode_number m) cell (owner 0) (generation 0) 0 0 no_counting
recover_closed (Exchange cell m o) = robust_call 98 (mode_number m) cell o (generation 0) 0 0 no_counting
recover_closed (Bump cell m b) = robust_call (((bump_closed b).part + 99) % 2 ^ 8) (mode_number m) cell (owner 0) (generation 0) 0 0 (bump_counting (bump_closed b).seen)
recover_closed (Lock r l) = robust_call (((lock_closed l).part + 101) % 2 ^ 8) (rest_mode r) (rest_cell r) (owner 0) (generation 0) 0 0 (lock_closed l).counting
recover_closed LastLook = robust_call 107 0 (index 0) (owner 0) (generation 0) 0 0 no_counting
