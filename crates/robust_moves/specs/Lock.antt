-- lock (robust_unique_index_set.rs 241 to 270), one shared access at a time.
use Rattle.std.specs.Prelude.{ℕ, ◌-◌, Bool, true, cond, ◌==◌, nat_lt, Option, Some, None}
use Rattle.std.specs.declared.ops.ControlFlow.{ControlFlow}
use Rattle.std.specs.declared.ops.ControlFlow.TheVariants.{Continue, Break}
use Rattle.unique_index_set_enums.specs.declared.Generation.{Generation}
use Rattle.unique_index_set_enums.specs.declared.ReleaseState.{ReleaseState}
use Rattle.unique_index_set_enums.specs.declared.ReleaseState.TheVariants as state
use Rattle.unique_index_set_enums.specs.Kinds.{index, generation}
use Rattle.unique_index_set_enums.specs.Robust.{locked_generation, is_locked_at}
use Rattle.thread_records.specs.declared.Counting.{Counting}
use Rattle.robust_moves.specs.declared.Access.{Access}
use Rattle.robust_moves.specs.declared.Access.TheVariants as access
use Rattle.robust_moves.specs.declared.Saw.{Saw}
use Rattle.robust_moves.specs.declared.count.CountPlace.{CountPlace}
use Rattle.robust_moves.specs.declared.count.CountPlace.TheVariants as count
use Rattle.robust_moves.specs.declared.count.SetState.{SetState}
use Rattle.robust_moves.specs.declared.count.CountClosed.{CountClosed}
use Rattle.robust_moves.specs.declared.lock.LockPlace.{LockPlace}
use Rattle.robust_moves.specs.declared.lock.LockPlace.TheVariants.{Look, Exchange, Count}
use Rattle.robust_moves.specs.Count.{count_sound, count_access, count_resumed, count_read, behind, count_closed}

-- the exchange may remember any generation, the lock mark too
abbrev pub lock_sound : ℕ → LockPlace → Bool
lock_sound capacity Look = true
lock_sound capacity (Exchange given) = true
lock_sound capacity (Count c) = count_sound capacity c

-- 242, 257, and the count's
abbrev pub lock_access : LockPlace → Access
lock_access Look = access.Look
lock_access (Exchange given) = access.Exchange given locked_generation
lock_access (Count c) = count_access c

-- 242 to 247
unfoldable pub lock_looked : Generation → ControlFlow ReleaseState LockPlace
lock_looked found = cond (is_locked_at found) (Break state.Locked) (Continue (Count count.Look))

-- 256 and 267: a count of 0 goes on to the exchange of the generation that it gave, any other leaves the set unlocked
abbrev pub lock_counted : ControlFlow SetState CountPlace → ControlFlow ReleaseState LockPlace
lock_counted (Continue c) = Continue (Count c)
lock_counted (Break s) = cond (s.borrowed_indices == 0) (Continue (Exchange s.generation_counter)) (Break state.Unlocked)

-- 263, 264: a failed exchange counts again
abbrev pub lock_resumed : ℕ → LockPlace → Saw → ControlFlow ReleaseState LockPlace
lock_resumed capacity Look saw = lock_looked saw.generation
lock_resumed capacity (Exchange given) saw = cond saw.won (Break state.Locked) (Continue (Count count.Look))
lock_resumed capacity (Count c) saw = lock_counted (count_resumed capacity c saw)

-- of a record: part 0 the look, 1 the exchange, 2 to 5 the count's
abbrev pub lock_read_as : Option CountPlace → Option LockPlace
lock_read_as (Some c) = Some (Count c)
lock_read_as None = None

unfoldable pub lock_read_count : ℕ → Counting → Option LockPlace
lock_read_count part c = lock_read_as (count_read part c)

unfoldable pub lock_read : ℕ → Counting → Option LockPlace
lock_read part c = cond (part == 0) (Some Look) (cond (nat_lt part 2) (Some (Exchange c.generation)) (lock_read_count (part - 2) c))

abbrev pub lock_closed : LockPlace → CountClosed
lock_closed Look = count_closed count.Look
lock_closed (Exchange given) = record { part = 1; counting = record { generation = given; cell = index 0; counted = 0; bump = generation 0 } }
lock_closed (Count c) = record { part = behind (count_closed c).part; counting = (count_closed c).counting }
