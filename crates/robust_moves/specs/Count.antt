-- borrowed_indices_and_generation_counter (robust_unique_index_set.rs 573 to 612), one shared access at a time.
use Rattle.std.specs.Prelude.{ℕ, ◌+◌, ◌-◌, ◌%◌, ◌^◌, Bool, true, false, cond, ◌==◌, nat_le, nat_lt, Option, Some, None}
use Rattle.std.specs.declared.ops.ControlFlow.{ControlFlow}
use Rattle.std.specs.declared.ops.ControlFlow.TheVariants.{Continue, Break}
use Rattle.unique_index_set_enums.specs.declared.Index.{Index}
use Rattle.unique_index_set_enums.specs.declared.OwnerId.{OwnerId}
use Rattle.unique_index_set_enums.specs.declared.Generation.{Generation}
use Rattle.unique_index_set_enums.specs.Kinds.{index, generation}
use Rattle.unique_index_set_enums.specs.Robust.{is_empty, is_locked_at, next_generation}
use Rattle.thread_records.specs.declared.Counting.{Counting}
use Rattle.thread_records.specs.Records.{no_counting}
use Rattle.robust_moves.specs.declared.Access.{Access}
use Rattle.robust_moves.specs.declared.Access.TheVariants as access
use Rattle.robust_moves.specs.declared.Saw.{Saw}
use Rattle.robust_moves.specs.declared.bump.BumpPlace.{BumpPlace}
use Rattle.robust_moves.specs.declared.bump.BumpPlace.TheVariants as bump
use Rattle.robust_moves.specs.declared.count.CountPlace.{CountPlace}
use Rattle.robust_moves.specs.declared.count.CountPlace.TheVariants.{Look, Cell, Bump}
use Rattle.robust_moves.specs.declared.count.SetState.{SetState}
use Rattle.robust_moves.specs.declared.count.CountClosed.{CountClosed}
use Rattle.robust_moves.specs.Bump.{bump_sound, bump_access, bump_resumed, bump_read, bump_closed}

-- the cell behind another, below the capacity
unfoldable pub cell_after : ℕ → Index → Option Index
cell_after capacity cell = cond (nat_lt (cell.0 + 1) capacity) (Some (index (cell.0 + 1))) None

-- what each place may remember: a generation that is not locked, a cell below the capacity, no more counted than cells passed
abbrev pub count_sound : ℕ → CountPlace → Bool
count_sound capacity Look = true
count_sound capacity (Cell first cell counted) = cond (is_locked_at first) false (cond (nat_le capacity cell.0) false (nat_le counted cell.0))
count_sound capacity (Bump first counted b) = cond (is_locked_at first) false (cond (nat_lt capacity counted) false (bump_sound b))

-- 581, 593 and 603
abbrev pub count_access : CountPlace → Access
count_access Look = access.Look
count_access (Cell first cell counted) = access.Load cell
count_access (Bump first counted b) = bump_access b

-- 583 to 591: locked, it ends at 0 with that generation
unfoldable pub count_looked : Generation → ControlFlow SetState CountPlace
count_looked found = cond (is_locked_at found) (Break (record { generation_counter = found; borrowed_indices = 0 })) (Continue (Cell found (index 0) 0))

-- 593 to 595
unfoldable pub one_more : ℕ → OwnerId → ℕ
one_more counted o = cond (is_empty o) counted ((counted + 1) % 2 ^ 32)

abbrev pub count_on_at : Option Index → Generation → ℕ → ControlFlow SetState CountPlace
count_on_at (Some next) first counted = Continue (Cell first next counted)
count_on_at None first counted = Continue (Bump first counted bump.Look)

unfoldable pub count_on : ℕ → Generation → Index → ℕ → ControlFlow SetState CountPlace
count_on capacity first cell counted = count_on_at (cell_after capacity cell) first counted

-- 605 to 611: it stands if the bump ended at one more than first seen, else it begins again
abbrev pub count_bumped : Generation → ℕ → ControlFlow Generation BumpPlace → ControlFlow SetState CountPlace
count_bumped first counted (Continue b) = Continue (Bump first counted b)
count_bumped first counted (Break g) = cond (g.0 == (next_generation first).0) (Break (record { generation_counter = g; borrowed_indices = counted })) (Continue Look)

abbrev pub count_resumed : ℕ → CountPlace → Saw → ControlFlow SetState CountPlace
count_resumed capacity Look saw = count_looked saw.generation
count_resumed capacity (Cell first cell counted) saw = count_on capacity first cell (one_more counted saw.owner)
count_resumed capacity (Bump first counted b) saw = count_bumped first counted (bump_resumed b saw)

-- of a record: part 0 the look, 1 a cell, 2 and 3 the bump's
abbrev pub count_read_as : Option BumpPlace → Counting → Option CountPlace
count_read_as (Some b) c = Some (Bump c.generation c.counted b)
count_read_as None c = None

unfoldable pub count_read_bump : ℕ → Counting → Option CountPlace
count_read_bump part c = count_read_as (bump_read part c.bump) c

unfoldable pub count_read : ℕ → Counting → Option CountPlace
count_read part c =
    cond (part == 0) (Some Look)
    (cond (nat_lt part 2) (Some (Cell c.generation c.cell c.counted)) (count_read_bump (part - 2) c))

-- a sub-machine's parts stand behind its own two
abbrev pub behind : ℕ → ℕ
behind part = (part + 2) % 2 ^ 8

abbrev pub count_closed : CountPlace → CountClosed
count_closed Look = record { part = 0; counting = no_counting }
count_closed (Cell first cell counted) = record { part = 1; counting = record { generation = first; cell = cell; counted = counted; bump = generation 0 } }
count_closed (Bump first counted b) = record {
  part = behind (bump_closed b).part;
  counting = record { generation = first; cell = index 0; counted = counted; bump = (bump_closed b).seen };
}
