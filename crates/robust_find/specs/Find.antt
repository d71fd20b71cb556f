-- find (robust_unique_index_set.rs 408 to 429), one shared access at a time; the room stands in for the callback's stop.
use Rattle.std.specs.Prelude.{ℕ, ◌+◌, ◌%◌, ◌^◌, Bool, false, cond, ◌==◌, nat_le, nat_lt, Option, Some, None}
use Rattle.std.specs.declared.ops.ControlFlow.{ControlFlow}
use Rattle.std.specs.declared.ops.ControlFlow.TheVariants.{Continue, Break}
use Rattle.unique_index_set_enums.specs.declared.Index.{Index}
use Rattle.unique_index_set_enums.specs.Kinds.{generation}
use Rattle.unique_index_set_enums.specs.Robust.{is_empty}
use Rattle.calls.specs.declared.Note.{Note}
use Rattle.calls.specs.declared.Note.TheVariants.{Found}
use Rattle.thread_records.specs.declared.Remembered.{Remembered}
use Rattle.thread_records.specs.Records.{no_counting, robust_call}
use Rattle.robust_moves.specs.declared.Access.{Access}
use Rattle.robust_moves.specs.declared.Access.TheVariants as access
use Rattle.robust_moves.specs.declared.Saw.{Saw}
use Rattle.robust_moves.specs.Count.{cell_after}
use Rattle.robust_find.specs.declared.FindPlace.{FindPlace}

-- the owner, the cell, no more reported than cells passed, and room for one more
unfoldable pub find_sound : ℕ → FindPlace → Bool
find_sound capacity p =
    cond (is_empty p.owner) false
    (cond (nat_le capacity p.cell.0) false
    (cond (nat_lt p.cell.0 p.reported) false (nat_lt p.reported p.room)))

-- 419
abbrev pub find_access : FindPlace → Access
find_access p = access.Load p.cell

-- 417, 428: the next cell, or the number reported
abbrev pub find_on_at : Option Index → FindPlace → ℕ → ControlFlow ℕ FindPlace
find_on_at (Some next) p reported = Continue (record { owner = p.owner; cell = next; reported = reported; room = p.room })
find_on_at None p reported = Break reported

unfoldable pub find_on : ℕ → FindPlace → ℕ → ControlFlow ℕ FindPlace
find_on capacity p reported = find_on_at (cell_after capacity p.cell) p reported

-- 420 to 424: one more reported, and the end where the room is full
abbrev pub one_reported : FindPlace → ℕ
one_reported p = (p.reported + 1) % 2 ^ 32

unfoldable pub find_matched : ℕ → FindPlace → ControlFlow ℕ FindPlace
find_matched capacity p = cond (nat_le p.room (one_reported p)) (Break (one_reported p)) (find_on capacity p (one_reported p))

unfoldable pub find_resumed : ℕ → FindPlace → Saw → ControlFlow ℕ FindPlace
find_resumed capacity p saw = cond (p.owner.0 == saw.owner.0) (find_matched capacity p) (find_on capacity p p.reported)

-- a cell that matches is reported in its step
unfoldable pub find_noted : FindPlace → Saw → Option Note
find_noted p saw = cond (p.owner.0 == saw.owner.0) (Some (Found p.cell)) None

abbrev pub find_read : Remembered → FindPlace
find_read c = record { owner = c.owner; cell = c.index; reported = c.reported; room = c.room }

-- its one place is the number 80
abbrev pub find_closed : FindPlace → Remembered
find_closed p = robust_call 80 0 p.cell p.owner (generation 0) p.reported p.room no_counting
