-- A drain of one record: refused as a step is, and with 13 for find and recover, at any budget; its steps are steps, until the answer
-- or the budget's end.
use Rattle.std.specs.Prelude.{ℕ, Bool, true, false, List, length, Option, Some, None, Result}
use Rattle.unique_index_set_enums.specs.declared.RecordNumber.{RecordNumber}
use Rattle.calls.specs.declared.Refusal.{Refusal}
use Rattle.calls.specs.Runs.{Run}
use Rattle.thread_records.specs.declared.Drained.{Drained}
use Rattle.thread_records.specs.declared.Record.{Record}
use Rattle.thread_records.specs.Effects.{Effect}
use Rattle.thread_records.specs.Drains.{drained}
use Rattle.robust_places.specs.declared.Place.{Place}
use Rattle.robust_places.specs.declared.Place.TheVariants.{Acquire, Release, Borrowed, LockedLook, Find, Recover}
use Rattle.robust_unique_index_set.specs.declared.RobustUniqueIndexSet.{RobustUniqueIndexSet}
use Rattle.robust_unique_index_set.specs.Steps.{Shared, leaves, turn_verdict, opened_in, step_of}

-- refusal 13 of a drain
abbrev pub reports_in_steps : Place → Bool
reports_in_steps (Acquire p) = false
reports_in_steps (Release p) = false
reports_in_steps (Borrowed p) = false
reports_in_steps LockedLook = false
reports_in_steps (Find p) = true
reports_in_steps (Recover p) = true

abbrev pub not_drained : Option Place → Bool
not_drained (Some p) = reports_in_steps p
not_drained None = false

abbrev pub drain_judged : ℕ → RecordNumber → Shared → Record → Result (Unit {0}) Refusal
drain_judged records who s t = turn_verdict records who s.set.capacity (length s.cells) (opened_in s t) t (not_drained (opened_in s t))

-- the record's next step
abbrev pub again : ℕ → RecordNumber → Effect Shared → Effect Shared
again records who e = step_of records who e.shared e.thread

unfoldable pub drain_of : ℕ → RecordNumber → ℕ → Shared → Record → Run (Effect Shared)
drain_of records who budget s t = drained (drain_judged records who s t) (again records who) budget s t

-- a drain's result with the lent cells as it leaves them
abbrev pub run_leaves : Drained RobustUniqueIndexSet → List ℕ → Run (Effect Shared)
run_leaves r cells = record { left = leaves r.stepped cells; steps = r.steps }
