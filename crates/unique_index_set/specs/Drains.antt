-- A drain of one record: refused as a step is, at any budget (13 does not arise, since no plain place is of find or recover); its
-- steps are steps, until the answer or the budget's end.
use Rattle.std.specs.Prelude.{ℕ, List}
use Rattle.unique_index_set_enums.specs.declared.RecordNumber.{RecordNumber}
use Rattle.calls.specs.Runs.{Run}
use Rattle.thread_records.specs.declared.Drained.{Drained}
use Rattle.thread_records.specs.declared.Record.{Record}
use Rattle.thread_records.specs.Effects.{Effect}
use Rattle.thread_records.specs.Drains.{drained}
use Rattle.unique_index_set.specs.declared.UniqueIndexSet.{UniqueIndexSet}
use Rattle.unique_index_set.specs.Steps.{Shared, leaves, step_judged, step_of}

-- the record's next step
abbrev pub again : ℕ → RecordNumber → Effect Shared → Effect Shared
again records who e = step_of records who e.shared e.thread

unfoldable pub drain_of : ℕ → RecordNumber → ℕ → Shared → Record → Run (Effect Shared)
drain_of records who budget s t = drained (step_judged records who s t) (again records who) budget s t

-- a drain's result with the lent buffers as it leaves them
abbrev pub run_leaves : Drained UniqueIndexSet → List ℕ → List ℕ → Run (Effect Shared)
run_leaves r slots custody = record { left = leaves r.stepped slots custody; steps = r.steps }
