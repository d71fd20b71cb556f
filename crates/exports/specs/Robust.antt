-- What each call of a robust set leaves: each thing that is lent, and the outcome.
use Rattle.std.specs.Prelude.{ℕ, List}
use Rattle.unique_index_set_enums.specs.declared.RecordNumber.{RecordNumber}
use Rattle.unique_index_set_enums.specs.Kinds.{generation}
use Rattle.calls.specs.declared.SetKind.TheVariants as kind
use Rattle.robust_unique_index_set.specs.Steps.{Shared, shared}
use Rattle.turns.specs.declared.Operation.TheVariants.{Step, Drain}
use Rattle.byte_docks.specs.Called.{Called, listed_in}
use Rattle.byte_docks.specs.Robust.{robust_called, robust_readied, RobustFits}
use Rattle.exports.specs.declared.outcomes.Outcome.{Outcome}
use Rattle.exports.specs.Outcomes.{RecordsLeft, records_left, with_outcome}
use Rattle.exports.specs.Brought.{start_asked, brought_in}

-- the set by its capacity and its generation, with the cells that are lent
abbrev pub robust_lent : ℕ → ℕ → List ℕ → Shared
robust_lent capacity g cells = shared (record { capacity = capacity; generation = generation g }) cells

pub record RobustReady : Type 0 where
  pub outcome : Outcome
  pub capacity : ℕ
  pub generation : ℕ
  pub records : List ℕ
  pub cells : List ℕ

-- the generation is not lent to a start
pub record RobustStarted : Type 0 where
  pub outcome : Outcome
  pub records : List ℕ
  pub cells : List ℕ

pub record RobustStepped : Type 0 where
  pub outcome : Outcome
  pub generation : ℕ
  pub records : List ℕ
  pub cells : List ℕ

abbrev pub robust_set : Outcome → Called Shared → RobustReady
robust_set o c = record {
  outcome = o;
  capacity = c.shared.set.capacity;
  generation = c.shared.set.generation.0;
  records = c.records;
  cells = c.shared.cells;
}

abbrev pub robust_begun : Outcome → Called Shared → RobustStarted
robust_begun o c = record {
  outcome = o;
  records = c.records;
  cells = c.shared.cells;
}

abbrev pub robust_moved : Outcome → Called Shared → RobustStepped
robust_moved o c = record {
  outcome = o;
  generation = c.shared.set.generation.0;
  records = c.records;
  cells = c.shared.cells;
}

-- the setup of a capacity
abbrev pub robust_ready : ℕ → Shared → List ℕ → RobustReady
robust_ready asked s bytes = with_outcome robust_set (robust_readied asked s bytes)

abbrev pub robust_start : RecordNumber → ℕ → ℕ → ℕ → ℕ → Shared → List ℕ → RobustStarted
robust_start who call at o mode s bytes = with_outcome robust_begun (robust_called who (start_asked call at o mode) s bytes)

abbrev pub robust_step : RecordNumber → Shared → List ℕ → RobustStepped
robust_step who s bytes = with_outcome robust_moved (robust_called who Step s bytes)

abbrev pub robust_drain : RecordNumber → ℕ → Shared → List ℕ → RobustStepped
robust_drain who budget s bytes = with_outcome robust_moved (robust_called who (Drain budget) s bytes)

abbrev pub robust_list : RecordNumber → List ℕ → List ℕ → RecordsLeft
robust_list who owners bytes = records_left (listed_in kind.Robust who (brought_in owners) bytes)

-- the record that a start, a step or a drain leaves fits its bytes
abbrev pub RobustStartFits : RecordNumber → ℕ → ℕ → ℕ → ℕ → Shared → List ℕ → Type 0
RobustStartFits who call at o mode s bytes = RobustFits who (start_asked call at o mode) s bytes

abbrev pub RobustStepFits : RecordNumber → Shared → List ℕ → Type 0
RobustStepFits who s bytes = RobustFits who Step s bytes

abbrev pub RobustDrainFits : RecordNumber → ℕ → Shared → List ℕ → Type 0
RobustDrainFits who budget s bytes = RobustFits who (Drain budget) s bytes
