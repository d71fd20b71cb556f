-- What each call of a plain set leaves: each thing that is lent, and the outcome.
use Rattle.std.specs.Prelude.{ℕ, List}
use Rattle.unique_index_set_enums.specs.declared.RecordNumber.{RecordNumber}
use Rattle.calls.specs.declared.SetKind.TheVariants as kind
use Rattle.unique_index_set.specs.Steps.{Shared, shared}
use Rattle.turns.specs.declared.Operation.TheVariants.{Step, Drain}
use Rattle.byte_docks.specs.Called.{Called, listed_in}
use Rattle.byte_docks.specs.Plain.{plain_called, plain_readied, PlainFits}
use Rattle.exports.specs.declared.outcomes.Outcome.{Outcome}
use Rattle.exports.specs.Outcomes.{RecordsLeft, records_left, with_outcome}
use Rattle.exports.specs.Brought.{start_asked, brought_in}

-- the set by its capacity and its head word, with the buffers that are lent
abbrev pub plain_lent : ℕ → ℕ → List ℕ → List ℕ → Shared
plain_lent capacity head slots custody = shared (record { capacity = capacity; head = head }) slots custody

pub record PlainReady : Type 0 where
  pub outcome : Outcome
  pub capacity : ℕ
  pub head : ℕ
  pub records : List ℕ
  pub slots : List ℕ
  pub custody : List ℕ

-- the head word is not lent to a start
pub record PlainStarted : Type 0 where
  pub outcome : Outcome
  pub records : List ℕ
  pub slots : List ℕ
  pub custody : List ℕ

pub record PlainStepped : Type 0 where
  pub outcome : Outcome
  pub head : ℕ
  pub records : List ℕ
  pub slots : List ℕ
  pub custody : List ℕ

abbrev pub plain_set : Outcome → Called Shared → PlainReady
plain_set o c = record {
  outcome = o;
  capacity = c.shared.set.capacity;
  head = c.shared.set.head;
  records = c.records;
  slots = c.shared.slots;
  custody = c.shared.custody;
}

abbrev pub plain_begun : Outcome → Called Shared → PlainStarted
plain_begun o c = record {
  outcome = o;
  records = c.records;
  slots = c.shared.slots;
  custody = c.shared.custody;
}

abbrev pub plain_moved : Outcome → Called Shared → PlainStepped
plain_moved o c = record {
  outcome = o;
  head = c.shared.set.head;
  records = c.records;
  slots = c.shared.slots;
  custody = c.shared.custody;
}

-- the setup of a capacity
abbrev pub plain_ready : ℕ → Shared → List ℕ → PlainReady
plain_ready asked s bytes = with_outcome plain_set (plain_readied asked s bytes)

abbrev pub plain_start : RecordNumber → ℕ → ℕ → ℕ → ℕ → Shared → List ℕ → PlainStarted
plain_start who call at o mode s bytes = with_outcome plain_begun (plain_called who (start_asked call at o mode) s bytes)

abbrev pub plain_step : RecordNumber → Shared → List ℕ → PlainStepped
plain_step who s bytes = with_outcome plain_moved (plain_called who Step s bytes)

abbrev pub plain_drain : RecordNumber → ℕ → Shared → List ℕ → PlainStepped
plain_drain who budget s bytes = with_outcome plain_moved (plain_called who (Drain budget) s bytes)

abbrev pub plain_list : RecordNumber → List ℕ → List ℕ → RecordsLeft
plain_list who owners bytes = records_left (listed_in kind.Plain who (brought_in owners) bytes)

-- the record that a start, a step or a drain leaves fits its bytes
abbrev pub PlainStartFits : RecordNumber → ℕ → ℕ → ℕ → ℕ → Shared → List ℕ → Type 0
PlainStartFits who call at o mode s bytes = PlainFits who (start_asked call at o mode) s bytes

abbrev pub PlainStepFits : RecordNumber → Shared → List ℕ → Type 0
PlainStepFits who s bytes = PlainFits who Step s bytes

abbrev pub PlainDrainFits : RecordNumber → ℕ → Shared → List ℕ → Type 0
PlainDrainFits who budget s bytes = PlainFits who (Drain budget) s bytes
