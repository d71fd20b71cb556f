-- A whole dock: a set with its lent buffers, and the lent table of records. What one operation for one record number does to it is the
-- named record's part, then what the same event does elsewhere; what a setup does to it.
use Rattle.std.specs.Prelude.{ℕ, List, map, length, get_or, set}
use Rattle.unique_index_set_enums.specs.declared.RecordNumber.{RecordNumber}
use Rattle.calls.specs.declared.Report.{Report}
use Rattle.calls.specs.Runs.{Run}
use Rattle.thread_records.specs.declared.Record.{Record}
use Rattle.thread_records.specs.Records.{empty_list, idle_record}
use Rattle.thread_records.specs.Effects.{Effect}
use Rattle.unique_index_set.specs.Steps as plain
use Rattle.unique_index_set.specs.Setups as plainsetup
use Rattle.robust_unique_index_set.specs.Steps as robust
use Rattle.robust_unique_index_set.specs.Setups as robustsetup
use Rattle.turns.specs.declared.Operation.{Operation}
use Rattle.turns.specs.Plain.{plain_turn_of}
use Rattle.turns.specs.Robust.{robust_turn_of}

-- what the records share (S: the set and its lent buffers), and the records
pub record Table (S : Type 0) : Type 0 where
  pub shared : S
  pub records : List Record

-- a dock as it is left (`take_turn` gives what is left of a record)
pub record Turned (D : Type 0) : Type 0 where
  pub left : D
  pub report : Report
  pub steps : ℕ

-- what an event does to each other record: nothing, in this edition
abbrev pub elsewhere : {S : Type 0} → Effect S → Record → Record
elsewhere e t = t

-- the named record's part, and elsewhere for the others; a number that no record has changes none
unfoldable pub settled : {S : Type 0} → RecordNumber → Effect S → List Record → List Record
settled who e records = set (map (elsewhere e) records) who.0 e.thread

-- the record of that number; where there is none, the idle one stands in, and the turn is refused
abbrev pub named : RecordNumber → List Record → Record
named who records = get_or records who.0 (idle_record empty_list)

abbrev pub turned_table : {S : Type 0} → RecordNumber → List Record → Run (Effect S) → Turned (Table S)
turned_table who records u = record {
  left = record { shared = u.left.shared; records = settled who u.left records };
  report = u.left.report;
  steps = u.steps;
}

-- a turn, where `own` says what it does to the named record and to what is shared
abbrev pub turn_in : {S : Type 0} → (ℕ → S → Record → Run (Effect S)) → RecordNumber → Table S → Turned (Table S)
turn_in own who d = turned_table who d.records (own (length d.records) d.shared (named who d.records))

-- a setup, where `own` says what it does to one record: it is done to each
abbrev pub setup_in : {S : Type 0} → (ℕ → S → Record → Effect S) → Table S → Turned (Table S)
setup_in own d = record {
  left = record {
    shared = (own (length d.records) d.shared (idle_record empty_list)).shared;
    records = map (λ t. (own (length d.records) d.shared t).thread) d.records;
  };
  report = (own (length d.records) d.shared (idle_record empty_list)).report;
  steps = 0;
}

-- the dock of either set
pub data Dock : Type 0 where
  plain_dock : Table plain.Shared → Dock
  robust_dock : Table robust.Shared → Dock

abbrev pub docked : {S : Type 0} → (Table S → Dock) → Turned (Table S) → Turned Dock
docked into r = record { left = into r.left; report = r.report; steps = r.steps }

-- what one operation for one record number does to a dock
abbrev pub turn : RecordNumber → Operation → Dock → Turned Dock
turn who operation (plain_dock d) = docked plain_dock (turn_in (λ records s t. plain_turn_of records who operation s t) who d)
turn who operation (robust_dock d) = docked robust_dock (turn_in (λ records s t. robust_turn_of records who operation s t) who d)

abbrev pub set_up : ℕ → Dock → Turned Dock
set_up capacity (plain_dock d) = docked plain_dock (setup_in (λ records s t. plainsetup.setup_of records capacity s t) d)
set_up capacity (robust_dock d) = docked robust_dock (setup_in (λ records s t. robustsetup.setup_of records capacity s t) d)
