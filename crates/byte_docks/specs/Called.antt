-- What a call leaves where the records stand in a table of bytes, whatever its set. S: the set and its lent buffers.
use Rattle.std.specs.Prelude.{ℕ, ◌*◌, List}
use Rattle.unique_index_set_enums.specs.declared.RecordNumber.{RecordNumber}
use Rattle.calls.specs.declared.Progress.{Progress}
use Rattle.calls.specs.declared.Progress.TheVariants.{Accepted, Answered, Refused}
use Rattle.calls.specs.declared.Report.{Report}
use Rattle.calls.specs.declared.SetKind.{SetKind}
use Rattle.calls.specs.Runs.{Run}
use Rattle.thread_records.specs.declared.OwnerList.{OwnerList}
use Rattle.thread_records.specs.declared.Record.{Record}
use Rattle.thread_records.specs.declared.RecordAfter.{RecordAfter}
use Rattle.thread_records.specs.Effects.{Effect}
use Rattle.thread_records.specs.Deaths.{death_of}
use Rattle.thread_records.specs.Lists.{list_of}
use Rattle.thread_records.specs.Records.{empty_list, idle_record}
use Rattle.turns.specs.declared.Done.{Done}
use Rattle.turns.specs.declared.Operation.{Operation}
use Rattle.turns.specs.Moves.{Moves, turn_of}
use Rattle.record_bytes.specs.Layout.{Fits, record_at, records_in, record_written, all_written}

pub record Called (S : Type 0) : Type 0 where
  pub shared : S
  pub records : List ℕ
  pub report : Report
  pub steps : ℕ

-- the record of that number, out of the table
abbrev pub named : RecordNumber → List ℕ → Record
named who bytes = record_at bytes (132 * who.0)

-- what is refused writes no record; all else writes the one that it is of
abbrev pub records_after : Progress → RecordNumber → Record → List ℕ → List ℕ
records_after Accepted who t bytes = record_written bytes who.0 t
records_after (Answered a) who t bytes = record_written bytes who.0 t
records_after (Refused why) who t bytes = bytes

-- a turn of the record of that number
abbrev pub called_by : {S : Type 0} → RecordNumber → List ℕ → Run (Effect S) → Called S
called_by who bytes u = record {
  shared = u.left.shared;
  records = records_after u.left.report.progress who u.left.thread bytes;
  report = u.left.report;
  steps = u.steps;
}

-- an accepted setup writes every record
abbrev pub all_after : Progress → Record → List ℕ → List ℕ
all_after Accepted t bytes = all_written (records_in bytes) bytes t
all_after (Answered a) t bytes = bytes
all_after (Refused why) t bytes = bytes

abbrev pub ready_for : {S : Type 0} → List ℕ → Effect S → Called S
ready_for bytes e = record {
  shared = e.shared;
  records = all_after e.report.progress e.thread bytes;
  report = e.report;
  steps = 0;
}

-- what a call tells, with what is lent as it leaves it
abbrev pub came_as : {S : Type 0} → S → List ℕ → Done → Called S
came_as s bytes r = record { shared = s; records = bytes; report = r.report; steps = r.steps }

-- each call is the set's own turn or setup
abbrev pub called_in : {S : Type 0} → Moves S → RecordNumber → Operation → S → List ℕ → Called S
called_in m who operation s bytes = called_by who bytes (turn_of m (records_in bytes) who operation s (named who bytes))

-- the record that it leaves fits its bytes
abbrev pub TurnFits : {S : Type 0} → Moves S → RecordNumber → Operation → S → List ℕ → Type 0
TurnFits m who operation s bytes = Fits (turn_of m (records_in bytes) who operation s (named who bytes)).left.thread

abbrev pub readied_in : {S : Type 0} → Moves S → ℕ → S → List ℕ → Called S
readied_in m capacity s bytes = ready_for bytes (m.setup (records_in bytes) capacity s (idle_record empty_list))

-- what touches the record alone: the table, and the report
pub record RecordsAlone : Type 0 where
  pub records : List ℕ
  pub report : Report

abbrev pub alone_in : RecordNumber → List ℕ → RecordAfter → RecordsAlone
alone_in who bytes r = record { records = records_after r.report.progress who r.thread bytes; report = r.report }

abbrev pub died_in : RecordNumber → List ℕ → RecordsAlone
died_in who bytes = alone_in who bytes (death_of (named who bytes) (records_in bytes) who)

abbrev pub listed_in : SetKind → RecordNumber → OwnerList → List ℕ → RecordsAlone
listed_in kind who brought bytes = alone_in who bytes (list_of kind (named who bytes) (records_in bytes) who brought)
