-- What a set does with one record, as functions of what the records share; a turn, which is one operation for one record, whatever the set; and the
-- laws that every set keeps.
use Rattle.std.specs.Prelude.{ℕ, ◌≡◌, Result}
use Rattle.unique_index_set_enums.specs.declared.RecordNumber.{RecordNumber}
use Rattle.calls.specs.declared.Progress.TheVariants.{Refused}
use Rattle.calls.specs.declared.Refusal.{Refusal}
use Rattle.calls.specs.declared.Request.{Request}
use Rattle.calls.specs.declared.SetKind.{SetKind}
use Rattle.calls.specs.Reports.{accepted_report}
use Rattle.calls.specs.Runs.{Run}
use Rattle.thread_records.specs.declared.Record.{Record}
use Rattle.thread_records.specs.declared.RecordAfter.{RecordAfter}
use Rattle.thread_records.specs.Records.{empty_list, idle_record}
use Rattle.thread_records.specs.Effects.{Effect, judged, beside}
use Rattle.thread_records.specs.Deaths.{death_of}
use Rattle.thread_records.specs.Lists.{list_of}
use Rattle.turns.specs.declared.Operation.{Operation}
use Rattle.turns.specs.declared.Operation.TheVariants.{Start, Step, List, Death, Drain}
use Rattle.turns.specs.declared.Turned.{Turned}
use Rattle.turns.specs.Turns.{aside, stepping}

-- each of so many records that are lent; S: the set and its lent buffers
pub record Moves (S : Type 0) : Type 0 where
  pub kind : SetKind
  pub setup : ℕ → ℕ → S → Record → Effect S
  pub start : ℕ → RecordNumber → Request → S → Record → Effect S
  pub step : ℕ → RecordNumber → S → Record → Effect S
  pub drain : ℕ → RecordNumber → ℕ → S → Record → Run (Effect S)

-- a turn's result, beside what the records share as it leaves it
abbrev pub run_of : {S : Type 0} → S → Turned → Run (Effect S)
run_of s r = record { left = record { shared = s; thread = r.thread; report = r.report }; steps = r.steps }

abbrev pub turned_after : RecordAfter → ℕ → Turned
turned_after r steps = record { thread = r.thread; report = r.report; steps = steps }

-- the turn of the record whose number is `who`, of `records` that are lent: each operation is the set's own, or the record's
abbrev pub turn_of : {S : Type 0} → Moves S → ℕ → RecordNumber → Operation → S → Record → Run (Effect S)
turn_of m records who (Start request) s t = aside (m.start records who request s t)
turn_of m records who Step s t = stepping (m.step records who s t)
turn_of m records who (List owners) s t = aside (beside s (list_of m.kind t records who owners))
turn_of m records who Death s t = aside (beside s (death_of t records who))
turn_of m records who (Drain budget) s t = m.drain records who budget s t

-- what is refused changes nothing
abbrev pub Untouched : {S : Type 0} → S → Record → Effect S → Type 0
Untouched s t e = (why : Refusal) → e.report.progress ≡ Refused why → (e.shared ≡ s) × (e.thread ≡ t)

-- an accepted setup leaves the record idle, its list empty
abbrev pub set_fresh : {S : Type 0} → S → Effect S
set_fresh s = record { shared = s; thread = idle_record empty_list; report = accepted_report }

-- a setup is judged without the record
pub record SetsUp {S : Type 0} (s : S) (own : Record → Effect S) : Type 0 where
  pub verdict : Result (Unit {0}) Refusal
  pub fresh : S
  pub same : (t : Record) → own t ≡ judged verdict s t (set_fresh fresh)

pub record MovesLaws {S : Type 0} (m : Moves S) : Type 0 where
  pub setup_same : (records capacity : ℕ) (s : S) → SetsUp s (m.setup records capacity s)
  pub start_untouched : (records : ℕ) (who : RecordNumber) (request : Request) (s : S) (t : Record) → Untouched s t (m.start records who request s t)
  pub step_untouched : (records : ℕ) (who : RecordNumber) (s : S) (t : Record) → Untouched s t (m.step records who s t)
  pub drain_untouched : (records : ℕ) (who : RecordNumber) (budget : ℕ) (s : S) (t : Record) → Untouched s t (m.drain records who budget s t).left
