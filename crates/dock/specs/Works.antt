-- Work for a dock, whatever its set: what it leaves of what the records share, and how it settles the records, said for the one that is read; and
-- what it does to the whole table.
use Rattle.std.specs.Prelude.{ℕ, List, length, set, replicate}
use Rattle.unique_index_set_enums.specs.declared.RecordNumber.{RecordNumber}
use Rattle.unique_index_set_enums.specs.Kinds.{record_number}
use Rattle.calls.specs.declared.Progress.{Progress}
use Rattle.calls.specs.declared.Progress.TheVariants.{Accepted, Answered, Refused}
use Rattle.calls.specs.declared.Report.{Report}
use Rattle.calls.specs.Runs.{Run}
use Rattle.thread_records.specs.declared.Record.{Record}
use Rattle.thread_records.specs.Effects.{Effect}
use Rattle.turns.specs.declared.Done.{Done}
use Rattle.turns.specs.Moves.{Moves, turn_of}
use Rattle.turns.specs.Docks.{Table, Turned, turn_in, setup_in}
use Rattle.dock.specs.declared.Work.{Work}
use Rattle.dock.specs.declared.Work.TheVariants.{Setup, Turn}
use Rattle.dock.specs.declared.Worked as by_value
use Rattle.dock.specs.declared.tables.Settled.{Settled}
use Rattle.dock.specs.declared.tables.Settled.TheVariants.{All, One}

-- where the record stands that is read; a setup, which settles them all, has the first
abbrev pub place_of : Work → ℕ
place_of (Setup capacity) = 0
place_of (Turn t) = t.who.0

-- the records as they are left: one of them, or all; a number that no record has changes none
abbrev pub settled_in : Settled → List Record → List Record
settled_in (All t) records = replicate (length records) t
settled_in (One who t) records = set records who.0 t

-- the one that was read, as it is left
abbrev pub settled_thread : Settled → Record
settled_thread (All t) = t
settled_thread (One who t) = t

-- all that work leaves, the records told by how they are settled
pub record Worked (S : Type 0) : Type 0 where
  pub settled : Settled
  pub shared : S
  pub report : Report
  pub steps : ℕ

-- a setup that is accepted settles every record as it leaves one
abbrev pub settled_by : Progress → Record → Settled
settled_by Accepted t = All t
settled_by (Answered a) t = One (record_number 0) t
settled_by (Refused why) t = One (record_number 0) t

abbrev pub setup_worked : {S : Type 0} → Effect S → Worked S
setup_worked e = record { settled = settled_by e.report.progress e.thread; shared = e.shared; report = e.report; steps = 0 }

-- a turn settles the record that it is of
abbrev pub turn_worked : {S : Type 0} → RecordNumber → Run (Effect S) → Worked S
turn_worked who u = record { settled = One who u.left.thread; shared = u.left.shared; report = u.left.report; steps = u.steps }

-- for the record that is read, of `records` that are lent
abbrev pub work_of : {S : Type 0} → Moves S → ℕ → Work → S → Record → Worked S
work_of m records (Setup capacity) s t = setup_worked (m.setup records capacity s t)
work_of m records (Turn w) s t = turn_worked w.who (turn_of m records w.who w.operation s t)

-- the result of work by value, beside what the records share as it leaves it
abbrev pub worked_as : {S : Type 0} → S → by_value.Worked → Worked S
worked_as s r = record { settled = r.settled; shared = s; report = r.report; steps = r.steps }

abbrev pub table : {S : Type 0} → S → List Record → Table S
table s records = record { shared = s; records = records }

abbrev pub worked_table : {S : Type 0} → Worked S → List Record → Turned (Table S)
worked_table w records = record { left = table w.shared (settled_in w.settled records); report = w.report; steps = w.steps }

-- for the whole table
abbrev pub works_in : {S : Type 0} → Moves S → Work → Table S → Turned (Table S)
works_in m (Setup capacity) d = setup_in (λ records s t. m.setup records capacity s t) d
works_in m (Turn w) d = turn_in (λ records s t. turn_of m records w.who w.operation s t) w.who d

-- what is told of it, beside the table as it leaves it
abbrev pub done_in : {S : Type 0} → Table S → Done → Turned (Table S)
done_in d r = record { left = d; report = r.report; steps = r.steps }
