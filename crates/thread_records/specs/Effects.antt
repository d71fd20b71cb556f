-- All that is left of what was done with a record: what the records share (S: the set and its lent buffers), the record, the report.
use Rattle.std.specs.Prelude.{Result, Ok, Err}
use Rattle.calls.specs.declared.Refusal.{Refusal}
use Rattle.calls.specs.declared.Report.{Report}
use Rattle.calls.specs.Reports.{accepted_report, refused_report}
use Rattle.thread_records.specs.declared.Record.{Record}
use Rattle.thread_records.specs.declared.RecordAfter.{RecordAfter}
use Rattle.thread_records.specs.declared.Stepped.{Stepped}

pub record Effect (S : Type 0) : Type 0 where
  pub shared : S
  pub thread : Record
  pub report : Report

-- what is refused changes nothing
abbrev pub unchanged : {S : Type 0} → S → Record → Refusal → Effect S
unchanged s t why = record { shared = s; thread = t; report = refused_report why }

-- what is accepted has its effect
abbrev pub judged : {S : Type 0} → Result (Unit {0}) Refusal → S → Record → Effect S → Effect S
judged (Err why) s t e = unchanged s t why
judged (Ok u) s t e = e

-- the set's own words, the record and the report of what was refused
abbrev pub turned_away : {S : Type 0} → S → Record → Refusal → Stepped S
turned_away set t why = record { set = set; thread = t; report = refused_report why }

-- the same of a record alone, where nothing that the records share is at stake
abbrev pub record_judged : Result (Unit {0}) Refusal → Record → Record → RecordAfter
record_judged (Err why) t after = record { thread = t; report = refused_report why }
record_judged (Ok u) t after = record { thread = after; report = accepted_report }

abbrev pub beside : {S : Type 0} → S → RecordAfter → Effect S
beside s r = record { shared = s; thread = r.thread; report = r.report }
