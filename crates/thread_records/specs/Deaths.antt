-- A death marks the record; nothing else changes. Refused with 10 and 9.
use Rattle.std.specs.Prelude.{ℕ, false, ltb}
use Rattle.unique_index_set_enums.specs.declared.RecordNumber.{RecordNumber}
use Rattle.unique_index_set_enums.specs.Limits.{records_limit}
use Rattle.calls.specs.declared.Tests.{Tests}
use Rattle.calls.specs.Order.{tests_of_record, verdict_of}
use Rattle.thread_records.specs.declared.Record.{Record}
use Rattle.thread_records.specs.declared.RecordAfter.{RecordAfter}
use Rattle.thread_records.specs.Records.{marked_dead, not_alive}
use Rattle.thread_records.specs.Effects.{record_judged}

abbrev pub death_tests : Record → ℕ → RecordNumber → Tests
death_tests t records who = tests_of_record (ltb records_limit records) (not_alive t records who) false false

unfoldable pub death_of : Record → ℕ → RecordNumber → RecordAfter
death_of t records who = record_judged (verdict_of (death_tests t records who)) t (marked_dead t)
