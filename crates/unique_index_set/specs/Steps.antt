-- A step of one record of a plain set, whole: what it leaves of the set, the slots, the custody buffer and the record, and its report.
use Rattle.std.specs.Prelude.{ℕ, Bool, true, false, cond, List, length, ◌==◌, nat_le, nat_lt, Option, Some, None, Result, is_none}
use Rattle.std.specs.declared.ops.ControlFlow.{ControlFlow}
use Rattle.std.specs.declared.ops.ControlFlow.TheVariants.{Continue, Break}
use Rattle.unique_index_set_enums.specs.declared.RecordNumber.{RecordNumber}
use Rattle.unique_index_set_enums.specs.Limits.{plain_capacity_limit, records_limit}
use Rattle.calls.specs.declared.Answer.{Answer}
use Rattle.calls.specs.declared.Refusal.{Refusal}
use Rattle.calls.specs.declared.Refusal.TheVariants.{RecordDamaged}
use Rattle.calls.specs.declared.Report.{Report}
use Rattle.calls.specs.Order.{tests_at_turn, verdict_of}
use Rattle.calls.specs.Reports.{accepted_report, answered_report}
use Rattle.thread_records.specs.declared.OwnerList.{OwnerList}
use Rattle.thread_records.specs.declared.Record.{Record}
use Rattle.thread_records.specs.declared.Stepped.{Stepped}
use Rattle.thread_records.specs.Records.{live_record, idle_record, not_calling}
use Rattle.thread_records.specs.Effects.{Effect, unchanged, judged}
use Rattle.plain_places.specs.declared.Place.{Place}
use Rattle.plain_places.specs.Places.{opened_at, closed_at}
use Rattle.unique_index_set.specs.declared.UniqueIndexSet.{UniqueIndexSet}
use Rattle.plain_calls.specs.declared.resumes.Saw.{Saw}
use Rattle.plain_calls.specs.Resumes.{resumed_at}
use Rattle.plain_calls.specs.Marks.{mark_at}
use Rattle.unique_index_set.specs.Accesses.{access_at, saw_of, word_after, slots_after}
use Rattle.unique_index_set.specs.Custodies.{marked}

-- what the records of a plain set share
pub record Shared : Type 0 where
  pub set : UniqueIndexSet
  pub slots : List ℕ
  pub custody : List ℕ

abbrev pub shared : UniqueIndexSet → List ℕ → List ℕ → Shared
shared set slots custody = record { set = set; slots = slots; custody = custody }

-- a call's result with the lent buffers as it leaves them
abbrev pub leaves : Stepped UniqueIndexSet → List ℕ → List ℕ → Effect Shared
leaves r slots custody = record { shared = shared r.set slots custody; thread = r.thread; report = r.report }

-- an answer leaves the record idle; its list stays beside it
abbrev pub thread_after : ControlFlow Answer Place → OwnerList → Record
thread_after (Continue p) list = live_record (closed_at p) list
thread_after (Break a) list = idle_record list

abbrev pub report_after : ControlFlow Answer Place → Report
report_after (Continue p) = accepted_report
report_after (Break a) = answered_report a

abbrev pub saw_at : Place → Shared → Saw
saw_at p s = saw_of s.set.head (access_at s.set.capacity p) s.slots

abbrev pub next_at : Place → Shared → ControlFlow Answer Place
next_at p s = resumed_at s.set.capacity p (saw_at p s)

-- one shared access, its mark, and the local work after it
unfoldable pub shared_after : RecordNumber → Place → Shared → Shared
shared_after who p s = record {
  set = record { capacity = s.set.capacity; head = word_after s.set.head (access_at s.set.capacity p) };
  slots = slots_after (access_at s.set.capacity p) s.slots;
  custody = marked (mark_at who p (saw_at p s)) s.custody;
}

unfoldable pub advanced : RecordNumber → Place → OwnerList → Shared → Effect Shared
advanced who p list s = record {
  shared = shared_after who p s;
  thread = thread_after (next_at p s) list;
  report = report_after (next_at p s);
}

-- refusal 10 of a start, a step or a drain
unfoldable pub too_short : ℕ → ℕ → ℕ → ℕ → Bool
too_short records capacity slots custody = cond (nat_lt records_limit records) true (cond (nat_le slots capacity) true (nat_lt custody capacity))

-- refusal 11
abbrev pub is_damaged : Option Place → Bool
is_damaged opened = is_none opened

-- refusals 3, 4, 10, 9 and 11, where `slots` and `custody` are the buffers' lengths
unfoldable pub step_verdict : ℕ → RecordNumber → ℕ → ℕ → ℕ → Option Place → Record → Result (Unit {0}) Refusal
step_verdict records who capacity slots custody opened t =
    verdict_of (tests_at_turn (nat_lt plain_capacity_limit capacity) (capacity == 0) (too_short records capacity slots custody) (not_calling t records who) (is_damaged opened) false)

-- the record's call, opened at its place
abbrev pub opened_in : Shared → Record → Option Place
opened_in s t = opened_at s.set.capacity t.call

abbrev pub step_judged : ℕ → RecordNumber → Shared → Record → Result (Unit {0}) Refusal
step_judged records who s t = step_verdict records who s.set.capacity (length s.slots) (length s.custody) (opened_in s t) t

-- a record that is accepted opens, so the second case is of none
abbrev pub stepped_from : Option Place → RecordNumber → Shared → Record → Effect Shared
stepped_from (Some p) who s t = advanced who p t.list s
stepped_from None who s t = unchanged s t RecordDamaged

-- the step of the record whose number is `who`, of `records` that are lent
unfoldable pub step_of : ℕ → RecordNumber → Shared → Record → Effect Shared
step_of records who s t = judged (step_judged records who s t) s t (stepped_from (opened_in s t) who s t)
