-- A step of one record of a robust set, whole: what it leaves of the set, the cells and the record, and its report.
use Rattle.std.specs.Prelude.{ℕ, Bool, true, false, cond, List, length, ltb, eqb, Option, Some, None, is_none, Result}
use Rattle.std.specs.declared.ops.ControlFlow.{ControlFlow}
use Rattle.std.specs.declared.ops.ControlFlow.TheVariants.{Continue, Break}
use Rattle.unique_index_set_enums.specs.declared.RecordNumber.{RecordNumber}
use Rattle.unique_index_set_enums.specs.Limits.{robust_capacity_limit, records_limit}
use Rattle.calls.specs.declared.Answer.{Answer}
use Rattle.calls.specs.declared.Note.{Note}
use Rattle.calls.specs.declared.Progress.{Progress}
use Rattle.calls.specs.declared.Progress.TheVariants as progress
use Rattle.calls.specs.declared.Refusal.{Refusal}
use Rattle.calls.specs.declared.Refusal.TheVariants.{RecordDamaged}
use Rattle.calls.specs.declared.Report.{Report}
use Rattle.calls.specs.Order.{tests_at_turn, verdict_of}
use Rattle.thread_records.specs.declared.OwnerList.{OwnerList}
use Rattle.thread_records.specs.declared.Record.{Record}
use Rattle.thread_records.specs.declared.Stepped.{Stepped}
use Rattle.thread_records.specs.Records.{live_record, idle_record, not_calling}
use Rattle.thread_records.specs.Effects.{Effect, unchanged, judged}
use Rattle.robust_moves.specs.declared.Saw.{Saw}
use Rattle.robust_places.specs.declared.Place.{Place}
use Rattle.robust_places.specs.Places.{opened_at, closed_at}
use Rattle.robust_calls.specs.Resumes.{access_at, resumed_at, noted_at, list_after}
use Rattle.robust_unique_index_set.specs.declared.RobustUniqueIndexSet.{RobustUniqueIndexSet}
use Rattle.robust_unique_index_set.specs.Accesses.{saw_of, generation_after, cells_after}

-- what the records of a robust set share
pub record Shared : Type 0 where
  pub set : RobustUniqueIndexSet
  pub cells : List ℕ

abbrev pub shared : RobustUniqueIndexSet → List ℕ → Shared
shared set cells = record { set = set; cells = cells }

-- a call's result with the lent cells as it leaves them
abbrev pub leaves : Stepped RobustUniqueIndexSet → List ℕ → Effect Shared
leaves r cells = record { shared = shared r.set cells; thread = r.thread; report = r.report }

-- an answer leaves the record idle; its list stays beside it unless a recover used it up
abbrev pub thread_after : ControlFlow Answer Place → OwnerList → Record
thread_after (Continue p) list = live_record (closed_at p) list
thread_after (Break a) list = idle_record (list_after a list)

abbrev pub progress_after : ControlFlow Answer Place → Progress
progress_after (Continue p) = progress.Accepted
progress_after (Break a) = progress.Answered a

abbrev pub report_after : ControlFlow Answer Place → Option Note → Report
report_after n noted = record { progress = progress_after n; noted = noted }

abbrev pub saw_at : Place → Shared → Saw
saw_at p s = saw_of s.set.generation (access_at p) s.cells

abbrev pub next_at : Place → OwnerList → Shared → ControlFlow Answer Place
next_at p list s = resumed_at s.set.capacity p list (saw_at p s)

-- one shared access, and the local work after it
unfoldable pub shared_after : Place → Shared → Shared
shared_after p s = record {
  set = record { capacity = s.set.capacity; generation = generation_after s.set.generation (access_at p) };
  cells = cells_after (access_at p) s.cells;
}

unfoldable pub advanced : Place → OwnerList → Shared → Effect Shared
advanced p list s = record {
  shared = shared_after p s;
  thread = thread_after (next_at p list s) list;
  report = report_after (next_at p list s) (noted_at p (saw_at p s));
}

-- refusal 10 of a start, a step or a drain
unfoldable pub too_short : ℕ → ℕ → ℕ → Bool
too_short records capacity cells = cond (ltb records_limit records) true (ltb cells capacity)

-- refusal 11
abbrev pub is_damaged : Option Place → Bool
is_damaged opened = is_none opened

-- refusals 3, 4, 10, 9 and 11 of a step, where `cells` is that buffer's length; and 13 of a drain
unfoldable pub turn_verdict : ℕ → RecordNumber → ℕ → ℕ → Option Place → Record → Bool → Result (Unit {0}) Refusal
turn_verdict records who capacity cells opened t not_known =
    verdict_of (tests_at_turn (ltb robust_capacity_limit capacity) (eqb capacity 0) (too_short records capacity cells) (not_calling t records who) (is_damaged opened) not_known)

-- the record's call, opened at its place
abbrev pub opened_in : Shared → Record → Option Place
opened_in s t = opened_at s.set.capacity t.call t.list

abbrev pub step_judged : ℕ → RecordNumber → Shared → Record → Result (Unit {0}) Refusal
step_judged records who s t = turn_verdict records who s.set.capacity (length s.cells) (opened_in s t) t false

-- a record that is accepted opens, so the second case is of none
abbrev pub stepped_from : Option Place → Shared → Record → Effect Shared
stepped_from (Some p) s t = advanced p t.list s
stepped_from None s t = unchanged s t RecordDamaged

-- the step of the record whose number is `who`, of `records` that are lent
unfoldable pub step_of : ℕ → RecordNumber → Shared → Record → Effect Shared
step_of records who s t = judged (step_judged records who s t) s t (stepped_from (opened_in s t) s t)
