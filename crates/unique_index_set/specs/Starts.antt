-- The start of a call: it enters at the call's first place and touches no shared word. A release's start marks its index as being
-- given back.
use Rattle.std.specs.Prelude.{ℕ, Bool, false, not, List, length, ◌==◌, nat_lt, Option, Some, None, Result}
use Rattle.unique_index_set_enums.specs.declared.RecordNumber.{RecordNumber}
use Rattle.unique_index_set_enums.specs.Limits.{plain_capacity_limit}
use Rattle.calls.specs.declared.Request.{Request}
use Rattle.calls.specs.declared.Refusal.{Refusal}
use Rattle.calls.specs.declared.Refusal.TheVariants as refusal
use Rattle.calls.specs.declared.Tests.{Tests}
use Rattle.calls.specs.Order.{verdict_of}
use Rattle.calls.specs.Reports.{accepted_report}
use Rattle.thread_records.specs.declared.Record.{Record}
use Rattle.thread_records.specs.declared.Stepped.{Stepped}
use Rattle.thread_records.specs.Records.{live_record, not_idle}
use Rattle.thread_records.specs.Effects.{Effect, unchanged, judged}
use Rattle.plain_places.specs.declared.Place.{Place}
use Rattle.plain_places.specs.Places.{closed_at}
use Rattle.unique_index_set.specs.declared.UniqueIndexSet.{UniqueIndexSet}
use Rattle.plain_calls.specs.declared.asks.Asked.{Asked}
use Rattle.plain_calls.specs.declared.asks.Asked.TheVariants.{Acquire, Release, BorrowedIndices, IsLocked}
use Rattle.plain_calls.specs.Asks.{asked_of, is_not_known, is_out_of_range, first_place}
use Rattle.plain_calls.specs.Marks.{start_mark}
use Rattle.unique_index_set.specs.Custodies.{marked, holds}
use Rattle.unique_index_set.specs.Steps.{Shared, leaves, too_short}

-- refusal 8
abbrev pub is_not_held : RecordNumber → Option Asked → List ℕ → Bool
is_not_held who (Some Acquire) custody = false
is_not_held who (Some (Release i m)) custody = not (holds who i custody)
is_not_held who (Some BorrowedIndices) custody = false
is_not_held who (Some IsLocked) custody = false
is_not_held who None custody = false

-- refusals 3, 4, 10, 9, 13, 7 and 8, where `slots` is that buffer's length. 11 and 5 do not arise: a plain start judges no record's
-- memory and looks at no owner
abbrev pub start_tests : ℕ → RecordNumber → ℕ → ℕ → List ℕ → Option Asked → Record → Tests
start_tests records who capacity slots custody asked t = record {
  capacity_above_limit = nat_lt plain_capacity_limit capacity;
  capacity_zero = (capacity == 0);
  buffer_too_short = too_short records capacity slots (length custody);
  record_not_ready = not_idle t records who;
  record_damaged = false;
  not_known = is_not_known asked;
  owner_is_empty = false;
  index_out_of_range = is_out_of_range capacity asked;
  index_not_held = is_not_held who asked custody;
}

unfoldable pub start_verdict : ℕ → RecordNumber → ℕ → ℕ → List ℕ → Option Asked → Record → Result (Unit {0}) Refusal
start_verdict records who capacity slots custody asked t = verdict_of (start_tests records who capacity slots custody asked t)

abbrev pub start_judged : ℕ → RecordNumber → Option Asked → Shared → Record → Result (Unit {0}) Refusal
start_judged records who asked s t = start_verdict records who s.set.capacity (length s.slots) s.custody asked t

-- the call enters at its first place
abbrev pub entered_at : Place → UniqueIndexSet → Record → Stepped UniqueIndexSet
entered_at p set t = record { set = set; thread = live_record (closed_at p) t.list; report = accepted_report }

abbrev pub entered_for : Asked → UniqueIndexSet → Record → Stepped UniqueIndexSet
entered_for asked set t = entered_at (first_place asked) set t

-- what is accepted is known, so the last case is of none
abbrev pub started_from : Option Asked → RecordNumber → Shared → Record → Effect Shared
started_from (Some asked) who s t = leaves (entered_for asked s.set t) s.slots (marked (start_mark who (Some asked)) s.custody)
started_from None who s t = unchanged s t refusal.NotKnown

-- the start, by the record whose number is `who`, of what is requested
unfoldable pub start_of : ℕ → RecordNumber → Request → Shared → Record → Effect Shared
start_of records who request s t = judged (start_judged records who (asked_of request) s t) s t (started_from (asked_of request) who s t)
