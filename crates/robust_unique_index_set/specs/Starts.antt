-- The start of a call: it enters at the call's first place and touches no shared word.
use Rattle.std.specs.Prelude.{ℕ, Bool, false, length, ltb, eqb, Option, Some, None, Result}
use Rattle.unique_index_set_enums.specs.declared.RecordNumber.{RecordNumber}
use Rattle.unique_index_set_enums.specs.Limits.{robust_capacity_limit}
use Rattle.calls.specs.declared.Request.{Request}
use Rattle.calls.specs.declared.Refusal.{Refusal}
use Rattle.calls.specs.declared.Refusal.TheVariants.{NotKnown}
use Rattle.calls.specs.declared.Tests.{Tests}
use Rattle.calls.specs.Numbers.{call_read}
use Rattle.calls.specs.Order.{verdict_of}
use Rattle.calls.specs.Reports.{accepted_report}
use Rattle.thread_records.specs.declared.Record.{Record}
use Rattle.thread_records.specs.declared.Stepped.{Stepped}
use Rattle.thread_records.specs.Records.{live_record, not_idle}
use Rattle.thread_records.specs.Effects.{Effect, unchanged, judged}
use Rattle.robust_places.specs.declared.Place.{Place}
use Rattle.robust_places.specs.Places.{closed_at}
use Rattle.robust_calls.specs.declared.asks.Asked.{Asked}
use Rattle.robust_calls.specs.Asks.{asked_of, is_not_known, is_owner_empty, is_out_of_range, list_damaged, first_place}
use Rattle.robust_unique_index_set.specs.declared.RobustUniqueIndexSet.{RobustUniqueIndexSet}
use Rattle.robust_unique_index_set.specs.Steps.{Shared, leaves, too_short}

-- refusals 3, 4, 10, 9, 11, 13, 5 and 7, where `cells` is that buffer's length; 8 is the plain set's
abbrev pub start_tests : ℕ → RecordNumber → ℕ → ℕ → Option Asked → Record → Bool → Tests
start_tests records who capacity cells asked t damaged = record {
  capacity_above_limit = ltb robust_capacity_limit capacity;
  capacity_zero = eqb capacity 0;
  buffer_too_short = too_short records capacity cells;
  record_not_ready = not_idle t records who;
  record_damaged = damaged;
  not_known = is_not_known asked;
  owner_is_empty = is_owner_empty asked;
  index_out_of_range = is_out_of_range capacity asked;
  index_not_held = false;
}

unfoldable pub start_verdict : ℕ → RecordNumber → ℕ → ℕ → Option Asked → Record → Bool → Result (Unit {0}) Refusal
start_verdict records who capacity cells asked t damaged = verdict_of (start_tests records who capacity cells asked t damaged)

-- of the record's memory, a start judges a recover's waiting list alone
abbrev pub start_judged : ℕ → RecordNumber → Request → Shared → Record → Result (Unit {0}) Refusal
start_judged records who request s t =
    start_verdict records who s.set.capacity (length s.cells) (asked_of request) t (list_damaged (call_read request.call) t.list)

-- the call enters at its first place
abbrev pub entered_at : Place → RobustUniqueIndexSet → Record → Stepped RobustUniqueIndexSet
entered_at p set t = record { set = set; thread = live_record (closed_at p) t.list; report = accepted_report }

-- what is accepted is known, so the second case is of none
abbrev pub started_from : Option Asked → Shared → Record → Effect Shared
started_from (Some asked) s t = leaves (entered_at (first_place asked) s.set t) s.cells
started_from None s t = unchanged s t NotKnown

-- the start, by the record whose number is `who`, of what is requested
unfoldable pub start_of : ℕ → RecordNumber → Request → Shared → Record → Effect Shared
start_of records who request s t = judged (start_judged records who request s t) s t (started_from (asked_of request) s t)
