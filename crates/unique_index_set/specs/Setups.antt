-- A setup: head word 0, slot i holds i + 1 for i from 0 to the capacity (295 to 299), custody free below it, the record idle, its
-- list empty. Entries beyond stay.
use Rattle.std.specs.Prelude.{ℕ, ◌+◌, Bool, true, cond, length, ◌==◌, nat_le, nat_lt, Result}
use Rattle.unique_index_set_enums.specs.Limits.{plain_capacity_limit, records_limit}
use Rattle.calls.specs.declared.Refusal.{Refusal}
use Rattle.calls.specs.Order.{tests_at_setup, verdict_of}
use Rattle.calls.specs.Reports.{accepted_report}
use Rattle.thread_records.specs.declared.Record.{Record}
use Rattle.thread_records.specs.Records.{empty_list, idle_record}
use Rattle.thread_records.specs.Effects.{Effect, judged}
use Rattle.thread_records.specs.Filled.{filled}
use Rattle.custody.specs.declared.Custody.TheVariants.{Free}
use Rattle.custody.specs.Entry.{entry_of}
use Rattle.unique_index_set.specs.Steps.{Shared}

abbrev pub next_index : ℕ → ℕ
next_index i = i + 1

abbrev pub free_entry : ℕ → ℕ
free_entry i = entry_of Free

-- refusal 3 of a setup: above the limit, or too large for the slots
unfoldable pub too_large : ℕ → ℕ → Bool
too_large capacity slots = cond (nat_lt plain_capacity_limit capacity) true (nat_le slots capacity)

-- refusal 10 of a setup
unfoldable pub setup_short : ℕ → ℕ → ℕ → Bool
setup_short records capacity custody = cond (nat_lt records_limit records) true (nat_lt custody capacity)

-- refusals 3, 4 and 10, where `slots` and `custody` are the buffers' lengths
unfoldable pub setup_verdict : ℕ → ℕ → ℕ → ℕ → Result (Unit {0}) Refusal
setup_verdict records capacity slots custody = verdict_of (tests_at_setup (too_large capacity slots) (capacity == 0) (setup_short records capacity custody))

abbrev pub fresh : ℕ → Shared → Shared
fresh capacity s = record {
  set = record { capacity = capacity; head = 0 };
  slots = filled next_index (capacity + 1) s.slots;
  custody = filled free_entry capacity s.custody;
}

abbrev pub set_fresh : ℕ → Shared → Effect Shared
set_fresh capacity s = record { shared = fresh capacity s; thread = idle_record empty_list; report = accepted_report }

abbrev pub setup_judged : ℕ → ℕ → Shared → Result (Unit {0}) Refusal
setup_judged records capacity s = setup_verdict records capacity (length s.slots) (length s.custody)

-- the setup of a capacity, with `records` lent
unfoldable pub setup_of : ℕ → ℕ → Shared → Record → Effect Shared
setup_of records capacity s t = judged (setup_judged records capacity s) s t (set_fresh capacity s)
