-- A setup: generation 0, the cells below the capacity without owner (180, 208 to 214), the record idle, its list empty. Cells beyond stay.
use Rattle.std.specs.Prelude.{ℕ, Bool, true, cond, length, ltb, eqb, Result}
use Rattle.unique_index_set_enums.specs.Kinds.{generation}
use Rattle.unique_index_set_enums.specs.Limits.{robust_capacity_limit, records_limit}
use Rattle.unique_index_set_enums.specs.Robust.{no_owner}
use Rattle.calls.specs.declared.Refusal.{Refusal}
use Rattle.calls.specs.Order.{tests_at_setup, verdict_of}
use Rattle.calls.specs.Reports.{accepted_report}
use Rattle.thread_records.specs.declared.Record.{Record}
use Rattle.thread_records.specs.Records.{empty_list, idle_record}
use Rattle.thread_records.specs.Effects.{Effect, judged}
use Rattle.thread_records.specs.Filled.{filled}
use Rattle.robust_unique_index_set.specs.Steps.{Shared}

abbrev pub empty_cell : ℕ → ℕ
empty_cell i = no_owner.0

-- refusal 3 of a setup: above the limit, or too large for the cells
unfoldable pub too_large : ℕ → ℕ → Bool
too_large capacity cells = cond (ltb robust_capacity_limit capacity) true (ltb cells capacity)

-- refusals 3, 4 and 10, where `cells` is that buffer's length
unfoldable pub setup_verdict : ℕ → ℕ → ℕ → Result (Unit {0}) Refusal
setup_verdict records capacity cells = verdict_of (tests_at_setup (too_large capacity cells) (eqb capacity 0) (ltb records_limit records))

abbrev pub fresh : ℕ → Shared → Shared
fresh capacity s = record { set = record { capacity = capacity; generation = generation 0 }; cells = filled empty_cell capacity s.cells }

abbrev pub set_fresh : ℕ → Shared → Effect Shared
set_fresh capacity s = record { shared = fresh capacity s; thread = idle_record empty_list; report = accepted_report }

abbrev pub setup_judged : ℕ → ℕ → Shared → Result (Unit {0}) Refusal
setup_judged records capacity s = setup_verdict records capacity (length s.cells)

-- the setup of a capacity, with `records` lent
unfoldable pub setup_of : ℕ → ℕ → Shared → Record → Effect Shared
setup_of records capacity s t = judged (setup_judged records capacity s) s t (set_fresh capacity s)
