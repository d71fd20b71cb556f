-- A turn of a record of a robust set: each operation is the set's own, or the record's.
use Rattle.std.specs.Prelude.{ℕ, refl}
use Rattle.unique_index_set_enums.specs.declared.RecordNumber.{RecordNumber}
use Rattle.calls.specs.declared.SetKind.TheVariants as kind
use Rattle.calls.specs.Runs.{Run}
use Rattle.thread_records.specs.declared.Record.{Record}
use Rattle.thread_records.specs.Effects.{Effect}
use Rattle.robust_unique_index_set.specs.Steps.{Shared, step_of}
use Rattle.robust_unique_index_set.specs.Setups.{fresh, setup_judged, setup_of}
use Rattle.robust_unique_index_set.specs.Starts.{start_of}
use Rattle.robust_unique_index_set.specs.Drains.{drain_of}
use Rattle.turns.specs.declared.Operation.{Operation}
use Rattle.turns.specs.Moves.{Moves, SetsUp, turn_of}

abbrev pub robust_moves : Moves Shared
robust_moves = record { kind = kind.Robust; setup = setup_of; start = start_of; step = step_of; drain = drain_of }

pub robust_setup_same : (records capacity : ℕ) (s : Shared) → SetsUp s (setup_of records capacity s)
unfolding setup_of
robust_setup_same records capacity s = record { verdict = setup_judged records capacity s; fresh = fresh capacity s; same = λ t. refl }

-- the turn of the record whose number is `who`, of `records` that are lent
abbrev pub robust_turn_of : ℕ → RecordNumber → Operation → Shared → Record → Run (Effect Shared)
robust_turn_of records who operation s t = turn_of robust_moves records who operation s t
