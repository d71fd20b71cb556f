-- A turn of a record of a plain set: each operation is the set's own, or the record's.
use Rattle.std.specs.Prelude.{ℕ, refl}
use Rattle.unique_index_set_enums.specs.declared.RecordNumber.{RecordNumber}
use Rattle.calls.specs.declared.SetKind.TheVariants as kind
use Rattle.calls.specs.Runs.{Run}
use Rattle.thread_records.specs.declared.Record.{Record}
use Rattle.thread_records.specs.Effects.{Effect}
use Rattle.unique_index_set.specs.Steps.{Shared, step_of}
use Rattle.unique_index_set.specs.Setups.{fresh, setup_judged, setup_of}
use Rattle.unique_index_set.specs.Starts.{start_of}
use Rattle.unique_index_set.specs.Drains.{drain_of}
use Rattle.turns.specs.declared.Operation.{Operation}
use Rattle.turns.specs.Moves.{Moves, SetsUp, turn_of}

abbrev pub plain_moves : Moves Shared
plain_moves = record { kind = kind.Plain; setup = setup_of; start = start_of; step = step_of; drain = drain_of }

pub plain_setup_same : (records capacity : ℕ) (s : Shared) → SetsUp s (setup_of records capacity s)
unfolding setup_of
plain_setup_same records capacity s = record { verdict = setup_judged records capacity s; fresh = fresh capacity s; same = λ t. refl }

-- the turn of the record whose number is `who`, of `records` that are lent
abbrev pub plain_turn_of : ℕ → RecordNumber → Operation → Shared → Record → Run (Effect Shared)
plain_turn_of records who operation s t = turn_of plain_moves records who operation s t
