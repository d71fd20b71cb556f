-- The calls of a robust set over a table of bytes.
use Rattle.std.specs.Prelude.{ℕ, List}
use Rattle.unique_index_set_enums.specs.declared.RecordNumber.{RecordNumber}
use Rattle.robust_unique_index_set.specs.Steps.{Shared}
use Rattle.turns.specs.declared.Operation.{Operation}
use Rattle.turns.specs.Robust.{robust_moves}
use Rattle.byte_docks.specs.Called.{Called, called_in, TurnFits, readied_in}

abbrev pub robust_called : RecordNumber → Operation → Shared → List ℕ → Called Shared
robust_called who operation s bytes = called_in robust_moves who operation s bytes

abbrev pub RobustFits : RecordNumber → Operation → Shared → List ℕ → Type 0
RobustFits who operation s bytes = TurnFits robust_moves who operation s bytes

abbrev pub robust_readied : ℕ → Shared → List ℕ → Called Shared
robust_readied capacity s bytes = readied_in robust_moves capacity s bytes
