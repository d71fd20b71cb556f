-- The calls of a plain set over a table of bytes.
use Rattle.std.specs.Prelude.{ℕ, List}
use Rattle.unique_index_set_enums.specs.declared.RecordNumber.{RecordNumber}
use Rattle.unique_index_set.specs.Steps.{Shared}
use Rattle.turns.specs.declared.Operation.{Operation}
use Rattle.turns.specs.Plain.{plain_moves}
use Rattle.byte_docks.specs.Called.{Called, called_in, TurnFits, readied_in}

abbrev pub plain_called : RecordNumber → Operation → Shared → List ℕ → Called Shared
plain_called who operation s bytes = called_in plain_moves who operation s bytes

abbrev pub PlainFits : RecordNumber → Operation → Shared → List ℕ → Type 0
PlainFits who operation s bytes = TurnFits plain_moves who operation s bytes

abbrev pub plain_readied : ℕ → Shared → List ℕ → Called Shared
plain_readied capacity s bytes = readied_in plain_moves capacity s bytes
