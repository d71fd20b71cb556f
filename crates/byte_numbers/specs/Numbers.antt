-- Little-endian numbers in bytes. Behind the end there are zeros.
use Rattle.std.specs.Prelude.{ℕ, zero, suc, ◌+◌, ◌*◌, List, [], ◌∷◌, get_or}

-- so many bytes from a place on
abbrev pub bytes_from : ℕ → List ℕ → ℕ → List ℕ
bytes_from zero s at = []
bytes_from (suc n) s at = get_or s at 0 ∷ bytes_from n s (at + 1)

abbrev pub le2 : List ℕ → ℕ → ℕ
le2 s at = get_or s at 0 + 256 * get_or s (at + 1) 0

unfoldable pub le4 : List ℕ → ℕ → ℕ
le4 s at = le2 s at + 65536 * le2 s (at + 2)

unfoldable pub le8 : List ℕ → ℕ → ℕ
le8 s at = le4 s at + 4294967296 * le4 s (at + 4)
