-- Numbers stored in bytes, little-endian, and how many bytes each takes.
use Rattle.std.specs.Prelude.{ℕ, zero, suc, ◌+◌, ◌/◌, ◌%◌, List, [], ◌∷◌, set}

-- a number in so many bytes from a place on
unfoldable pub stored : List ℕ → ℕ → ℕ → ℕ → List ℕ
stored l at zero v = l
stored l at (suc width) v = stored (set l at (v % 256)) (at + 1) width (v / 256)

-- numbers one behind another, each in so many bytes
unfoldable pub stored_all : ℕ → List ℕ → ℕ → List ℕ → List ℕ
stored_all width l at [] = l
stored_all width l at (v ∷ vs) = stored_all width (stored l at width v) (at + width) vs
