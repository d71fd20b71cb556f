-- Sixteen digits, one after another, from the highest. Assumes nothing.
use Rattle.std.proofs.Common.{ℕ, zero, suc, ◌≡◌, ◌+◌, ◌-◌, ◌*◌, ◌/◌, ◌%◌, List, [], ◌∷◌, ◌++◌, refl, arith}
use Rattle.std.specs.Prelude.{◌^◌}
use Rattle.numerals.specs.Digits.{hex_digit, hex_of}

-- the first `n` of them
unfoldable pub hex_from : ℕ → ℕ → List ℕ
hex_from v zero = []
hex_from v (suc n) = hex_from v n ++ hex_digit (v / 2 ^ (60 - 4 * n) % 16) ∷ []

pub hex_none : (v : ℕ) → hex_from v 0 ≡ []
unfolding hex_from
hex_none v = refl

pub hex_more : (v n : ℕ) → hex_from v (n + 1) ≡ hex_from v n ++ hex_digit (v / 2 ^ (60 - 4 * n) % 16) ∷ []
unfolding hex_from
hex_more v n = grind arith

pub hex_whole : (v : ℕ) → hex_from v 16 ≡ hex_of v
unfolding hex_from
hex_whole v = refl
