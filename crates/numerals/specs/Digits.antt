-- The text of numbers, as ASCII codes: 48 is '0', 65 is 'A'.
use Rattle.std.specs.Prelude.{ℕ, zero, suc, ◌+◌, ◌/◌, ◌%◌, cond, List, [], ◌∷◌, ltb}

-- the last of its digits, and before it those of what is left; `n` more digits at most, before `t`
unfoldable pub decimal_by : ℕ → ℕ → List ℕ → List ℕ
decimal_by zero v t = t
decimal_by (suc n) v t = cond (ltb v 10) ((48 + v) ∷ t) (decimal_by n (v / 10) ((48 + v % 10) ∷ t))

-- a number of 64 bits has 20 digits at most
abbrev pub decimal_of : ℕ → List ℕ
decimal_of v = decimal_by 20 v []

unfoldable pub hex_digit : ℕ → ℕ
hex_digit d = cond (ltb d 10) (48 + d) (55 + d)

abbrev pub hex_of : ℕ → List ℕ
hex_of v =
    hex_digit (v / 1152921504606846976 % 16) ∷ hex_digit (v / 72057594037927936 % 16) ∷ hex_digit (v / 4503599627370496 % 16) ∷ hex_digit (v / 281474976710656 % 16) ∷
    hex_digit (v / 17592186044416 % 16) ∷ hex_digit (v / 1099511627776 % 16) ∷ hex_digit (v / 68719476736 % 16) ∷ hex_digit (v / 4294967296 % 16) ∷
    hex_digit (v / 268435456 % 16) ∷ hex_digit (v / 16777216 % 16) ∷ hex_digit (v / 1048576 % 16) ∷ hex_digit (v / 65536 % 16) ∷
    hex_digit (v / 4096 % 16) ∷ hex_digit (v / 256 % 16) ∷ hex_digit (v / 16 % 16) ∷ hex_digit (v / 1 % 16) ∷ []
