-- A decimal text is read back as its number, begins with no zero but that of 0 itself, and has 20 digits at most. Assumes nothing.
use Prim.Native.Nat.{ℕ, zero, suc, ◌+◌, ◌*◌, ◌-◌, ◌/◌, ◌%◌, ◌≤◌, ◌<◌}
use mathlib.Core.Path.{◌≡◌, refl, ap, ◌∙◌, subst}
use mathlib.Core.Bool.{Bool, true, false}
use mathlib.Core.List.{List, [], ◌∷◌}
use native.Mathlib.Omega.{arith}
use borrow.Author.Tests.{ltb-true, ltb-false}
use lib.Dec.{ltb}
use lib.ListN.{length, get_or}
use Rattle.numerals.specs.Digits.{decimal_by, decimal_of}
use Rattle.std.proofs.lemmas.Fmt.{first_decimal}
use Rattle.numerals.proofs.Spelled.{own_decimal, by_more, by_last, by_none}

-- the number that digits go on to, from what was read before them
abbrev pub value_from : ℕ → List ℕ → ℕ
value_from n [] = n
value_from n (d ∷ ds) = value_from (10 * n + (d - 48)) ds

abbrev tens : ℕ → ℕ
tens zero = 1
tens (suc n) = 10 * tens n

read_by : (n v : ℕ) (t : List ℕ) (b : Bool) → ltb v 10 ≡ b → v < tens n → value_from 0 (decimal_by n v t) ≡ value_from v t
read_by zero v t b e h =
    let z : 0 ≡ v = omega (arith, h) in
    ap (value_from 0) (by_none v t) ∙ ap (λ (k : ℕ). value_from k t) z
read_by (suc n) v t true e h =
    let z : 10 * 0 + (48 + v - 48) ≡ v = omega arith in
    ap (value_from 0) (by_last n v t (ltb-true _ _ e)) ∙ ap (λ (k : ℕ). value_from k t) z
read_by (suc n) v t false e h =
    let z : 10 * (v / 10) + (48 + v % 10 - 48) ≡ v = omega arith in
    ap (value_from 0) (by_more n v t (ltb-false _ _ e)) ∙ read_by n (v / 10) ((48 + v % 10) ∷ t) _ refl (omega (arith, h)) ∙ ap (λ (k : ℕ). value_from k t) z

-- read back
pub decimal_read : (v : ℕ) → v < 18446744073709551616 → value_from 0 (decimal_of v) ≡ v
decimal_read v h = read_by 20 v [] _ refl (omega (arith, h))

-- no leading zero
pub decimal_leads : (v : ℕ) → 0 < v → v < 18446744073709551616 → 48 < get_or (decimal_of v) 0 0
decimal_leads v p h = subst (λ (ds : List ℕ). 48 < get_or ds 0 0) (own_decimal v h) (first_decimal v p h)

short_by : (n v : ℕ) (t : List ℕ) (b : Bool) → ltb v 10 ≡ b → length (decimal_by n v t) ≤ n + length t
short_by zero v t b e = let z : length (decimal_by 0 v t) ≡ length t = ap length (by_none v t) in omega (arith, z)
short_by (suc n) v t true e =
    let z : length (decimal_by (suc n) v t) ≡ suc (length t) = ap length (by_last n v t (ltb-true _ _ e)) in
    omega (arith, z)
short_by (suc n) v t false e =
    let z : length (decimal_by (suc n) v t) ≡ length (decimal_by n (v / 10) ((48 + v % 10) ∷ t)) = ap length (by_more n v t (ltb-false _ _ e)) in
    let h : length (decimal_by n (v / 10) ((48 + v % 10) ∷ t)) ≤ n + suc (length t) = short_by n (v / 10) ((48 + v % 10) ∷ t) _ refl in
    omega (arith, z, h)

pub decimal_short : (v : ℕ) → length (decimal_of v) ≤ 20
decimal_short v = omega (arith, short_by 20 v [] _ refl)
