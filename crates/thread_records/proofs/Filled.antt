-- A filled buffer: where one value fills it, its length, and what it holds below n and beyond. Assumes nothing.
use Prim.Native.Nat.{ℕ, zero, suc, ◌≤◌, ◌<◌}
use mathlib.Core.Path.{◌≡◌, refl, sym, ap, ◌∙◌}
use mathlib.Core.Bool.{Bool, true, false}
use mathlib.Core.List.{List, ◌∷◌, ◌++◌}
use lib.Dec.{eqb}
use borrow.Author.Tests.{eqb-true, eqb-false}
use native.Mathlib.Omega.{arith}
use native.Mathlib.Numerals.{lt_of_le_of_ne}
use lib.ListN.{length, get_or, set, length-set}
use lib.Seq.{get_or-set_same, get_or-set_other}
use Rattle.std.proofs.Common.{drop, drop-cons}
use Rattle.std.specs.Prelude.{replicate}
use Rattle.thread_records.specs.Filled.{filled}

seam : (n v x : ℕ) (r : List ℕ) → set (replicate n v ++ (x ∷ r)) n v ≡ v ∷ (replicate n v ++ r)
seam zero v x r = refl
seam (suc n) v x r = ap (λ (l : List ℕ). v ∷ l) (seam n v x r)

one_more : (n v : ℕ) (xs : List ℕ) → n < length xs → set (replicate n v ++ drop n xs) n v ≡ replicate (suc n) v ++ drop (suc n) xs
one_more n v xs h = rw (drop-cons xs n 0 h) (seam n v (get_or xs n 0) (drop (suc n) xs))

same : (v n : ℕ) (xs : List ℕ) → n ≤ length xs → filled (λ i. v) n xs ≡ replicate n v ++ drop n xs
unfolding filled
same v zero xs h = refl
same v (suc n) xs h = rw (same v n xs (omega arith)) (one_more n v xs (omega arith))

-- one value in each of the first n entries
pub filled_front : (v n : ℕ) (xs front : List ℕ) → n ≤ length xs → front ≡ replicate n v → front ++ drop n xs ≡ filled (λ i. v) n xs
filled_front v n xs front h q = rw q (sym (same v n xs h))

pub filled-length : (f : ℕ → ℕ) (n : ℕ) (xs : List ℕ) → length (filled f n xs) ≡ length xs
unfolding filled
filled-length f zero xs = refl
filled-length f (suc n) xs = simp (length-set, filled-length f n xs)

-- entry i of a filled buffer, below n and beyond
below_last : (i n : ℕ) → i < suc n → (i ≡ n → ⊥) → i < n
below_last i n h q = lt_of_le_of_ne (omega arith) q

at_last : (b : Bool) (ys : List ℕ) (i n v w : ℕ) → eqb i n ≡ b → n < length ys → (i ≡ n → v ≡ w) → ((i ≡ n → ⊥) → get_or ys i 0 ≡ w) → get_or (set ys n v) i 0 ≡ w
at_last true ys i n v w e l f g = let q = eqb-true i n e in rw q (get_or-set_same ys n v 0 l ∙ f q)
at_last false ys i n v w e l f g = let q = eqb-false i n e in get_or-set_other ys n i v 0 q ∙ g q

pub filled_below : (f : ℕ → ℕ) (n i : ℕ) (xs : List ℕ) → i < n → n ≤ length xs → get_or (filled f n xs) i 0 ≡ f i
unfolding filled
filled_below f zero i xs h l = absurd (omega arith)
filled_below f (suc n) i xs h l =
    at_last (eqb i n) (filled f n xs) i n (f n) (f i) refl (rw (filled-length f n xs) (omega arith)) (λ q. rw q refl)
    (λ q. filled_below f n i xs (omega (arith, below_last i n h q)) (omega arith))

pub filled_beyond : (f : ℕ → ℕ) (n i : ℕ) (xs : List ℕ) → n ≤ i → get_or (filled f n xs) i 0 ≡ get_or xs i 0
unfolding filled
filled_beyond f zero i xs h = refl
filled_beyond f (suc n) i xs h = get_or-set_other (filled f n xs) n i (f n) 0 (λ (q : i ≡ n). omega arith) ∙ filled_beyond f n i xs (omega arith)
