-- A list whose first i elements have become r: what a loop that stores r at 0, 1, 2, .. has made of it. Assumes nothing.
use mathlib.Core.Path.{◌≡◌, refl, ap, sym, ◌∙◌}
use mathlib.Core.List.{List, [], ◌∷◌}
use Prim.Native.Nat.{ℕ, zero, suc, ◌+◌}
use native.Mathlib.Numerals.{add-one}
use lib.ListN.{length, set, replicate}

module _ {X : Type 0} (r : X) where
  abbrev pub overwritten : List X → ℕ → List X
  overwritten ys zero = ys
  overwritten [] (suc i) = []
  overwritten (y ∷ ys) (suc i) = r ∷ overwritten ys i

  pub length-overwritten : (ys : List X) (i : ℕ) → length (overwritten ys i) ≡ length ys
  length-overwritten ys zero = refl
  length-overwritten [] (suc i) = refl
  length-overwritten (y ∷ ys) (suc i) = ap suc (length-overwritten ys i)

  overwritten-suc : (ys : List X) (i : ℕ) → set (overwritten ys i) i r ≡ overwritten ys (suc i)
  overwritten-suc [] zero = refl
  overwritten-suc (y ∷ ys) zero = refl
  overwritten-suc [] (suc i) = refl
  overwritten-suc (y ∷ ys) (suc i) = ap (λ (l : List X). r ∷ l) (overwritten-suc ys i)

  -- one more turn
  pub overwritten_next : (ys : List X) (i : ℕ) → set (overwritten ys i) i r ≡ overwritten ys (i + 1)
  overwritten_next ys i = overwritten-suc ys i ∙ ap (overwritten ys) (sym (add-one i))

  -- after the last turn
  pub overwritten_all : (ys : List X) → overwritten ys (length ys) ≡ replicate (length ys) r
  overwritten_all [] = refl
  overwritten_all (y ∷ ys) = ap (λ (l : List X). r ∷ l) (overwritten_all ys)
