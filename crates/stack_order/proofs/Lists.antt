-- Counting in a list of indices, taking one out, the chain through the slots. Assumes nothing.
use mathlib.Core.Path.{◌≡◌, refl, sym, ap}
use mathlib.Core.Bool.{Bool, true, false, cond}
use mathlib.Core.List.{List, [], ◌∷◌}
use Prim.Native.Nat.{ℕ, suc, ◌+◌, ◌≤◌, ◌<◌}
use native.Mathlib.Omega.{arith}
use lib.ListN.{length, get_or, set}
use lib.Seq.{get_or-set_other}
use lib.Dec.{eqb, ltb}
use borrow.Author.Tests.{eqb-true, eqb-false, eq-eqb, ne_eqb, lt-ltb, le-ltb}
use native.Mathlib.Decide.{dec_lt}
use Rattle.stack_order.specs.Stack.{one_if, count, without}

-- 1 if i is x, else 0
abbrev pub same : ℕ → ℕ → ℕ
same i x = one_if (eqb i x)

pub same_self : (i : ℕ) → same i i ≡ 1
same_self i = rw (eq-eqb i i refl)

pub same_eq : (i x : ℕ) → i ≡ x → same i x ≡ 1
same_eq i x q = rw (eq-eqb i x q)

pub same_other : (i x : ℕ) → (i ≡ x → ⊥) → same i x ≡ 0
same_other i x h = rw (ne_eqb i x h)

pub same_le : (i x : ℕ) → same i x ≤ 1
same_le i x = go (eqb i x)
  where
    go : (b : Bool) → one_if b ≤ 1
    go true = omega arith
    go false = omega arith

-- 1 if i is an index, else 0
unfoldable pub below : ℕ → ℕ → ℕ
below i cap = one_if (ltb i cap)

pub below_lt : (i cap : ℕ) → i < cap → below i cap ≡ 1
unfolding below
below_lt i cap h = rw (lt-ltb i cap h)

pub below_ge : (i cap : ℕ) → cap ≤ i → below i cap ≡ 0
unfolding below
below_ge i cap h = rw (le-ltb i cap h)

pub below_le : (i cap : ℕ) → below i cap ≤ 1
unfolding below
below_le i cap = go (ltb i cap)
  where
    go : (b : Bool) → one_if b ≤ 1
    go true = omega arith
    go false = omega arith

pub lt_of_below : (i cap : ℕ) → 1 ≤ below i cap → i < cap
lt_of_below i cap h = elim (dec_lt i cap) [ yes p ↦ p | no q ↦ absurd (zero_one (below_ge i cap (omega arith))) ]
  where
    zero_one : below i cap ≡ 0 → ⊥
    zero_one e = omega arith

pub count_cons : (i x : ℕ) (l : List ℕ) → count i (x ∷ l) ≡ same i x + count i l
unfolding count
count_cons i x l = refl

pub count_head : (x : ℕ) (l : List ℕ) → count x (x ∷ l) ≡ suc (count x l)
unfolding count
count_head x l = rw (same_self x) (omega arith)

-- taking an index out
pub count-without : (i j : ℕ) (l : List ℕ) → 1 ≤ count i l → count j (without i l) + same j i ≡ count j l
unfolding count without
count-without i j [] h = omega arith
count-without i j (x ∷ l) h = go (λ k. count-without i j l k) (eqb i x) refl
  where
    go : (1 ≤ count i l → count j (without i l) + same j i ≡ count j l) → (b : Bool) → eqb i x ≡ b → count j (cond b l (x ∷ without i l)) + same j i ≡ same j x + count j l
    go again true e = rw (eqb-true i x e) (omega arith)
    go again false e = omega (arith, again (omega (arith, same_other i x (eqb-false i x e))))

pub length-without : (i : ℕ) (l : List ℕ) → 1 ≤ count i l → suc (length (without i l)) ≡ length l
unfolding count without
length-without i [] h = omega arith
length-without i (x ∷ l) h = go (λ k. length-without i l k) (eqb i x) refl
  where
    go : (1 ≤ count i l → suc (length (without i l)) ≡ length l) → (b : Bool) → eqb i x ≡ b → suc (length (cond b l (x ∷ without i l))) ≡ suc (length l)
    go again true e = refl
    go again false e = ap suc (again (omega (arith, same_other i x (eqb-false i x e))))

pub count-length : (i : ℕ) (l : List ℕ) → count i l ≤ length l
unfolding count
count-length i [] = omega arith
count-length i (x ∷ l) = omega (arith, count-length i l, same_le i x)

-- the first and the second of the free stack; its end is the capacity
abbrev pub top : ℕ → List ℕ → ℕ
top cap [] = cap
top cap (x ∷ l) = x

abbrev pub second : ℕ → List ℕ → ℕ
second cap [] = cap
second cap (x ∷ l) = top cap l

-- from h the slots lead through the list l, and then to the capacity
unfoldable pub Chain : ℕ → List ℕ → ℕ → List ℕ → Type 0
Chain cap slots h [] = h ≡ cap
Chain cap slots h (x ∷ l) = (h ≡ x) × Chain cap slots (get_or slots x 0) l

pub chain_top : (cap : ℕ) (slots : List ℕ) (h : ℕ) (l : List ℕ) → Chain cap slots h l → h ≡ top cap l
unfolding Chain
chain_top cap slots h [] c = c
chain_top cap slots h (x ∷ l) c = c.0

pub chain_second : (cap : ℕ) (slots : List ℕ) (h x : ℕ) (l : List ℕ) → Chain cap slots h (x ∷ l) → get_or slots x 0 ≡ top cap l
unfolding Chain
chain_second cap slots h x l c = chain_top cap slots (get_or slots x 0) l c.1

pub chain_pop : (cap : ℕ) (slots : List ℕ) (h x : ℕ) (l : List ℕ) → Chain cap slots h (x ∷ l) → Chain cap slots (get_or slots x 0) l
unfolding Chain
chain_pop cap slots h x l c = c.1

pub chain_push : (cap : ℕ) (slots : List ℕ) (h i : ℕ) (l : List ℕ) → Chain cap slots h l → get_or slots i 0 ≡ h → Chain cap slots i (i ∷ l)
unfolding Chain
chain_push cap slots h i l c e = (refl, rw e c)

-- a write off the chain leaves it
pub chain_write : (cap : ℕ) (slots : List ℕ) (h i v : ℕ) (l : List ℕ) → count i l ≡ 0 → Chain cap slots h l → Chain cap (set slots i v) h l
unfolding Chain count
chain_write cap slots h i v [] z c = c
chain_write cap slots h i v (x ∷ l) z c =
    let e : get_or (set slots i v) x 0 ≡ get_or slots x 0 = get_or-set_other slots i x v 0 apart in
    (c.0, rw e (chain_write cap slots (get_or slots x 0) i v l (omega arith) c.1))
  where
    apart : x ≡ i → ⊥
    apart q = omega (arith, same_eq i x (sym q))
