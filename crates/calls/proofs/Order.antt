-- The order of refusals: it is the scope's; a refusal is given exactly where its test is the first to fail; what is accepted fails
-- none. Assumes nothing.
use Prim.Native.Nat.{ℕ}
use mathlib.Core.Path.{◌≡◌, refl, sym, subst, ap}
use mathlib.Core.Bool.{Bool, true, false, cond}
use mathlib.Core.List.{List, [], ◌∷◌, ◌++◌, map}
use native.Mathlib.Omega.{arith}
use Rattle.std.specs.Prelude.{Result, Ok, Err}
use Rattle.calls.specs.declared.Refusal.{Refusal}
use Rattle.calls.specs.declared.Tests.{Tests}
use Rattle.calls.specs.Numbers.{refusal_number}
use Rattle.calls.specs.Order.{refusal_order, failed, first_failed, verdict_of}

pub order_numbers : map refusal_number refusal_order ≡ 3 ∷ 4 ∷ 10 ∷ 9 ∷ 11 ∷ 13 ∷ 5 ∷ 7 ∷ 8 ∷ []
order_numbers = refl

-- no test of the list fails
pub data Passed (t : Tests) : List Refusal → Type 0 where
  none : Passed t []
  more : {r : Refusal} {rs : List Refusal} → failed t r ≡ false → Passed t rs → Passed t (r ∷ rs)

-- r's test is the first of the list that fails
pub record First (t : Tests) (rs : List Refusal) (r : Refusal) : Type 0 where
  pub before : List Refusal
  pub after : List Refusal
  pub split : rs ≡ before ++ (r ∷ after)
  pub passed : Passed t before
  pub fails : failed t r ≡ true

pub given : (t : Tests) {before : List Refusal} (r : Refusal) (after : List Refusal) → Passed t before → failed t r ≡ true
    → first_failed t (before ++ (r ∷ after)) ≡ Err r
given t r after none f = rw f
given t r after (more e p) f = rw e (given t r after p f)

refused_or : (b : Bool) (r q : Refusal) (v : Result (Unit {0}) Refusal) → cond b (Err r) v ≡ Err q → (E : Type 0) → (b ≡ true → r ≡ q → E) → (b ≡ false → v ≡ Err q → E) → E
refused_or true r q v e E f g = f refl (cc)
refused_or false r q v e E f g = g refl e

pub first : (t : Tests) (rs : List Refusal) (q : Refusal) → first_failed t rs ≡ Err q → First t rs q
first t [] q e = let z : ◌≡◌ {A = ℕ} 0 1 = cc in absurd (omega arith)
first t (r ∷ rs) q e =
    refused_or (failed t r) r q (first_failed t rs) e (First t (r ∷ rs) q)
    (λ f s. record { before = []; after = rs; split = rw s refl; passed = none; fails = rw s at f })
    (λ f s. let h = first t rs q s in record { before = r ∷ h.before; after = h.after; split = ap (λ (l : List Refusal). r ∷ l) h.split; passed = more f h.passed; fails = h.fails })

passed_or : (b : Bool) (r : Refusal) (v : Result (Unit {0}) Refusal) → cond b (Err r) v ≡ Ok tt → (b ≡ false) × (v ≡ Ok tt)
passed_or true r v e = (cc, cc)
passed_or false r v e = (refl, e)

pub all_passed : (t : Tests) (rs : List Refusal) → first_failed t rs ≡ Ok tt → Passed t rs
all_passed t [] e = none
all_passed t (r ∷ rs) e = let p = passed_or (failed t r) r (first_failed t rs) e in more p.0 (all_passed t rs p.1)

-- a refusal is given exactly where its test is the first to fail
pub refused_first : (t : Tests) (r : Refusal) → verdict_of t ≡ Err r → First t refusal_order r
unfolding verdict_of
refused_first t r e = first t refusal_order r e

pub first_refused : (t : Tests) (r : Refusal) → First t refusal_order r → verdict_of t ≡ Err r
unfolding verdict_of
first_refused t r f = subst (λ (rs : List Refusal). first_failed t rs ≡ Err r) (sym f.split) (given t r f.after f.passed f.fails)

-- what is accepted fails no test
pub record AllPassed (t : Tests) : Type 0 where
  pub above : t.capacity_above_limit ≡ false
  pub zero : t.capacity_zero ≡ false
  pub short : t.buffer_too_short ≡ false
  pub ready : t.record_not_ready ≡ false
  pub damaged : t.record_damaged ≡ false
  pub known : t.not_known ≡ false
  pub owner : t.owner_is_empty ≡ false
  pub range : t.index_out_of_range ≡ false
  pub held : t.index_not_held ≡ false

by_name : (t : Tests) → Passed t refusal_order → AllPassed t
by_name t (more a (more b (more d (more e (more f (more g (more h (more i (more j none))))))))) =
    record { above = a; zero = b; short = d; ready = e; damaged = f; known = g; owner = h; range = i; held = j }

pub accepted : (t : Tests) → verdict_of t ≡ Ok tt → AllPassed t
unfolding verdict_of
accepted t e = by_name t (all_passed t refusal_order e)

-- and what fails no test is accepted
pub all_accepted : (t : Tests) → AllPassed t → verdict_of t ≡ Ok tt
unfolding verdict_of
all_accepted t a = simp (a.above, a.zero, a.short, a.ready, a.damaged, a.known, a.owner, a.range, a.held)

-- what is refused failed its own test
pub refused_failed : (t : Tests) (r : Refusal) → verdict_of t ≡ Err r → failed t r ≡ true
refused_failed t r e = (refused_first t r e).fails
