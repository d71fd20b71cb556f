-- A run that goes on after its next step. A run is the iterate of its step, as many times as it counts, and at most the budget's.
-- Assumes nothing.
use Prim.Native.Nat.{ℕ, zero, suc, ◌+◌, ◌-◌, ◌≤◌, ◌<◌}
use mathlib.Core.Path.{◌≡◌, refl}
use mathlib.Core.Bool.{Bool, true, false, cond}
use native.Mathlib.Omega.{arith}
use Rattle.calls.specs.Runs.{Run, run_from}

pub run_goes : {A : Type 0} (step : A → A) (going : A → Bool) (b n : ℕ) (a next : A) → next ≡ step a → n < b → going next ≡ true
    → run_from step going (b - n) n a ≡ run_from step going (b - (n + 1)) (n + 1) next
unfolding run_from
run_goes step going b n a next e h g =
    let k : b - n ≡ suc (b - (n + 1)) = omega arith in
    rw k (rw (← e) (rw g refl))

abbrev pub times : {A : Type 0} → ℕ → (A → A) → A → A
times zero step a = a
times (suc n) step a = times n step (step a)

pub record Iterates {A : Type 0} (step : A → A) (b n : ℕ) (a : A) (r : Run A) : Type 0 where
  pub count : ℕ
  pub within : count ≤ b
  pub steps : r.steps ≡ n + count
  pub left : r.left ≡ times count step a

once : {A : Type 0} (step : A → A) (b n : ℕ) (a : A) (r : Run A) → Iterates step b (n + 1) (step a) r → Iterates step (suc b) n a r
once step b n a r i = record { count = suc i.count; within = omega (arith, i.within); steps = omega (arith, i.steps); left = i.left }

iterates_or : {A : Type 0} (step : A → A) (b n : ℕ) (a : A) (g : Bool) (r : Run A) → Iterates step b (n + 1) (step a) r
    → Iterates step (suc b) n a (cond g r (record { left = step a; steps = n + 1 }))
iterates_or step b n a true r i = once step b n a r i
iterates_or step b n a false r i = record { count = 1; within = omega arith; steps = refl; left = refl }

pub run_iterates : {A : Type 0} (step : A → A) (going : A → Bool) (b n : ℕ) (a : A) → Iterates step b n a (run_from step going b n a)
unfolding run_from
run_iterates step going zero n a = record { count = 0; within = omega arith; steps = omega arith; left = refl }
run_iterates step going (suc b) n a = iterates_or step b n a (going (step a)) (run_from step going b (n + 1) (step a)) (run_iterates step going b (n + 1) (step a))
