-- A choice that came out true, or false, and an option that is not None. Assumes nothing.
use mathlib.Core.Path.{◌≡◌, refl}
use mathlib.Core.Bool.{Bool, true, false, cond}
use Rattle.std.specs.Prelude.{Option, Some, None, is_none, IsSome}

-- true, where one side is false
pub both_true : (b : Bool) {x : Bool} → cond b x false ≡ true → (b ≡ true) × (x ≡ true)
both_true true e = (refl, e)
both_true false e = (e, cc)

pub second_true : (b : Bool) {x : Bool} → cond b false x ≡ true → (b ≡ false) × (x ≡ true)
second_true true e = (cc, cc)
second_true false e = (refl, e)

-- false, where one side is true
pub both_false : (b : Bool) {x : Bool} → cond b true x ≡ false → (b ≡ false) × (x ≡ false)
both_false true e = (cc, cc)
both_false false e = (refl, e)

pub not_none : {A : Type 0} (o : Option A) → is_none o ≡ false → IsSome o
not_none None e = cc
not_none (Some a) e = refl
