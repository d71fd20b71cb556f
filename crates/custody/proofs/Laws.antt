-- A custody entry's round trips: an entry that is made stands for what it was made of, and an entry that stands for something is
-- what is made of that. Assumes nothing.
use Prim.Native.Nat.{ℕ, ◌<◌, ◌/◌}
use mathlib.Core.Path.{◌≡◌, refl, subst}
use mathlib.Core.Bool.{false, cond}
use native.Mathlib.Omega.{arith}
use lib.Dec.{eqb, lit<}
use borrow.Author.Tests.{ne_eqb, eqb-true}
use Rattle.std.specs.Prelude.{Result, Ok, Err}
use Rattle.std.proofs.lemmas.Bool.{cond_both}
use Rattle.unique_index_set_enums.specs.Kinds.{record_number}
use Rattle.custody.specs.declared.Custody.{Custody}
use Rattle.custody.specs.declared.Custody.TheVariants.{Free, Granting, Held, Giving}
use Rattle.custody.specs.declared.UnknownEntry.{UnknownEntry}
use Rattle.custody.specs.Entry.{owned_by, entry_of, kind_of, holder_of, giver_of, unknown, custody_of}

-- the record numbers in it are bytes
abbrev pub Fits : Custody → Type 0
Fits Free = Unit {0}
Fits (Granting who) = who.0 < 256
Fits (Held holder) = holder.0 < 256
Fits (Giving holder giver) = (holder.0 < 256) × (giver.0 < 256)

module _ (k h g : ℕ) (k' : k < 256) (h' : h < 256) (g' : g < 256) where
  kind : kind_of (owned_by k h g) ≡ k
  kind = omega arith

  holder : holder_of (owned_by k h g) ≡ h
  holder = omega arith

  giver : giver_of (owned_by k h g) ≡ g
  giver = omega arith

  top : owned_by k h g / 0x100_0000 ≡ 0
  top = omega arith

  pub made : 0 < k → custody_of (owned_by k h g) ≡ cond (eqb k 3) (Ok (Giving (record_number h) (record_number g)))
      (cond (eqb g 0) (cond (eqb k 1) (Ok (Granting (record_number h))) (cond (eqb k 2) (Ok (Held (record_number h))) (unknown (owned_by k h g)))) (unknown (owned_by k h g)))
  unfolding custody_of
  made p =
      let z : eqb (owned_by k h g) 0 ≡ false = ne_eqb _ _ (λ (q : owned_by k h g ≡ 0). omega arith) in
      simp (z, kind, holder, giver, top)

pub custody_entry : (c : Custody) → Fits c → custody_of (entry_of c) ≡ Ok c
unfolding custody_of
custody_entry Free f = refl
custody_entry (Granting who) f = made 1 who.0 0 (lit< tt) f (lit< tt) (lit< tt)
custody_entry (Held holder) f = made 2 holder.0 0 (lit< tt) f (lit< tt) (lit< tt)
custody_entry (Giving holder giver) f = made 3 holder.0 giver.0 (lit< tt) f.0 f.1 (lit< tt)

abbrev Made : ℕ → Result Custody UnknownEntry → Type 0
Made e (Ok c) = entry_of c ≡ e
Made e (Err u) = Unit {0}

by_tests : (e : ℕ) → Made e (custody_of e)
unfolding custody_of
by_tests e =
    cond_both (eqb e 0) _ _ (Made e) (λ t. omega (arith, eqb-true e 0 t)) (λ _.
    cond_both (eqb (e / 0x100_0000) 0) _ _ (Made e) (λ t.
    cond_both (eqb (kind_of e) 3) _ _ (Made e) (λ u. omega (arith, eqb-true (e / 0x100_0000) 0 t, eqb-true (kind_of e) 3 u)) (λ _.
    cond_both (eqb (giver_of e) 0) _ _ (Made e) (λ u.
    cond_both (eqb (kind_of e) 1) _ _ (Made e) (λ v. omega (arith, eqb-true (e / 0x100_0000) 0 t, eqb-true (giver_of e) 0 u, eqb-true (kind_of e) 1 v)) (λ _.
    cond_both (eqb (kind_of e) 2) _ _ (Made e) (λ v. omega (arith, eqb-true (e / 0x100_0000) 0 t, eqb-true (giver_of e) 0 u, eqb-true (kind_of e) 2 v)) (λ _. tt)))
    (λ _. tt)))
    (λ _. tt))

pub entry_custody : (e : ℕ) (c : Custody) → custody_of e ≡ Ok c → entry_of c ≡ e
entry_custody e c q = subst (Made e) q (by_tests e)

-- all ones stand for nothing
pub all_ones : custody_of 0xffff_ffff ≡ unknown 0xffff_ffff
unfolding custody_of
all_ones = refl
