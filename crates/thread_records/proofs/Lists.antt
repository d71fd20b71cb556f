-- The library's search of a list, and its fill, in the words of specs/. Assumes nothing.
use Prim.Native.Nat.{ℕ, zero, suc, ◌≤◌, ◌<◌}
use mathlib.Core.Path.{◌≡◌, refl, ap, ◌∙◌}
use mathlib.Core.Bool.{Bool, true, false, cond}
use mathlib.Core.List.{List, [], ◌∷◌, ◌++◌}
use native.Mathlib.Omega.{arith}
use lib.Dec.{lit<}
use borrow.Rule.Slice.PartMut.{put_mid}
use Rattle.std.proofs.Common.{length, take, drop}
use Rattle.std.proofs.Math.ListN.{get_or, replicate}
use Rattle.std.proofs.lemmas.Bool.{ltb-true, ltb-false}
use Rattle.std.proofs.lemmas.List.{append-nil, drop_all, length-drop, length-take-le, length-append, length-replicate, get_or_append_left, get_or-append_right, get_or-take, get_or-replicate}
use Rattle.std.proofs.Math.Seq.{take-suc}
use Rattle.std.proofs.lemmas.List.Folds.{list_any-append}
use Rattle.std.specs.Prelude.{◌==◌, ◌||◌, ◌-◌, ltb}
use Rattle.std.specs.List.{list_any}
use Rattle.unique_index_set_enums.specs.declared.OwnerId.{OwnerId}
use Rattle.unique_index_set_enums.specs.Kinds.{owner}
use Rattle.thread_records.specs.declared.OwnerList.{OwnerList}
use Rattle.thread_records.specs.Lists.{among_first, owners_counted, listed, owner_within, written_list}

counted_most : (n : ℕ) → owners_counted n ≤ 8
unfolding owners_counted
counted_most n = grind arith

or_flip : (a x : Bool) → (a || (x || false)) ≡ cond x true a
or_flip true true = refl
or_flip true false = refl
or_flip false true = refl
or_flip false false = refl

any_first : (n : ℕ) (os : List OwnerId) (o : OwnerId) → n ≤ length os → list_any (λ y. y.0 == o.0) (take n os) ≡ among_first n os o
unfolding among_first
any_first zero os o h = refl
any_first (suc n) os o h =
    let h1 : n < length os = omega arith in
    rw (take-suc os n (owner 0) h1, list_any-append (λ y. y.0 == o.0) (take n os) (get_or os n (owner 0) ∷ []), any_first n os o (omega arith)) (or_flip _ _)

pub any_listed : (list : OwnerList) (o : OwnerId) (n : ℕ) (found : Bool) → length list.owners ≡ 8 → n ≡ owners_counted list.count
    → found ≡ list_any (λ y. y.0 == o.0) (take n list.owners) → found ≡ listed list o
unfolding listed
any_listed list o n found h k f = f ∙ rw k (any_first (owners_counted list.count) list.owners o (rw h (counted_most list.count)))

-- a list of 8, owner by owner
by_owners : (os : List OwnerId) → length os ≡ 8
    → os ≡ get_or os 0 (owner 0) ∷ get_or os 1 (owner 0) ∷ get_or os 2 (owner 0) ∷ get_or os 3 (owner 0) ∷ get_or os 4 (owner 0) ∷ get_or os 5 (owner 0) ∷ get_or os 6 (owner 0) ∷ get_or os 7 (owner 0) ∷ []
by_owners [] l = absurd (omega arith)
by_owners (a ∷ []) l = absurd (omega arith)
by_owners (a ∷ b ∷ []) l = absurd (omega arith)
by_owners (a ∷ b ∷ c ∷ []) l = absurd (omega arith)
by_owners (a ∷ b ∷ c ∷ d ∷ []) l = absurd (omega arith)
by_owners (a ∷ b ∷ c ∷ d ∷ e ∷ []) l = absurd (omega arith)
by_owners (a ∷ b ∷ c ∷ d ∷ e ∷ f ∷ []) l = absurd (omega arith)
by_owners (a ∷ b ∷ c ∷ d ∷ e ∷ f ∷ g ∷ []) l = absurd (omega arith)
by_owners (a ∷ b ∷ c ∷ d ∷ e ∷ f ∷ g ∷ h ∷ []) l = refl
by_owners (a ∷ b ∷ c ∷ d ∷ e ∷ f ∷ g ∷ h ∷ i ∷ os) l = absurd (omega arith)

above : (count i : ℕ) → i < count → i < 8 → i < owners_counted count
unfolding owners_counted
above count i k h = grind arith

beyond : (count i : ℕ) → count ≤ i → i < 8 → owners_counted count ≤ i
unfolding owners_counted
beyond count i k h = grind arith

module _ (list : OwnerList) (l : length list.owners ≡ 8) where
  abbrev made : List OwnerId
  made = take (owners_counted list.count) list.owners ++ replicate (8 - owners_counted list.count) (owner 0)

  taken : length (take (owners_counted list.count) list.owners) ≡ owners_counted list.count
  taken = length-take-le (owners_counted list.count) list.owners (rw l (counted_most list.count))

  at_or : (i : ℕ) (b : Bool) → ltb i list.count ≡ b → i < 8 → get_or made i (owner 0) ≡ cond b (get_or list.owners i (owner 0)) (owner 0)
  at_or i true e h =
      let k : i < owners_counted list.count = above list.count i (ltb-true i list.count e) h in
      get_or_append_left (take (owners_counted list.count) list.owners) (replicate (8 - owners_counted list.count) (owner 0)) (owner 0) i (rw taken k) ∙ get_or-take (owners_counted list.count) list.owners i (owner 0) k
  at_or i false e h =
      let k : owners_counted list.count ≤ i = beyond list.count i (ltb-false i list.count e) h in
      get_or-append_right (take (owners_counted list.count) list.owners) (replicate (8 - owners_counted list.count) (owner 0)) (owners_counted list.count) i (owner 0) taken k
      ∙ get_or-replicate (8 - owners_counted list.count) (i - owners_counted list.count) (owner 0) (owner 0) (omega arith)

  at : (i : ℕ) → i < 8 → get_or made i (owner 0) ≡ owner_within list i
  unfolding owner_within
  at i h = at_or i (ltb i list.count) refl h

  made-length : length made ≡ 8
  made-length =
      let k : owners_counted list.count ≤ 8 = counted_most list.count in
      rw (length-append (take (owners_counted list.count) list.owners) (replicate (8 - owners_counted list.count) (owner 0)), taken, length-replicate (8 - owners_counted list.count) (owner 0)) (omega arith)

  written : made ≡ (written_list list).owners
  written = by_owners made made-length ∙ simp (at 0 (lit< tt), at 1 (lit< tt), at 2 (lit< tt), at 3 (lit< tt), at 4 (lit< tt), at 5 (lit< tt), at 6 (lit< tt), at 7 (lit< tt))

pub written_filled : (list : OwnerList) (n : ℕ) (zeros : List OwnerId) → length list.owners ≡ 8 → n ≡ owners_counted list.count
    → zeros ≡ replicate (length list.owners - n) (owner 0)
    → ◌≡◌ {A = OwnerList} (record { count = list.count; owners = put_mid n (length list.owners - n) list.owners zeros }) (written_list list)
written_filled list n zeros l k z =
    let d : drop (length list.owners - n) (drop n list.owners) ≡ [] = drop_all (length list.owners - n) (drop n list.owners) (omega (arith, length-drop n list.owners)) in
    let e : zeros ++ drop (length list.owners - n) (drop n list.owners) ≡ replicate (8 - owners_counted list.count) (owner 0) = rw (d, z, append-nil, l, k) refl in
    let w : take n list.owners ++ (zeros ++ drop (length list.owners - n) (drop n list.owners)) ≡ (written_list list).owners = rw (e, k) (written list l) in
    ap {B = OwnerList} (λ (os : List OwnerId). record { count = list.count; owners = os }) w
