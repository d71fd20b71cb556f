-- What a record's bytes leave. Assumes nothing.
use Prim.Native.Nat.{ℕ, zero, suc, ◌+◌, ◌*◌, ◌≤◌, ◌<◌}
use mathlib.Core.Path.{◌≡◌, refl, sym, ◌∙◌, ap}
use mathlib.Core.Bool.{Bool, true, false, not}
use mathlib.Core.List.{List, [], ◌∷◌}
use native.Mathlib.Omega.{arith}
use lib.Dec.{eqb}
use lib.ListN.{length, get_or, drop, drop_of_length-le}
use lib.Seq.{drop-cons}
use Rattle.byte_numbers.specs.Numbers.{le4, le8}
use Rattle.unique_index_set_enums.specs.declared.OwnerId.{OwnerId}
use Rattle.unique_index_set_enums.specs.Kinds.{owner}
use Rattle.thread_records.specs.declared.Record.{Record}
use Rattle.record_bytes.specs.Layout.{Fits, dead_number, narrow_fields, middle_fields, wide_fields, laid_at, record_at}
use Rattle.record_bytes.specs.Stored.{stored_all}
use Rattle.record_bytes.proofs.Stores.{loaded, length-stored_all, all_below, all_above, all_loaded, loaded_same}

pub length_laid : (l : List ℕ) (at : ℕ) (t : Record) → length (laid_at l at t) ≡ length l
unfolding laid_at
length_laid l at t =
    let a : List ℕ = stored_all 1 l at (narrow_fields t) in
    let b : List ℕ = stored_all 4 a (at + 4) (middle_fields t) in
    length-stored_all 8 b (at + 28) (wide_fields t) ∙ (length-stored_all 4 a (at + 4) (middle_fields t) ∙ length-stored_all 1 l at (narrow_fields t))

-- what stands outside a record's bytes stays
pub laid_before : (l : List ℕ) (at : ℕ) (t : Record) (i : ℕ) → i < at → get_or (laid_at l at t) i 0 ≡ get_or l i 0
unfolding laid_at
laid_before l at t i h =
    let a : List ℕ = stored_all 1 l at (narrow_fields t) in
    let b : List ℕ = stored_all 4 a (at + 4) (middle_fields t) in
    all_below 8 b (at + 28) (wide_fields t) i (omega (arith, h))
    ∙ (all_below 4 a (at + 4) (middle_fields t) i (omega (arith, h)) ∙ all_below 1 l at (narrow_fields t) i h)

pub laid_behind : (l : List ℕ) (at : ℕ) (t : Record) (i : ℕ) → at + 132 ≤ i → get_or (laid_at l at t) i 0 ≡ get_or l i 0
unfolding laid_at
laid_behind l at t i h =
    let a : List ℕ = stored_all 1 l at (narrow_fields t) in
    let b : List ℕ = stored_all 4 a (at + 4) (middle_fields t) in
    all_above 8 b (at + 28) (wide_fields t) i (omega (arith, h))
    ∙ (all_above 4 a (at + 4) (middle_fields t) i (omega (arith, h)) ∙ all_above 1 l at (narrow_fields t) i (omega (arith, h)))

-- four and eight bytes
pub le4-loaded : (l : List ℕ) (at : ℕ) → le4 l at ≡ loaded l at 4
unfolding le4 loaded
le4-loaded l at = let e : at + 1 + 1 ≡ at + 2 = omega arith in rw e (omega arith)

pub le8-loaded : (l : List ℕ) (at : ℕ) → le8 l at ≡ loaded l at 8
unfolding le8 le4 loaded
le8-loaded l at =
    let e : at + 1 + 1 ≡ at + 2 = omega arith in
    let f : at + 2 + 1 + 1 ≡ at + 4 = omega arith in
    let g : at + 4 + 1 + 1 ≡ at + 4 + 2 = omega arith in
    rw e (rw f (rw g (omega arith)))

one_loaded : (l : List ℕ) (at : ℕ) → get_or l at 0 ≡ loaded l at 1
unfolding loaded
one_loaded l at = omega arith

-- each field is read as it was laid
narrow_read : (l : List ℕ) (at : ℕ) (t : Record) → at + 132 ≤ length l → Fits t → (i p : ℕ) → i < 4 → p ≡ at + 1 * i
    → get_or (laid_at l at t) p 0 ≡ get_or (narrow_fields t) i 0
unfolding laid_at
narrow_read l at t room fits i p h e =
    let a : List ℕ = stored_all 1 l at (narrow_fields t) in
    let b : List ℕ = stored_all 4 a (at + 4) (middle_fields t) in
    all_below 8 b (at + 28) (wide_fields t) p (omega (arith, h, e))
    ∙ (all_below 4 a (at + 4) (middle_fields t) p (omega (arith, h, e))
    ∙ (one_loaded a p
    ∙ (ap (λ (q : ℕ). loaded a q 1) e ∙ all_loaded 1 l at (narrow_fields t) i fits.narrow (omega (arith, room)) h)))

middle_read : (l : List ℕ) (at : ℕ) (t : Record) → at + 132 ≤ length l → Fits t → (i p : ℕ) → i < 6 → p ≡ at + 4 + 4 * i
    → le4 (laid_at l at t) p ≡ get_or (middle_fields t) i 0
unfolding laid_at
middle_read l at t room fits i p h e =
    let a : List ℕ = stored_all 1 l at (narrow_fields t) in
    let b : List ℕ = stored_all 4 a (at + 4) (middle_fields t) in
    le4-loaded (stored_all 8 b (at + 28) (wide_fields t)) p
    ∙ (loaded_same (stored_all 8 b (at + 28) (wide_fields t)) b p 4
    (λ (j : ℕ) u w. all_below 8 b (at + 28) (wide_fields t) j (omega (arith, u, h, e)))
    ∙ (ap (λ (q : ℕ). loaded b q 4) e
    ∙ all_loaded 4 a (at + 4) (middle_fields t) i fits.middle (omega (arith, room, length-stored_all 1 l at (narrow_fields t))) h))

wide_read : (l : List ℕ) (at : ℕ) (t : Record) → at + 132 ≤ length l → Fits t → (i p : ℕ) → i < 13 → p ≡ at + 28 + 8 * i
    → le8 (laid_at l at t) p ≡ get_or (wide_fields t) i 0
unfolding laid_at
wide_read l at t room fits i p h e =
    let a : List ℕ = stored_all 1 l at (narrow_fields t) in
    let b : List ℕ = stored_all 4 a (at + 4) (middle_fields t) in
    le8-loaded (stored_all 8 b (at + 28) (wide_fields t)) p
    ∙ (ap (λ (q : ℕ). loaded (stored_all 8 b (at + 28) (wide_fields t)) q 8) e
    ∙ all_loaded 8 b (at + 28) (wide_fields t) i fits.wide
    (omega (arith, room, length-stored_all 4 a (at + 4) (middle_fields t), length-stored_all 1 l at (narrow_fields t)))
    h)

dead_read : (d : Bool) → not (eqb (dead_number d) 0) ≡ d
dead_read true = refl
dead_read false = refl

-- eight owners, each by its place
abbrev owners_from : List OwnerId → ℕ → ℕ → List OwnerId
owners_from os k zero = []
owners_from os k (suc n) = owner (get_or os k (owner 0)).0 ∷ owners_from os (k + 1) n

owners_from_lem : (os : List OwnerId) (k n : ℕ) → length os ≡ k + n → owners_from os k n ≡ drop k os
owners_from_lem os k zero e = sym (drop_of_length-le os {i = k} (omega (arith, e)))
owners_from_lem os k (suc n) e =
    let f : k + 1 ≡ suc k = omega arith in
    ap (λ (r : List OwnerId). owner (get_or os k (owner 0)).0 ∷ r)
    (owners_from_lem os (k + 1) n (omega (arith, e)) ∙ ap (λ (j : ℕ). drop j os) f)
    ∙ sym (drop-cons os k (owner 0) (omega (arith, e)))

-- the codec, there and back
pub read_laid : (l : List ℕ) (at : ℕ) (t : Record) → at + 132 ≤ length l → Fits t → record_at (laid_at l at t) at ≡ t
unfolding record_at
read_laid l at t room fits =
    let narrow = narrow_read l at t room fits in
    let middle = middle_read l at t room fits in
    let wide = wide_read l at t room fits in
    let dead = narrow 0 at (omega arith) (omega arith) in
    let place = narrow 1 (at + 1) (omega arith) (omega arith) in
    let mode = narrow 2 (at + 2) (omega arith) (omega arith) in
    let count = narrow 3 (at + 3) (omega arith) (omega arith) in
    let index = middle 0 (at + 4) (omega arith) (omega arith) in
    let value = middle 1 (at + 8) (omega arith) (omega arith) in
    let reported = middle 2 (at + 12) (omega arith) (omega arith) in
    let room = middle 3 (at + 16) (omega arith) (omega arith) in
    let cell = middle 4 (at + 20) (omega arith) (omega arith) in
    let counted = middle 5 (at + 24) (omega arith) (omega arith) in
    let seen = wide 0 (at + 28) (omega arith) (omega arith) in
    let owner = wide 1 (at + 36) (omega arith) (omega arith) in
    let generation = wide 2 (at + 44) (omega arith) (omega arith) in
    let counted-at = wide 3 (at + 52) (omega arith) (omega arith) in
    let bump = wide 4 (at + 60) (omega arith) (omega arith) in
    let owner0 = wide 5 (at + 68) (omega arith) (omega arith) in
    let owner1 = wide 6 (at + 76) (omega arith) (omega arith) in
    let owner2 = wide 7 (at + 84) (omega arith) (omega arith) in
    let owner3 = wide 8 (at + 92) (omega arith) (omega arith) in
    let owner4 = wide 9 (at + 100) (omega arith) (omega arith) in
    let owner5 = wide 10 (at + 108) (omega arith) (omega arith) in
    let owner6 = wide 11 (at + 116) (omega arith) (omega arith) in
    let owner7 = wide 12 (at + 124) (omega arith) (omega arith) in
    simp (dead, place, mode, count, index, value, reported, room, cell, counted, seen, owner, generation, counted-at, bump, owner0, owner1, owner2, owner3, owner4, owner5, owner6, owner7, dead_read t.dead)
    (ap (λ (os : List OwnerId). record { dead = t.dead; call = t.call; list = record { count = t.list.count; owners = os } }) (owners_from_lem t.list.owners 0 8 fits.eight))
