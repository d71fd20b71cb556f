-- However a schedule's bytes are cut: a whole entry stays what it is where more bytes come, with the rest longer by just these; what is no entry stays
-- none. So only `Cut` waits for more. Assumes nothing.
use Prim.Native.Nat.{ℕ, ◌+◌, ◌*◌, ◌-◌, ◌/◌, ◌%◌, ◌<◌, ◌≤◌}
use mathlib.Core.Path.{◌≡◌, refl, sym, ap, ◌∙◌}
use mathlib.Core.Bool.{Bool, true, false, cond}
use mathlib.Core.List as list
use Rattle.std.specs.Prelude.{Result, Ok, Err}
use mathlib.Core.List.{◌∷◌, ◌++◌, append_assoc}
use native.Mathlib.Omega.{arith}
use borrow.Author.Tests.{ltb-false, le-ltb}
use lib.Dec.{ltb}
use lib.ListN.{get_or-append, length, get_or, drop, length-append, length-drop}
use lib.Seq.{length-take-le}
use Rattle.schedule.specs.declared.ListEntry.{ListEntry}
use Rattle.schedule.specs.declared.Entry.{Entry}
use Rattle.schedule.specs.declared.Entry.TheVariants.{Setup, Start, Step, Death, List}
use Rattle.schedule.specs.declared.NoEntry.{NoEntry}
use Rattle.schedule.specs.declared.NoEntry.TheVariants.{Bad, Cut}
use Rattle.schedule.specs.declared.kinds.Kind.{Kind}
use Rattle.schedule.specs.declared.kinds.Kind.TheVariants as kind
use Rattle.byte_numbers.specs.Numbers.{le2, le4, le8}
use Rattle.schedule.specs.Format.{kind_of, right_length, lacks_count, body_of, whole_of, headed_of, kinded_of, entry_of, is_whole, rest_of, owners_end, owners_of, first_owners}
use Rattle.schedule.specs.Written.{written, InWidth, Bytes}
use Rattle.schedule.proofs.Laws.{no, entry_is, Whole, whole, list_counts, list_fits}
use Rattle.schedule.proofs.Written.{read_written, rest_written, owners_written, written_read}

written_append : (e : Entry) (owners r t : list.List ℕ) → written e owners r ++ t ≡ written e owners (r ++ t)
written_append (Setup e) owners r t = refl
written_append (Start e) owners r t = refl
written_append (Step who) owners r t = refl
written_append (Death who) owners r t = refl
written_append (List e) owners r t = ap (λ (z : list.List ℕ). (4 + 8 * e.count) % 256 ∷ (4 + 8 * e.count) / 256 ∷ 5 ∷ 0 ∷ e.who.0 ∷ e.count ∷ z) (append_assoc owners r t)

module _ (s : list.List ℕ) (bytes : Bytes s) where
  owners_long : (e : ListEntry) → entry_of s ≡ Ok (List e) → length (owners_of s) ≡ 8 * e.count
  unfolding owners_of owners_end
  owners_long e is =
      let c : get_or s 5 0 ≡ e.count = sym (list_counts s e is) in
      let z : 6 + 8 * e.count - 6 ≡ 8 * e.count = omega arith in
      simp (is, c, z) (length-take-le (8 * e.count) (drop 6 s) (omega (arith, length-drop 6 s, list_fits s e is)))

  -- what is read is of its width
  width_by : (k : Kind) → entry_of s ≡ Ok (body_of s k) → InWidth (body_of s k) (owners_of s)
  unfolding le4 le8
  width_by kind.Setup is = omega (arith, bytes 6, bytes 7, bytes 8, bytes 9)
  width_by kind.Start is = (
    omega (arith, bytes 6, bytes 7, bytes 8, bytes 9),
    omega (arith, bytes 10, bytes 11, bytes 12, bytes 13, bytes 14, bytes 15, bytes 16, bytes 17),
  )
  width_by kind.Step is = tt
  width_by kind.Death is = tt
  width_by kind.List is = (bytes 5, owners_long _ is)

  module _ (e : Entry) (is : entry_of s ≡ Ok e) where
    abbrev W : Whole s
    W = whole s (ap is_whole is)

    in_width : InWidth e (owners_of s)
    in_width = rw (entry_is s e (body_of s W.kind) is W.is) (width_by W.kind W.is)

    longer : (t : list.List ℕ) → s ++ t ≡ written e (owners_of s) (rest_of s ++ t)
    longer t = ap (λ (z : list.List ℕ). z ++ t) (sym (written_read s bytes e is)) ∙ written_append e (owners_of s) (rest_of s) t

    entry_stays : (t : list.List ℕ) → entry_of (s ++ t) ≡ Ok e
    entry_stays t = ap entry_of (longer t) ∙ read_written e (owners_of s) (rest_of s ++ t) in_width

    rest_longer : (t : list.List ℕ) → rest_of (s ++ t) ≡ rest_of s ++ t
    rest_longer t = ap rest_of (longer t) ∙ rest_written e (owners_of s) (rest_of s ++ t) in_width

  by_entry : (r : Result Entry NoEntry) → entry_of s ≡ r → is_whole r ≡ true → (t : list.List ℕ) → (entry_of (s ++ t) ≡ r) × (rest_of (s ++ t) ≡ rest_of s ++ t)
  by_entry (Ok e) is w t = (entry_stays e is t, rest_longer e is t)
  by_entry (Err why) is w t = no w

  module _ (w : is_whole (entry_of s) ≡ true) where
    pub whole_stays : (t : list.List ℕ) → entry_of (s ++ t) ≡ entry_of s
    whole_stays t = (by_entry (entry_of s) refl w t).0

    pub rest_grows : (t : list.List ℕ) → rest_of (s ++ t) ≡ rest_of s ++ t
    rest_grows t = (by_entry (entry_of s) refl w t).1

    pub owners_stay : (e : ListEntry) → entry_of s ≡ Ok (List e) → (t : list.List ℕ) → first_owners (s ++ t) ≡ first_owners s
    unfolding first_owners
    owners_stay e is t = simp (ap owners_of (longer (List e) is t) ∙ owners_written e (owners_of s) (rest_of s ++ t) (in_width (List e) is))

-- ---- what is no entry
abbrev pub is_bad : Result Entry NoEntry → Bool
is_bad (Ok e) = false
is_bad (Err Bad) = true
is_bad (Err Cut) = false

cut : (b : Bool) (e : Result Entry NoEntry) → is_bad (cond b (Err Cut) e) ≡ true → (b ≡ false) × (is_bad e ≡ true)
cut true e w = no w
cut false e w = (refl, w)

wrong : (b : Bool) (e : Result Entry NoEntry) → is_bad e ≡ false → is_bad (cond b e (Err Bad)) ≡ true → b ≡ false
wrong true e n w = no (sym n ∙ w)
wrong false e n w = refl

whole_good : (s : list.List ℕ) (len : ℕ) (kind : Kind) → is_bad (whole_of s len kind) ≡ false
unfolding whole_of
whole_good s len kind = good (ltb (length s) (2 + len)) (body_of s kind)
  where
    good : (a : Bool) (e : Entry) → is_bad (cond a (Err Cut) (Ok e)) ≡ false
    good true e = refl
    good false e = refl

module _ (s t : list.List ℕ) where
  same_byte : (i : ℕ) → i < length s → get_or (s ++ t) i 0 ≡ get_or s i 0
  same_byte i h = get_or-append s t 0 i h

  -- the sixth byte is looked at for a list alone, and then it is there
  count_same : (k : Kind) (len : ℕ) → lacks_count k (length s) ≡ false
      → (right_length k len (get_or (s ++ t) 5 0) ≡ right_length k len (get_or s 5 0)) × (lacks_count k (length (s ++ t)) ≡ false)
  count_same kind.Setup len l = (refl, refl)
  count_same kind.Start len l = (refl, refl)
  count_same kind.Step len l = (refl, refl)
  count_same kind.Death len l = (refl, refl)
  count_same kind.List len l =
      let g : 6 ≤ length s = ltb-false _ _ l in
      (simp (same_byte 5 g), le-ltb (length (s ++ t)) 6 (omega (arith, length-append s t, g)))

  kind_stays : (r : Result Kind NoEntry) → kind_of (le2 s 2) ≡ r → is_bad (kinded_of s r) ≡ true → 4 ≤ length s → kinded_of (s ++ t) r ≡ Err Bad
  unfolding headed_of
  kind_stays (Err Bad) known w g = refl
  kind_stays (Err Cut) known w g = no w
  kind_stays (Ok k) known w g =
      let b = cut (lacks_count k (length s)) _ w in
      let c = wrong (right_length k (le2 s 0) (get_or s 5 0)) (whole_of s (le2 s 0) k) (whole_good s (le2 s 0) k) b.1 in
      let d = count_same k (le2 s 0) b.0 in
      let e0 = same_byte 0 (omega (arith, g)) in
      let e1 = same_byte 1 (omega (arith, g)) in
      simp (e0, e1, d.1, d.0, c)

  pub bad_stays : is_bad (entry_of s) ≡ true → entry_of (s ++ t) ≡ Err Bad
  unfolding entry_of
  bad_stays w =
      let a = cut (ltb (length s) 4) (kinded_of s (kind_of (le2 s 2))) w in
      let g : 4 ≤ length s = ltb-false _ _ a.0 in
      let e2 = same_byte 2 (omega (arith, g)) in
      let e3 = same_byte 3 (omega (arith, g)) in
      simp (e2, e3, le-ltb (length (s ++ t)) 4 (omega (arith, length-append s t, g))) (kind_stays (kind_of (le2 s 2)) refl a.1 g)
