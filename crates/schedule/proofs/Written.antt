-- The format, both ways: each entry that is written is read, with what stands behind it and a list's owners; and what is read as an entry is that entry,
-- written. Assumes nothing.
use Prim.Native.Nat.{ℕ, zero, suc, ◌+◌, ◌*◌, ◌-◌, ◌/◌, ◌%◌, ◌<◌, ◌≤◌}
use mathlib.Core.Path.{◌≡◌, refl, sym, ap, ◌∙◌}
use mathlib.Core.Bool.{true, false}
use mathlib.Core.List as list
use Rattle.std.specs.Prelude.{Ok}
use mathlib.Core.List.{◌∷◌, ◌++◌}
use native.Mathlib.Omega.{arith}
use borrow.Author.Tests.{le-ltb, eqb-true, eq-eqb}
use lib.Dec.{eqb, ltb}
use lib.ListN.{length, get_or, drop, length-append, take-append-drop}
use lib.Seq.{drop-cons, drop-drop, take-append_seam, drop-append_seam}
use Rattle.unique_index_set_enums.specs.Kinds.{owner}
use Rattle.schedule.specs.declared.StartEntry.{StartEntry}
use Rattle.schedule.specs.declared.ListEntry.{ListEntry}
use Rattle.schedule.specs.declared.Entry.{Entry}
use Rattle.schedule.specs.declared.Entry.TheVariants.{Setup, Start, Step, Death, List}
use Rattle.schedule.specs.declared.kinds.Kind.{Kind}
use Rattle.schedule.specs.declared.kinds.Kind.TheVariants as kind
use Rattle.byte_numbers.specs.Numbers.{le2, le4, le8}
use Rattle.schedule.specs.Format.{kind_of, right_length, body_of, whole_of, headed_of, entry_of, is_whole, is_list, size_of, rest_of, owners_end, owners_of}
use Rattle.schedule.specs.Written.{written4, written8, written, InWidth, Bytes}
use Rattle.schedule.proofs.Laws.{entry_is, kind_number, numbered, Whole, whole}

eqb_same : (n : ℕ) → eqb n n ≡ true
eqb_same n = eq-eqb n n refl

-- two bytes, four and eight
two : (v : ℕ) → v % 256 + 256 * (v / 256) ≡ v
two v = omega arith

four : (v : ℕ) → v < 4294967296 → v % 256 + 256 * (v / 256 % 256) + 65536 * (v / 256 / 256 % 256 + 256 * (v / 256 / 256 / 256 % 256)) ≡ v
four v h = omega (arith, h)

halves : (v lo hi : ℕ) → lo ≡ v % 4294967296 → hi ≡ v / 4294967296 → lo + 4294967296 * hi ≡ v
halves v lo hi p q = omega (arith, p, q)

started : (e : StartEntry) (i o : ℕ) → i ≡ e.request.index_or_room → o ≡ e.request.owner.0
    → Start (record { who = e.who; request = record { call = e.request.call; index_or_room = i; owner = owner o; mode = e.request.mode } }) ≡ Start e
started e i o p q = rw p (rw q refl)

-- each entry that is written is read
pub read_written : (e : Entry) (owners t : list.List ℕ) → InWidth e owners → entry_of (written e owners t) ≡ Ok e
unfolding entry_of headed_of whole_of kind_of le4 le8
read_written (Step who) owners t h =
    let a : ltb (length (written (Step who) owners t)) 4 ≡ false = le-ltb (length (written (Step who) owners t)) 4 (omega arith) in
    let b : ltb (length (written (Step who) owners t)) 5 ≡ false = le-ltb (length (written (Step who) owners t)) 5 (omega arith) in
    simp (a, b)
read_written (Death who) owners t h =
    let a : ltb (length (written (Death who) owners t)) 4 ≡ false = le-ltb (length (written (Death who) owners t)) 4 (omega arith) in
    let b : ltb (length (written (Death who) owners t)) 5 ≡ false = le-ltb (length (written (Death who) owners t)) 5 (omega arith) in
    simp (a, b)
read_written (Setup e) owners t h =
    let a : ltb (length (written (Setup e) owners t)) 4 ≡ false = le-ltb (length (written (Setup e) owners t)) 4 (omega arith) in
    let b : ltb (length (written (Setup e) owners t)) 10 ≡ false = le-ltb (length (written (Setup e) owners t)) 10 (omega arith) in
    simp (a, b)
    (ap (λ (k : ℕ). Ok (Setup (record { set = e.set; records = e.records; capacity = k }))) (four e.capacity h))
read_written (Start e) owners t h =
    let a : ltb (length (written (Start e) owners t)) 4 ≡ false = le-ltb (length (written (Start e) owners t)) 4 (omega arith) in
    let b : ltb (length (written (Start e) owners t)) 19 ≡ false = le-ltb (length (written (Start e) owners t)) 19 (omega arith) in
    simp (a, b)
    (ap Ok (started e _ _ (four e.request.index_or_room h.0)
    (halves e.request.owner.0 _ _ (four (e.request.owner.0 % 4294967296) (omega arith)) (four (e.request.owner.0 / 4294967296) (omega (arith, h.1))))))
read_written (List e) owners t h =
    let l : length (owners ++ t) ≡ length owners + length t = length-append owners t in
    let a : ltb (length (written (List e) owners t)) 4 ≡ false = le-ltb (length (written (List e) owners t)) 4 (omega arith) in
    let d : ltb (length (written (List e) owners t)) 6 ≡ false = le-ltb (length (written (List e) owners t)) 6 (omega arith) in
    let b : ltb (length (written (List e) owners t)) (2 + (4 + 8 * e.count)) ≡ false = le-ltb (length (written (List e) owners t)) (2 + (4 + 8 * e.count)) (omega (arith, l, h.1)) in
    simp (a, d, two (4 + 8 * e.count), eqb_same (4 + 8 * e.count), b)

-- with what stands behind it
pub rest_written : (e : Entry) (owners t : list.List ℕ) → InWidth e owners → rest_of (written e owners t) ≡ t
unfolding rest_of size_of
rest_written (Step who) owners t h = simp (read_written (Step who) owners t h)
rest_written (Death who) owners t h = simp (read_written (Death who) owners t h)
rest_written (Setup e) owners t h = simp (read_written (Setup e) owners t h)
rest_written (Start e) owners t h = simp (read_written (Start e) owners t h)
rest_written (List e) owners t h =
    let z : 2 + (4 + 8 * e.count) ≡ suc (suc (suc (suc (suc (suc (8 * e.count)))))) = omega arith in
    simp (read_written (List e) owners t h, two (4 + 8 * e.count), z) (ap (λ (k : ℕ). drop k (owners ++ t)) (sym h.1) ∙ drop-append_seam owners t)

-- and a list's owners
pub owners_written : (e : ListEntry) (owners t : list.List ℕ) → InWidth (List e) owners → owners_of (written (List e) owners t) ≡ owners
unfolding owners_of owners_end
owners_written e owners t h =
    let l : is_list (entry_of (written (List e) owners t)) ≡ true = ap is_list (read_written (List e) owners t h) in
    let z : 6 + 8 * e.count - 6 ≡ length owners = omega (arith, h.1) in
    simp (l, z) (take-append_seam owners t)

-- ---- the other way. So many bytes from a place on, and what follows
abbrev tab : list.List ℕ → ℕ → ℕ → list.List ℕ → list.List ℕ
tab s k zero t = t
tab s k (suc n) t = get_or s k 0 ∷ tab s (suc k) n t

front : (s : list.List ℕ) (n k : ℕ) → k + n ≤ length s → drop k s ≡ tab s k n (drop (k + n) s)
front s zero k h = let z : k ≡ k + 0 = omega arith in ap (λ (i : ℕ). drop i s) z
front s (suc n) k h =
    let z : suc k + n ≡ k + suc n = omega arith in
    drop-cons s k 0 (omega (arith, h)) ∙ ap (λ (l : list.List ℕ). get_or s k 0 ∷ l) (front s n (suc k) (omega (arith, h)) ∙ ap (λ (i : ℕ). tab s (suc k) n (drop i s)) z)

module _ (a b c d : ℕ) (ha : a < 256) (hb : b < 256) (hc : c < 256) (hd : d < 256) where
  abbrev v : ℕ
  v = a + 256 * b + 65536 * (c + 256 * d)

  back4 : (t : list.List ℕ) → written4 v t ≡ a ∷ b ∷ c ∷ d ∷ t
  back4 t =
      let q : v / 256 ≡ b + 256 * (c + 256 * d) = omega (arith, ha, hb, hc, hd) in
      let r : (b + 256 * (c + 256 * d)) / 256 ≡ c + 256 * d = omega (arith, hb, hc, hd) in
      let u : (c + 256 * d) / 256 ≡ d = omega (arith, hc, hd) in
      let p0 : v % 256 ≡ a = omega (arith, ha, hb, hc, hd) in
      let p1 : (b + 256 * (c + 256 * d)) % 256 ≡ b = omega (arith, hb, hc, hd) in
      let p2 : (c + 256 * d) % 256 ≡ c = omega (arith, hc, hd) in
      let p3 : d % 256 ≡ d = omega (arith, hd) in
      simp (q, r, u, p0, p1, p2, p3)

-- what is read as an entry is that entry, written, with its owners and what follows
module _ (s : list.List ℕ) (bytes : Bytes s) (e : Entry) (is : entry_of s ≡ Ok e) where
  abbrev W : Whole s
  W = whole s (ap is_whole is)

  rest_at : (n : ℕ) → le2 s 0 ≡ n → rest_of s ≡ drop (2 + n) s
  unfolding rest_of size_of
  rest_at n l = simp (is, l)

  -- a number that fits a byte is in the lower of two
  low : (i n : ℕ) → n < 256 → le2 s i ≡ n → (get_or s i 0 ≡ n) × (get_or s (i + 1) 0 ≡ 0)
  low i n h e = (omega (arith, bytes i, bytes (i + 1), h, e), omega (arith, bytes i, bytes (i + 1), h, e))

  -- the five bytes of a step or a death, by its kind
  five_back : (kind : ℕ) → kind < 256 → le2 s 2 ≡ kind → le2 s 0 ≡ 3 → 3 ∷ 0 ∷ kind ∷ 0 ∷ get_or s 4 0 ∷ rest_of s ≡ s
  five_back kind h k l =
      let f : 5 ≤ length s = omega (arith, W.fits, l) in
      let a = low 0 3 (omega arith) l in
      let b = low 2 kind h k in
      simp (rest_at 3 l) (sym (front s 5 0 f ∙ simp (a.0, a.1, b.0, b.1)))

  setup_back : le2 s 2 ≡ 1 → le2 s 0 ≡ 8 → 8 ∷ 0 ∷ 1 ∷ 0 ∷ get_or s 4 0 ∷ get_or s 5 0 ∷ written4 (le4 s 6) (rest_of s) ≡ s
  unfolding le4
  setup_back k l =
      let f : 10 ≤ length s = omega (arith, W.fits, l) in
      let a = low 0 8 (omega arith) l in
      let b = low 2 1 (omega arith) k in
      simp (rest_at 8 l) (ap (λ (z : list.List ℕ). 8 ∷ 0 ∷ 1 ∷ 0 ∷ get_or s 4 0 ∷ get_or s 5 0 ∷ z) (back4 _ _ _ _ (bytes 6) (bytes 7) (bytes 8) (bytes 9) (drop 10 s))
      ∙ sym (front s 10 0 f ∙ simp (a.0, a.1, b.0, b.1)))

  owner_back : (t : list.List ℕ) → written8 (le8 s 10) t ≡ tab s 10 8 t
  unfolding le4 le8
  owner_back t =
      let m : le8 s 10 % 4294967296 ≡ le4 s 10 = omega (arith, bytes 10, bytes 11, bytes 12, bytes 13) in
      let n : le8 s 10 / 4294967296 ≡ le4 s 14 = omega (arith, bytes 10, bytes 11, bytes 12, bytes 13) in
      simp (m, n) (back4 _ _ _ _ (bytes 10) (bytes 11) (bytes 12) (bytes 13) (written4 (le4 s 14) t)
      ∙ ap (λ (z : list.List ℕ). get_or s 10 0 ∷ get_or s 11 0 ∷ get_or s 12 0 ∷ get_or s 13 0 ∷ z) (back4 _ _ _ _ (bytes 14) (bytes 15) (bytes 16) (bytes 17) t))

  start_back : le2 s 2 ≡ 2 → le2 s 0 ≡ 17 → 17 ∷ 0 ∷ 2 ∷ 0 ∷ get_or s 4 0 ∷ get_or s 5 0 ∷ written4 (le4 s 6) (written8 (le8 s 10) (get_or s 18 0 ∷ rest_of s)) ≡ s
  unfolding le4
  start_back k l =
      let f : 19 ≤ length s = omega (arith, W.fits, l) in
      let a = low 0 17 (omega arith) l in
      let b = low 2 2 (omega arith) k in
      simp (rest_at 17 l) (ap (λ (z : list.List ℕ). 17 ∷ 0 ∷ 2 ∷ 0 ∷ get_or s 4 0 ∷ get_or s 5 0 ∷ z)
      (back4 _ _ _ _ (bytes 6) (bytes 7) (bytes 8) (bytes 9) (written8 (le8 s 10) (get_or s 18 0 ∷ drop 19 s))
      ∙ ap (λ (z : list.List ℕ). get_or s 6 0 ∷ get_or s 7 0 ∷ get_or s 8 0 ∷ get_or s 9 0 ∷ z) (owner_back (get_or s 18 0 ∷ drop 19 s)))
      ∙ sym (front s 19 0 f ∙ simp (a.0, a.1, b.0, b.1)))

  list_back : le2 s 2 ≡ 5 → le2 s 0 ≡ 4 + 8 * get_or s 5 0 → is_list (entry_of s) ≡ true
      → (4 + 8 * get_or s 5 0) % 256 ∷ (4 + 8 * get_or s 5 0) / 256 ∷ 5 ∷ 0 ∷ get_or s 4 0 ∷ get_or s 5 0 ∷ owners_of s ++ rest_of s ≡ s
  unfolding owners_of owners_end
  list_back k l i =
      let f : 6 ≤ length s = omega (arith, W.fits, l) in
      let b = low 2 5 (omega arith) k in
      let p : (4 + 8 * get_or s 5 0) % 256 ≡ get_or s 0 0 = omega (arith, l, bytes 0) in
      let q : (4 + 8 * get_or s 5 0) / 256 ≡ get_or s 1 0 = omega (arith, l, bytes 0) in
      let z : 6 + 8 * get_or s 5 0 - 6 ≡ 8 * get_or s 5 0 = omega arith in
      let x : 2 + (4 + 8 * get_or s 5 0) ≡ 6 + 8 * get_or s 5 0 = omega arith in
      let y : drop (2 + (4 + 8 * get_or s 5 0)) s ≡ drop (8 * get_or s 5 0) (drop 6 s) = ap (λ (j : ℕ). drop j s) x ∙ sym (drop-drop (8 * get_or s 5 0) 6 s) in
      simp (rest_at _ l, i, z, y, p, q, take-append-drop (8 * get_or s 5 0) (drop 6 s)) (sym (front s 6 0 f ∙ simp (b.0, b.1)))

  -- by its kind
  by_kind : (k : Kind) → le2 s 2 ≡ kind_number k → right_length k (le2 s 0) (get_or s 5 0) ≡ true → entry_of s ≡ Ok (body_of s k) → written (body_of s k) (owners_of s) (rest_of s) ≡ s
  by_kind kind.Setup n r i = setup_back n (eqb-true _ _ r)
  by_kind kind.Start n r i = start_back n (eqb-true _ _ r)
  by_kind kind.Step n r i = five_back 3 (omega arith) n (eqb-true _ _ r)
  by_kind kind.Death n r i = five_back 4 (omega arith) n (eqb-true _ _ r)
  by_kind kind.List n r i = list_back n (eqb-true _ _ r) (ap is_list i)

  pub written_read : written e (owners_of s) (rest_of s) ≡ s
  written_read = ap (λ (x : Entry). written x (owners_of s) (rest_of s)) (entry_is s e (body_of s W.kind) is W.is) ∙ by_kind W.kind (numbered (le2 s 2) W.kind W.known) W.right W.is
