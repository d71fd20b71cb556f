-- A table of records in bytes: one that is written changes that one alone, and all that are written are so. Assumes nothing.
use Prim.Native.Nat.{ℕ, zero, suc, ◌+◌, ◌-◌, ◌*◌, ◌/◌, ◌≤◌, ◌<◌}
use mathlib.Core.Path.{◌≡◌, refl, sym, ◌∙◌, ap}
use mathlib.Core.Bool.{Bool, cond, true, false}
use mathlib.Core.Logic.{◌≢◌}
use mathlib.Core.List.{List}
use native.Mathlib.Omega.{arith}
use native.Mathlib.Nat.{not-suc-le-zero}
use borrow.Author.Tests.{ltb-true, ltb-false, eqb-true, eqb-false}
use lib.Dec.{ltb, eqb}
use lib.ListN.{length, get_or, set, replicate, length-set, length-replicate, get_or-replicate}
use lib.Seq.{ext_get_or, get_or-set_same, get_or-set_other, set_out}
use Rattle.byte_numbers.specs.Numbers.{le4, le8}
use Rattle.thread_records.specs.declared.Record.{Record}
use Rattle.record_bytes.specs.Layout.{Fits, laid_at, record_at, records_in, records_from, table_of, record_written, all_written}
use Rattle.record_bytes.proofs.Stores.{loaded_same}
use Rattle.record_bytes.proofs.Laid.{length_laid, laid_before, laid_behind, le4-loaded, le8-loaded, read_laid}

-- the same bytes are the same record
abbrev SameFrom : List ℕ → List ℕ → ℕ → ℕ → Type 0
SameFrom l m at n = (i : ℕ) → i < at + n → at ≤ i → get_or l i 0 ≡ get_or m i 0

le4_same : (l m : List ℕ) (at : ℕ) → SameFrom l m at 4 → le4 l at ≡ le4 m at
le4_same l m at same = le4-loaded l at ∙ (loaded_same l m at 4 same ∙ sym (le4-loaded m at))

le8_same : (l m : List ℕ) (at : ℕ) → SameFrom l m at 8 → le8 l at ≡ le8 m at
le8_same l m at same = le8-loaded l at ∙ (loaded_same l m at 8 same ∙ sym (le8-loaded m at))

within : (l m : List ℕ) (at k n : ℕ) → k + n ≤ 132 → SameFrom l m at 132 → SameFrom l m (at + k) n
within l m at k n h same i u w = same i (omega (arith, h, u)) (omega (arith, w))

pub same_record : (l m : List ℕ) (at : ℕ) → SameFrom l m at 132 → record_at l at ≡ record_at m at
unfolding record_at
same_record l m at same =
    let dead : get_or l at 0 ≡ get_or m at 0 = same at (omega arith) (omega arith) in
    let b1 : get_or l (at + 1) 0 ≡ get_or m (at + 1) 0 = same (at + 1) (omega arith) (omega arith) in
    let b2 : get_or l (at + 2) 0 ≡ get_or m (at + 2) 0 = same (at + 2) (omega arith) (omega arith) in
    let b3 : get_or l (at + 3) 0 ≡ get_or m (at + 3) 0 = same (at + 3) (omega arith) (omega arith) in
    let b4 = le4_same l m (at + 4) (within l m at 4 4 (omega arith) same) in
    let b8 = le4_same l m (at + 8) (within l m at 8 4 (omega arith) same) in
    let b12 = le4_same l m (at + 12) (within l m at 12 4 (omega arith) same) in
    let b16 = le4_same l m (at + 16) (within l m at 16 4 (omega arith) same) in
    let b20 = le4_same l m (at + 20) (within l m at 20 4 (omega arith) same) in
    let b24 = le4_same l m (at + 24) (within l m at 24 4 (omega arith) same) in
    let b28 = le8_same l m (at + 28) (within l m at 28 8 (omega arith) same) in
    let b36 = le8_same l m (at + 36) (within l m at 36 8 (omega arith) same) in
    let b44 = le8_same l m (at + 44) (within l m at 44 8 (omega arith) same) in
    let b52 = le8_same l m (at + 52) (within l m at 52 8 (omega arith) same) in
    let b60 = le8_same l m (at + 60) (within l m at 60 8 (omega arith) same) in
    let b68 = le8_same l m (at + 68) (within l m at 68 8 (omega arith) same) in
    let b76 = le8_same l m (at + 76) (within l m at 76 8 (omega arith) same) in
    let b84 = le8_same l m (at + 84) (within l m at 84 8 (omega arith) same) in
    let b92 = le8_same l m (at + 92) (within l m at 92 8 (omega arith) same) in
    let b100 = le8_same l m (at + 100) (within l m at 100 8 (omega arith) same) in
    let b108 = le8_same l m (at + 108) (within l m at 108 8 (omega arith) same) in
    let b116 = le8_same l m (at + 116) (within l m at 116 8 (omega arith) same) in
    let b124 = le8_same l m (at + 124) (within l m at 124 8 (omega arith) same) in
    simp (dead, b1, b2, b3, b4, b8, b12, b16, b20, b24, b28, b36, b44, b52, b60, b68, b76, b84, b92, b100, b108, b116, b124)

pub before_stays : (l : List ℕ) (at : ℕ) (t : Record) (to : ℕ) → to + 132 ≤ at → record_at (laid_at l at t) to ≡ record_at l to
before_stays l at t to h = same_record (laid_at l at t) l to (λ (i : ℕ) u w. laid_before l at t i (omega (arith, u, h)))

pub behind_stays : (l : List ℕ) (at : ℕ) (t : Record) (to : ℕ) → at + 132 ≤ to → record_at (laid_at l at t) to ≡ record_at l to
behind_stays l at t to h = same_record (laid_at l at t) l to (λ (i : ℕ) u w. laid_behind l at t i (omega (arith, w, h)))

-- a record of the table, by its place
pub length_table : (l : List ℕ) (k n : ℕ) → length (records_from l k n) ≡ n
length_table l k zero = refl
length_table l k (suc n) = ap suc (length_table l (k + 1) n)

from_table : (l : List ℕ) (k n i : ℕ) (d : Record) → i < n → get_or (records_from l k n) i d ≡ record_at l (132 * (k + i))
from_table l k zero i d h = absurd (not-suc-le-zero h)
from_table l k (suc n) zero d h = let e : k ≡ k + 0 = omega arith in ap (λ (j : ℕ). record_at l (132 * j)) e
from_table l k (suc n) (suc i) d h =
    let e : k + 1 + i ≡ k + suc i = omega arith in
    from_table l (k + 1) n i d (omega (arith, h)) ∙ ap (λ (j : ℕ). record_at l (132 * j)) e

pub in_table : (l : List ℕ) (i : ℕ) (d : Record) → i < records_in l → get_or (table_of l) i d ≡ record_at l (132 * i)
unfolding table_of
in_table l i d h = let e : 0 + i ≡ i = omega arith in from_table l 0 (records_in l) i d h ∙ ap (λ (j : ℕ). record_at l (132 * j)) e

pub length_all_of : (l : List ℕ) → length (table_of l) ≡ records_in l
unfolding table_of
length_all_of l = length_table l 0 (records_in l)

length_all : (n : ℕ) (l : List ℕ) (t : Record) → length (all_written n l t) ≡ length l
unfolding all_written
length_all zero l t = refl
length_all (suc n) l t = length_laid (all_written n l t) (132 * n) t ∙ length_all n l t

-- one that is laid, and the others
laid_other : (l : List ℕ) (p : ℕ) (t : Record) (i : ℕ) (b c : Bool) → ltb i p ≡ b → ltb p i ≡ c → i ≢ p → record_at (laid_at l (132 * p) t) (132 * i) ≡ record_at l (132 * i)
laid_other l p t i true c below above apart = before_stays l (132 * p) t (132 * i) (omega (arith, ltb-true i p below))
laid_other l p t i false true below above apart = behind_stays l (132 * p) t (132 * i) (omega (arith, ltb-true p i above))
laid_other l p t i false false below above apart = absurd (apart (omega (arith, ltb-false i p below, ltb-false p i above)))

laid_at_lem : (l : List ℕ) (p : ℕ) (t : Record) → p < records_in l → Fits t → record_at (laid_at l (132 * p) t) (132 * p) ≡ t
laid_at_lem l p t h fits = read_laid l (132 * p) t (omega (arith, h)) fits

laid_each : (l : List ℕ) (p : ℕ) (t : Record) (i : ℕ) (b : Bool) → p < records_in l → Fits t → i < records_in l → eqb i p ≡ b
    → record_at (laid_at l (132 * p) t) (132 * i) ≡ get_or (set (table_of l) p t) i t
laid_each l p t i true h fits k e =
    let f : i ≡ p = eqb-true i p e in
    let n : p < length (table_of l) = omega (arith, h, length_all_of l) in
    rw f (laid_at_lem l p t h fits ∙ sym (get_or-set_same (table_of l) p t t n))
laid_each l p t i false h fits k e =
    let apart : i ≢ p = eqb-false i p e in
    laid_other l p t i (ltb i p) (ltb p i) refl refl apart
    ∙ sym (get_or-set_other (table_of l) p i t t apart ∙ in_table l i t k)

pub table_laid : (l : List ℕ) (p : ℕ) (t : Record) → p < records_in l → Fits t → table_of (laid_at l (132 * p) t) ≡ set (table_of l) p t
table_laid l p t h fits =
    let m : List ℕ = laid_at l (132 * p) t in
    let n : records_in m ≡ records_in l = ap (λ (k : ℕ). k / 132) (length_laid l (132 * p) t) in
    ext_get_or t (table_of m) (set (table_of l) p t) (length_all_of m ∙ (n ∙ sym (length-set (table_of l) p t ∙ length_all_of l)))
    (λ (i : ℕ) k. in_table m i t (omega (arith, k, length_all_of m))
    ∙ laid_each l p t i (eqb i p) h fits (omega (arith, k, length_all_of m, n)) refl)

-- a record that is written is that one of the table, and there is no other change; where there is none of that number there is none at all
pub table_written : (l : List ℕ) (p : ℕ) (t : Record) → Fits t → table_of (record_written l p t) ≡ set (table_of l) p t
unfolding record_written
table_written l p t fits = by-test (ltb p (records_in l)) refl
  where
    by-test : (b : Bool) → ltb p (records_in l) ≡ b → table_of (cond b (laid_at l (132 * p) t) l) ≡ set (table_of l) p t
    by-test true e = table_laid l p t (ltb-true p (records_in l) e) fits
    by-test false e = sym (set_out (table_of l) p t (omega (arith, length_all_of l, ltb-false p (records_in l) e)))

-- and the first n that are written are so
below_of : (i n : ℕ) → i < suc n → i ≢ n → i < n
below_of i n k apart = below_by (ltb i n) refl
  where
    below_by : (b : Bool) → ltb i n ≡ b → i < n
    below_by true e = ltb-true i n e
    below_by false e = absurd (apart (omega (arith, k, ltb-false i n e)))

each_written : (n : ℕ) (l : List ℕ) (t : Record) (i : ℕ) (b : Bool) → n ≤ records_in l → Fits t → i < n → eqb i (n - 1) ≡ b → record_at (all_written n l t) (132 * i) ≡ t
unfolding all_written
each_written zero l t i b h fits k e = absurd (not-suc-le-zero k)
each_written (suc n) l t i true h fits k e =
    let f : i ≡ n = eqb-true i (suc n - 1) e ∙ (omega arith) in
    rw f (laid_at_lem (all_written n l t) n t (omega (arith, h, length_all n l t)) fits)
each_written (suc n) l t i false h fits k e =
    let apart : i ≢ n = λ w. eqb-false i (suc n - 1) e (omega (arith, w)) in
    let below : i < n = below_of i n k apart in
    before_stays (all_written n l t) (132 * n) t (132 * i) (omega (arith, below))
    ∙ each_written n l t i (eqb i (n - 1)) (omega (arith, h)) fits below refl

pub table_all : (l : List ℕ) (t : Record) → Fits t → table_of (all_written (records_in l) l t) ≡ replicate (length (table_of l)) t
table_all l t fits =
    let m : List ℕ = all_written (records_in l) l t in
    let n : records_in m ≡ records_in l = ap (λ (k : ℕ). k / 132) (length_all (records_in l) l t) in
    let lengths : length (table_of m) ≡ length (table_of l) = length_all_of m ∙ (n ∙ sym (length_all_of l)) in
    ext_get_or t (table_of m) (replicate (length (table_of l)) t) (lengths ∙ sym (length-replicate (length (table_of l)) t))
    (λ (i : ℕ) k. in_table m i t (omega (arith, k, length_all_of m))
    ∙ (each_written (records_in l) l t i (eqb i (records_in l - 1)) (omega arith) fits (omega (arith, k, length_all_of m, n)) refl
    ∙ sym (get_or-replicate (length (table_of l)) i t t (omega (arith, k, lengths)))))

-- and no byte behind them is written
pub all_behind : (n : ℕ) (l : List ℕ) (t : Record) (i : ℕ) → 132 * n ≤ i → get_or (all_written n l t) i 0 ≡ get_or l i 0
unfolding all_written
all_behind zero l t i h = refl
all_behind (suc n) l t i h = laid_behind (all_written n l t) (132 * n) t i (omega (arith, h)) ∙ all_behind n l t i (omega (arith, h))
