-- What stored numbers leave, at any width: each is read again, and no other byte changes. Assumes nothing.
use Prim.Native.Nat.{ℕ, zero, suc, ◌+◌, ◌-◌, ◌*◌, ◌/◌, ◌%◌, ◌^◌, ◌≤◌, ◌<◌}
use mathlib.Core.Path.{◌≡◌, refl, sym, ◌∙◌, ap}
use mathlib.Core.List.{List, [], ◌∷◌, ◌++◌}
use native.Mathlib.Omega.{arith}
use native.Mathlib.Nat.{pow-suc, mul-suc, not-suc-le-zero}
use Rattle.std.proofs.Math.Nat.{div-div-eq-div-mul, pow-succ'}
use Rattle.std.proofs.Math.Seq.{take-suc-set}
use Rattle.std.proofs.lemmas.Slice.{take-put_mid, drop-put_mid}
use Rattle.std.proofs.lemmas.List.{take-append-drop, drop-set-lt, append_assoc, append-nil}
use Rattle.std.specs.Int.{byte_at, bytes_low_first, to_le_bytes, w64}
use borrow.Rule.Slice.PartMut.{put_mid}
use lib.ListN.{length, get_or, set, take, drop, length-set}
use lib.Seq.{get_or-set_same, get_or-set_other}
use Rattle.record_bytes.specs.Stored.{stored, stored_all}

pub length-stored : (l : List ℕ) (at width v : ℕ) → length (stored l at width v) ≡ length l
unfolding stored
length-stored l at zero v = refl
length-stored l at (suc width) v = length-stored (set l at (v % 256)) (at + 1) width (v / 256) ∙ length-set l at (v % 256)

pub length-stored_all : (width : ℕ) (l : List ℕ) (at : ℕ) (vs : List ℕ) → length (stored_all width l at vs) ≡ length l
unfolding stored_all
length-stored_all width l at [] = refl
length-stored_all width l at (v ∷ vs) = length-stored_all width (stored l at width v) (at + width) vs ∙ length-stored l at width v

-- a number in so many bytes, all of them at once
low_bytes : (k m i v : ℕ) → take k (bytes_low_first i (k + m) v) ≡ bytes_low_first i k v
low_bytes zero m i v = refl
low_bytes (suc k) m i v =
    let e : suc k + m ≡ suc (k + m) = omega arith in
    rw e (ap (λ (r : List ℕ). byte_at i v ∷ r) (low_bytes k m (suc i) v))

length-low : (k i v : ℕ) → length (bytes_low_first i k v) ≡ k
length-low zero i v = refl
length-low (suc k) i v = ap suc (length-low k (suc i) v)

next_byte : (i v : ℕ) → byte_at i (v / 256) ≡ byte_at (suc i) v
next_byte zero v = refl
next_byte (suc i) v = ap (λ (n : ℕ). n % 256) (div-div-eq-div-mul v 256 (256 ^ suc i) ∙ ap (λ (n : ℕ). v / n) (sym (pow-succ' 256 (suc i))))

next_bytes : (i k v : ℕ) → bytes_low_first i k (v / 256) ≡ bytes_low_first (suc i) k v
next_bytes i zero v = refl
next_bytes i (suc k) v = rw (next_byte i v) (ap (λ (r : List ℕ). byte_at (suc i) v ∷ r) (next_bytes (suc i) k v))

stored_low : (width : ℕ) (l : List ℕ) (at v : ℕ) → at + width ≤ length l → stored l at width v ≡ take at l ++ bytes_low_first 0 width v ++ drop (at + width) l
unfolding stored
stored_low zero l at v h = let e : at + 0 ≡ at = omega arith in rw (e, append-nil (take at l)) (sym (take-append-drop at l))
stored_low (suc width) l at v h =
    let b = v % 256 in
    let behind = bytes_low_first 0 width (v / 256) in
    let one : at + 1 ≡ suc at = omega arith in
    let e : suc at + width ≡ at + suc width = omega arith in
    stored_low width (set l at b) (at + 1) (v / 256) (omega (arith, h, length-set l at b))
    ∙ ap (λ (n : ℕ). take n (set l at b) ++ behind ++ drop (n + width) (set l at b)) one
    ∙ ap (λ (r : List ℕ). r ++ behind ++ drop (suc at + width) (set l at b)) (take-suc-set l at b (omega (arith, h)))
    ∙ ap (λ (r : List ℕ). take at l ++ (b ∷ []) ++ behind ++ r) (drop-set-lt (suc at + width) l at b (omega arith))
    ∙ ap (λ (r : List ℕ). r ++ drop (suc at + width) l) (append_assoc (take at l) (b ∷ []) behind)
    ∙ ap (λ (n : ℕ). take at l ++ (b ∷ behind) ++ drop n l) e
    ∙ ap (λ (r : List ℕ). take at l ++ (b ∷ r) ++ drop (at + suc width) l) (next_bytes 0 width v)

-- as a part of the slice that is copied over leaves it
pub stored_part : (l : List ℕ) (at width v k : ℕ) (bytes mid : List ℕ) → k ≡ width → bytes ≡ to_le_bytes w64 v → mid ≡ take width bytes → at + width ≤ length l → width ≤ 8
    → put_mid at k l mid ≡ stored l at width v
stored_part l at width v k bytes mid e b m h few =
    let whole : width + (8 - width) ≡ 8 = omega (arith, few) in
    let low : mid ≡ bytes_low_first 0 width v =
    m ∙ ap (take width) b ∙ ap (λ (n : ℕ). take width (bytes_low_first 0 n v)) (sym whole) ∙ low_bytes width (8 - width) 0 v in
    let long : length mid ≡ width = ap length low ∙ length-low width 0 v in
    sym (take-append-drop (at + width) (put_mid at k l mid))
    ∙ ap (λ (r : List ℕ). r ++ drop (at + width) (put_mid at k l mid)) (take-put_mid at k l mid (at + width) (omega (arith, long)) (omega (arith, h)))
    ∙ ap (λ (r : List ℕ). take at l ++ mid ++ r) (drop-put_mid at k l mid (at + width) (omega (arith, e)) (omega (arith, h)) (omega (arith, long, e)))
    ∙ ap (λ (r : List ℕ). take at l ++ r ++ drop (at + width) l) low
    ∙ sym (stored_low width l at v h)

-- a byte beside what is stored stays
stored_beside : (l : List ℕ) (at width v i : ℕ) → ((j : ℕ) → at ≤ j → j < at + width → i ≡ j → ⊥) → get_or (stored l at width v) i 0 ≡ get_or l i 0
unfolding stored
stored_beside l at zero v i apart = refl
stored_beside l at (suc width) v i apart =
    stored_beside (set l at (v % 256)) (at + 1) width (v / 256) i (λ (j : ℕ) a b e. apart j (omega (arith, a)) (omega (arith, b)) e)
    ∙ get_or-set_other l at i (v % 256) 0 (λ e. apart at (omega arith) (omega arith) (omega (arith, e)))

all_beside : (width : ℕ) (l : List ℕ) (at : ℕ) (vs : List ℕ) (i : ℕ) → ((j : ℕ) → at ≤ j → j < at + width * length vs → i ≡ j → ⊥)
    → get_or (stored_all width l at vs) i 0 ≡ get_or l i 0
unfolding stored_all
all_beside width l at [] i apart = refl
all_beside width l at (v ∷ vs) i apart =
    all_beside width (stored l at width v) (at + width) vs i (λ (j : ℕ) a b e. apart j (omega (arith, a)) (omega (arith, b, mul-suc width (length vs))) e)
    ∙ stored_beside l at width v i (λ (j : ℕ) a b e. apart j a (omega (arith, b, mul-suc width (length vs))) e)

pub all_below : (width : ℕ) (l : List ℕ) (at : ℕ) (vs : List ℕ) (i : ℕ) → i < at → get_or (stored_all width l at vs) i 0 ≡ get_or l i 0
all_below width l at vs i h = all_beside width l at vs i (λ (j : ℕ) a b e. omega (arith, h, a, e))

pub all_above : (width : ℕ) (l : List ℕ) (at : ℕ) (vs : List ℕ) (i : ℕ) → at + width * length vs ≤ i → get_or (stored_all width l at vs) i 0 ≡ get_or l i 0
all_above width l at vs i h = all_beside width l at vs i (λ (j : ℕ) a b e. omega (arith, h, b, e))

more : (at width n i : ℕ) → at + width * suc n ≤ i → at + width + width * n ≤ i
more at width n i h = omega (arith, h, mul-suc width n)

-- the number in so many bytes from a place on
unfoldable pub loaded : List ℕ → ℕ → ℕ → ℕ
loaded l at zero = 0
loaded l at (suc width) = get_or l at 0 + 256 * loaded l (at + 1) width

-- what it goes by
pub loaded_same : (l m : List ℕ) (at width : ℕ) → ((i : ℕ) → i < at + width → at ≤ i → get_or l i 0 ≡ get_or m i 0) → loaded l at width ≡ loaded m at width
unfolding loaded
loaded_same l m at zero same = refl
loaded_same l m at (suc width) same =
    let a : get_or l at 0 ≡ get_or m at 0 = same at (omega arith) (omega arith) in
    let b : loaded l (at + 1) width ≡ loaded m (at + 1) width =
    loaded_same l m (at + 1) width (λ (i : ℕ) h k. same i (omega (arith, h)) (omega (arith, k))) in
    omega (arith, a, b)

pub loaded-stored : (l : List ℕ) (at width v : ℕ) → at + width ≤ length l → v < 256 ^ width → loaded (stored l at width v) at width ≡ v
unfolding stored loaded
loaded-stored l at zero v h hv = omega (arith, hv)
loaded-stored l at (suc width) v h hv =
    let m : List ℕ = set l at (v % 256) in
    let small : v / 256 < 256 ^ width = omega (arith, rw pow-suc at hv) in
    let a : get_or (stored m (at + 1) width (v / 256)) at 0 ≡ v % 256 =
    stored_beside m (at + 1) width (v / 256) at (λ (j : ℕ) a b e. omega (arith, a, e)) ∙ get_or-set_same l at (v % 256) 0 (omega arith) in
    let b : loaded (stored m (at + 1) width (v / 256)) (at + 1) width ≡ v / 256 =
    loaded-stored m (at + 1) width (v / 256) (omega (arith, length-set l at (v % 256))) small in
    omega arith

-- each of those stored is loaded
pub all_loaded : (width : ℕ) (l : List ℕ) (at : ℕ) (vs : List ℕ) (i : ℕ) → ((j : ℕ) → get_or vs j 0 < 256 ^ width) → at + width * length vs ≤ length l
    → i < length vs → loaded (stored_all width l at vs) (at + width * i) width ≡ get_or vs i 0
unfolding stored_all
all_loaded width l at [] i small room h = absurd (not-suc-le-zero h)
all_loaded width l at (v ∷ vs) zero small room h =
    let s : List ℕ = stored l at width v in
    let e : at + width * 0 ≡ at = omega arith in
    let r : at + width + width * length vs ≤ length l = more at width (length vs) (length l) room in
    rw e
    (loaded_same (stored_all width s (at + width) vs) s at width (λ (j : ℕ) b k. all_below width s (at + width) vs j b)
    ∙ loaded-stored l at width v (omega (arith, r)) (small 0))
all_loaded width l at (v ∷ vs) (suc i) small room h =
    let s : List ℕ = stored l at width v in
    let e : at + width * suc i ≡ at + width + width * i = omega (arith, mul-suc width i) in
    let r : at + width + width * length vs ≤ length l = more at width (length vs) (length l) room in
    rw e
    (all_loaded width s (at + width) vs i (λ (j : ℕ). small (suc j)) (omega (arith, r, length-stored l at width v)) (omega (arith, h)))
