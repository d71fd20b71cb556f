-- The invariant: the shared words against the stack, and each record against both. Assumes nothing.
use mathlib.Core.Path.{◌≡◌, refl, ap, subst⁻¹}
use mathlib.Core.Bool.{Bool, true, false}
use mathlib.Core.List.{List}
use Prim.Native.Nat.{ℕ, ◌+◌, ◌%◌, ◌≤◌, ◌<◌}
use native.Mathlib.Omega.{arith}
use native.Mathlib.Decide.{ℕ_discrete}
use lib.ListN.{length, get_or, set}
use lib.Seq.{get_or-set_same, get_or-set_other}
use Rattle.stack_order.proofs.Machine.{head_of, tag_of, bor_of, lock_mark, free, Place, idle, acquire_look, borrowed_look, locked_look, acquire_read, acquire_exchange, acquire_write, release_look, release_write, release_exchange, Rec, nobody}
use Rattle.stack_order.proofs.Lists.{below, top, second, Chain}
use Rattle.stack_order.proofs.Model.{Held, HeldAt, State, live_place, live_of}
use Rattle.stack_order.specs.Stack.{count, Stack}

-- the index that a record's next writes may touch
abbrev pub Touches : Place → ℕ → Type 0
Touches idle i = ⊥
Touches acquire_look i = ⊥
Touches borrowed_look i = ⊥
Touches locked_look i = ⊥
Touches (acquire_read w) i = ⊥
Touches (acquire_exchange w v) i = ⊥
Touches (acquire_write j) i = j ≡ i
Touches (release_look j m) i = j ≡ i
Touches (release_write j m w) i = j ≡ i
Touches (release_exchange j m w) i = j ≡ i

-- a mark of the custody buffer against the number of times that its index is in custody
abbrev pub Marked : ℕ → ℕ → Type 0
Marked c n = (c ≡ 0 → n ≡ 0) × ((c ≡ 0 → ⊥) → 1 ≤ n)

pub not_free : (c n : ℕ) → (c ≡ 0 → ⊥) → 1 ≤ n → Marked c n
not_free c n h k = (λ e. absurd (h e), λ e. k)

pub is_free : (n : ℕ) → n ≡ 0 → Marked 0 n
is_free n k = (λ e. k, λ h. absurd (h refl))

abbrev pub Marks : ℕ → List ℕ → List ℕ → Type 0
Marks cap l o = (i : ℕ) → i < cap → Marked (get_or l i free) (count i o)

-- what an acquire remembers of its look at w, made at n₀ changes, now n
pub record Seen (cap n n₀ w : ℕ) : Type 0 where
  pub past : n₀ ≤ n
  pub tagged : tag_of w ≡ n₀ % 65536
  pub inside : head_of w < cap
  pub open_then : bor_of w ≡ lock_mark → ⊥

-- what a release remembers of its look at w
pub record Lent (w : ℕ) : Type 0 where
  pub some_out : bor_of w ≡ 0 → ⊥
  pub open_then : bor_of w ≡ lock_mark → ⊥

-- what holds of a record at a place
abbrev pub Good : ℕ → ℕ → ℕ → List ℕ → List ℕ → List ℕ → Place → Type 0
Good cap n n₀ f o slots idle = Unit {0}
Good cap n n₀ f o slots acquire_look = Unit {0}
Good cap n n₀ f o slots borrowed_look = Unit {0}
Good cap n n₀ f o slots locked_look = Unit {0}
Good cap n n₀ f o slots (acquire_read w) = Seen cap n n₀ w × (n₀ ≡ n → head_of w ≡ top cap f)
Good cap n n₀ f o slots (acquire_exchange w v) = Seen cap n n₀ w × (n₀ ≡ n → v ≡ second cap f)
Good cap n n₀ f o slots (acquire_write i) = 1 ≤ count i o
Good cap n n₀ f o slots (release_look i m) = 1 ≤ count i o
Good cap n n₀ f o slots (release_write i m w) = (1 ≤ count i o) × Lent w
Good cap n n₀ f o slots (release_exchange i m w) = (1 ≤ count i o) × (get_or slots i 0 ≡ head_of w) × Lent w

abbrev pub bits_of : Bool → List ℕ → ℕ
bits_of true o = lock_mark
bits_of false o = length o

-- the shared words against the stack
pub record Core (cap n : ℕ) (s : Stack) (word : ℕ) (slots : List ℕ) : Type 0 where
  pub chain : Chain cap slots (head_of word) s.free
  pub part : (i : ℕ) → count i s.free + count i s.out ≡ below i cap
  pub size : length s.free + length s.out ≡ cap
  pub tag : tag_of word ≡ n % 65536
  pub bor : bor_of word ≡ bits_of s.locked s.out
  pub shut : s.locked ≡ true → length s.out ≡ 0
  pub room : cap < length slots

-- the table against the stack
pub record Table (cap n : ℕ) (lk : ℕ → ℕ) (s : Stack) (slots : List ℕ) (custody : List ℕ) (recs : List Rec) : Type 0 where
  pub each : (q : ℕ) → Good cap n (lk q) s.free s.out slots (live_of recs q)
  pub alone : (q q' i : ℕ) → Touches (live_of recs q) i → Touches (live_of recs q') i → q ≡ q'
  pub wide : cap ≤ length custody
  pub marks : Marks cap custody s.out
  pub held_still : (i q : ℕ) → HeldAt cap custody i → Touches (live_of recs q) i → ⊥

pub record Inv (cap n : ℕ) (lk : ℕ → ℕ) (s : Stack) (st : State) : Type 0 where
  pub core : Core cap n s st.shared.word st.shared.slots
  pub table : Table cap n lk s st.shared.slots st.shared.custody st.recs

-- a record put into the table
pub places_put : (P : ℕ → Place → Type 0) (recs : List Rec) (r : ℕ) (x : Rec) → r < length recs → P r (live_place x)
    → ((q : ℕ) → (q ≡ r → ⊥) → P q (live_of recs q)) → (q : ℕ) → P q (live_of (set recs r x) q)
places_put P recs r x h mine others q = go (ℕ_discrete q r)
  where
    go : Dec (q ≡ r) → P q (live_of (set recs r x) q)
    go (yes e) = rw e (subst⁻¹ (P r) (ap (λ (y : Rec). live_place y) (get_or-set_same recs r x nobody h)) mine)
    go (no d) = subst⁻¹ (P q) (ap (λ (y : Rec). live_place y) (get_or-set_other recs r q x nobody d)) (others q d)

-- the general step of the table: the record r goes to x, the rest moves from (n, lk, s, slots, custody) to (n', …)
pub table_put : {cap n n' : ℕ} {lk lk' : ℕ → ℕ} {s s' : Stack} {slots slots' : List ℕ} {custody custody' : List ℕ} (recs : List Rec) (r : ℕ) (x : Rec)
    → r < length recs
    → Table cap n lk s slots custody recs
    → Good cap n' (lk' r) s'.free s'.out slots' (live_place x)
    → ((q : ℕ) → (q ≡ r → ⊥) → Good cap n' (lk' q) s'.free s'.out slots' (live_of recs q))
    → ((i q : ℕ) → (q ≡ r → ⊥) → Touches (live_place x) i → Touches (live_of recs q) i → ⊥)
    → cap ≤ length custody'
    → Marks cap custody' s'.out
    → ((i : ℕ) → HeldAt cap custody' i → Touches (live_place x) i → ⊥)
    → ((i q : ℕ) → (q ≡ r → ⊥) → HeldAt cap custody' i → Touches (live_of recs q) i → ⊥)
    → Table cap n' lk' s' slots' custody' (set recs r x)
table_put {cap} {n} {n'} {lk} {lk'} {s} {s'} {slots} {slots'} {custody} {custody'} recs r x h t mine others apart wide marks still stills =
    record {
      each = places_put (λ q p. Good cap n' (lk' q) s'.free s'.out slots' p) recs r x h mine others;
      alone =
          places_put (λ q p. (q' i : ℕ) → Touches p i → Touches (live_of (set recs r x) q') i → q ≡ q') recs r x h
          (places_put (λ q' p. (i : ℕ) → Touches (live_place x) i → Touches p i → r ≡ q') recs r x h (λ i a b. refl)
          (λ q d i a b. absurd (apart i q d a b)))
          (λ q d.
          places_put (λ q' p. (i : ℕ) → Touches (live_of recs q) i → Touches p i → q ≡ q') recs r x h
          (λ i a b. absurd (apart i q d b a)) (λ q' d' i a b. t.alone q q' i a b));
      wide = wide;
      marks = marks;
      held_still =
          λ i q.
          (places_put (λ q p. HeldAt cap custody' i → Touches p i → ⊥) recs r x h (still i) (λ q d. stills i q d)) q;
    }

-- a held index is in custody
pub held_out : {cap n : ℕ} {lk : ℕ → ℕ} {s : Stack} {slots : List ℕ} {custody : List ℕ} {recs : List Rec}
    → Table cap n lk s slots custody recs → (i : ℕ) → HeldAt cap custody i → 1 ≤ count i s.out
held_out {custody} t i h = (t.marks i h.0).1 (λ e. clash (get_or custody i free) e h.1)
  where
    clash : (c : ℕ) → c ≡ 0 → Held c → ⊥
    clash c e k = omega arith

-- the mark of i changed, and with it the custody of i alone
pub marks_put : (cap : ℕ) (l : List ℕ) (o o' : List ℕ) (i c : ℕ) → cap ≤ length l → Marks cap l o → Marked c (count i o')
    → ((j : ℕ) → (j ≡ i → ⊥) → count j o' ≡ count j o) → Marks cap (set l i c) o'
marks_put cap l o o' i c k m new same j h = go (ℕ_discrete j i)
  where
    go : Dec (j ≡ i) → Marked (get_or (set l i c) j free) (count j o')
    go (yes e) = rw e (subst⁻¹ (λ (x : ℕ). Marked x (count i o')) (get_or-set_same l i c free (rw e at wide)) new)
      where
        wide : j < length l
        wide = omega arith
    go (no d) =
        subst⁻¹ (λ (x : ℕ). Marked x (count j o')) (get_or-set_other l i j c free d)
        (subst⁻¹ (λ (x : ℕ). Marked (get_or l j free) x) (same j d) (m j h))
