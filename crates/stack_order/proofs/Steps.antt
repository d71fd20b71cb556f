-- Each step keeps the invariant. Assumes nothing.
use mathlib.Core.Path.{◌≡◌, refl, sym, ap, ◌∙◌, subst, subst⁻¹}
use mathlib.Core.Bool.{Bool, true, false, cond, ◌||◌, true≢false, false≢true}
use mathlib.Core.List.{List, [], ◌∷◌, ◌++◌, cons≢nil}
use mathlib.Core.Logic.{◌⊎◌, inl, inr}
use Prim.Native.Nat.{ℕ, zero, suc, ◌+◌, ◌-◌, ◌%◌, ◌≤◌, ◌<◌}
use native.Mathlib.Omega.{arith}
use native.Mathlib.Decide.{ℕ_discrete}
use lib.ListN.{length, get_or, set, length-set}
use lib.Seq.{get_or-set_same, get_or-set_other}
use lib.Dec.{leb, eqb}
use borrow.Author.Tests.{eqb-true, eqb-false, eq-eqb, ne_eqb, leb-true, leb-false}
use Rattle.unique_index_set_enums.specs.declared.ReleaseMode.{ReleaseMode}
use Rattle.unique_index_set_enums.specs.declared.ReleaseMode.TheVariants.{Default, LockIfLastIndex}
use Rattle.unique_index_set_enums.specs.Kinds.{index}
use Rattle.stack_order.specs.Stack.{acquire, release, Call, Stack, count, without, locks, taken, taken_answer, stack_after, stack_answer, Allowed, replay, Answers}
use Rattle.calls.specs.declared.Answer.TheVariants as answer
use Rattle.stack_order.specs.History.{one_more_if}
use Rattle.stack_order.proofs.Machine.{head_of, tag_of, bor_of, pack, lock_mark, out_of_indices, is_locked_answer, borrowed_after, free, granting, held, Place, idle, acquire_look, borrowed_look, locked_look, acquire_read, acquire_exchange, acquire_write, release_look, release_write, release_exchange, Rec, at, Effect, goes_on, ends, acquire_judge, acquire_looks, acquire_exchanges, release_judge, release_looks, release_exchanges, step_at}
use Rattle.stack_order.proofs.Words.{head_pack, tag_pack, bor_pack, tag_same, tag_next, tag_bound}
use Rattle.stack_order.proofs.Lists.{same_eq, same_other, count_cons, count_head, count-without, length-without, count-length, below, below_le, lt_of_below, top, second, Chain, chain_top, chain_second, chain_pop, chain_push, chain_write}
use Rattle.stack_order.proofs.Model.{Held, HeldAt, State, live_place, live_of, applied, look_after, pending, current, ops}
use Rattle.stack_order.proofs.Inv.{Touches, Seen, Lent, Good, bits_of, Core, Table, Inv, table_put, held_out, marks_put, not_free, is_free}

-- what a step of r that has the effect f is to keep
pub record Kept (cap n : ℕ) (lk : ℕ → ℕ) (s : Stack) (st : State) (r : ℕ) (p : Place) (f : Effect) : Type 0 where
  pub inv : Inv cap (one_more_if f.wins n) (look_after f.looks r n lk) (replay s f.judged) (applied st r f).state
  pub ans : Answers s f.judged
  pub counts : f.judged ++ pending p ≡ pending f.place ++ f.answers
  pub call : current p ≡ current f.place ++ ops f.answers

-- ---- small facts

pub or_left : (a b : Bool) → (a || b) ≡ false → a ≡ false
or_left true b e = absurd (true≢false e)
or_left false b e = refl

pub or_right : (a b : Bool) → (a || b) ≡ false → b ≡ false
or_right true b e = absurd (true≢false e)
or_right false b e = e

look_other : (l : Bool) (r n : ℕ) (lk : ℕ → ℕ) (q : ℕ) → (q ≡ r → ⊥) → look_after l r n lk q ≡ lk q
look_other true r n lk q d = rw (ne_eqb r q (λ e. d (sym e)))
look_other false r n lk q d = refl

look_self : (r n : ℕ) (lk : ℕ → ℕ) → look_after true r n lk r ≡ n
look_self r n lk = rw (eq-eqb r r refl)

-- a record that touches an index has it out
touches_out : (cap n n₀ : ℕ) (f o slots : List ℕ) (p : Place) (i : ℕ) → Touches p i → Good cap n n₀ f o slots p → 1 ≤ count i o
touches_out cap n n₀ f o slots idle i t g = absurd t
touches_out cap n n₀ f o slots acquire_look i t g = absurd t
touches_out cap n n₀ f o slots borrowed_look i t g = absurd t
touches_out cap n n₀ f o slots locked_look i t g = absurd t
touches_out cap n n₀ f o slots (acquire_read w) i t g = absurd t
touches_out cap n n₀ f o slots (acquire_exchange w v) i t g = absurd t
touches_out cap n n₀ f o slots (acquire_write j) i t g = rw t at g
touches_out cap n n₀ f o slots (release_look j m) i t g = rw t at g
touches_out cap n n₀ f o slots (release_write j m w) i t g = rw t at g.0
touches_out cap n n₀ f o slots (release_exchange j m w) i t g = rw t at g.0

-- another's write to a slot that this record does not touch
pub good_write : (cap n n₀ : ℕ) (f o slots : List ℕ) (i v : ℕ) (p : Place) → (Touches p i → ⊥) → Good cap n n₀ f o slots p → Good cap n n₀ f o (set slots i v) p
good_write cap n n₀ f o slots i v idle t g = g
good_write cap n n₀ f o slots i v acquire_look t g = g
good_write cap n n₀ f o slots i v borrowed_look t g = g
good_write cap n n₀ f o slots i v locked_look t g = g
good_write cap n n₀ f o slots i v (acquire_read w) t g = g
good_write cap n n₀ f o slots i v (acquire_exchange w u) t g = g
good_write cap n n₀ f o slots i v (acquire_write j) t g = g
good_write cap n n₀ f o slots i v (release_look j m) t g = g
good_write cap n n₀ f o slots i v (release_write j m w) t g = g
good_write cap n n₀ f o slots i v (release_exchange j m w) t g = (g.0, get_or-set_other slots i j v 0 t ∙ g.1, g.2)

seen_later : (cap n n₀ w : ℕ) → Seen cap n n₀ w → Seen cap (suc n) n₀ w
seen_later cap n n₀ w g = record { past = omega arith; tagged = g.tagged; inside = g.inside; open_then = g.open_then }

-- another's head change
pub good_change : (cap n n₀ : ℕ) (f f' o o' slots : List ℕ) (p : Place)
    → ((j : ℕ) → Touches p j → 1 ≤ count j o → 1 ≤ count j o')
    → Good cap n n₀ f o slots p → Good cap (suc n) n₀ f' o' slots p
good_change cap n n₀ f f' o o' slots idle k g = g
good_change cap n n₀ f f' o o' slots acquire_look k g = g
good_change cap n n₀ f f' o o' slots borrowed_look k g = g
good_change cap n n₀ f f' o o' slots locked_look k g = g
good_change cap n n₀ f f' o o' slots (acquire_read w) k g = (seen_later cap n n₀ w g.0, λ e. absurd (omega (arith, g.0.past)))
good_change cap n n₀ f f' o o' slots (acquire_exchange w v) k g = (seen_later cap n n₀ w g.0, λ e. absurd (omega (arith, g.0.past)))
good_change cap n n₀ f f' o o' slots (acquire_write j) k g = k j refl g
good_change cap n n₀ f f' o o' slots (release_look j m) k g = k j refl g
good_change cap n n₀ f f' o o' slots (release_write j m w) k g = (k j refl g.0, g.1)
good_change cap n n₀ f f' o o' slots (release_exchange j m w) k g = (k j refl g.0, g.1, g.2)

-- custody marks
held_set : (cap : ℕ) (l : List ℕ) (i c j : ℕ) → HeldAt cap (set l i c) j → (j ≡ i) ⊎ HeldAt cap l j
held_set cap l i c j h = go (ℕ_discrete j i)
  where
    go : Dec (j ≡ i) → (j ≡ i) ⊎ HeldAt cap l j
    go (yes e) = inl e
    go (no d) = inr (h.0, subst Held (get_or-set_other l i j c free d) h.1)

-- a mark other than 'held' makes none held
unset : (l : List ℕ) (i c j : ℕ) → (Held c → ⊥) → Held (get_or (set l i c) j free) → Held (get_or l j free)
unset [] i c j n h = h
unset (x ∷ l) zero c zero n h = absurd (n h)
unset (x ∷ l) zero c (suc j) n h = h
unset (x ∷ l) (suc i) c zero n h = h
unset (x ∷ l) (suc i) c (suc j) n h = unset l i c j n h

pub held_unset : (cap : ℕ) (l : List ℕ) (i c j : ℕ) → (Held c → ⊥) → HeldAt cap (set l i c) j → HeldAt cap l j
held_unset cap l i c j n h = (h.0, unset l i c j n h.1)

-- where the mark was made, none is held
pub held_gone : (l : List ℕ) (i c : ℕ) → (Held c → ⊥) → Held (get_or l i free) → Held (get_or (set l i c) i free) → ⊥
held_gone [] i c n g h = omega arith
held_gone (x ∷ l) zero c n g h = n h
held_gone (x ∷ l) (suc i) c n g h = held_gone l i c n g h

-- an index that is out is not free, and is an index
out_not_free : (cap i : ℕ) (f o : List ℕ) → count i f + count i o ≡ below i cap → 1 ≤ count i o → count i f ≡ 0
out_not_free cap i f o e h = omega (arith, below_le i cap)

-- ---- the shared words

-- a write to a slot that is out
pub core_write : {cap n : ℕ} {s : Stack} {word : ℕ} {slots : List ℕ} → Core cap n s word slots → (i x : ℕ) → 1 ≤ count i s.out → Core cap n s word (set slots i x)
core_write {cap} {n} {s} {word} {slots} v i x h =
    record {
      chain = chain_write cap slots (head_of word) i x s.free (out_not_free cap i s.free s.out (v.part i) h) v.chain;
      part = v.part;
      size = v.size;
      tag = v.tag;
      bor = v.bor;
      shut = v.shut;
      room = rw (length-set slots i x) v.room;
    }

top_le : (cap : ℕ) (a o : List ℕ) → ((i : ℕ) → count i a + count i o ≡ below i cap) → top cap a ≤ cap
top_le cap [] o p = omega arith
top_le cap (x ∷ a) o p = let k = lt_of_below x cap (omega (arith, p x, count_head x a)) in omega arith

-- the head comes off, u being what its slot says
pub core_pop : {cap n word : ℕ} {slots : List ℕ} (f o : List ℕ) (u : ℕ) → cap ≤ 16777214 → Core cap n (record { free = head_of word ∷ f; out = o; locked = false }) word slots → u ≡ top cap f
    → Core cap (suc n) (record { free = f; out = head_of word ∷ o; locked = false }) (pack u ((tag_of word + 1) % 65536) (bor_of word + 1)) slots
core_pop {cap} {n} {word} {slots} f o u fits v k =
    record {
      chain = rw head-new (chain_pop cap slots (head_of word) (head_of word) f v.chain);
      part = part';
      size = omega (arith, v.size);
      tag = tag_pack u ((tag_of word + 1) % 65536) (bor_of word + 1) (tag_bound _) ∙ rw v.tag (tag_next n);
      bor = bor_pack u ((tag_of word + 1) % 65536) (bor_of word + 1) small ∙ omega (arith, v.bor);
      shut = λ q. absurd (false≢true q);
      room = v.room;
    }
  where
    part' : (i : ℕ) → count i f + count i (head_of word ∷ o) ≡ below i cap
    part' i = omega (arith, v.part i, count_cons i (head_of word) f, count_cons i (head_of word) o)

    small : bor_of word + 1 < 16777216
    small = omega (arith, v.size, v.bor)

    head-new : head_of (pack u ((tag_of word + 1) % 65536) (bor_of word + 1)) ≡ get_or slots (head_of word) 0
    head-new =
        head_pack u ((tag_of word + 1) % 65536) (bor_of word + 1) (omega (arith, top_le cap f (head_of word ∷ o) part')) (tag_bound _) ∙ k
        ∙ sym (chain_second cap slots (head_of word) (head_of word) f v.chain)

bits_after : (b : ℕ) (l : Bool) (o o' : List ℕ) → b ≡ length o → suc (length o') ≡ length o → borrowed_after b l ≡ bits_of l o'
bits_after b true o o' e k = refl
bits_after b false o o' e k = omega arith

bits_small : (b : ℕ) (l : Bool) → b < 16777215 → borrowed_after b l < 16777216
bits_small b true h = omega arith
bits_small b false h = omega arith

last_one : (m : ReleaseMode) (b : ℕ) → locks m b ≡ true → b ≡ 1
last_one LockIfLastIndex b e = eqb-true b 1 e
last_one Default b e = absurd (false≢true e)

-- an index that is out, whose slot says the head, goes onto the chain
pub core_push : {cap n word : ℕ} {slots : List ℕ} (a o : List ℕ) (i : ℕ) (m : ReleaseMode) → cap ≤ 16777214
    → Core cap n (record { free = a; out = o; locked = false }) word slots → 1 ≤ count i o → get_or slots i 0 ≡ head_of word
    → Core cap (suc n) (record { free = i ∷ a; out = without i o; locked = locks m (length o) })
    (pack i ((tag_of word + 1) % 65536) (borrowed_after (bor_of word) (locks m (bor_of word)))) slots
core_push {cap} {n} {word} {slots} a o i m fits v out says =
    record {
      chain = rw head-new (chain_push cap slots (head_of word) i a v.chain says);
      part = λ j. omega (arith, v.part j, count_cons j i a, count-without i j o out);
      size = omega (arith, v.size, length-without i o out);
      tag = tag_pack i ((tag_of word + 1) % 65536) (borrowed_after (bor_of word) (locks m (bor_of word))) (tag_bound _) ∙ rw v.tag (tag_next n);
      bor =
          bor_pack i ((tag_of word + 1) % 65536) (borrowed_after (bor_of word) (locks m (bor_of word))) small
          ∙ rw v.bor (bits_after (length o) (locks m (length o)) o (without i o) refl (length-without i o out));
      shut = λ q. omega (arith, last_one m (length o) q, length-without i o out);
      room = v.room;
    }
  where
    small : borrowed_after (bor_of word) (locks m (bor_of word)) < 16777216
    small = bits_small (bor_of word) (locks m (bor_of word)) (omega (arith, v.size, v.bor))

    head-new : head_of (pack i ((tag_of word + 1) % 65536) (borrowed_after (bor_of word) (locks m (bor_of word)))) ≡ i
    head-new =
        head_pack i ((tag_of word + 1) % 65536) (borrowed_after (bor_of word) (locks m (bor_of word)))
        (omega (arith, lt_of_below i cap (omega (arith, v.part i)))) (tag_bound _)

-- r changes its place only, and touches no more than it did
pub stay : {cap n : ℕ} {lk : ℕ → ℕ} {s : Stack} {slots : List ℕ} {custody : List ℕ} (recs : List Rec) (r : ℕ) (x : Rec) (l : Bool)
    → r < length recs → Table cap n lk s slots custody recs
    → Good cap n (look_after l r n lk r) s.free s.out slots (live_place x)
    → ((i : ℕ) → Touches (live_place x) i → Touches (live_of recs r) i)
    → Table cap n (look_after l r n lk) s slots custody (set recs r x)
stay {cap} {n} {lk} {s} {slots} {custody} recs r x l h t mine sub =
    table_put recs r x h t mine
    (λ q d. subst⁻¹ (λ (k : ℕ). Good cap n k s.free s.out slots (live_of recs q)) (look_other l r n lk q d) (t.each q))
    (λ i q d a b. d (t.alone q r i b (sub i a))) t.wide t.marks (λ i k a. t.held_still i r k (sub i a))
    (λ i q d k a. t.held_still i q k a)

-- ---- the stack's acquire

pop_empty : (a o : List ℕ) (b : Bool) → a ≡ [] → (taken a o b ≡ record { free = a; out = o; locked = b }) × (out_of_indices ≡ taken_answer a b)
pop_empty [] o b e = (refl, refl)
pop_empty (x ∷ a) o b e = absurd (cons≢nil e)

pop_locked : (a o : List ℕ) (b : Bool) → (a ≡ [] → ⊥) → b ≡ true → (taken a o b ≡ record { free = a; out = o; locked = b }) × (is_locked_answer ≡ taken_answer a b)
pop_locked [] o b h e = absurd (h refl)
pop_locked (x ∷ a) o true h e = (refl, refl)
pop_locked (x ∷ a) o false h e = absurd (false≢true e)

nil_top : (cap : ℕ) (a : List ℕ) → top cap a < cap → a ≡ [] → ⊥
nil_top cap [] h e = omega arith
nil_top cap (x ∷ a) h e = cons≢nil e

top_outside : (cap : ℕ) (a o : List ℕ) → ((i : ℕ) → count i a + count i o ≡ below i cap) → cap ≤ top cap a → a ≡ []
top_outside cap [] o p h = refl
top_outside cap (x ∷ a) o p h = absurd (omega (arith, lt_of_below x cap (omega (arith, p x, count_head x a))))

-- the borrowed bits say 'locked' exactly if the stack is shut
bits_locked : (cap : ℕ) (b : Bool) (a o : List ℕ) (w : ℕ) → cap ≤ 16777214 → length a + length o ≡ cap → bor_of w ≡ bits_of b o → bor_of w ≡ lock_mark → b ≡ true
bits_locked cap true a o w k z e f = refl
bits_locked cap false a o w k z e f = absurd (omega arith)

bits_open : (b : Bool) (o : List ℕ) (w : ℕ) → bor_of w ≡ bits_of b o → (bor_of w ≡ lock_mark → ⊥) → b ≡ false
bits_open true o w e f = absurd (f e)
bits_open false o w e f = refl

module _ (cap : ℕ) (fits : cap ≤ 16777214) (n : ℕ) (lk : ℕ → ℕ) (s : Stack) (st : State) (r : ℕ) (live : r < length st.recs) (v : Inv cap n lk s st) where
  -- a look that ends the call and leaves the stack as it is
  ended : (x : Bool) (p : Place) (c : Call) → pending p ≡ [] → current p ≡ c.called ∷ [] → stack_after s c.called ≡ s → Allowed s c.called → c.answer ≡ stack_answer s c.called → Kept cap n lk s st r p (ends st.shared x c)
  unfolding replay Answers
  ended x p c np cp e a q =
      record {
        inv = record { core = rw e v.core; table = rw e (stay st.recs r (at idle) true live v.table tt (λ i t. absurd t)) };
        ans = (a, q, tt);
        counts = rw np;
        call = cp;
      }

  -- a look or a read that goes on
  on : (x : Bool) (p₀ : Place) (l : Bool) (p : Place) → pending p₀ ≡ pending p ++ [] → current p₀ ≡ current p ++ []
      → Good cap n (look_after l r n lk r) s.free s.out st.shared.slots p
      → ((i : ℕ) → Touches p i → Touches (live_of st.recs r) i) → Kept cap n lk s st r p₀ (goes_on st.shared x l p)
  unfolding replay Answers
  on x p₀ l p np cp g sub =
      record {
        inv = record { core = v.core; table = stay st.recs r (at p) l live v.table g sub };
        ans = tt;
        counts = np;
        call = cp;
      }

  is_top : head_of st.shared.word ≡ top cap s.free
  is_top = chain_top cap st.shared.slots (head_of st.shared.word) s.free v.core.chain

  acquire_judged : (x : Bool) (p : Place) → pending p ≡ [] → current p ≡ acquire ∷ [] → (b c : Bool) → leb cap (head_of st.shared.word) ≡ b → eqb (bor_of st.shared.word) lock_mark ≡ c
      → Kept cap n lk s st r p (acquire_judge st.shared x st.shared.word b c)
  unfolding acquire_judge stack_after stack_answer
  acquire_judged x p np cp true c e f =
      let z : s.free ≡ [] = top_outside cap s.free s.out v.core.part (rw is_top at (leb-true cap _ e)) in
      let q = pop_empty s.free s.out s.locked z in
      ended x p (record { called = acquire; answer = out_of_indices }) np cp q.0 tt q.1
  acquire_judged x p np cp false true e f =
      let z : s.free ≡ [] → ⊥ = nil_top cap s.free (rw is_top at (leb-false cap _ e)) in
      let b = bits_locked cap s.locked s.free s.out st.shared.word fits v.core.size v.core.bor (eqb-true _ _ f) in
      let q = pop_locked s.free s.out s.locked z b in
      ended x p (record { called = acquire; answer = is_locked_answer }) np cp q.0 tt q.1
  acquire_judged x p np cp false false e f =
      on x p true (acquire_read st.shared.word) np cp
      (rw (look_self r n lk)
      (record { past = omega arith; tagged = v.core.tag; inside = leb-false cap _ e; open_then = eqb-false _ _ f }, λ e. is_top))
      (λ i t. absurd t)

  acquire_looked : (x : Bool) (p : Place) → pending p ≡ [] → current p ≡ acquire ∷ [] → Kept cap n lk s st r p (acquire_looks cap st.shared x)
  unfolding acquire_looks
  acquire_looked x p np cp = acquire_judged x p np cp _ _ refl refl

  place_good : (p : Place) → live_of st.recs r ≡ p → Good cap n (lk r) s.free s.out st.shared.slots p
  place_good p e = subst (λ (k : Place). Good cap n (lk r) s.free s.out st.shared.slots k) e (v.table.each r)

  place_touch : (p : Place) (i : ℕ) → live_of st.recs r ≡ p → Touches p i → Touches (live_of st.recs r) i
  place_touch p i e t = subst⁻¹ (λ (k : Place). Touches k i) e t

  -- nobody else touches an index that r touches
  others_off : (p : Place) (i : ℕ) → live_of st.recs r ≡ p → Touches p i → (q : ℕ) → (q ≡ r → ⊥) → Touches (live_of st.recs q) i → ⊥
  others_off p i e t q d u = d (v.table.alone q r i u (place_touch p i e t))

  -- the read of the head's slot
  read_slot : (a : List ℕ) → Chain cap st.shared.slots (head_of st.shared.word) a → (h : ℕ) → h < cap → h ≡ top cap a → get_or st.shared.slots h 0 ≡ second cap a
  read_slot [] c h k e = absurd (omega arith)
  read_slot (x ∷ a) c h k e = rw e (chain_second cap st.shared.slots (head_of st.shared.word) x a c)

  acquire_reads : (w : ℕ) → live_of st.recs r ≡ acquire_read w → Kept cap n lk s st r (acquire_read w) (step_at cap st.shared r (acquire_read w))
  unfolding step_at
  acquire_reads w e =
      let g = place_good (acquire_read w) e in
      on false (acquire_read w) false (acquire_exchange w (get_or st.shared.slots (head_of w) 0)) refl refl
      (g.0, λ k. read_slot s.free v.core.chain (head_of w) g.0.inside (g.1 k)) (λ i t. absurd t)

  acquire_writes : (i : ℕ) → live_of st.recs r ≡ acquire_write i → Kept cap n lk s st r (acquire_write i) (step_at cap st.shared r (acquire_write i))
  unfolding step_at replay Answers
  acquire_writes i e =
      record {
        inv =
            record {
              core = core_write v.core i (cap + 1) mine;
              table =
                  table_put st.recs r (at idle) live v.table tt
                  (λ q d. good_write cap n (lk q) s.free s.out st.shared.slots i (cap + 1) (live_of st.recs q) (off q d) (v.table.each q))
                  (λ j q d t u. absurd t) (rw (length-set st.shared.custody i (held r)) v.table.wide)
                  (marks_put cap st.shared.custody s.out s.out i (held r) v.table.wide v.table.marks (not_free _ _ (λ (x : held r ≡ 0). omega arith) mine) (λ j d. refl)) (λ j h t. absurd t)
                  (λ j q d h u. stills j q d u (held_set cap st.shared.custody i (held r) j h));
            };
        ans = tt;
        counts = refl;
        call = refl;
      }
    where
      mine : 1 ≤ count i s.out
      mine = place_good (acquire_write i) e

      off : (q : ℕ) → (q ≡ r → ⊥) → Touches (live_of st.recs q) i → ⊥
      off = others_off (acquire_write i) i e refl

      stills : (j q : ℕ) → (q ≡ r → ⊥) → Touches (live_of st.recs q) j → (j ≡ i) ⊎ HeldAt cap st.shared.custody j → ⊥
      stills j q d u (inl k) = off q d (subst (Touches (live_of st.recs q)) k u)
      stills j q d u (inr h) = v.table.held_still j q h u

  release_writes : (i : ℕ) (m : ReleaseMode) (w : ℕ) → live_of st.recs r ≡ release_write i m w → i < cap → Kept cap n lk s st r (release_write i m w) (step_at cap st.shared r (release_write i m w))
  unfolding step_at replay Answers
  release_writes i m w e k =
      record {
        inv =
            record {
              core = core_write v.core i (head_of w) mine.0;
              table =
                  table_put st.recs r (at (release_exchange i m w)) live v.table (mine.0, get_or-set_same st.shared.slots i (head_of w) 0 (omega (arith, v.core.room)), mine.1)
                  (λ q d. good_write cap n (lk q) s.free s.out st.shared.slots i (head_of w) (live_of st.recs q) (off q d) (v.table.each q))
                  (λ j q d t u. off q d (subst⁻¹ (Touches (live_of st.recs q)) t u)) v.table.wide v.table.marks
                  (λ j h t. v.table.held_still j r h (place_touch (release_write i m w) j e t)) (λ j q d h u. v.table.held_still j q h u);
            };
        ans = tt;
        counts = refl;
        call = refl;
      }
    where
      mine : (1 ≤ count i s.out) × Lent w
      mine = place_good (release_write i m w) e

      off : (q : ℕ) → (q ≡ r → ⊥) → Touches (live_of st.recs q) i → ⊥
      off = others_off (release_write i m w) i e refl

  out_inside : (i : ℕ) → 1 ≤ count i s.out → i < cap
  out_inside i h = lt_of_below i cap (omega (arith, v.core.part i))

  bits_test : (b : Bool) → s.locked ≡ b → eqb (bor_of st.shared.word) lock_mark ≡ b
  bits_test true e = eq-eqb _ _ (rw e at v.core.bor)
  bits_test false e =
      let k : bor_of st.shared.word ≡ length s.out = rw e at v.core.bor in
      ne_eqb _ _ (λ (q : bor_of st.shared.word ≡ lock_mark). omega (arith, v.core.size))

  borrowed_value : (b : Bool) → s.locked ≡ b → cond b 0 (bor_of st.shared.word) ≡ length s.out
  borrowed_value true e = sym (v.core.shut e)
  borrowed_value false e = rw e at v.core.bor

  borrowed_looked : Kept cap n lk s st r borrowed_look (step_at cap st.shared r borrowed_look)
  unfolding step_at stack_after stack_answer
  borrowed_looked = ended false borrowed_look _ refl refl refl tt (ap answer.Borrowed (rw (bits_test s.locked refl) (borrowed_value s.locked refl)))

  locked_looked : Kept cap n lk s st r locked_look (step_at cap st.shared r locked_look)
  unfolding step_at stack_after stack_answer
  locked_looked = ended false locked_look _ refl refl refl tt (ap answer.Locked (bits_test s.locked refl))

  -- while an index is out the set is open, and the borrowed bits are the number out
  open_while : (i : ℕ) → 1 ≤ count i s.out → s.locked ≡ false
  open_while i h = go s.locked refl
    where
      go : (b : Bool) → s.locked ≡ b → b ≡ false
      go true e = absurd (omega (arith, v.core.shut e, count-length i s.out))
      go false e = refl

  bor_while : (i : ℕ) → 1 ≤ count i s.out → bor_of st.shared.word ≡ length s.out
  bor_while i h = rw (open_while i h) at v.core.bor

  release_judged : (x : Bool) (p : Place) (i : ℕ) (m : ReleaseMode) → pending p ≡ [] → current p ≡ release (index i) m ∷ [] → 1 ≤ count i s.out → ((j : ℕ) → i ≡ j → Touches (live_of st.recs r) j) → (b : Bool)
      → (eqb (bor_of st.shared.word) 0 || eqb (bor_of st.shared.word) lock_mark) ≡ b
      → Kept cap n lk s st r p (release_judge st.shared x i m r st.shared.word b)
  unfolding release_judge
  release_judged x p i m np cp h t true e = absurd (true≢false (sym e ∙ rw (zero-not, lock-not)))
    where
      zero-not : eqb (bor_of st.shared.word) 0 ≡ false
      zero-not = ne_eqb _ _ (λ (q : bor_of st.shared.word ≡ 0). omega (arith, bor_while i h, count-length i s.out))

      lock-not : eqb (bor_of st.shared.word) lock_mark ≡ false
      lock-not = bits_test false (open_while i h)
  release_judged x p i m np cp h t false e = on x p true (release_write i m st.shared.word) np cp (h, record { some_out = eqb-false _ _ (or_left _ _ e); open_then = eqb-false _ _ (or_right (eqb (bor_of st.shared.word) 0) _ e) }) t

  release_looked : (x : Bool) (p : Place) (i : ℕ) (m : ReleaseMode) → pending p ≡ [] → current p ≡ release (index i) m ∷ [] → 1 ≤ count i s.out
      → ((j : ℕ) → i ≡ j → Touches (live_of st.recs r) j) → Kept cap n lk s st r p (release_looks st.shared x i m r)
  unfolding release_looks
  release_looked x p i m np cp h t = release_judged x p i m np cp h t _ refl

-- ---- the won exchanges

acquire_won : (cap : ℕ) → cap ≤ 16777214 → (n : ℕ) (lk : ℕ → ℕ) (f o : List ℕ) (st : State) (r : ℕ) → r < length st.recs → (w u : ℕ)
    → Inv cap n lk (record { free = head_of w ∷ f; out = o; locked = false }) st
    → st.shared.word ≡ w → u ≡ top cap f
    → Kept cap n lk (record { free = head_of w ∷ f; out = o; locked = false }) st r (acquire_exchange w u) (acquire_exchanges cap st.shared r w u true)
unfolding acquire_exchanges replay Answers stack_after stack_answer
acquire_won cap fits n lk f o st r live w u v e k =
    record {
      inv =
          record {
            core = core_pop f o u fits core k;
            table =
                table_put st.recs r (at (acquire_write (head_of w))) live v.table (omega (arith, count_head (head_of w) o))
                (λ q d. good_change cap n (lk q) (head_of w ∷ f) f o (head_of w ∷ o) st.shared.slots (live_of st.recs q) (λ j t h. grows j h) (v.table.each q))
                (λ i q d t u. mine-off i q t u) (rw (length-set st.shared.custody (head_of w) (granting r)) v.table.wide)
                (marks_put cap st.shared.custody o (head_of w ∷ o) (head_of w) (granting r) v.table.wide v.table.marks (not_free _ _ (λ (x : granting r ≡ 0). omega arith) (omega (arith, count_head (head_of w) o)))
                (λ j d. omega (arith, count_cons j (head_of w) o, same_other j (head_of w) d)))
                (λ i h t. not-out i t (held_out v.table i (unmarked i h))) (λ i q d h t. v.table.held_still i q (unmarked i h) t);
          };
      ans = (tt, refl, tt);
      counts = refl;
      call = refl;
    }
  where
    core : Core cap n (record { free = head_of w ∷ f; out = o; locked = false }) w st.shared.slots
    core = subst (λ (x : ℕ). Core cap n (record { free = head_of w ∷ f; out = o; locked = false }) x st.shared.slots) e v.core

    grows : (j : ℕ) → 1 ≤ count j o → 1 ≤ count j (head_of w ∷ o)
    grows j h = omega (arith, count_cons j (head_of w) o)

    unmarked : (i : ℕ) → HeldAt cap (set st.shared.custody (head_of w) (granting r)) i → HeldAt cap st.shared.custody i
    unmarked i h = held_unset cap st.shared.custody (head_of w) (granting r) i (λ x. omega arith) h

    not-out : (i : ℕ) → head_of w ≡ i → 1 ≤ count i o → ⊥
    not-out i t h = omega (arith, v.core.part (head_of w), count_head (head_of w) f, below_le (head_of w) cap, subst (λ (j : ℕ). 1 ≤ count j o) (sym t) h)

    mine-off : (i q : ℕ) → head_of w ≡ i → Touches (live_of st.recs q) i → ⊥
    mine-off i q t u = not-out i t (touches_out cap n (lk q) (head_of w ∷ f) o st.shared.slots (live_of st.recs q) i u (v.table.each q))

-- an index comes back to the free chain: it leaves custody, and nothing else does
pub still_out : (i j : ℕ) (o : List ℕ) → 1 ≤ count i o → (j ≡ i → ⊥) → count j (without i o) ≡ count j o
still_out i j o h d = omega (arith, count-without i j o h, same_other j i d)

pub now_free : (cap i : ℕ) (a o : List ℕ) → count i a + count i o ≡ below i cap → 1 ≤ count i o → count i (without i o) ≡ 0
now_free cap i a o p h = omega (arith, below_le i cap, count-without i i o h, same_eq i i refl)

release_won : (cap : ℕ) → cap ≤ 16777214 → (n : ℕ) (lk : ℕ → ℕ) (a o : List ℕ) (st : State) (r : ℕ) → r < length st.recs → (i : ℕ) (m : ReleaseMode) (w : ℕ)
    → Inv cap n lk (record { free = a; out = o; locked = false }) st
    → live_of st.recs r ≡ release_exchange i m w
    → st.shared.word ≡ w
    → Kept cap n lk (record { free = a; out = o; locked = false }) st r (release_exchange i m w) (release_exchanges st.shared i m r w true)
unfolding release_exchanges replay Answers stack_after stack_answer
release_won cap fits n lk a o st r live i m w v p e =
    record {
      inv =
          record {
            core = core_push a o i m fits core g.0 g.1;
            table =
                table_put st.recs r (at idle) live v.table tt
                (λ q d.
                good_change cap n (lk q) a (i ∷ a) o (without i o) st.shared.slots (live_of st.recs q)
                (λ j t h. rw (still_out i j o g.0 (λ k. off q d (subst (Touches (live_of st.recs q)) k t))) h) (v.table.each q))
                (λ j q d t u. absurd t) (rw (length-set st.shared.custody i free) v.table.wide)
                (marks_put cap st.shared.custody o (without i o) i free v.table.wide v.table.marks (is_free _ (now_free cap i a o (v.core.part i) g.0))
                (λ j d. still_out i j o g.0 d))
                (λ j h t. absurd t) (λ j q d h t. v.table.held_still j q (held_unset cap st.shared.custody i free j (λ x. omega arith) h) t);
          };
      ans = (g.0, rw core.bor refl, tt);
      counts = refl;
      call = refl;
    }
  where
    core : Core cap n (record { free = a; out = o; locked = false }) w st.shared.slots
    core = subst (λ (x : ℕ). Core cap n (record { free = a; out = o; locked = false }) x st.shared.slots) e v.core

    g : Good cap n (lk r) a o st.shared.slots (release_exchange i m w)
    g = subst (λ (k : Place). Good cap n (lk r) a o st.shared.slots k) p (v.table.each r)

    off : (q : ℕ) → (q ≡ r → ⊥) → Touches (live_of st.recs q) i → ⊥
    off q d t = d (v.table.alone q r i t (subst⁻¹ (λ (k : Place). Touches k i) p refl))

-- ---- every step

module _ (cap : ℕ) (fits : cap ≤ 16777214) (n : ℕ) (lk : ℕ → ℕ) (st : State) (r : ℕ) (live : r < length st.recs) where
  acquire_shape : (w u : ℕ) → st.shared.word ≡ w → (a o : List ℕ) (b : Bool) → head_of w ≡ top cap a → head_of w < cap → b ≡ false → u ≡ second cap a
      → Inv cap n lk (record { free = a; out = o; locked = b }) st
      → Kept cap n lk (record { free = a; out = o; locked = b }) st r (acquire_exchange w u) (acquire_exchanges cap st.shared r w u true)
  acquire_shape w u e [] o b h k q z v = absurd (omega arith)
  acquire_shape w u e (x ∷ f) o true h k q z v = absurd (true≢false q)
  acquire_shape w u e (x ∷ f) o false h k q z v = go v
    where
      go : Inv cap n lk (record { free = x ∷ f; out = o; locked = false }) st
          → Kept cap n lk (record { free = x ∷ f; out = o; locked = false }) st r (acquire_exchange w u) (acquire_exchanges cap st.shared r w u true)
      go =
          subst
          (λ (y : ℕ).
          Inv cap n lk (record { free = y ∷ f; out = o; locked = false }) st
          → Kept cap n lk (record { free = y ∷ f; out = o; locked = false }) st r (acquire_exchange w u) (acquire_exchanges cap st.shared r w u true))
          h (λ v. acquire_won cap fits n lk f o st r live w u v e z)

  release_shape : (i : ℕ) (m : ReleaseMode) (w : ℕ) → live_of st.recs r ≡ release_exchange i m w → st.shared.word ≡ w → (a o : List ℕ) (b : Bool) → b ≡ false
      → Inv cap n lk (record { free = a; out = o; locked = b }) st
      → Kept cap n lk (record { free = a; out = o; locked = b }) st r (release_exchange i m w) (release_exchanges st.shared i m r w true)
  release_shape i m w p e a o true q v = absurd (true≢false q)
  release_shape i m w p e a o false q v = release_won cap fits n lk a o st r live i m w v p e

  module _ (s : Stack) (v : Inv cap n lk s st) where
    acquire_exchanged : (w u : ℕ) → live_of st.recs r ≡ acquire_exchange w u → (b : Bool) → eqb w st.shared.word ≡ b
        → ((acquire_exchanges cap st.shared r w u b).wins ≡ true → n - lk r < 65536)
        → Kept cap n lk s st r (acquire_exchange w u) (acquire_exchanges cap st.shared r w u b)
    unfolding acquire_exchanges
    acquire_exchanged w u p true e young =
        let g = place_good cap fits n lk s st r live v (acquire_exchange w u) p in
        let q = sym (eqb-true w st.shared.word e) in
        let now = tag_same (lk r) n g.0.past (young refl) (sym g.0.tagged ∙ rw q at v.core.tag) in
        acquire_shape w u q s.free s.out s.locked (rw q at (is_top cap fits n lk s st r live v)) g.0.inside
        (bits_open s.locked s.out w (rw q at v.core.bor) g.0.open_then) (g.1 now) v
    acquire_exchanged w u p false e young = acquire_looked cap fits n lk s st r live v true (acquire_exchange w u) refl refl

    release_exchanged : (i : ℕ) (m : ReleaseMode) (w : ℕ) → live_of st.recs r ≡ release_exchange i m w → (b : Bool) → eqb w st.shared.word ≡ b
        → Kept cap n lk s st r (release_exchange i m w) (release_exchanges st.shared i m r w b)
    unfolding release_exchanges
    release_exchanged i m w p true e =
        release_shape i m w p (sym (eqb-true w st.shared.word e)) s.free s.out s.locked
        (open_while cap fits n lk s st r live v i (place_good cap fits n lk s st r live v (release_exchange i m w) p).0) v
    release_exchanged i m w p false e =
        release_looked cap fits n lk s st r live v true (release_exchange i m w) i m refl refl
        (place_good cap fits n lk s st r live v (release_exchange i m w) p).0
        (λ j t. place_touch cap fits n lk s st r live v (release_exchange i m w) j p t)

    pub step_keeps : (p : Place) → live_of st.recs r ≡ p → ((step_at cap st.shared r p).wins ≡ true → n - lk r < 65536)
        → Kept cap n lk s st r p (step_at cap st.shared r p)
    unfolding step_at
    step_keeps idle e y = on cap fits n lk s st r live v false idle false idle refl refl tt (λ i t. absurd t)
    step_keeps acquire_look e y = acquire_looked cap fits n lk s st r live v false acquire_look refl refl
    step_keeps borrowed_look e y = borrowed_looked cap fits n lk s st r live v
    step_keeps locked_look e y = locked_looked cap fits n lk s st r live v
    step_keeps (acquire_read w) e y = acquire_reads cap fits n lk s st r live v w e
    step_keeps (acquire_exchange w u) e y = acquire_exchanged w u e _ refl y
    step_keeps (acquire_write i) e y = acquire_writes cap fits n lk s st r live v i e
    step_keeps (release_look i m) e y =
        release_looked cap fits n lk s st r live v false (release_look i m) i m refl refl (place_good cap fits n lk s st r live v (release_look i m) e)
        (λ j t. place_touch cap fits n lk s st r live v (release_look i m) j e t)
    step_keeps (release_write i m w) e y =
        release_writes cap fits n lk s st r live v i m w e
        (out_inside cap fits n lk s st r live v i (place_good cap fits n lk s st r live v (release_write i m w) e).0)
    step_keeps (release_exchange i m w) e y = release_exchanged i m w e _ refl
