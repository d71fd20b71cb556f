-- Each accepted start and step, and a death, keeps the invariant. Assumes nothing.
use mathlib.Core.Path.{◌≡◌, refl, sym, ap, ◌∙◌, subst⁻¹}
use mathlib.Core.Bool.{true, false, true≢false}
use mathlib.Core.List.{List, [], ◌∷◌, ◌++◌}
use Prim.Native.Nat.{ℕ, zero, suc, ◌-◌, ◌≤◌, ◌<◌, suc-le-suc, zero-le}
use native.Mathlib.Omega.{arith}
use lib.ListN.{length, get_or, set, length-set}
use lib.Seq.{get_or-set_same, get_or-set_other}
use Rattle.unique_index_set_enums.specs.declared.ReleaseMode.{ReleaseMode}
use Rattle.unique_index_set_enums.specs.Kinds.{index}
use Rattle.stack_order.specs.Stack.{Called, acquire, borrowed_indices, is_locked, release, Stack, replay, Answers}
use Rattle.stack_order.specs.History.{one_more_if}
use Rattle.stack_order.proofs.Machine.{free, giving, Place, idle, acquire_look, borrowed_look, locked_look, release_look, Rec, nobody, at, step_at}
use Rattle.stack_order.proofs.Model.{Held, HeldAt, State, place_of, live_of, Turned, applied, start_put, release_put, death_put, look_after, pending, current, ops, Turns, steps, acquires, counts_out, asks, releases}
use Rattle.stack_order.proofs.Inv.{Touches, Good, Inv, table_put, held_out, marks_put, not_free}
use Rattle.stack_order.proofs.Steps.{stay, held_unset, held_gone, step_keeps}

pub record TurnKept (cap n : ℕ) (lk : ℕ → ℕ) (s : Stack) (st : State) (t : Turned) : Type 0 where
  pub inv : Inv cap (one_more_if t.event.wins n) (look_after t.event.looks t.event.by.0 n lk) (replay s t.event.orders) t.state
  pub ans : Answers s t.event.orders
  pub counts : t.event.orders ++ pending (place_of st.recs t.event.by.0) ≡ pending (place_of t.state.recs t.event.by.0) ++ t.event.ends
  pub call : t.event.starts ++ current (place_of st.recs t.event.by.0) ≡ current (place_of t.state.recs t.event.by.0) ++ ops t.event.ends
  pub others : (q : ℕ) → (q ≡ t.event.by.0 → ⊥) → place_of t.state.recs q ≡ place_of st.recs q

-- a record that is not dead is in the table
pub alive_in : (recs : List Rec) (r : ℕ) → (get_or recs r nobody).dead ≡ false → r < length recs
alive_in [] r e = absurd (true≢false e)
alive_in (x ∷ l) zero e = suc-le-suc zero-le
alive_in (x ∷ l) (suc r) e = suc-le-suc (alive_in l r e)

live_is : (recs : List Rec) (r : ℕ) → (get_or recs r nobody).dead ≡ false → live_of recs r ≡ place_of recs r
live_is recs r e = rw e

append_nil : {A : Type 0} (l : List A) → l ≡ l ++ []
append_nil [] = refl
append_nil (x ∷ l) = ap (◌∷◌ x) (append_nil l)

put_same : (recs : List Rec) (r : ℕ) (x : Rec) → r < length recs → place_of (set recs r x) r ≡ x.place
put_same recs r x h = ap (λ (y : Rec). y.place) (get_or-set_same recs r x nobody h)

put_other : (recs : List Rec) (r : ℕ) (x : Rec) (q : ℕ) → (q ≡ r → ⊥) → place_of (set recs r x) q ≡ place_of recs q
put_other recs r x q d = ap (λ (y : Rec). y.place) (get_or-set_other recs r q x nobody d)

module _ (cap : ℕ) (fits : cap ≤ 16777214) (n : ℕ) (lk : ℕ → ℕ) (s : Stack) (st : State) (v : Inv cap n lk s st) where
  step_kept : (r : ℕ) → (get_or st.recs r nobody).dead ≡ false
      → ((step_at cap st.shared r (place_of st.recs r)).wins ≡ true → n - lk r < 65536)
      → TurnKept cap n lk s st (applied st r (step_at cap st.shared r (place_of st.recs r)))
  step_kept r e y =
      let live = alive_in st.recs r e in
      let p = place_of st.recs r in
      let k = step_keeps cap fits n lk st r live s v p (live_is st.recs r e) y in
      let x = at (step_at cap st.shared r p).place in
      record {
        inv = k.inv;
        ans = k.ans;
        counts = k.counts ∙ ap (λ (z : Place). pending z ++ (step_at cap st.shared r p).answers) (sym (put_same st.recs r x live));
        call = k.call ∙ ap (λ (z : Place). current z ++ ops (step_at cap st.shared r p).answers) (sym (put_same st.recs r x live));
        others = put_other st.recs r x;
      }

  -- a death leaves no event: the invariant, and where every record stands
  pub death_keeps : (r : ℕ) → (get_or st.recs r nobody).dead ≡ false → Inv cap n lk s (death_put st r)
  death_keeps r e =
      let live = alive_in st.recs r e in
      let x : Rec = record { place = place_of st.recs r; dead = true } in
      record { core = v.core; table = stay st.recs r x false live v.table tt (λ i t. absurd t) }

  start_kept : (r : ℕ) (p : Place) (op : Called) → r < length st.recs → place_of st.recs r ≡ idle → op ∷ [] ≡ current p → pending p ≡ []
      → ((i : ℕ) → Touches p i → ⊥) → Good cap n (lk r) s.free s.out st.shared.slots p → TurnKept cap n lk s st (start_put st r p op)
  unfolding replay Answers
  start_kept r p op live z c np nt g =
      record {
        inv = record { core = v.core; table = stay st.recs r (at p) false live v.table g (λ i t. absurd (nt i t)) };
        ans = tt;
        counts = ap pending z ∙ sym np ∙ ap pending (sym (put_same st.recs r (at p) live)) ∙ append_nil _;
        call = ap (λ (y : Place). op ∷ current y) z ∙ c ∙ ap current (sym (put_same st.recs r (at p) live)) ∙ append_nil _;
        others = put_other st.recs r (at p);
      }

  release_kept : (r i : ℕ) (m : ReleaseMode) → r < length st.recs → place_of st.recs r ≡ idle → HeldAt cap st.shared.custody i
      → TurnKept cap n lk s st (release_put st r i m)
  unfolding replay Answers
  release_kept r i m live z is_held_lem =
      record {
        inv =
            record {
              core = v.core;
              table =
                  table_put st.recs r (at (release_look i m)) live v.table (held_out v.table i is_held_lem) (λ q d. v.table.each q)
                  (λ j q d t u. v.table.held_still i q is_held_lem (subst⁻¹ (Touches (live_of st.recs q)) t u))
                  (rw (length-set st.shared.custody i (giving r)) v.table.wide)
                  (marks_put cap st.shared.custody s.out s.out i (giving r) v.table.wide v.table.marks (not_free _ _ (λ (x : giving r ≡ 0). omega arith) (held_out v.table i is_held_lem)) (λ j d. refl))
                  (λ j h t. held_gone st.shared.custody i (giving r) (λ x. omega arith) is_held_lem.1 (subst⁻¹ (λ (y : ℕ). Held (get_or (set st.shared.custody i (giving r)) y free)) t h.1))
                  (λ j q d h u. v.table.held_still j q (held_unset cap st.shared.custody i (giving r) j (λ x. omega arith) h) u);
            };
        ans = tt;
        counts = ap pending z ∙ ap pending (sym (put_same st.recs r (at (release_look i m)) live)) ∙ append_nil _;
        call = ap (λ (y : Place). release (index i) m ∷ current y) z ∙ ap current (sym (put_same st.recs r (at (release_look i m)) live)) ∙ append_nil _;
        others = put_other st.recs r (at (release_look i m));
      }

  pub turn_keeps : (t : Turned) → Turns cap st t → (t.event.wins ≡ true → n - lk t.event.by.0 < 65536) → TurnKept cap n lk s st t
  turn_keeps t (steps r e) y = step_kept r e y
  turn_keeps t (acquires r e z) y = start_kept r acquire_look acquire (alive_in st.recs r e) z refl refl (λ i t. t) tt
  turn_keeps t (counts_out r e z) y = start_kept r borrowed_look borrowed_indices (alive_in st.recs r e) z refl refl (λ i t. t) tt
  turn_keeps t (asks r e z) y = start_kept r locked_look is_locked (alive_in st.recs r e) z refl refl (λ i t. t) tt
  turn_keeps t (releases r i m e z h) y = release_kept r i m (alive_in st.recs r e) z h

-- where every record stands after a death: where it stood
pub death_places : (recs : List Rec) (r q : ℕ) → (get_or recs r nobody).dead ≡ false → Dec (q ≡ r) → place_of (set recs r (record { place = place_of recs r; dead = true })) q ≡ place_of recs q
death_places recs r q e (yes k) = rw k (put_same recs r (record { place = place_of recs r; dead = true }) (alive_in recs r e))
death_places recs r q e (no d) = put_other recs r (record { place = place_of recs r; dead = true }) q d
