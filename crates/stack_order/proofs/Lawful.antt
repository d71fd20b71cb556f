-- The dock's turns are the machine's: after every accepted step and start the invariant and the history stand as they must. Assumes nothing.
use Rattle.std.specs.Prelude.{Option, Some, None, Result, Ok, Err}
use Prim.Native.Nat.{ℕ, zero, suc, ◌-◌, ◌%◌, ◌≤◌, ◌<◌}
use native.Mathlib.Nat.{not-suc-le-zero, le_of_suc-le-suc}
use native.Mathlib.Decide.{ℕ_discrete}
use mathlib.Core.Path.{◌≡◌, refl, sym, ap, ◌∙◌, subst, subst⁻¹}
use mathlib.Core.Bool.{Bool, true, false, cond, not}
use mathlib.Core.List as list
use mathlib.Core.List.{[], ◌∷◌, ◌++◌, map}
use native.Mathlib.Omega.{arith}
use borrow.Author.Tests.{ltb-true, leb-false}
use lib.Dec.{T, eqb, leb, ltb}
use lib.ListN.{length, get_or, set}
use lib.Seq.{get_or-set_same, get_or-set_other, set-get_or}
use Rattle.unique_index_set_enums.specs.declared.Index.{Index}
use Rattle.unique_index_set_enums.specs.declared.RecordNumber.{RecordNumber}
use Rattle.unique_index_set_enums.proofs.Choice.{both_false}
use Rattle.calls.specs.declared.Answer.{Answer}
use Rattle.calls.specs.declared.Refusal.{Refusal}
use Rattle.calls.specs.declared.Request.{Request}
use Rattle.calls.proofs.Order.{accepted}
use Rattle.thread_records.specs.declared.OwnerList.{OwnerList}
use Rattle.thread_records.specs.declared.Record.{Record}
use Rattle.thread_records.specs.Records.{empty_list, idle_record, live_record, not_alive, not_idle, not_calling}
use Rattle.thread_records.specs.Effects.{Effect, unchanged}
use Rattle.custody.specs.declared.Custody.{Custody}
use Rattle.custody.specs.declared.Custody.TheVariants.{Free, Granting, Held, Giving}
use Rattle.custody.specs.declared.UnknownEntry.{UnknownEntry}
use Rattle.custody.specs.Entry.{entry_of, custody_of}
use Rattle.custody.proofs.Laws.{entry_custody}
use Rattle.plain_places.specs.declared.Place.{Place}
use Rattle.plain_places.specs.declared.Place.TheVariants.{AcquireLook, AcquireRead, AcquireExchange, AcquireWrite, ReleaseLook, ReleaseWrite, ReleaseExchange, BorrowedLook, LockedLook}
use Rattle.plain_places.specs.Places.{sound, opened_at, closed_at}
use Rattle.plain_places.proofs.Laws.{opened_closed}
use Rattle.plain_calls.specs.declared.asks.Asked.{Asked}
use Rattle.plain_calls.specs.declared.asks.Asked.TheVariants as asked
use Rattle.std.specs.declared.ops.ControlFlow.{ControlFlow}
use Rattle.std.specs.declared.ops.ControlFlow.TheVariants.{Continue, Break}
use Rattle.plain_calls.specs.Asks.{asked_of}
use Rattle.plain_calls.specs.Marks.{held_by}
use Rattle.unique_index_set.specs.Custodies.{holds}
use Rattle.unique_index_set.specs.Steps.{Shared, shared, saw_at, next_at, thread_after, report_after, shared_after, advanced, is_damaged, opened_in, step_judged, step_of}
use Rattle.unique_index_set.specs.Starts.{start_tests, start_verdict, start_judged, started_from, start_of}
use Rattle.unique_index_set.proofs.Accepted.{step_passed, release_in}
use Rattle.unique_index_set.proofs.Stays.{Ready, stepped, ready_sound, accepted_ready, nearer, going_sound}
use Rattle.stack_order.specs.Stack.{Call}
use Rattle.stack_order.specs.History.{Event, changes, looked_at, start_event, exchanges_at, wins_at, looks_at, orders_at, step_event, Young}
use Rattle.stack_order.specs.Runs.{if_taken, opened_event}
use Rattle.stack_order.proofs.Machine as M
use Rattle.stack_order.proofs.Model.{State, place_of, Turned, applied, Turns, steps, acquires, counts_out, asks, releases}
use Rattle.stack_order.proofs.Sound.{Sound, sound_next, sound_order}
use Rattle.stack_order.specs.Demand.{InOrder}
use Rattle.stack_order.proofs.Bridge.{place_in, shared_in, stands_next, Same, same_step}

pub clash : {X : Type 0} → false ≡ true → X
clash w = absurd (subst T (sym w) tt)

-- ---- a dock as a state of the machine
abbrev pub stands_opened : Option Place → M.Place
stands_opened (Some p) = place_in p
stands_opened None = M.idle

abbrev pub standing : ℕ → Record → M.Place
standing cap t = cond (eqb t.call.place 0) M.idle (stands_opened (opened_at cap t.call))

abbrev pub in_rec : ℕ → Record → M.Rec
in_rec cap t = record { place = standing cap t; dead = t.dead }

abbrev pub state_of : Shared → list.List Record → State
state_of s records = record { shared = shared_in s; recs = map (in_rec s.set.capacity) records }

-- a call that does not open
abbrev pub damaged_at : ℕ → Record → Bool
damaged_at cap t = cond (eqb t.call.place 0) false (is_damaged (opened_at cap t.call))

pub record Good (size : ℕ) (s : Shared) (records : list.List Record) (h : list.List Event) : Type 0 where
  pub is : s.set.capacity ≡ size
  pub few : s.set.capacity ≤ 16777214
  pub sound : Sound s.set.capacity (state_of s records) h
  pub whole : (r : ℕ) → damaged_at s.set.capacity (get_or records r (idle_record empty_list)) ≡ false
  pub order : InOrder h

-- ---- lists
pub map_put : (f : Record → M.Rec) (l : list.List Record) (r : ℕ) (x : Record) → map f (set l r x) ≡ set (map f l) r (f x)
map_put f [] r x = refl
map_put f (y ∷ l) zero x = refl
map_put f (y ∷ l) (suc r) x = ap (◌∷◌ (f y)) (map_put f l r x)

pub map_get : (f : Record → M.Rec) (l : list.List Record) (r : ℕ) (c : M.Rec) (d : Record) → r < length l → get_or (map f l) r c ≡ f (get_or l r d)
map_get f [] r c d h = absurd (not-suc-le-zero h)
map_get f (y ∷ l) zero c d h = refl
map_get f (y ∷ l) (suc r) c d h = map_get f l r c d (le_of_suc-le-suc h)

-- ---- where a record stands
entered : (q : Place) → eqb (closed_at q).place 0 ≡ false
entered AcquireLook = refl
entered (AcquireRead seen) = refl
entered (AcquireExchange seen value) = refl
entered (AcquireWrite i) = refl
entered (ReleaseLook i m) = refl
entered (ReleaseWrite i m seen) = refl
entered (ReleaseExchange i m seen) = refl
entered BorrowedLook = refl
entered LockedLook = refl

stands_at : (cap : ℕ) (q : Place) (l : OwnerList) → sound cap q ≡ true → standing cap (live_record (closed_at q) l) ≡ place_in q
stands_at cap q l e = rw (entered q, opened_closed cap q e) refl

whole_at : (cap : ℕ) (q : Place) (l : OwnerList) → sound cap q ≡ true → damaged_at cap (live_record (closed_at q) l) ≡ false
whole_at cap q l e = rw (entered q, opened_closed cap q e) refl

-- after a step: a place that it goes on to is sound
abbrev SoundNext : ℕ → ControlFlow Answer Place → Type 0
SoundNext cap (Continue q) = sound cap q ≡ true
SoundNext cap (Break a) = Unit {0}

stands_next_lem : (cap : ℕ) (n : ControlFlow Answer Place) (l : OwnerList) → SoundNext cap n → in_rec cap (thread_after n l) ≡ M.at (stands_next n)
stands_next_lem cap (Continue q) l e = ap M.at (stands_at cap q l e)
stands_next_lem cap (Break a) l e = refl

whole_next : (cap : ℕ) (n : ControlFlow Answer Place) (l : OwnerList) → SoundNext cap n → damaged_at cap (thread_after n l) ≡ false
whole_next cap (Continue q) l e = whole_at cap q l e
whole_next cap (Break a) l e = refl

taken_next : (n : ControlFlow Answer Place) (events : list.List Event) → if_taken (report_after n).progress events ≡ events
taken_next (Continue q) events = refl
taken_next (Break a) events = refl

-- ---- what a record that is ready is
double : (b : Bool) → not b ≡ false → b ≡ true
double true e = refl
double false e = sym e

module _ (t : Record) (n : ℕ) (who : RecordNumber) where
  pub alive : not_alive t n who ≡ false → (who.0 < n) × (t.dead ≡ false)
  unfolding not_alive
  alive e = let a = both_false (leb n who.0) e in (leb-false n who.0 a.0, a.1)

  pub calling : not_calling t n who ≡ false → (who.0 < n) × (t.dead ≡ false) × (eqb t.call.place 0 ≡ false)
  unfolding not_calling
  calling e = let a = both_false (not_alive t n who) e in ((alive a.0).0, (alive a.0).1, a.1)

  resting : not_idle t n who ≡ false → (who.0 < n) × (t.dead ≡ false) × (eqb t.call.place 0 ≡ true)
  unfolding not_idle
  resting e = let a = both_false (not_alive t n who) e in ((alive a.0).0, (alive a.0).1, double (eqb t.call.place 0) a.1)

-- ---- one turn of the record who, which leaves s' and t' and one event
module _ (size : ℕ) (s : Shared) (records : list.List Record) (h : list.List Event) (g : Good size s records h) where
  one_turn : (who : RecordNumber) (s' : Shared) (t' : Record) (e : Event) (T : Turned) → who.0 < length records → Turns s.set.capacity (state_of s records) T → s'.set.capacity ≡ s.set.capacity
      → T.state ≡ state_of s' (set records who.0 t') → T.event ≡ e → damaged_at s.set.capacity t' ≡ false → (e.wins ≡ true → changes h - looked_at h e.by.0 < 65536)
      → Good size s' (set records who.0 t') (e ∷ h)
  unfolding InOrder
  one_turn who s' t' e T low l c st ev w y =
      let sound' = subst (λ (z : Event). Sound s.set.capacity T.state (z ∷ h)) ev
      (sound_next s.set.capacity g.few (state_of s records) h g.sound T l (subst⁻¹ (λ (z : Event). z.wins ≡ true → changes h - looked_at h z.by.0 < 65536) ev y)) in
      record {
        is = c ∙ g.is;
        few = rw c g.few;
        sound = subst⁻¹ (λ (k : ℕ). Sound k (state_of s' (set records who.0 t')) (e ∷ h)) c (subst (λ (z : State). Sound s.set.capacity z (e ∷ h)) st sound');
        whole = λ r. rw c (whole-put r (ℕ_discrete r who.0));
        order = (sound_order s.set.capacity T.state (e ∷ h) sound', g.order);
      }
    where
      whole-put : (r : ℕ) → Dec (r ≡ who.0) → damaged_at s.set.capacity (get_or (set records who.0 t') r (idle_record empty_list)) ≡ false
      whole-put r (yes q) = rw q (ap (damaged_at s.set.capacity) (get_or-set_same records who.0 t' (idle_record empty_list) low) ∙ w)
      whole-put r (no d) = ap (damaged_at s.set.capacity) (get_or-set_other records who.0 r t' (idle_record empty_list) d) ∙ g.whole r

  -- put back as it was
  pub nothing_done : (who : RecordNumber) → Good size s (set records who.0 (get_or records who.0 (idle_record empty_list))) h
  nothing_done who = subst⁻¹ (λ (l : list.List Record). Good size s l h) (set-get_or records who.0 (idle_record empty_list)) g

  -- ---- a step
  module _ (who : RecordNumber) where
    abbrev n : ℕ
    n = length records

    abbrev t : Record
    t = get_or records who.0 (idle_record empty_list)

    abbrev cap : ℕ
    cap = s.set.capacity

    -- what an effect of a step or a start is to leave
    abbrev Leaves : Effect Shared → list.List Event → Type 0
    Leaves u events = Young (if_taken u.report.progress events ++ h) → Good size u.shared (set records who.0 u.thread) (if_taken u.report.progress events ++ h)

    refused_leaves : (why : Refusal) (events : list.List Event) → Leaves (unchanged s t why) events
    refused_leaves why events y = nothing_done who

    sound_after : (p : Place) → sound cap p ≡ true → SoundNext cap (next_at p s)
    sound_after p e = by_next (next_at p s) refl
      where
        by_next : (m : ControlFlow Answer Place) → next_at p s ≡ m → SoundNext cap m
        by_next (Continue q) is = (going_sound _ _ _ (next_at p s) q is (nearer p s e)).0
        by_next (Break a) is = tt

    advanced_leaves : (p : Place) → step_judged n who s t ≡ Ok tt → opened_in s t ≡ Some p → sound cap p ≡ true → Leaves (advanced who p t.list s) (step_event who p (saw_at p s) (next_at p s) ∷ [])
    unfolding advanced shared_after Young
    advanced_leaves p j o e y =
        let k = taken_next (next_at p s) (step_event who p (saw_at p s) (next_at p s) ∷ []) in
        subst⁻¹ (λ (z : list.List Event). Good size (shared_after who p s) (set records who.0 (thread_after (next_at p s) t.list)) (z ++ h)) k
        (one_turn who (shared_after who p s) (thread_after (next_at p s) t.list) (step_event who p (saw_at p s) (next_at p s)) (applied (state_of s records) who.0 f) passed.0 lawful refl state-is event-is
        (whole_next cap (next_at p s) t.list (sound_after p e)) (subst (λ (z : list.List Event). Young (z ++ h)) k y).0)
      where
        f : M.Effect
        f = M.step_at cap (shared_in s) who.0 (place_in p)

        same : Same p (saw_at p s) (next_at p s) (shared_after who p s) f
        same = same_step who s p

        passed : (who.0 < n) × (t.dead ≡ false) × (eqb t.call.place 0 ≡ false)
        passed = calling t n who (step_passed n who cap (length s.slots) (length s.custody) (opened_in s t) t j).ready

        got : get_or (map (in_rec cap) records) who.0 M.nobody ≡ in_rec cap t
        got = map_get (in_rec cap) records who.0 M.nobody (idle_record empty_list) passed.0

        placed : place_of (map (in_rec cap) records) who.0 ≡ place_in p
        placed = ap (λ (x : M.Rec). x.place) got ∙ rw (passed.2, o) refl

        lawful : Turns cap (state_of s records) (applied (state_of s records) who.0 f)
        lawful = subst (λ (z : M.Place). Turns cap (state_of s records) (applied (state_of s records) who.0 (M.step_at cap (shared_in s) who.0 z))) placed (steps who.0 (ap (λ (x : M.Rec). x.dead) got ∙ passed.1))

        recs-is : set (map (in_rec cap) records) who.0 (M.at f.place) ≡ map (in_rec cap) (set records who.0 (thread_after (next_at p s) t.list))
        recs-is =
            ap (λ (z : M.Place). set (map (in_rec cap) records) who.0 (M.at z)) (sym same.stands)
            ∙ ap (set (map (in_rec cap) records) who.0) (sym (stands_next_lem cap (next_at p s) t.list (sound_after p e)))
            ∙ sym (map_put (in_rec cap) records who.0 (thread_after (next_at p s) t.list))

        state-is : (applied (state_of s records) who.0 f).state ≡ state_of (shared_after who p s) (set records who.0 (thread_after (next_at p s) t.list))
        state-is =
            ap (λ (z : M.Shared). record { shared = z; recs = set (map (in_rec cap) records) who.0 (M.at f.place) }) (sym same.shared)
            ∙ ap (λ (l : list.List M.Rec). record { shared = shared_in (shared_after who p s); recs = l }) recs-is

        event-is : (applied (state_of s records) who.0 f).event ≡ step_event who p (saw_at p s) (next_at p s)
        event-is =
            ap (λ (z : Bool). record { by = who; looks = z; exchanges = f.exchanges; wins = f.wins; starts = []; orders = f.judged; ends = f.answers }) (sym same.looks)
            ∙ ap (λ (z : Bool). record { by = who; looks = looks_at p (saw_at p s); exchanges = z; wins = f.wins; starts = []; orders = f.judged; ends = f.answers }) (sym same.exchanges)
            ∙ ap (λ (z : Bool). record { by = who; looks = looks_at p (saw_at p s); exchanges = exchanges_at p; wins = z; starts = []; orders = f.judged; ends = f.answers }) (sym same.wins)
            ∙ ap (λ (z : list.List Call). record { by = who; looks = looks_at p (saw_at p s); exchanges = exchanges_at p; wins = wins_at p (saw_at p s); starts = []; orders = z; ends = f.answers }) (sym same.orders)
            ∙ ap (λ (z : list.List Call). record { by = who; looks = looks_at p (saw_at p s); exchanges = exchanges_at p; wins = wins_at p (saw_at p s); starts = []; orders = orders_at p (saw_at p s) (next_at p s); ends = z }) (sym same.ends)

    opened_leaves : (p : Place) → Ready n who s t p → Leaves (step_of n who s t) (opened_event who (opened_in s t) s)
    opened_leaves p r =
        subst⁻¹ (λ (z : Option Place). Leaves (step_of n who s t) (opened_event who z s)) r.opened
        (subst⁻¹ (λ (u : Effect Shared). Leaves u (step_event who p (saw_at p s) (next_at p s) ∷ [])) (stepped n who s t p r) (advanced_leaves p r.judged r.opened (ready_sound n who s t p r)))

    refused_step : (why : Refusal) → step_judged n who s t ≡ Err why → step_of n who s t ≡ unchanged s t why
    unfolding step_of
    refused_step why e = rw e refl

    pub step_turn : Leaves (step_of n who s t) (opened_event who (opened_in s t) s)
    step_turn = by-verdict (step_judged n who s t) refl
      where
        by-verdict : (v : Result (Unit {0}) Refusal) → step_judged n who s t ≡ v → Leaves (step_of n who s t) (opened_event who (opened_in s t) s)
        by-verdict (Err why) e = subst⁻¹ (λ (u : Effect Shared). Leaves u (opened_event who (opened_in s t) s)) (refused_step why e) (refused_leaves why (opened_event who (opened_in s t) s))
        by-verdict (Ok u) e = accepted_ready n who s t e (Leaves (step_of n who s t) (opened_event who (opened_in s t) s)) opened_leaves

    -- ---- a start
    enter_leaves : (p : Place) (custody : list.List ℕ) (e : Event) (T : Turned) → who.0 < n → sound cap p ≡ true → Turns cap (state_of s records) T
        → T.state ≡ record { shared = record { word = s.set.head; slots = s.slots; custody = custody }; recs = set (map (in_rec cap) records) who.0 (M.at (place_in p)) } → T.event ≡ e → e.wins ≡ false
        → Good size (shared s.set s.slots custody) (set records who.0 (live_record (closed_at p) t.list)) (e ∷ h)
    enter_leaves p custody e T low so l st ev w =
        one_turn who (shared s.set s.slots custody) (live_record (closed_at p) t.list) e T low l refl
        (st ∙ ap (λ (z : list.List M.Rec). record { shared = record { word = s.set.head; slots = s.slots; custody = custody }; recs = z })
        (ap (λ (z : M.Place). set (map (in_rec cap) records) who.0 (M.at z)) (sym (stands_at cap p t.list so)) ∙ sym (map_put (in_rec cap) records who.0 (live_record (closed_at p) t.list))))
        ev (whole_at cap p t.list so) (λ (k : e.wins ≡ true). clash (sym w ∙ k))

    module _ (r : not_idle t n who ≡ false) where
      here : get_or (map (in_rec cap) records) who.0 M.nobody ≡ in_rec cap t
      here = map_get (in_rec cap) records who.0 M.nobody (idle_record empty_list) (resting t n who r).0

      lives : (get_or (map (in_rec cap) records) who.0 M.nobody).dead ≡ false
      lives = ap (λ (x : M.Rec). x.dead) here ∙ (resting t n who r).1

      idles : place_of (map (in_rec cap) records) who.0 ≡ M.idle
      idles = ap (λ (x : M.Rec). x.place) here ∙ rw (resting t n who r).2 refl

    held_entry : (i : Index) → holds who i s.custody ≡ true → get_or s.custody i.0 0 % 256 ≡ 2
    unfolding holds
    held_entry i e = by-entry (custody_of (get_or s.custody i.0 0)) refl (second (ltb i.0 (length s.custody)) e)
      where
        second : (b : Bool) → cond b (held_by who (custody_of (get_or s.custody i.0 0))) false ≡ true → held_by who (custody_of (get_or s.custody i.0 0)) ≡ true
        second true k = k
        second false k = clash k

        by-entry : (c : Result Custody UnknownEntry) → custody_of (get_or s.custody i.0 0) ≡ c → held_by who c ≡ true → get_or s.custody i.0 0 % 256 ≡ 2
        by-entry (Ok Free) is k = clash k
        by-entry (Ok (Granting q)) is k = clash k
        by-entry (Ok (Giving q q')) is k = clash k
        by-entry (Err u) is k = clash k
        by-entry (Ok (Held q)) is k =
            let v : entry_of (Held q) ≡ get_or s.custody i.0 0 = entry_custody (get_or s.custody i.0 0) (Held q) is in
            omega (arith, v)

    started_leaves : (a : Option Asked) → start_judged n who a s t ≡ Ok tt → Leaves (started_from a who s t) (start_event who a ∷ [])
    unfolding start_verdict
    started_leaves (Some asked.Acquire) e y =
        let p = accepted (start_tests n who cap (length s.slots) s.custody (Some asked.Acquire) t) e in
        enter_leaves AcquireLook s.custody (start_event who (Some asked.Acquire)) _ (resting t n who p.ready).0 refl (acquires who.0 (lives p.ready) (idles p.ready)) refl refl refl
    started_leaves (Some asked.BorrowedIndices) e y =
        let p = accepted (start_tests n who cap (length s.slots) s.custody (Some asked.BorrowedIndices) t) e in
        enter_leaves BorrowedLook s.custody (start_event who (Some asked.BorrowedIndices)) _ (resting t n who p.ready).0 refl (counts_out who.0 (lives p.ready) (idles p.ready)) refl refl refl
    started_leaves (Some asked.IsLocked) e y =
        let p = accepted (start_tests n who cap (length s.slots) s.custody (Some asked.IsLocked) t) e in
        enter_leaves LockedLook s.custody (start_event who (Some asked.IsLocked)) _ (resting t n who p.ready).0 refl (asks who.0 (lives p.ready) (idles p.ready)) refl refl refl
    started_leaves (Some (asked.Release i m)) e y =
        let p = accepted (start_tests n who cap (length s.slots) s.custody (Some (asked.Release i m)) t) e in
        let inside : ltb i.0 cap ≡ true = release_in n who i m s t e in
        enter_leaves (ReleaseLook i m) (set s.custody i.0 (M.giving who.0)) (start_event who (Some (asked.Release i m))) _ (resting t n who p.ready).0 inside
        (releases who.0 i.0 m (lives p.ready) (idles p.ready) (ltb-true i.0 cap inside, held_entry i (double (holds who i s.custody) p.held))) refl refl refl
    started_leaves None e y =
        let p = accepted (start_tests n who cap (length s.slots) s.custody None t) e in
        clash (sym p.known)

    refused_start : (request : Request) (why : Refusal) → start_judged n who (asked_of request) s t ≡ Err why → start_of n who request s t ≡ unchanged s t why
    unfolding start_of
    refused_start request why e = rw e refl

    accepted_start : (request : Request) → start_judged n who (asked_of request) s t ≡ Ok tt → start_of n who request s t ≡ started_from (asked_of request) who s t
    unfolding start_of
    accepted_start request e = rw e refl

    pub start_turn : (request : Request) → Leaves (start_of n who request s t) (start_event who (asked_of request) ∷ [])
    start_turn request = by-verdict (start_judged n who (asked_of request) s t) refl
      where
        by-verdict : (v : Result (Unit {0}) Refusal) → start_judged n who (asked_of request) s t ≡ v → Leaves (start_of n who request s t) (start_event who (asked_of request) ∷ [])
        by-verdict (Err why) e = subst⁻¹ (λ (u : Effect Shared). Leaves u (start_event who (asked_of request) ∷ [])) (refused_start request why e) (refused_leaves why (start_event who (asked_of request) ∷ []))
        by-verdict (Ok u) e = subst⁻¹ (λ (u : Effect Shared). Leaves u (start_event who (asked_of request) ∷ [])) (accepted_start request e) (started_leaves (asked_of request) e)
