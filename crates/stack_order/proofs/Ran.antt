-- Every operation keeps what is promised, and so does a whole run: starts, steps, lists, deaths, and drains by their steps. Assumes nothing.
use Rattle.std.specs.Prelude.{Result, Ok, Err}
use Prim.Native.Nat.{ℕ, zero, suc, ◌+◌, ◌<◌}
use mathlib.Core.Path.{◌≡◌, refl, sym, ap, ◌∙◌, subst, subst⁻¹}
use mathlib.Core.Bool.{Bool, true, false, cond}
use mathlib.Core.List as list
use mathlib.Core.List.{[], ◌∷◌, ◌++◌, map, append_assoc}
use native.Mathlib.Omega.{arith}
use lib.ListN.{length, get_or, set, length-set, replicate}
use lib.Seq.{get_or-set_same, set-get_or, set-set}
use Rattle.unique_index_set_enums.specs.declared.RecordNumber.{RecordNumber}
use Rattle.calls.specs.declared.Refusal.{Refusal}
use Rattle.calls.specs.declared.SetKind.TheVariants as kind
use Rattle.calls.specs.Order.{verdict_of}
use Rattle.calls.specs.Runs.{Run, run_from}
use Rattle.calls.proofs.Order.{accepted}
use Rattle.thread_records.specs.declared.OwnerList.{OwnerList}
use Rattle.thread_records.specs.declared.Record.{Record}
use Rattle.thread_records.specs.Records.{empty_list, idle_record, marked_dead, not_alive}
use Rattle.thread_records.specs.Effects.{Effect, record_judged}
use Rattle.thread_records.specs.Deaths.{death_tests, death_of}
use Rattle.thread_records.specs.Lists.{list_tests, written_list, with_list, list_of}
use Rattle.thread_records.specs.Drains as drains
use Rattle.unique_index_set.specs.Steps.{Shared, opened_in, step_judged, step_of}
use Rattle.unique_index_set.specs.Drains.{again, drain_of}
use Rattle.unique_index_set.proofs.Accepted.{step_passed}
use Rattle.turns.specs.declared.Operation.{Operation}
use Rattle.turns.specs.declared.Operation.TheVariants.{Start, Step, List, Death, Drain}
use Rattle.turns.specs.Plain.{plain_turn_of}
use Rattle.turns.specs.Docks.{Table, Turned}
use Rattle.turns.proofs.Tables.{there}
use Rattle.stack_order.specs.History.{Event, Young}
use Rattle.stack_order.specs.Runs.{Entry, turned, step_events, steps_events, events_of, events, World, after, ran}
use Rattle.stack_order.proofs.Machine as M
use Rattle.stack_order.proofs.Model.{death_put}
use Rattle.stack_order.proofs.Sound.{Sound, sound_death}
use Rattle.stack_order.proofs.Bridge.{shared_in}
use Rattle.stack_order.proofs.Lawful.{alive, in_rec, state_of, damaged_at, Good, map_put, map_get, nothing_done, calling, step_turn, start_turn}

-- ---- the premise of a longer history is that of its beginning
pub young_older : (newer older : list.List Event) → Young (newer ++ older) → Young older
unfolding Young
young_older [] older y = y
young_older (e ∷ newer) older y = young_older newer older y.1

-- ---- of every record, put or not
set_all : (P : Record → Type 0) (l : list.List Record) (i : ℕ) (x d : Record) → ((r : ℕ) → P (get_or l r d)) → P x → (r : ℕ) → P (get_or (set l i x) r d)
set_all P [] i x d a b r = a r
set_all P (y ∷ l) zero x d a b zero = b
set_all P (y ∷ l) zero x d a b (suc r) = a (suc r)
set_all P (y ∷ l) (suc i) x d a b zero = a 0
set_all P (y ∷ l) (suc i) x d a b (suc r) = set_all P l i x d (λ q. a (suc q)) b r

-- ---- how many steps a drain takes
module _ (who : RecordNumber) (records : list.List Record) where
  abbrev step : Effect Shared → Effect Shared
  step e = again (length records) who e

  takes : ℕ → Effect Shared → ℕ
  takes zero e = 0
  takes (suc b) e = cond (drains.going (step e)) (suc (takes b (step e))) 1

  takes_is : (b k : ℕ) (e : Effect Shared) → (run_from step drains.going b k e).steps ≡ k + takes b e
  unfolding run_from takes
  takes_is zero k e = omega arith
  takes_is (suc b) k e = by-test (drains.going (step e)) (takes_is b (k + 1) (step e))
    where
      by-test : (x : Bool) → (run_from step drains.going b (k + 1) (step e)).steps ≡ k + 1 + takes b (step e) → (cond x (run_from step drains.going b (k + 1) (step e)) (record { left = step e; steps = k + 1 })).steps ≡ k + cond x (suc (takes b (step e))) 1
      by-test true q = q ∙ omega arith
      by-test false q = refl

module _ (size : ℕ) (who : RecordNumber) where
  module _ (s : Shared) (records : list.List Record) (h : list.List Event) (g : Good size s records h) where
    abbrev n : ℕ
    n = length records

    abbrev t : Record
    t = get_or records who.0 (idle_record empty_list)

    abbrev cap : ℕ
    cap = s.set.capacity

    -- a list changes nothing that counts
    list_keeps : (l : OwnerList) → Good size s (set records who.0 (with_list t l)) h
    list_keeps l = record {
      is = g.is;
      few = g.few;
      sound =
          subst⁻¹ (λ (z : list.List M.Rec). Sound cap (record { shared = shared_in s; recs = z }) h)
          (map_put (in_rec cap) records who.0 (with_list t l) ∙ sym (map_put (in_rec cap) records who.0 t) ∙ ap (map (in_rec cap)) (set-get_or records who.0 (idle_record empty_list))) g.sound;
      whole = set_all (λ (x : Record). damaged_at cap x ≡ false) records who.0 (with_list t l) (idle_record empty_list) g.whole (g.whole who.0);
      order = g.order;
    }

    list_turn : (brought : OwnerList) → Good size s (set records who.0 (list_of kind.Plain t n who brought).thread) h
    unfolding list_of
    list_turn brought = by-verdict (verdict_of (list_tests kind.Plain t n who brought))
      where
        by-verdict : (v : Result (Unit {0}) Refusal) → Good size s (set records who.0 (record_judged v t (with_list t (written_list brought))).thread) h
        by-verdict (Err why) = nothing_done size s records h g who
        by-verdict (Ok u) = list_keeps (written_list brought)

    -- a death marks its record
    death_keeps : not_alive t n who ≡ false → Good size s (set records who.0 (marked_dead t)) h
    death_keeps e = record {
      is = g.is;
      few = g.few;
      sound = subst (λ (z : list.List M.Rec). Sound cap (record { shared = shared_in s; recs = z }) h) dead-recs (sound_death cap g.few (state_of s records) h g.sound who.0 (ap (λ (x : M.Rec). x.dead) got ∙ (alive t n who e).1));
      whole = set_all (λ (x : Record). damaged_at cap x ≡ false) records who.0 (marked_dead t) (idle_record empty_list) g.whole (g.whole who.0);
      order = g.order;
    }
      where
        got : get_or (map (in_rec cap) records) who.0 M.nobody ≡ in_rec cap t
        got = map_get (in_rec cap) records who.0 M.nobody (idle_record empty_list) (alive t n who e).0

        dead-recs : (death_put (state_of s records) who.0).recs ≡ map (in_rec cap) (set records who.0 (marked_dead t))
        dead-recs = ap (λ (z : M.Place). set (map (in_rec cap) records) who.0 (record { place = z; dead = true })) (ap (λ (x : M.Rec). x.place) got) ∙ sym (map_put (in_rec cap) records who.0 (marked_dead t))

    death_turn : Good size s (set records who.0 (death_of t n who).thread) h
    unfolding death_of
    death_turn = by-verdict (verdict_of (death_tests t n who)) refl
      where
        by-verdict : (v : Result (Unit {0}) Refusal) → verdict_of (death_tests t n who) ≡ v → Good size s (set records who.0 (record_judged v t (marked_dead t)).thread) h
        by-verdict (Err why) e = nothing_done size s records h g who
        by-verdict (Ok u) e = death_keeps (accepted (death_tests t n who) e).ready

  -- ---- a drain, by its steps
  module _ (records : list.List Record) (low : who.0 < length records) where
    abbrev put : Effect Shared → list.List Record
    put e = set records who.0 e.thread

    one_step : (e : Effect Shared) (h : list.List Event) → Good size e.shared (put e) h → Young (step_events (length records) who e.shared e.thread ++ h)
        → Good size (step who records e).shared (put (step who records e)) (step_events (length records) who e.shared e.thread ++ h)
    one_step e h g =
        subst (λ (l : list.List Record). Young (step_events (length records) who e.shared e.thread ++ h) → Good size (step who records e).shared l (step_events (length records) who e.shared e.thread ++ h)) (set-set records who.0 e.thread (step who records e).thread)
        (subst (λ (u : Record). Young (step_events (length records) who e.shared u ++ h) → Good size (step_of (length records) who e.shared u).shared (set (put e) who.0 (step_of (length records) who e.shared u).thread) (step_events (length records) who e.shared u ++ h)) (get_or-set_same records who.0 e.thread (idle_record empty_list) low)
        (subst (λ (k : ℕ). Young (step_events k who e.shared (get_or (put e) who.0 (idle_record empty_list)) ++ h)
        → Good size (step_of k who e.shared (get_or (put e) who.0 (idle_record empty_list))).shared (set (put e) who.0 (step_of k who e.shared (get_or (put e) who.0 (idle_record empty_list))).thread) (step_events k who e.shared (get_or (put e) who.0 (idle_record empty_list)) ++ h))
        (length-set records who.0 e.thread) (step_turn size e.shared (put e) h g who)))

    drain_steps : (b k : ℕ) (e : Effect Shared) (h : list.List Event) → Good size e.shared (put e) h → Young (steps_events (takes who records b e) (length records) who e.shared e.thread ++ h)
        → Good size (run_from (step who records) drains.going b k e).left.shared (put (run_from (step who records) drains.going b k e).left) (steps_events (takes who records b e) (length records) who e.shared e.thread ++ h)
    unfolding run_from takes steps_events
    drain_steps zero k e h g y = g
    drain_steps (suc b) k e h g y = by-test (drains.going (step who records e)) (drain_steps b (k + 1) (step who records e)) y
      where
        here : list.List Event
        here = step_events (length records) who e.shared e.thread

        later : ℕ → list.List Event
        later m = steps_events m (length records) who (step who records e).shared (step who records e).thread

        by-test : (x : Bool)
            → ((h' : list.List Event) → Good size (step who records e).shared (put (step who records e)) h' → Young (steps_events (takes who records b (step who records e)) (length records) who (step who records e).shared (step who records e).thread ++ h')
            → Good size (run_from (step who records) drains.going b (k + 1) (step who records e)).left.shared (put (run_from (step who records) drains.going b (k + 1) (step who records e)).left) (steps_events (takes who records b (step who records e)) (length records) who (step who records e).shared (step who records e).thread ++ h'))
            → Young (steps_events (cond x (suc (takes who records b (step who records e))) 1) (length records) who e.shared e.thread ++ h)
            → Good size (cond x (run_from (step who records) drains.going b (k + 1) (step who records e)) (record { left = step who records e; steps = k + 1 })).left.shared (put (cond x (run_from (step who records) drains.going b (k + 1) (step who records e)) (record { left = step who records e; steps = k + 1 })).left)
            (steps_events (cond x (suc (takes who records b (step who records e))) 1) (length records) who e.shared e.thread ++ h)
        by-test true f y' =
            let q = append_assoc (steps_events (takes who records b (step who records e)) (length records) who (step who records e).shared (step who records e).thread) (step_events (length records) who e.shared e.thread) h in
            let z = subst Young q y' in
            subst⁻¹ (λ (l : list.List Event). Good size (run_from (step who records) drains.going b (k + 1) (step who records e)).left.shared (put (run_from (step who records) drains.going b (k + 1) (step who records e)).left) l) q
            (f (step_events (length records) who e.shared e.thread ++ h) (one_step e h g (young_older (steps_events (takes who records b (step who records e)) (length records) who (step who records e).shared (step who records e).thread) _ z)) z)
        by-test false f y' = one_step e h g y'

-- ---- any operation
abbrev Leaves : ℕ → RecordNumber → list.List Record → list.List Event → Run (Effect Shared) → list.List Event → Type 0
Leaves size who records h u new = Young (new ++ h) → Good size u.left.shared (set records who.0 u.left.thread) (new ++ h)

module _ (size : ℕ) (s : Shared) (records : list.List Record) (h : list.List Event) (g : Good size s records h) (who : RecordNumber) where
  abbrev N : ℕ
  N = length records

  abbrev T : Record
  T = get_or records who.0 (idle_record empty_list)

  drained_leaves : (b : ℕ) (v : Result (Unit {0}) Refusal) → step_judged N who s T ≡ v → Leaves size who records h (drains.drained v (again N who) b s T) (steps_events (drains.drained v (again N who) b s T).steps N who s T)
  unfolding steps_events
  drained_leaves b (Err why) e y = nothing_done size s records h g who
  drained_leaves b (Ok u) e y =
      let low = steps-here e in
      let q : (run_from (again N who) drains.going b 0 (drains.begun s T)).steps ≡ takes who records b (drains.begun s T) = takes_is who records b 0 (drains.begun s T) ∙ omega arith in
      let z = subst (λ (k : ℕ). Young (steps_events k N who s T ++ h)) q y in
      subst⁻¹ (λ (k : ℕ). Good size (run_from (again N who) drains.going b 0 (drains.begun s T)).left.shared (set records who.0 (run_from (again N who) drains.going b 0 (drains.begun s T)).left.thread) (steps_events k N who s T ++ h)) q
      (drain_steps size who records low b 0 (drains.begun s T) h (nothing_done size s records h g who) z)
    where
      steps-here : step_judged N who s T ≡ Ok tt → who.0 < N
      steps-here k = (calling T N who (step_passed N who s.set.capacity (length s.slots) (length s.custody) (opened_in s T) T k).ready).0

  pub entry_leaves : (o : Operation) → Leaves size who records h (plain_turn_of N who o s T) (events_of N who o s T)
  unfolding drain_of
  entry_leaves (Start request) = start_turn size s records h g who request
  entry_leaves Step = step_turn size s records h g who
  entry_leaves (List owners) = λ y. list_turn size who s records h g owners
  entry_leaves Death = λ y. death_turn size who s records h g
  entry_leaves (Drain budget) = drained_leaves budget (step_judged N who s T) refl

-- a run only adds to the history
pub ran_adds : (w : World) (es : list.List Entry) → (new : list.List Event) × ((ran w es).history ≡ new ++ w.history)
unfolding ran after
ran_adds w [] = ([], refl)
ran_adds w (e ∷ es) =
    let r = ran_adds (after w e) es in
    (r.0 ++ events e w.dock, r.1 ∙ sym (append_assoc r.0 (events e w.dock) w.history))

-- ---- a whole run
module _ (size : ℕ) where
  abbrev pub GoodWorld : World → Type 0
  GoodWorld w = Good size w.dock.shared w.dock.records w.history

  after_good : (w : World) (e : Entry) → GoodWorld w → Young (after w e).history → GoodWorld (after w e)
  unfolding after
  after_good w e g y =
      let u = plain_turn_of (length w.dock.records) e.who e.operation w.dock.shared (get_or w.dock.records e.who.0 (idle_record empty_list)) in
      subst (λ (d : Turned (Table Shared)). Good size d.left.shared d.left.records (events e w.dock ++ w.history))
      (there (λ k s t. plain_turn_of k e.who e.operation s t) e.who w.dock.shared w.dock.records u e.who.0 refl refl)
      (entry_leaves size w.dock.shared w.dock.records w.history g e.who e.operation y)

  pub ran_good : (w : World) (es : list.List Entry) → GoodWorld w → Young (ran w es).history → GoodWorld (ran w es)
  unfolding ran
  ran_good w [] g y = g
  ran_good w (e ∷ es) g y =
      let r = ran_adds (after w e) es in
      ran_good (after w e) es (after_good w e g (young_older r.0 (after w e).history (subst Young r.1 y))) y

-- ---- a drain leaves the dock and the history that its steps leave, one after another
abbrev world : Shared → list.List Record → list.List Event → World
world s records h = record { dock = record { shared = s; records = records }; history = h }

abbrev step_by : RecordNumber → Entry
step_by who = record { who = who; operation = Step }

module _ (who : RecordNumber) (records : list.List Record) (low : who.0 < length records) where
  abbrev next : Effect Shared → Effect Shared
  next e = again (length records) who e

  abbrev at : Effect Shared → list.List Record
  at e = set records who.0 e.thread

  steps_on : ℕ → Effect Shared → Effect Shared
  steps_on zero e = e
  steps_on (suc k) e = steps_on k (next e)

  left_is : (b k : ℕ) (e : Effect Shared) → (run_from next drains.going b k e).left ≡ steps_on (takes who records b e) e
  unfolding run_from takes steps_on
  left_is zero k e = refl
  left_is (suc b) k e = by-test (drains.going (next e)) (left_is b (k + 1) (next e))
    where
      by-test : (x : Bool) → (run_from next drains.going b (k + 1) (next e)).left ≡ steps_on (takes who records b (next e)) (next e)
          → (cond x (run_from next drains.going b (k + 1) (next e)) (record { left = next e; steps = k + 1 })).left ≡ steps_on (cond x (suc (takes who records b (next e))) 1) e
      by-test true q = q
      by-test false q = refl

  one_on : (e : Effect Shared) (h : list.List Event) → after (world e.shared (at e) h) (step_by who) ≡ world (next e).shared (at (next e)) (step_events (length records) who e.shared e.thread ++ h)
  unfolding after
  one_on e h =
      ap (λ (d : Turned (Table Shared)). record { dock = d.left; history = events (step_by who) (record { shared = e.shared; records = at e }) ++ h })
      (sym (there (λ k s t. plain_turn_of k who Step s t) who e.shared (at e) (plain_turn_of (length (at e)) who Step e.shared (get_or (at e) who.0 (idle_record empty_list))) who.0 refl refl))
      ∙ ap (λ (k : ℕ). world (step_of k who e.shared (get_or (at e) who.0 (idle_record empty_list))).shared (set (at e) who.0 (step_of k who e.shared (get_or (at e) who.0 (idle_record empty_list))).thread) (step_events k who e.shared (get_or (at e) who.0 (idle_record empty_list)) ++ h)) (length-set records who.0 e.thread)
      ∙ ap (λ (u : Record). world (step_of (length records) who e.shared u).shared (set (at e) who.0 (step_of (length records) who e.shared u).thread) (step_events (length records) who e.shared u ++ h)) (get_or-set_same records who.0 e.thread (idle_record empty_list) low)
      ∙ ap (λ (l : list.List Record). world (next e).shared l (step_events (length records) who e.shared e.thread ++ h)) (set-set records who.0 e.thread (next e).thread)

  steps_ran : (m : ℕ) (e : Effect Shared) (h : list.List Event)
      → ran (world e.shared (at e) h) (replicate m (step_by who)) ≡ world (steps_on m e).shared (at (steps_on m e)) (steps_events m (length records) who e.shared e.thread ++ h)
  unfolding ran steps_on steps_events
  steps_ran zero e h = refl
  steps_ran (suc m) e h =
      ap (λ (w : World). ran w (replicate m (step_by who))) (one_on e h)
      ∙ steps_ran m (next e) (step_events (length records) who e.shared e.thread ++ h)
      ∙ ap (world (steps_on m (next e)).shared (at (steps_on m (next e)))) (sym (append_assoc (steps_events m (length records) who (next e).shared (next e).thread) (step_events (length records) who e.shared e.thread) h))

abbrev drain_by : RecordNumber → ℕ → Entry
drain_by who budget = record { who = who; operation = Drain budget }

module _ (who : RecordNumber) (budget : ℕ) (w : World) where
  abbrev s : Shared
  s = w.dock.shared

  abbrev records : list.List Record
  records = w.dock.records

  abbrev self : Record
  self = get_or records who.0 (idle_record empty_list)

  abbrev drain : Result (Unit {0}) Refusal → Run (Effect Shared)
  drain v = drains.drained v (again (length records) who) budget s self

  drain-world : (v : Result (Unit {0}) Refusal) → step_judged (length records) who s self ≡ v
      → world (drain v).left.shared (set records who.0 (drain v).left.thread) (steps_events (drain v).steps (length records) who s self ++ w.history) ≡ ran w (replicate (drain v).steps (step_by who))
  unfolding ran steps_events
  drain-world (Err why) e = ap (λ (l : list.List Record). world s l w.history) (set-get_or records who.0 (idle_record empty_list))
  drain-world (Ok u) e =
      let low = (calling self (length records) who (step_passed (length records) who s.set.capacity (length s.slots) (length s.custody) (opened_in s self) self e).ready).0 in
      let e₀ = drains.begun s self in
      let k = takes who records budget e₀ in
      let q : (drain (Ok tt)).steps ≡ k = takes_is who records budget 0 e₀ ∙ omega arith in
      ap (λ (u : Effect Shared). world u.shared (set records who.0 u.thread) (steps_events (drain (Ok tt)).steps (length records) who s self ++ w.history)) (left_is who records low budget 0 e₀)
      ∙ ap (λ (m : ℕ). world (steps_on who records low k e₀).shared (set records who.0 (steps_on who records low k e₀).thread) (steps_events m (length records) who s self ++ w.history)) q
      ∙ sym (steps_ran who records low k e₀ w.history)
      ∙ ap (λ (l : list.List Record). ran (world s l w.history) (replicate k (step_by who))) (set-get_or records who.0 (idle_record empty_list))
      ∙ ap (λ (m : ℕ). ran w (replicate m (step_by who))) (sym q)

  -- so that what is proved after each operation holds after each step of a drain too
  pub drain_is_steps : ran w (drain_by who budget ∷ []) ≡ ran w (replicate (turned (drain_by who budget) w.dock).steps (step_by who))
  unfolding ran after drain_of
  drain_is_steps =
      ap (λ (d : Turned (Table Shared)). record { dock = d.left; history = events (drain_by who budget) w.dock ++ w.history })
      (sym (there (λ k s t. plain_turn_of k who (Drain budget) s t) who s records (plain_turn_of (length records) who (Drain budget) s self) who.0 refl refl))
      ∙ drain-world (step_judged (length records) who s self) refl
