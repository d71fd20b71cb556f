-- What is refused changes nothing; a step or start that goes on leaves a record whose next step is accepted; an answer leaves the idle
-- record beside its list, which a recover uses up. Assumes nothing.
use Rattle.std.proofs.Common.{◌≡◌, ℕ, ◌<◌, true, length, refl, sym, subst, Option, Some, None, Ok}
use Rattle.std.specs.declared.ops.ControlFlow.{ControlFlow}
use Rattle.std.specs.declared.ops.ControlFlow.TheVariants.{Continue, Break}
use Rattle.unique_index_set_enums.specs.declared.RecordNumber.{RecordNumber}
use Rattle.calls.specs.declared.Answer.{Answer}
use Rattle.calls.specs.declared.Refusal.TheVariants as refusal
use Rattle.calls.specs.declared.Request.{Request}
use Rattle.calls.specs.Numbers.{call_read}
use Rattle.calls.proofs.Order.{AllPassed, accepted, all_accepted}
use Rattle.thread_records.specs.declared.Record.{Record}
use Rattle.thread_records.specs.Effects.{Effect}
use Rattle.thread_records.proofs.Effects.{Harmless, taken, taken_harmless, unchanged_harmless, judged_harmless}
use Rattle.thread_records.proofs.Leaves.{Leaves, going_leaves, answered_leaves, judged_leaves}
use Rattle.thread_records.proofs.Drains.{Keeps, keeps, DrainHarmless, drain_harmless}
use Rattle.robust_places.specs.declared.Place.{Place}
use Rattle.robust_calls.specs.declared.asks.Asked.{Asked}
use Rattle.robust_calls.specs.Asks.{asked_of, list_damaged, first_place}
use Rattle.robust_calls.specs.Resumes.{noted_at, list_after}
use Rattle.robust_calls.proofs.Laws.{GoodAsked, asked_good, first_sound}
use Rattle.robust_unique_index_set.specs.Steps.{Shared, thread_after, progress_after, report_after, saw_at, next_at, shared_after, advanced, turn_verdict, opened_in, step_judged, stepped_from, step_of}
use Rattle.robust_unique_index_set.specs.Starts.{start_tests, start_verdict, start_judged, started_from, start_of}
use Rattle.robust_unique_index_set.specs.Setups.{set_fresh, setup_judged, setup_of}
use Rattle.robust_unique_index_set.specs.Drains.{not_drained, drain_judged, again, drain_of}
use Rattle.robust_unique_index_set.proofs.Accepted.{roomy, turn_passed}
use Rattle.robust_unique_index_set.proofs.Stays.{Ready, stepped, accepted_ready, Serves, start_serves, ready, stays}

pub next_taken : (n : ControlFlow Answer Place) → taken (progress_after n) ≡ true
next_taken (Continue p) = refl
next_taken (Break a) = refl

opened_harmless : (o : Option Place) (s : Shared) (t : Record) → Harmless s t (stepped_from o s t)
unfolding advanced
opened_harmless (Some p) s t = taken_harmless s t _ (next_taken (next_at p t.list s))
opened_harmless None s t = unchanged_harmless s t refusal.RecordDamaged

pub step_harmless : (records : ℕ) (who : RecordNumber) (s : Shared) (t : Record) → Harmless s t (step_of records who s t)
unfolding step_of
step_harmless records who s t = judged_harmless (step_judged records who s t) s t _ (opened_harmless (opened_in s t) s t)

entered_harmless : (a : Option Asked) (s : Shared) (t : Record) → Harmless s t (started_from a s t)
entered_harmless (Some a) s t = taken_harmless s t _ refl
entered_harmless None s t = unchanged_harmless s t refusal.NotKnown

pub start_harmless : (records : ℕ) (who : RecordNumber) (request : Request) (s : Shared) (t : Record) → Harmless s t (start_of records who request s t)
unfolding start_of
start_harmless records who request s t = judged_harmless (start_judged records who request s t) s t _ (entered_harmless (asked_of request) s t)

pub setup_harmless : (records capacity : ℕ) (s : Shared) (t : Record) → Harmless s t (setup_of records capacity s t)
unfolding setup_of
setup_harmless records capacity s t = judged_harmless (setup_judged records capacity s) s t _ (taken_harmless s t (set_fresh capacity s) refl)

-- the record's next step is accepted: so it opens
abbrev pub Opens : ℕ → RecordNumber → Shared → Record → Type 0
Opens records who s t = step_judged records who s t ≡ Ok tt

abbrev pub StepLeaves : ℕ → RecordNumber → Record → Effect Shared → Type 0
StepLeaves records who t e = Leaves (Opens records who) list_after t e

-- what the advance from a place leaves, by where the call goes on
abbrev after : ControlFlow Answer Place → Place → Shared → Record → Effect Shared
after n p s t = record { shared = shared_after p s; thread = thread_after n t.list; report = report_after n (noted_at p (saw_at p s)) }

next_leaves : (records : ℕ) (who : RecordNumber) (s : Shared) (t : Record) (p : Place) (n : ControlFlow Answer Place) → Ready records who s t p → next_at p t.list s ≡ n
    → StepLeaves records who t (after n p s t)
next_leaves records who s t p (Continue q) r e = going_leaves (Opens records who) list_after t (after (Continue q) p s t) refl (stays records who s t p q r e).judged
next_leaves records who s t p (Break a) r e = answered_leaves (Opens records who) list_after t (after (Break a) p s t) a refl refl

ready_leaves : (records : ℕ) (who : RecordNumber) (s : Shared) (t : Record) (p : Place) → Ready records who s t p → StepLeaves records who t (advanced p t.list s)
unfolding advanced
ready_leaves records who s t p r = next_leaves records who s t p (next_at p t.list s) r refl

opened_leaves : (records : ℕ) (who : RecordNumber) (s : Shared) (t : Record) (p : Place) → Ready records who s t p → StepLeaves records who t (stepped_from (opened_in s t) s t)
opened_leaves records who s t p r = rw r.opened (ready_leaves records who s t p r)

pub step_leaves : (records : ℕ) (who : RecordNumber) (s : Shared) (t : Record) → StepLeaves records who t (step_of records who s t)
unfolding step_of
step_leaves records who s t =
    judged_leaves (Opens records who) list_after t (step_judged records who s t) s (stepped_from (opened_in s t) s t)
    (λ e. accepted_ready records who s t e (StepLeaves records who t (stepped_from (opened_in s t) s t)) (λ p r. opened_leaves records who s t p r))

-- the tests of an accepted start, all passed
start_passed : (records : ℕ) (who : RecordNumber) (request : Request) (s : Shared) (t : Record) → start_judged records who request s t ≡ Ok tt
    → AllPassed (start_tests records who s.set.capacity (length s.cells) (asked_of request) t (list_damaged (call_read request.call) t.list))
unfolding start_verdict
start_passed records who request s t e = accepted _ e

entry_leaves : (records : ℕ) (who : RecordNumber) (s : Shared) (t : Record) (a : Option Asked) → Serves records who s → 0 < s.set.capacity → GoodAsked s.set.capacity t.list a
    → StepLeaves records who t (started_from a s t)
entry_leaves records who s t (Some a) l h g =
    going_leaves (Opens records who) list_after t _ refl (ready records who s (first_place a) t.list l (first_sound s.set.capacity t.list a h g)).judged
entry_leaves records who s t None l h g = record { opens = λ q. cc; idle = λ a q. cc }

pub start_leaves : (records : ℕ) (who : RecordNumber) (request : Request) (s : Shared) (t : Record) → StepLeaves records who t (start_of records who request s t)
unfolding start_of
start_leaves records who request s t =
    judged_leaves (Opens records who) list_after t (start_judged records who request s t) s (started_from (asked_of request) s t)
    (λ e.
    let a = start_passed records who request s t e in
    let m = roomy records s.set.capacity (length s.cells) a.above a.zero a.short in
    entry_leaves records who s t (asked_of request) (start_serves records who request s t e) m.some (asked_good s.set.capacity t.list request a.damaged a.owner a.range))

step_taken : (records : ℕ) (who : RecordNumber) (s : Shared) (t : Record) → step_judged records who s t ≡ Ok tt → taken (step_of records who s t).report.progress ≡ true
unfolding advanced
step_taken records who s t e =
    accepted_ready records who s t e (taken (step_of records who s t).report.progress ≡ true)
    (λ p r. subst (λ (x : Effect Shared). taken x.report.progress ≡ true) (sym (stepped records who s t p r)) (next_taken (next_at p t.list s)))

pub step_keeps : (records : ℕ) (who : RecordNumber) → Keeps (again records who) (λ e. Opens records who e.shared e.thread)
step_keeps records who = keeps (step_judged records who) (step_of records who) list_after (step_leaves records who) (step_taken records who)

-- what a drain accepts, a step does
pub drain_opens : (records : ℕ) (who : RecordNumber) (s : Shared) (t : Record) → drain_judged records who s t ≡ Ok tt → Opens records who s t
unfolding turn_verdict
drain_opens records who s t e =
    let a = turn_passed records who s.set.capacity (length s.cells) (opened_in s t) t (not_drained (opened_in s t)) e in
    all_accepted _ (record { above = a.above; zero = a.zero; short = a.short; ready = a.ready; damaged = a.damaged; known = refl; owner = refl; range = refl; held = refl })

-- a refused drain changes nothing and takes no step, whatever the budget
pub drain_unharmed : (records : ℕ) (who : RecordNumber) (b : ℕ) (s : Shared) (t : Record) → DrainHarmless s t (drain_of records who b s t)
unfolding drain_of
drain_unharmed records who b s t =
    drain_harmless (again records who) (λ e. Opens records who e.shared e.thread) (step_keeps records who) b s t (drain_judged records who s t) (drain_opens records who s t)
