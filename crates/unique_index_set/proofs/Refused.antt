-- What is refused changes nothing; a step or start that goes on leaves a record whose next step is accepted; an answer leaves the idle
-- record beside its list. Assumes nothing.
use Rattle.std.proofs.Common.{◌≡◌, ℕ, true, sym, refl, ◌∙◌, subst}
use Rattle.std.specs.Prelude.{Option, Some, None, Ok}
use Rattle.std.specs.declared.ops.ControlFlow.{ControlFlow}
use Rattle.std.specs.declared.ops.ControlFlow.TheVariants.{Continue, Break}
use Rattle.unique_index_set_enums.specs.declared.RecordNumber.{RecordNumber}
use Rattle.calls.specs.declared.Answer.{Answer}
use Rattle.calls.specs.declared.Refusal.TheVariants as refusal
use Rattle.calls.specs.declared.Request.{Request}
use Rattle.thread_records.specs.declared.OwnerList.{OwnerList}
use Rattle.thread_records.specs.declared.Record.{Record}
use Rattle.thread_records.specs.Records.{live_record}
use Rattle.thread_records.specs.Effects.{Effect}
use Rattle.thread_records.proofs.Effects.{Harmless, taken, taken_harmless, unchanged_harmless, judged_harmless}
use Rattle.thread_records.proofs.Leaves.{Leaves, going_leaves, answered_leaves, judged_leaves}
use Rattle.thread_records.proofs.Drains.{Keeps, keeps, DrainHarmless, drain_harmless}
use Rattle.plain_places.specs.declared.Place.{Place}
use Rattle.plain_places.specs.declared.Place.TheVariants.{AcquireLook, ReleaseLook, BorrowedLook, LockedLook}
use Rattle.plain_places.specs.Places.{sound, closed_at}
use Rattle.custody.specs.declared.Custody.TheVariants.{Giving}
use Rattle.plain_calls.specs.declared.marks.Mark.{Mark}
use Rattle.plain_calls.specs.declared.asks.Asked.{Asked}
use Rattle.plain_calls.specs.declared.asks.Asked.TheVariants.{Acquire, Release, BorrowedIndices, IsLocked}
use Rattle.unique_index_set.specs.Custodies.{marked}
use Rattle.unique_index_set.specs.Steps.{Shared, shared, leaves, thread_after, report_after, next_at, shared_after, advanced, opened_in, step_judged, stepped_from, step_of}
use Rattle.plain_calls.specs.Asks.{asked_of}
use Rattle.plain_calls.specs.Marks.{mark_as}
use Rattle.unique_index_set.specs.Starts.{start_judged, entered_at, started_from, start_of}
use Rattle.unique_index_set.specs.Setups.{set_fresh, setup_judged, setup_of}
use Rattle.unique_index_set.specs.Drains.{again, drain_of}
use Rattle.unique_index_set.proofs.Accepted.{release_in}
use Rattle.unique_index_set.proofs.Stays.{Ready, stepped, accepted_ready, Serves, start_serves, marked_serves, ready, stays}

pub next_taken : (n : ControlFlow Answer Place) → taken (report_after n).progress ≡ true
next_taken (Continue p) = refl
next_taken (Break a) = refl

opened_harmless : (o : Option Place) (who : RecordNumber) (s : Shared) (t : Record) → Harmless s t (stepped_from o who s t)
unfolding advanced
opened_harmless (Some p) who s t = taken_harmless s t _ (next_taken (next_at p s))
opened_harmless None who s t = unchanged_harmless s t refusal.RecordDamaged

pub step_harmless : (records : ℕ) (who : RecordNumber) (s : Shared) (t : Record) → Harmless s t (step_of records who s t)
unfolding step_of
step_harmless records who s t = judged_harmless (step_judged records who s t) s t _ (opened_harmless (opened_in s t) who s t)

asked_harmless : (a : Option Asked) (who : RecordNumber) (s : Shared) (t : Record) → Harmless s t (started_from a who s t)
asked_harmless (Some a) who s t = taken_harmless s t _ refl
asked_harmless None who s t = unchanged_harmless s t refusal.NotKnown

pub start_harmless : (records : ℕ) (who : RecordNumber) (request : Request) (s : Shared) (t : Record) → Harmless s t (start_of records who request s t)
unfolding start_of
start_harmless records who request s t = judged_harmless (start_judged records who (asked_of request) s t) s t _ (asked_harmless (asked_of request) who s t)

pub setup_harmless : (records capacity : ℕ) (s : Shared) (t : Record) → Harmless s t (setup_of records capacity s t)
unfolding setup_of
setup_harmless records capacity s t = judged_harmless (setup_judged records capacity s) s t _ (taken_harmless s t (set_fresh capacity s) refl)

next_or : (n : ControlFlow Answer Place) (E : Type 0) → ((q : Place) → n ≡ Continue q → E) → ((a : Answer) → n ≡ Break a → E) → E
next_or (Continue q) E f g = f q refl
next_or (Break a) E f g = g a refl

-- where a ready record's step goes on, and where it answers
abbrev pub after : ControlFlow Answer Place → RecordNumber → Place → Shared → Record → Effect Shared
after n who p s t = record { shared = shared_after who p s; thread = thread_after n t.list; report = report_after n }

stepped_next : (records : ℕ) (who : RecordNumber) (s : Shared) (t : Record) (p : Place) (n : ControlFlow Answer Place) → Ready records who s t p → next_at p s ≡ n
    → step_of records who s t ≡ after n who p s t
unfolding advanced
stepped_next records who s t p n r e = stepped records who s t p r ∙ rw e refl

-- the next step of a ready record goes on ready, or answers and leaves it idle
pub ready_or : (records : ℕ) (who : RecordNumber) (s : Shared) (t : Record) (p : Place) → Ready records who s t p → (E : Type 0)
    → ((q : Place) → next_at p s ≡ Continue q → step_of records who s t ≡ after (Continue q) who p s t → Ready records who (shared_after who p s) (live_record (closed_at q) t.list) q → E)
    → ((a : Answer) → step_of records who s t ≡ after (Break a) who p s t → E)
    → E
ready_or records who s t p r E f g =
    next_or (next_at p s) E
    (λ q n. f q n (stepped_next records who s t p (Continue q) r n) (stays records who s t p q r n))
    (λ a n. g a (stepped_next records who s t p (Break a) r n))

-- the record's next step is accepted: so it opens
abbrev pub Opens : ℕ → RecordNumber → Shared → Record → Type 0
Opens records who s t = step_judged records who s t ≡ Ok tt

-- no answer of a plain set touches the list
abbrev pub same_list : Answer → OwnerList → OwnerList
same_list a list = list

abbrev pub StepLeaves : ℕ → RecordNumber → Record → Effect Shared → Type 0
StepLeaves records who t e = Leaves (Opens records who) same_list t e

ready_leaves : (records : ℕ) (who : RecordNumber) (s : Shared) (t : Record) (p : Place) → Ready records who s t p → StepLeaves records who t (step_of records who s t)
ready_leaves records who s t p r =
    ready_or records who s t p r (StepLeaves records who t (step_of records who s t))
    (λ q n i k. subst (StepLeaves records who t) (sym i) (going_leaves (Opens records who) same_list t (after (Continue q) who p s t) refl k.judged))
    (λ a i. subst (StepLeaves records who t) (sym i) (answered_leaves (Opens records who) same_list t (after (Break a) who p s t) a refl refl))

opened_leaves : (records : ℕ) (who : RecordNumber) (s : Shared) (t : Record) (p : Place) → Ready records who s t p → StepLeaves records who t (stepped_from (opened_in s t) who s t)
opened_leaves records who s t p r = rw r.opened (subst (StepLeaves records who t) (stepped records who s t p r) (ready_leaves records who s t p r))

pub step_leaves : (records : ℕ) (who : RecordNumber) (s : Shared) (t : Record) → StepLeaves records who t (step_of records who s t)
unfolding step_of
step_leaves records who s t =
    judged_leaves (Opens records who) same_list t (step_judged records who s t) s (stepped_from (opened_in s t) who s t)
    (λ e. accepted_ready records who s t e (StepLeaves records who t (stepped_from (opened_in s t) who s t)) (λ p r. opened_leaves records who s t p r))

-- an accepted start leaves a record that opens at the call's first place; what a release's start marks keeps the buffers' lengths
entry_leaves : (records : ℕ) (who : RecordNumber) (s : Shared) (t : Record) (p : Place) (m : Option Mark) → Serves records who s → sound s.set.capacity p ≡ true
    → StepLeaves records who t (leaves (entered_at p s.set t) s.slots (marked m s.custody))
entry_leaves records who s t p m l e =
    going_leaves (Opens records who) same_list t (leaves (entered_at p s.set t) s.slots (marked m s.custody)) refl
    (ready records who (shared s.set s.slots (marked m s.custody)) p t.list (marked_serves records who s m l) e).judged

started_leaves : (records : ℕ) (who : RecordNumber) (a : Option Asked) (s : Shared) (t : Record) → start_judged records who a s t ≡ Ok tt → StepLeaves records who t (started_from a who s t)
started_leaves records who (Some Acquire) s t e = entry_leaves records who s t AcquireLook None (start_serves records who (Some Acquire) s t e) refl
started_leaves records who (Some (Release i m)) s t e =
    entry_leaves records who s t (ReleaseLook i m) (mark_as i (Giving who who)) (start_serves records who (Some (Release i m)) s t e) (release_in records who i m s t e)
started_leaves records who (Some BorrowedIndices) s t e = entry_leaves records who s t BorrowedLook None (start_serves records who (Some BorrowedIndices) s t e) refl
started_leaves records who (Some IsLocked) s t e = entry_leaves records who s t LockedLook None (start_serves records who (Some IsLocked) s t e) refl
started_leaves records who None s t e = record { opens = λ q. cc; idle = λ a q. cc }

pub start_leaves : (records : ℕ) (who : RecordNumber) (request : Request) (s : Shared) (t : Record) → StepLeaves records who t (start_of records who request s t)
unfolding start_of
start_leaves records who request s t =
    judged_leaves (Opens records who) same_list t (start_judged records who (asked_of request) s t) s (started_from (asked_of request) who s t)
    (λ e. started_leaves records who (asked_of request) s t e)

step_taken : (records : ℕ) (who : RecordNumber) (s : Shared) (t : Record) → step_judged records who s t ≡ Ok tt → taken (step_of records who s t).report.progress ≡ true
unfolding advanced
step_taken records who s t e =
    accepted_ready records who s t e (taken (step_of records who s t).report.progress ≡ true)
    (λ p r. subst (λ (x : Effect Shared). taken x.report.progress ≡ true) (sym (stepped records who s t p r)) (next_taken (next_at p s)))

pub step_keeps : (records : ℕ) (who : RecordNumber) → Keeps (again records who) (λ e. Opens records who e.shared e.thread)
step_keeps records who = keeps (step_judged records who) (step_of records who) same_list (step_leaves records who) (step_taken records who)

-- a refused drain changes nothing and takes no step, whatever the budget
pub drain_unharmed : (records : ℕ) (who : RecordNumber) (b : ℕ) (s : Shared) (t : Record) → DrainHarmless s t (drain_of records who b s t)
unfolding drain_of
drain_unharmed records who b s t =
    drain_harmless (again records who) (λ e. Opens records who e.shared e.thread) (step_keeps records who) b s t (step_judged records who s t) (λ e. e)
