-- The numbers that each call of the plain set can come back with, by the scope's own numbers. Assumes nothing.
use Rattle.std.proofs.Common.{◌≡◌, ℕ, true, false, eqb, ltb, leb, List, [], ◌∷◌, length, refl}
use Rattle.std.specs.Prelude.{Option, Some, None}
use Rattle.std.specs.declared.ops.ControlFlow.{ControlFlow}
use Rattle.std.specs.declared.ops.ControlFlow.TheVariants.{Continue, Break}
use Rattle.unique_index_set_enums.specs.declared.Index.{Index}
use Rattle.unique_index_set_enums.specs.declared.RecordNumber.{RecordNumber}
use Rattle.unique_index_set_enums.specs.declared.ReleaseMode.{ReleaseMode}
use Rattle.unique_index_set_enums.specs.declared.UniqueIndexCreationError.TheVariants.{ProvidedCapacityGreaterThanMaxCapacity, ProvidedCapacityIsZero}
use Rattle.unique_index_set_enums.specs.Limits.{lock_acquire, plain_capacity_limit}
use Rattle.std.proofs.lemmas.Bool.{cond_both}
use Rattle.calls.specs.declared.Answer.{Answer}
use Rattle.calls.specs.declared.Call.{Call}
use Rattle.calls.specs.declared.Call.TheVariants as call
use Rattle.calls.specs.declared.Progress.TheVariants as progress
use Rattle.calls.specs.declared.Refusal.TheVariants.{Capacity, BufferTooShort, RecordNotReady, RecordDamaged, NotKnown, OwnerIsEmpty, IndexOutOfRange, IndexNotHeld}
use Rattle.calls.specs.declared.Request.{Request}
use Rattle.calls.specs.declared.Tests.{Tests}
use Rattle.calls.specs.Numbers.{answer_number}
use Rattle.calls.specs.Order.{tests_at_setup, tests_at_turn}
use Rattle.thread_records.specs.declared.Record.{Record}
use Rattle.thread_records.proofs.Numbers.{among, RefusedAmong, FailedAmong, unchanged-among, taken_among, judged_among, setup_numbers, setup_failed, step_numbers, step_failed}
use Rattle.thread_records.specs.Records.{not_calling}
use Rattle.thread_records.proofs.Leaves.{same_answer}
use Rattle.thread_records.proofs.Drains.{drain_among}
use Rattle.head_details.specs.Word.{head_of, borrowed_of}
use Rattle.plain_places.specs.declared.Place.{Place}
use Rattle.plain_places.specs.declared.Place.TheVariants.{AcquireLook, AcquireRead, AcquireExchange, AcquireWrite, ReleaseLook, ReleaseWrite, ReleaseExchange, BorrowedLook, LockedLook}
use Rattle.plain_places.specs.Places.{may_release}
use Rattle.plain_calls.specs.declared.resumes.Saw.{Saw}
use Rattle.plain_calls.specs.declared.asks.Asked.{Asked}
use Rattle.plain_calls.specs.Resumes.{acquire_looked, release_looked, resumed_at}
use Rattle.unique_index_set.specs.Steps.{Shared, report_after, saw_at, advanced, next_at, too_short, is_damaged, opened_in, step_verdict, step_judged, stepped_from, step_of}
use Rattle.plain_calls.specs.Asks.{asked_of}
use Rattle.unique_index_set.specs.Starts.{start_tests, start_verdict, start_judged, started_from, start_of}
use Rattle.unique_index_set.specs.Setups.{too_large, setup_short, setup_verdict, setup_judged, set_fresh, setup_of}
use Rattle.unique_index_set.specs.Drains.{again, drain_of}
use Rattle.unique_index_set.proofs.Stays.{Ready, stepped}
use Rattle.unique_index_set.proofs.Refused.{next_taken, Opens, step_keeps}

pub setup_numbers_lem : (records capacity : ℕ) (s : Shared) (t : Record) → RefusedAmong setup_numbers (setup_of records capacity s t)
unfolding setup_of setup_verdict
setup_numbers_lem records capacity s t =
    judged_among setup_numbers (setup_judged records capacity s) (tests_at_setup (too_large capacity (length s.slots)) (eqb capacity 0) (setup_short records capacity (length s.custody))) s t
    (set_fresh capacity s) refl (setup_failed _ _ _) (taken_among setup_numbers (set_fresh capacity s) refl)

-- a start with 3, 4, 10, 9, 13, 7 or 8
abbrev pub start_numbers : List ℕ
start_numbers = 3 ∷ 4 ∷ 10 ∷ 9 ∷ 13 ∷ 7 ∷ 8 ∷ []

start_failed : (records : ℕ) (who : RecordNumber) (capacity slots : ℕ) (custody : List ℕ) (a : Option Asked) (t : Record) → FailedAmong start_numbers (start_tests records who capacity slots custody a t)
start_failed records who capacity slots custody a t (Capacity ProvidedCapacityGreaterThanMaxCapacity) e = refl
start_failed records who capacity slots custody a t (Capacity ProvidedCapacityIsZero) e = refl
start_failed records who capacity slots custody a t BufferTooShort e = refl
start_failed records who capacity slots custody a t RecordNotReady e = refl
start_failed records who capacity slots custody a t RecordDamaged e = e
start_failed records who capacity slots custody a t NotKnown e = refl
start_failed records who capacity slots custody a t OwnerIsEmpty e = e
start_failed records who capacity slots custody a t IndexOutOfRange e = refl
start_failed records who capacity slots custody a t IndexNotHeld e = refl

started_among : (a : Option Asked) (who : RecordNumber) (s : Shared) (t : Record) → RefusedAmong start_numbers (started_from a who s t)
started_among (Some a) who s t = taken_among start_numbers (started_from (Some a) who s t) refl
started_among None who s t = unchanged-among start_numbers s t NotKnown refl

pub start_numbers_lem : (records : ℕ) (who : RecordNumber) (request : Request) (s : Shared) (t : Record) → RefusedAmong start_numbers (start_of records who request s t)
unfolding start_of start_verdict
start_numbers_lem records who request s t =
    judged_among start_numbers (start_judged records who (asked_of request) s t)
    (start_tests records who s.set.capacity (length s.slots) s.custody (asked_of request) t) s t (started_from (asked_of request) who s t) refl
    (start_failed records who s.set.capacity (length s.slots) s.custody (asked_of request) t) (started_among (asked_of request) who s t)

stepped_among : (o : Option Place) (who : RecordNumber) (s : Shared) (t : Record) → RefusedAmong step_numbers (stepped_from o who s t)
unfolding advanced
stepped_among (Some p) who s t = taken_among step_numbers (advanced who p t.list s) (next_taken (next_at p s))
stepped_among None who s t = unchanged-among step_numbers s t RecordDamaged refl

-- the tests of a step or a drain
abbrev turn_tests : ℕ → RecordNumber → Shared → Record → Tests
turn_tests records who s t =
    tests_at_turn (ltb plain_capacity_limit s.set.capacity) (eqb s.set.capacity 0) (too_short records s.set.capacity (length s.slots) (length s.custody)) (not_calling t records who)
    (is_damaged (opened_in s t)) false

pub step_numbers_lem : (records : ℕ) (who : RecordNumber) (s : Shared) (t : Record) → RefusedAmong step_numbers (step_of records who s t)
unfolding step_of step_verdict
step_numbers_lem records who s t =
    judged_among step_numbers (step_judged records who s t) (turn_tests records who s t) s t (stepped_from (opened_in s t) who s t) refl (step_failed _ _ _ _ _) (stepped_among (opened_in s t) who s t)

-- a drain is refused as a step is: 13 does not arise
pub drain_numbers_lem : (records : ℕ) (who : RecordNumber) (b : ℕ) (s : Shared) (t : Record) → RefusedAmong step_numbers (drain_of records who b s t).left
unfolding drain_of step_verdict
drain_numbers_lem records who b s t =
    drain_among (again records who) (λ e. Opens records who e.shared e.thread) (step_keeps records who) b s t step_numbers (turn_tests records who s t) (step_judged records who s t) refl
    (step_failed _ _ _ _ _) (λ e. e)

-- the call that a place is of
abbrev pub call_at : Place → Call
call_at AcquireLook = call.Acquire
call_at (AcquireRead seen) = call.Acquire
call_at (AcquireExchange seen value) = call.Acquire
call_at (AcquireWrite i) = call.Acquire
call_at (ReleaseLook i m) = call.Release
call_at (ReleaseWrite i m seen) = call.Release
call_at (ReleaseExchange i m seen) = call.Release
call_at BorrowedLook = call.BorrowedIndices
call_at LockedLook = call.IsLocked

-- an acquire answers 0, 1 or 2, a release 0 or 14, the two looks 0; find and recover are no calls of a plain set
abbrev pub answer_numbers : Call → List ℕ
answer_numbers call.Acquire = 0 ∷ 1 ∷ 2 ∷ []
answer_numbers call.Release = 0 ∷ 14 ∷ []
answer_numbers call.BorrowedIndices = 0 ∷ []
answer_numbers call.IsLocked = 0 ∷ []
answer_numbers call.Find = []
answer_numbers call.Recover = []

-- the call goes on as the same call, or answers with one of its numbers
abbrev pub NextAmong : Call → ControlFlow Answer Place → Type 0
NextAmong c (Continue q) = call_at q ≡ c
NextAmong c (Break a) = among (answer_number a) (answer_numbers c) ≡ true

acquire_among : (capacity w : ℕ) → NextAmong call.Acquire (acquire_looked capacity w)
unfolding acquire_looked
acquire_among capacity w =
    cond_both (leb capacity (head_of w)) _ _ (NextAmong call.Acquire) (λ _. refl) (λ _.
    cond_both (eqb (borrowed_of w) lock_acquire) _ _ (NextAmong call.Acquire) (λ _. refl) (λ _. refl))

release_among : (i : Index) (m : ReleaseMode) (w : ℕ) → NextAmong call.Release (release_looked i m w)
unfolding release_looked
release_among i m w = cond_both (may_release w) _ _ (NextAmong call.Release) (λ _. refl) (λ _. refl)

pub next_among : (capacity : ℕ) (p : Place) (saw : Saw) → NextAmong (call_at p) (resumed_at capacity p saw)
next_among capacity AcquireLook saw = acquire_among capacity saw.word
next_among capacity (AcquireRead seen) saw = refl
next_among capacity (AcquireExchange seen value) saw = cond_both saw.won _ _ (NextAmong call.Acquire) (λ _. refl) (λ _. acquire_among capacity saw.word)
next_among capacity (AcquireWrite i) saw = refl
next_among capacity (ReleaseLook i m) saw = release_among i m saw.word
next_among capacity (ReleaseWrite i m seen) saw = refl
next_among capacity (ReleaseExchange i m seen) saw = cond_both saw.won _ _ (NextAmong call.Release) (λ _. refl) (λ _. release_among i m saw.word)
next_among capacity BorrowedLook saw = refl
next_among capacity LockedLook saw = refl

answered_among : (c : Call) (n : ControlFlow Answer Place) (a : Answer) → NextAmong c n → (report_after n).progress ≡ progress.Answered a → among (answer_number a) (answer_numbers c) ≡ true
answered_among c (Continue q) a e p = cc
answered_among c (Break b) a e p = rw (← same_answer b a p) e

-- what a ready record's step answers is one of its call's numbers
pub step_answers : (records : ℕ) (who : RecordNumber) (s : Shared) (t : Record) (p : Place) (a : Answer) → Ready records who s t p
    → (step_of records who s t).report.progress ≡ progress.Answered a → among (answer_number a) (answer_numbers (call_at p)) ≡ true
unfolding advanced
step_answers records who s t p a r e =
    answered_among (call_at p) (next_at p s) a (next_among s.set.capacity p (saw_at p s)) (rw (stepped records who s t p r) at e)
