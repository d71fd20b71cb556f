-- The numbers that each call of the robust set can come back with, by the scope's own numbers. Assumes nothing.
use Rattle.std.proofs.Common.{◌≡◌, ℕ, Bool, true, false, List, [], ◌∷◌, length, ltb, eqb, refl, Option, Some, None, Result, Ok, Err}
use Rattle.std.specs.declared.ops.ControlFlow.{ControlFlow}
use Rattle.std.specs.declared.ops.ControlFlow.TheVariants.{Continue, Break}
use Rattle.unique_index_set_enums.specs.declared.Index.{Index}
use Rattle.unique_index_set_enums.specs.declared.RecordNumber.{RecordNumber}
use Rattle.unique_index_set_enums.specs.declared.UniqueIndexCreationError.TheVariants.{ProvidedCapacityGreaterThanMaxCapacity, ProvidedCapacityIsZero}
use Rattle.unique_index_set_enums.specs.declared.ReleaseState.{ReleaseState}
use Rattle.unique_index_set_enums.specs.declared.UniqueIndexSetAcquireFailure.{UniqueIndexSetAcquireFailure}
use Rattle.unique_index_set_enums.specs.declared.UniqueIndexSetAcquireFailure.TheVariants.{OutOfIndices, IsLocked}
use Rattle.unique_index_set_enums.specs.Limits.{robust_capacity_limit, records_limit}
use Rattle.calls.specs.declared.Answer.{Answer}
use Rattle.calls.specs.declared.Call.{Call}
use Rattle.calls.specs.declared.Call.TheVariants as call
use Rattle.calls.specs.declared.Progress.TheVariants as progress
use Rattle.calls.specs.declared.Refusal.TheVariants.{Capacity, BufferTooShort, RecordNotReady, RecordDamaged, NotKnown, OwnerIsEmpty, IndexOutOfRange, IndexNotHeld}
use Rattle.calls.specs.declared.Request.{Request}
use Rattle.calls.specs.Numbers.{call_read, answer_number}
use Rattle.calls.specs.Order.{tests_at_setup, tests_at_turn}
use Rattle.thread_records.specs.declared.OwnerList.{OwnerList}
use Rattle.thread_records.specs.declared.Record.{Record}
use Rattle.thread_records.specs.Records.{not_calling}
use Rattle.thread_records.proofs.Leaves.{same_answer}
use Rattle.thread_records.proofs.Drains.{drain_among}
use Rattle.thread_records.proofs.Numbers.{among, RefusedAmong, FailedAmong, unchanged-among, taken_among, judged_among, setup_numbers, setup_failed, step_numbers, step_failed, drain_numbers, drain_failed}
use Rattle.robust_moves.specs.declared.Saw.{Saw}
use Rattle.robust_moves.specs.declared.count.CountPlace.{CountPlace}
use Rattle.robust_moves.specs.declared.count.SetState.{SetState}
use Rattle.robust_moves.specs.Count.{count_resumed}
use Rattle.robust_acquire.specs.declared.AcquirePlace.{AcquirePlace}
use Rattle.robust_acquire.specs.Acquire.{acquire_resumed}
use Rattle.robust_release.specs.declared.ReleasePlace.{ReleasePlace}
use Rattle.robust_release.specs.declared.RobustUniqueIndexSetReleaseError.{RobustUniqueIndexSetReleaseError}
use Rattle.robust_release.specs.Release.{release_resumed}
use Rattle.robust_find.specs.declared.FindPlace.{FindPlace}
use Rattle.robust_find.specs.Find.{find_resumed}
use Rattle.robust_recover.specs.declared.RecoverPlace.{RecoverPlace}
use Rattle.robust_recover.specs.Recover.{recover_resumed}
use Rattle.robust_places.specs.declared.Place.{Place}
use Rattle.robust_places.specs.declared.Place.TheVariants.{Acquire, Release, Borrowed, LockedLook, Find, Recover}
use Rattle.robust_calls.specs.declared.asks.Asked.{Asked}
use Rattle.robust_calls.specs.Asks.{asked_of, list_damaged}
use Rattle.robust_calls.specs.Resumes.{acquire_next, release_next, borrowed_next, find_next, recover_next, resumed_at}
use Rattle.robust_unique_index_set.specs.Steps.{Shared, progress_after, saw_at, advanced, next_at, too_short, is_damaged, turn_verdict, opened_in, step_judged, stepped_from, step_of}
use Rattle.robust_unique_index_set.specs.Starts.{start_tests, start_verdict, start_judged, started_from, start_of}
use Rattle.robust_unique_index_set.specs.Setups.{too_large, setup_verdict, setup_judged, set_fresh, setup_of}
use Rattle.robust_unique_index_set.specs.Drains.{not_drained, drain_judged, again, drain_of}
use Rattle.robust_unique_index_set.proofs.Stays.{Ready, stepped}
use Rattle.robust_unique_index_set.proofs.Refused.{next_taken, Opens, step_keeps, drain_opens}

pub setup_numbers_lem : (records capacity : ℕ) (s : Shared) (t : Record) → RefusedAmong setup_numbers (setup_of records capacity s t)
unfolding setup_of setup_verdict
setup_numbers_lem records capacity s t =
    judged_among setup_numbers (setup_judged records capacity s) (tests_at_setup (too_large capacity (length s.cells)) (eqb capacity 0) (ltb records_limit records)) s t
    (set_fresh capacity s) refl (setup_failed _ _ _) (taken_among setup_numbers (set_fresh capacity s) refl)

-- a start with 3, 4, 10, 9, 11, 13, 5 or 7
abbrev pub start_numbers : List ℕ
start_numbers = 3 ∷ 4 ∷ 10 ∷ 9 ∷ 11 ∷ 13 ∷ 5 ∷ 7 ∷ []

start_failed : (records : ℕ) (who : RecordNumber) (capacity cells : ℕ) (a : Option Asked) (t : Record) (damaged : Bool) → FailedAmong start_numbers (start_tests records who capacity cells a t damaged)
start_failed records who capacity cells a t damaged (Capacity ProvidedCapacityGreaterThanMaxCapacity) e = refl
start_failed records who capacity cells a t damaged (Capacity ProvidedCapacityIsZero) e = refl
start_failed records who capacity cells a t damaged BufferTooShort e = refl
start_failed records who capacity cells a t damaged RecordNotReady e = refl
start_failed records who capacity cells a t damaged RecordDamaged e = refl
start_failed records who capacity cells a t damaged NotKnown e = refl
start_failed records who capacity cells a t damaged OwnerIsEmpty e = refl
start_failed records who capacity cells a t damaged IndexOutOfRange e = refl
start_failed records who capacity cells a t damaged IndexNotHeld e = e

entered_among : (a : Option Asked) (s : Shared) (t : Record) → RefusedAmong start_numbers (started_from a s t)
entered_among (Some a) s t = taken_among start_numbers (started_from (Some a) s t) refl
entered_among None s t = unchanged-among start_numbers s t NotKnown refl

pub start_numbers_lem : (records : ℕ) (who : RecordNumber) (request : Request) (s : Shared) (t : Record) → RefusedAmong start_numbers (start_of records who request s t)
unfolding start_of start_verdict
start_numbers_lem records who request s t =
    judged_among start_numbers (start_judged records who request s t)
    (start_tests records who s.set.capacity (length s.cells) (asked_of request) t (list_damaged (call_read request.call) t.list)) s t (started_from (asked_of request) s t) refl
    (start_failed records who s.set.capacity (length s.cells) (asked_of request) t (list_damaged (call_read request.call) t.list))
    (entered_among (asked_of request) s t)

stepped_among : (o : Option Place) (s : Shared) (t : Record) → RefusedAmong step_numbers (stepped_from o s t)
unfolding advanced
stepped_among (Some p) s t = taken_among step_numbers (advanced p t.list s) (next_taken (next_at p t.list s))
stepped_among None s t = unchanged-among step_numbers s t RecordDamaged refl

pub step_numbers_lem : (records : ℕ) (who : RecordNumber) (s : Shared) (t : Record) → RefusedAmong step_numbers (step_of records who s t)
unfolding step_of turn_verdict
step_numbers_lem records who s t =
    judged_among step_numbers (step_judged records who s t)
    (tests_at_turn (ltb robust_capacity_limit s.set.capacity) (eqb s.set.capacity 0) (too_short records s.set.capacity (length s.cells)) (not_calling t records who) (is_damaged (opened_in s t)) false)
    s t (stepped_from (opened_in s t) s t) refl (step_failed _ _ _ _ _) (stepped_among (opened_in s t) s t)

pub drain_numbers_lem : (records : ℕ) (who : RecordNumber) (b : ℕ) (s : Shared) (t : Record) → RefusedAmong drain_numbers (drain_of records who b s t).left
unfolding drain_of turn_verdict
drain_numbers_lem records who b s t =
    drain_among (again records who) (λ e. Opens records who e.shared e.thread) (step_keeps records who) b s t drain_numbers
    (tests_at_turn (ltb robust_capacity_limit s.set.capacity) (eqb s.set.capacity 0) (too_short records s.set.capacity (length s.cells)) (not_calling t records who) (is_damaged (opened_in s t)) (not_drained (opened_in s t)))
    (drain_judged records who s t) refl (drain_failed _ _ _ _ _ _) (drain_opens records who s t)

-- the call that a place is of
abbrev pub call_at : Place → Call
call_at (Acquire p) = call.Acquire
call_at (Release p) = call.Release
call_at (Borrowed p) = call.BorrowedIndices
call_at LockedLook = call.IsLocked
call_at (Find p) = call.Find
call_at (Recover p) = call.Recover

-- an acquire answers 0, 1 or 2, a release 0 or 6, the others 0
abbrev pub answer_numbers : Call → List ℕ
answer_numbers call.Acquire = 0 ∷ 1 ∷ 2 ∷ []
answer_numbers call.Release = 0 ∷ 6 ∷ []
answer_numbers call.BorrowedIndices = 0 ∷ []
answer_numbers call.IsLocked = 0 ∷ []
answer_numbers call.Find = 0 ∷ []
answer_numbers call.Recover = 0 ∷ []

-- the call goes on as the same call, or answers with one of its numbers
abbrev pub NextAmong : Call → ControlFlow Answer Place → Type 0
NextAmong c (Continue q) = call_at q ≡ c
NextAmong c (Break a) = among (answer_number a) (answer_numbers c) ≡ true

acquire_among : (n : ControlFlow (Result Index UniqueIndexSetAcquireFailure) AcquirePlace) → NextAmong call.Acquire (acquire_next n)
acquire_among (Continue p) = refl
acquire_among (Break (Ok i)) = refl
acquire_among (Break (Err OutOfIndices)) = refl
acquire_among (Break (Err IsLocked)) = refl

release_among : (n : ControlFlow (Result ReleaseState RobustUniqueIndexSetReleaseError) ReleasePlace) → NextAmong call.Release (release_next n)
release_among (Continue p) = refl
release_among (Break (Ok s)) = refl
release_among (Break (Err e)) = refl

borrowed_among : (n : ControlFlow SetState CountPlace) → NextAmong call.BorrowedIndices (borrowed_next n)
borrowed_among (Continue p) = refl
borrowed_among (Break s) = refl

find_among : (n : ControlFlow ℕ FindPlace) → NextAmong call.Find (find_next n)
find_among (Continue p) = refl
find_among (Break m) = refl

recover_among : (n : ControlFlow ReleaseState RecoverPlace) → NextAmong call.Recover (recover_next n)
recover_among (Continue p) = refl
recover_among (Break s) = refl

pub next_among : (capacity : ℕ) (p : Place) (list : OwnerList) (saw : Saw) → NextAmong (call_at p) (resumed_at capacity p list saw)
next_among capacity (Acquire p) list saw = acquire_among (acquire_resumed capacity p saw)
next_among capacity (Release p) list saw = release_among (release_resumed capacity p saw)
next_among capacity (Borrowed p) list saw = borrowed_among (count_resumed capacity p saw)
next_among capacity LockedLook list saw = refl
next_among capacity (Find p) list saw = find_among (find_resumed capacity p saw)
next_among capacity (Recover p) list saw = recover_among (recover_resumed capacity p list saw)

answered_among : (c : Call) (n : ControlFlow Answer Place) (a : Answer) → NextAmong c n → progress_after n ≡ progress.Answered a → among (answer_number a) (answer_numbers c) ≡ true
answered_among c (Continue q) a e p = cc
answered_among c (Break b) a e p = rw (← same_answer b a p) e

-- what a ready record's step answers is one of its call's numbers
pub step_answers : (records : ℕ) (who : RecordNumber) (s : Shared) (t : Record) (p : Place) (a : Answer) → Ready records who s t p
    → (step_of records who s t).report.progress ≡ progress.Answered a → among (answer_number a) (answer_numbers (call_at p)) ≡ true
unfolding advanced
step_answers records who s t p a r e =
    answered_among (call_at p) (next_at p t.list s) a (next_among s.set.capacity p t.list (saw_at p s)) (rw (stepped records who s t p r) at e)
