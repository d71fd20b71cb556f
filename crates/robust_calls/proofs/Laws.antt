-- Of the robust set's calls: what goes on from a sound place is sound, with the list beside it; what a start may accept enters at a
-- sound place. Assumes nothing.
use Rattle.std.proofs.Common.{◌≡◌, ℕ, ◌<◌, ◌^◌, true, false, eqb, refl, arith, leb-false, Option, Some, None, Result, Ok, Err}
use Rattle.std.proofs.lemmas.Bool.{cond_both, eqb-false}
use borrow.Author.Tests.{lt-ltb, lt-leb, not-false}
use Rattle.std.specs.declared.ops.ControlFlow.{ControlFlow}
use Rattle.std.specs.declared.ops.ControlFlow.TheVariants.{Continue, Break}
use Rattle.unique_index_set_enums.specs.declared.Index.{Index}
use Rattle.unique_index_set_enums.specs.declared.ReleaseMode.{ReleaseMode}
use Rattle.unique_index_set_enums.specs.declared.ReleaseState.{ReleaseState}
use Rattle.unique_index_set_enums.specs.declared.UniqueIndexSetAcquireFailure.{UniqueIndexSetAcquireFailure}
use Rattle.unique_index_set_enums.specs.declared.UnknownMode.{UnknownMode}
use Rattle.unique_index_set_enums.specs.Numbers.{mode_read}
use Rattle.unique_index_set_enums.specs.Robust.{is_empty}
use Rattle.unique_index_set_enums.proofs.Choice.{both_true}
use Rattle.calls.specs.declared.Answer.{Answer}
use Rattle.calls.specs.declared.Call.{Call}
use Rattle.calls.specs.declared.Call.TheVariants as call
use Rattle.calls.specs.declared.UnknownCall.{UnknownCall}
use Rattle.calls.specs.declared.Request.{Request}
use Rattle.calls.specs.Numbers.{call_read}
use Rattle.thread_records.specs.declared.OwnerList.{OwnerList}
use Rattle.thread_records.specs.Lists.{good_list}
use Rattle.robust_moves.specs.declared.Saw.{Saw}
use Rattle.robust_moves.specs.declared.count.CountPlace.{CountPlace}
use Rattle.robust_moves.specs.declared.count.SetState.{SetState}
use Rattle.robust_moves.specs.Count.{count_resumed}
use Rattle.robust_moves.proofs.Laws.{CountStays, count_stays}
use Rattle.robust_acquire.specs.declared.AcquirePlace.{AcquirePlace}
use Rattle.robust_acquire.specs.Acquire.{acquire_resumed}
use Rattle.robust_acquire.proofs.Laws.{AcquireStays, acquire_stays}
use Rattle.robust_release.specs.declared.ReleasePlace.{ReleasePlace}
use Rattle.robust_release.specs.declared.RobustUniqueIndexSetReleaseError.{RobustUniqueIndexSetReleaseError}
use Rattle.robust_release.specs.Release.{release_resumed}
use Rattle.robust_release.proofs.Laws.{ReleaseStays, release_stays}
use Rattle.robust_find.specs.declared.FindPlace.{FindPlace}
use Rattle.robust_find.specs.Find.{find_sound, find_resumed}
use Rattle.robust_find.proofs.Laws.{FindStays, find_stays}
use Rattle.robust_recover.specs.declared.RecoverPlace.{RecoverPlace}
use Rattle.robust_recover.specs.Recover.{recover_sound, reads_list, recover_resumed}
use Rattle.robust_recover.proofs.Laws.{RecoverStays, recover_stays}
use Rattle.robust_recover.proofs.Lists.{ReadsBefore, list_read}
use Rattle.robust_places.specs.declared.Place.{Place}
use Rattle.robust_places.specs.declared.Place.TheVariants.{Acquire, Release, Borrowed, LockedLook, Find, Recover}
use Rattle.robust_places.specs.Places.{list_sound, sound}
use Rattle.robust_calls.specs.declared.asks.Asked.{Asked}
use Rattle.robust_calls.specs.declared.asks.Asked.TheVariants as asked
use Rattle.robust_calls.specs.Asks.{asked_release_in, asked_release, asked_find, asked_recover_in, asked_recover, asked_call, asked_for, asked_of, is_owner_empty, is_out_of_range, list_damaged_for, list_damaged, first_place}
use Rattle.robust_calls.specs.Resumes.{acquire_next, release_next, borrowed_next, find_next, recover_next, resumed_at}

abbrev pub NextStays : ℕ → OwnerList → ControlFlow Answer Place → Type 0
NextStays capacity list (Continue q) = sound capacity q list ≡ true
NextStays capacity list (Break a) = Unit {0}

acquire_next_lem : (capacity : ℕ) (list : OwnerList) (n : ControlFlow (Result Index UniqueIndexSetAcquireFailure) AcquirePlace) → AcquireStays capacity n
    → NextStays capacity list (acquire_next n)
acquire_next_lem capacity list (Continue p) e = e
acquire_next_lem capacity list (Break (Ok i)) e = tt
acquire_next_lem capacity list (Break (Err f)) e = tt

release_next_lem : (capacity : ℕ) (list : OwnerList) (n : ControlFlow (Result ReleaseState RobustUniqueIndexSetReleaseError) ReleasePlace) → ReleaseStays capacity n
    → NextStays capacity list (release_next n)
release_next_lem capacity list (Continue p) e = e
release_next_lem capacity list (Break (Ok s)) e = tt
release_next_lem capacity list (Break (Err f)) e = tt

borrowed_next_lem : (capacity : ℕ) (list : OwnerList) (n : ControlFlow SetState CountPlace) → CountStays capacity n → NextStays capacity list (borrowed_next n)
borrowed_next_lem capacity list (Continue p) e = e
borrowed_next_lem capacity list (Break s) e = tt

find_next_lem : (capacity : ℕ) (list : OwnerList) (n : ControlFlow ℕ FindPlace) → FindStays capacity n → NextStays capacity list (find_next n)
find_next_lem capacity list (Continue p) e = e
find_next_lem capacity list (Break m) e = tt

-- a list that was good where it was read is good where it still is
list_stays : (capacity : ℕ) (p q : RecoverPlace) (list : OwnerList) → (reads_list capacity q ≡ true → reads_list capacity p ≡ true) → list_sound capacity p list ≡ true → list_sound capacity q list ≡ true
unfolding list_sound
list_stays capacity p q list r e =
    cond_both (reads_list capacity q) (good_list list) true (λ b. b ≡ true) (λ h. rw (r h) at e) (λ _. refl)

recover_next_lem : (capacity : ℕ) (p : RecoverPlace) (list : OwnerList) (n : ControlFlow ReleaseState RecoverPlace) → list_sound capacity p list ≡ true → RecoverStays capacity n
    → ReadsBefore capacity (reads_list capacity p) n → NextStays capacity list (recover_next n)
recover_next_lem capacity p list (Continue q) e s r = simp (s, list_stays capacity p q list r e)
recover_next_lem capacity p list (Break x) e s r = tt

-- what goes on from a sound place is sound
pub next_stays : (capacity : ℕ) (p : Place) (list : OwnerList) (saw : Saw) → 0 < capacity → capacity < 2 ^ 32 → sound capacity p list ≡ true
    → NextStays capacity list (resumed_at capacity p list saw)
next_stays capacity (Acquire p) list saw h k e = acquire_next_lem capacity list (acquire_resumed capacity p saw) (acquire_stays capacity p saw h e)
next_stays capacity (Release p) list saw h k e = release_next_lem capacity list (release_resumed capacity p saw) (release_stays capacity p saw h k e)
next_stays capacity (Borrowed p) list saw h k e = borrowed_next_lem capacity list (count_resumed capacity p saw) (count_stays capacity p saw h k e)
next_stays capacity LockedLook list saw h k e = tt
next_stays capacity (Find p) list saw h k e = find_next_lem capacity list (find_resumed capacity p saw) (find_stays capacity p saw k e)
next_stays capacity (Recover p) list saw h k e =
    let b = both_true (recover_sound capacity p) e in
    recover_next_lem capacity p list (recover_resumed capacity p list saw) b.1 (recover_stays capacity p list saw h k b.0) (list_read capacity p list saw)

-- what a start passes on of what is asked: the owner (5), the index (7), room for one, and a recover's list (11)
abbrev pub Good : ℕ → OwnerList → Asked → Type 0
Good capacity list (asked.Acquire o) = is_empty o ≡ false
Good capacity list (asked.Release i o m) = (is_empty o ≡ false) × (i.0 < capacity)
Good capacity list asked.BorrowedIndices = Unit {0}
Good capacity list asked.IsLocked = Unit {0}
Good capacity list (asked.Find o room) = (is_empty o ≡ false) × (0 < room)
Good capacity list (asked.Recover m) = good_list list ≡ true

-- the entry is at a sound place
pub first_sound : (capacity : ℕ) (list : OwnerList) (a : Asked) → 0 < capacity → Good capacity list a → sound capacity (first_place a) list ≡ true
unfolding find_sound list_sound
first_sound capacity list (asked.Acquire o) h g = simp g
first_sound capacity list (asked.Release i o m) h g = simp (g.0, lt-ltb i.0 capacity g.1)
first_sound capacity list asked.BorrowedIndices h g = refl
first_sound capacity list asked.IsLocked h g = refl
first_sound capacity list (asked.Find o room) h g = simp (g.0, lt-leb capacity 0 h, lt-ltb 0 room g.1)
first_sound capacity list (asked.Recover m) h g = g

-- of what is asked, if it is known
abbrev pub GoodAsked : ℕ → OwnerList → Option Asked → Type 0
GoodAsked capacity list (Some a) = Good capacity list a
GoodAsked capacity list None = Unit {0}

-- what is asked passes them where the tests do
abbrev Passes : ℕ → OwnerList → Option Asked → Type 0
Passes capacity list a = is_owner_empty a ≡ false → is_out_of_range capacity a ≡ false → GoodAsked capacity list a

release_in : (capacity : ℕ) (list : OwnerList) (m : Result ReleaseMode UnknownMode) (r : Request) → Passes capacity list (asked_release_in m r)
release_in capacity list (Ok m) r = λ o i. (o, leb-false capacity r.index_or_room i)
release_in capacity list (Err e) r = λ o i. tt

find_in : (capacity : ℕ) (list : OwnerList) (r : Request) → Passes capacity list (asked_find r)
unfolding asked_find
find_in capacity list r =
    cond_both (eqb r.index_or_room 0) None (Some (asked.Find r.owner r.index_or_room)) (Passes capacity list) (λ _ o i. tt)
    (λ z o i. (o, (let n = eqb-false r.index_or_room 0 z in omega arith)))

recover_in : (capacity : ℕ) (list : OwnerList) (m : Result ReleaseMode UnknownMode) → good_list list ≡ true → Passes capacity list (asked_recover_in m)
recover_in capacity list (Ok m) g = λ o i. g
recover_in capacity list (Err e) g = λ o i. tt

call_in : (capacity : ℕ) (list : OwnerList) (c : Call) (r : Request) → list_damaged_for c list ≡ false → Passes capacity list (asked_call c r)
unfolding asked_release asked_recover
call_in capacity list call.Acquire r d = λ o i. o
call_in capacity list call.Release r d = release_in capacity list (mode_read r.mode) r
call_in capacity list call.BorrowedIndices r d = λ o i. tt
call_in capacity list call.IsLocked r d = λ o i. tt
call_in capacity list call.Find r d = find_in capacity list r
call_in capacity list call.Recover r d = recover_in capacity list (mode_read r.mode) (not-false (good_list list) d)

read_in : (capacity : ℕ) (list : OwnerList) (c : Result Call UnknownCall) (r : Request) → list_damaged c list ≡ false → Passes capacity list (asked_for c r)
read_in capacity list (Ok c) r d = call_in capacity list c r d
read_in capacity list (Err e) r d = λ o i. tt

pub asked_good : (capacity : ℕ) (list : OwnerList) (r : Request) → list_damaged (call_read r.call) list ≡ false → is_owner_empty (asked_of r) ≡ false
    → is_out_of_range capacity (asked_of r) ≡ false → GoodAsked capacity list (asked_of r)
unfolding asked_of
asked_good capacity list r d = read_in capacity list (call_read r.call) r d
