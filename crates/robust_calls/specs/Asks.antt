-- What a request asks of a robust set: unknown calls, an unknown mode of release or recover, and a find with room 0 are not known
-- (13). Only what the call takes is looked at.
use Rattle.std.specs.Prelude.{ℕ, Bool, false, cond, not, leb, eqb, Option, Some, None, is_none, Result, Ok, Err}
use Rattle.unique_index_set_enums.specs.declared.ReleaseMode.{ReleaseMode}
use Rattle.unique_index_set_enums.specs.declared.UnknownMode.{UnknownMode}
use Rattle.unique_index_set_enums.specs.Kinds.{index}
use Rattle.unique_index_set_enums.specs.Numbers.{mode_read}
use Rattle.unique_index_set_enums.specs.Robust.{is_empty}
use Rattle.calls.specs.declared.Call.{Call}
use Rattle.calls.specs.declared.Call.TheVariants as call
use Rattle.calls.specs.declared.UnknownCall.{UnknownCall}
use Rattle.calls.specs.declared.Request.{Request}
use Rattle.calls.specs.Numbers.{call_read}
use Rattle.thread_records.specs.declared.OwnerList.{OwnerList}
use Rattle.thread_records.specs.Lists.{good_list}
use Rattle.robust_moves.specs.declared.count.CountPlace.TheVariants as count
use Rattle.robust_acquire.specs.declared.AcquirePlace.TheVariants as acquire
use Rattle.robust_release.specs.declared.ReleasePlace.TheVariants as release
use Rattle.robust_recover.specs.declared.RecoverPlace.TheVariants as recover
use Rattle.robust_places.specs.declared.Place.{Place}
use Rattle.robust_places.specs.declared.Place.TheVariants as place
use Rattle.robust_calls.specs.declared.asks.Asked.{Asked}
use Rattle.robust_calls.specs.declared.asks.Asked.TheVariants.{Acquire, Release, BorrowedIndices, IsLocked, Find, Recover}

abbrev pub asked_release_in : Result ReleaseMode UnknownMode → Request → Option Asked
asked_release_in (Ok m) r = Some (Release (index r.index_or_room) r.owner m)
asked_release_in (Err e) r = None

unfoldable pub asked_release : Request → Option Asked
asked_release r = asked_release_in (mode_read r.mode) r

unfoldable pub asked_find : Request → Option Asked
asked_find r = cond (eqb r.index_or_room 0) None (Some (Find r.owner r.index_or_room))

abbrev pub asked_recover_in : Result ReleaseMode UnknownMode → Option Asked
asked_recover_in (Ok m) = Some (Recover m)
asked_recover_in (Err e) = None

unfoldable pub asked_recover : Request → Option Asked
asked_recover r = asked_recover_in (mode_read r.mode)

abbrev pub asked_call : Call → Request → Option Asked
asked_call call.Acquire r = Some (Acquire r.owner)
asked_call call.Release r = asked_release r
asked_call call.BorrowedIndices r = Some BorrowedIndices
asked_call call.IsLocked r = Some IsLocked
asked_call call.Find r = asked_find r
asked_call call.Recover r = asked_recover r

abbrev pub asked_for : Result Call UnknownCall → Request → Option Asked
asked_for (Ok c) r = asked_call c r
asked_for (Err e) r = None

unfoldable pub asked_of : Request → Option Asked
asked_of r = asked_for (call_read r.call) r

-- refusal 13
abbrev pub is_not_known : Option Asked → Bool
is_not_known asked = is_none asked

-- refusal 5
abbrev pub is_owner_empty : Option Asked → Bool
is_owner_empty (Some (Acquire o)) = is_empty o
is_owner_empty (Some (Release i o m)) = is_empty o
is_owner_empty (Some BorrowedIndices) = false
is_owner_empty (Some IsLocked) = false
is_owner_empty (Some (Find o room)) = is_empty o
is_owner_empty (Some (Recover m)) = false
is_owner_empty None = false

-- refusal 7
abbrev pub is_out_of_range : ℕ → Option Asked → Bool
is_out_of_range capacity (Some (Acquire o)) = false
is_out_of_range capacity (Some (Release i o m)) = leb capacity i.0
is_out_of_range capacity (Some BorrowedIndices) = false
is_out_of_range capacity (Some IsLocked) = false
is_out_of_range capacity (Some (Find o room)) = false
is_out_of_range capacity (Some (Recover m)) = false
is_out_of_range capacity None = false

-- refusal 11 of a start: a recover's waiting list, whatever its mode
abbrev pub list_damaged_for : Call → OwnerList → Bool
list_damaged_for call.Acquire list = false
list_damaged_for call.Release list = false
list_damaged_for call.BorrowedIndices list = false
list_damaged_for call.IsLocked list = false
list_damaged_for call.Find list = false
list_damaged_for call.Recover list = not (good_list list)

abbrev pub list_damaged : Result Call UnknownCall → OwnerList → Bool
list_damaged (Ok c) list = list_damaged_for c list
list_damaged (Err e) list = false

-- each call's first place
abbrev pub first_place : Asked → Place
first_place (Acquire o) = place.Acquire (acquire.Look o)
first_place (Release i o m) = place.Release (release.Cell i o m)
first_place BorrowedIndices = place.Borrowed count.Look
first_place IsLocked = place.LockedLook
first_place (Find o room) = place.Find (record { owner = o; cell = index 0; reported = 0; room = room })
first_place (Recover m) = place.Recover (recover.Look m)
