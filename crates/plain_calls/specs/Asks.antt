-- What a request asks of a plain set, and what of it is refused at sight.
use Rattle.std.specs.Prelude.{ℕ, Bool, false, leb, Option, Some, None, Result, Ok, Err, is_none}
use Rattle.unique_index_set_enums.specs.declared.ReleaseMode.{ReleaseMode}
use Rattle.unique_index_set_enums.specs.declared.UnknownMode.{UnknownMode}
use Rattle.unique_index_set_enums.specs.Kinds.{index}
use Rattle.unique_index_set_enums.specs.Numbers.{mode_read}
use Rattle.calls.specs.declared.Call.{Call}
use Rattle.calls.specs.declared.Call.TheVariants as call
use Rattle.calls.specs.declared.UnknownCall.{UnknownCall}
use Rattle.calls.specs.declared.Request.{Request}
use Rattle.calls.specs.Numbers.{call_read}
use Rattle.plain_places.specs.declared.Place.{Place}
use Rattle.plain_places.specs.declared.Place.TheVariants.{AcquireLook, ReleaseLook, BorrowedLook, LockedLook}
use Rattle.plain_calls.specs.declared.asks.Asked.{Asked}
use Rattle.plain_calls.specs.declared.asks.Asked.TheVariants.{Acquire, Release, BorrowedIndices, IsLocked}

-- what a request asks of a plain set: find, recover, an unknown call, and a release in an unknown mode are not known
abbrev pub release_in : Result ReleaseMode UnknownMode → Request → Option Asked
release_in (Ok m) request = Some (Release (index request.index_or_room) m)
release_in (Err e) request = None

unfoldable pub asked_release : Request → Option Asked
asked_release request = release_in (mode_read request.mode) request

abbrev pub asked_call : Call → Request → Option Asked
asked_call call.Acquire request = Some Acquire
asked_call call.Release request = asked_release request
asked_call call.BorrowedIndices request = Some BorrowedIndices
asked_call call.IsLocked request = Some IsLocked
asked_call call.Find request = None
asked_call call.Recover request = None

abbrev pub asked_read : Result Call UnknownCall → Request → Option Asked
asked_read (Ok c) request = asked_call c request
asked_read (Err e) request = None

unfoldable pub asked_of : Request → Option Asked
asked_of request = asked_read (call_read request.call) request

-- refusal 13
abbrev pub is_not_known : Option Asked → Bool
is_not_known asked = is_none asked

-- refusal 7
abbrev pub is_out_of_range : ℕ → Option Asked → Bool
is_out_of_range capacity (Some Acquire) = false
is_out_of_range capacity (Some (Release i m)) = leb capacity i.0
is_out_of_range capacity (Some BorrowedIndices) = false
is_out_of_range capacity (Some IsLocked) = false
is_out_of_range capacity None = false

-- the place at which a call begins
abbrev pub first_place : Asked → Place
first_place Acquire = AcquireLook
first_place (Release i m) = ReleaseLook i m
first_place BorrowedIndices = BorrowedLook
first_place IsLocked = LockedLook
