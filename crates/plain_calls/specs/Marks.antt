-- What a step or a start marks in the custody buffer, whatever stood there: a won exchange marks its index being granted or free, the
-- write that answers an acquire marks it held, and a release that ends with 14 has its index held again.
use Rattle.std.specs.Prelude.{ℕ, Bool, false, cond, eqb, Option, Some, None, Result, Ok, Err}
use Rattle.unique_index_set_enums.specs.declared.Index.{Index}
use Rattle.unique_index_set_enums.specs.declared.RecordNumber.{RecordNumber}
use Rattle.unique_index_set_enums.specs.Kinds.{index}
use Rattle.head_details.specs.Word.{head_of}
use Rattle.custody.specs.declared.Custody.{Custody}
use Rattle.custody.specs.declared.Custody.TheVariants.{Free, Granting, Held, Giving}
use Rattle.custody.specs.declared.UnknownEntry.{UnknownEntry}
use Rattle.plain_places.specs.declared.Place.{Place}
use Rattle.plain_places.specs.declared.Place.TheVariants.{AcquireLook, AcquireRead, AcquireExchange, AcquireWrite, ReleaseLook, ReleaseWrite, ReleaseExchange, BorrowedLook, LockedLook}
use Rattle.plain_places.specs.Places.{may_release}
use Rattle.plain_calls.specs.declared.asks.Asked.{Asked}
use Rattle.plain_calls.specs.declared.asks.Asked.TheVariants.{Acquire, Release, BorrowedIndices, IsLocked}
use Rattle.plain_calls.specs.declared.resumes.Saw.{Saw}
use Rattle.plain_calls.specs.declared.marks.Mark.{Mark}

-- the index marked as being in this custody
abbrev pub mark_as : Index → Custody → Option Mark
mark_as i c = Some (record { index = i; custody = c })

unfoldable pub release_mark : RecordNumber → Index → ℕ → Option Mark
release_mark who i w = cond (may_release w) None (mark_as i (Held who))

abbrev pub mark_at : RecordNumber → Place → Saw → Option Mark
mark_at who AcquireLook saw = None
mark_at who (AcquireRead seen) saw = None
mark_at who (AcquireExchange seen value) saw = cond saw.won (mark_as (index (head_of seen)) (Granting who)) None
mark_at who (AcquireWrite i) saw = mark_as i (Held who)
mark_at who (ReleaseLook i m) saw = release_mark who i saw.word
mark_at who (ReleaseWrite i m seen) saw = None
mark_at who (ReleaseExchange i m seen) saw = cond saw.won (mark_as i Free) (release_mark who i saw.word)
mark_at who BorrowedLook saw = None
mark_at who LockedLook saw = None

-- a release's start marks its index as being given back, by its holder; no other start marks anything
abbrev pub start_mark : RecordNumber → Option Asked → Option Mark
start_mark who (Some Acquire) = None
start_mark who (Some (Release i m)) = mark_as i (Giving who who)
start_mark who (Some BorrowedIndices) = None
start_mark who (Some IsLocked) = None
start_mark who None = None

-- held by this record, an entry read: one that stands for nothing nobody holds
abbrev pub held_by : RecordNumber → Result Custody UnknownEntry → Bool
held_by who (Ok Free) = false
held_by who (Ok (Granting r)) = false
held_by who (Ok (Held r)) = eqb r.0 who.0
held_by who (Ok (Giving holder giver)) = false
held_by who (Err e) = false
