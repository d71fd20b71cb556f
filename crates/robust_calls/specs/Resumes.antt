-- The access at each place, and where a call goes on after it, or its answer; each call's own part is in its own crate.
use Rattle.std.specs.Prelude.{ℕ, Option, None, Result, Ok, Err}
use Rattle.std.specs.declared.ops.ControlFlow.{ControlFlow}
use Rattle.std.specs.declared.ops.ControlFlow.TheVariants.{Continue, Break}
use Rattle.unique_index_set_enums.specs.declared.Index.{Index}
use Rattle.unique_index_set_enums.specs.declared.ReleaseState.{ReleaseState}
use Rattle.unique_index_set_enums.specs.declared.UniqueIndexSetAcquireFailure.{UniqueIndexSetAcquireFailure}
use Rattle.unique_index_set_enums.specs.Robust.{is_locked_at}
use Rattle.calls.specs.declared.Answer.{Answer}
use Rattle.calls.specs.declared.Answer.TheVariants as answer
use Rattle.calls.specs.declared.Note.{Note}
use Rattle.thread_records.specs.declared.OwnerList.{OwnerList}
use Rattle.thread_records.specs.Records.{empty_list}
use Rattle.robust_moves.specs.declared.Access.{Access}
use Rattle.robust_moves.specs.declared.Access.TheVariants as access
use Rattle.robust_moves.specs.declared.Saw.{Saw}
use Rattle.robust_moves.specs.declared.count.CountPlace.{CountPlace}
use Rattle.robust_moves.specs.declared.count.SetState.{SetState}
use Rattle.robust_moves.specs.Count.{count_access, count_resumed}
use Rattle.robust_acquire.specs.declared.AcquirePlace.{AcquirePlace}
use Rattle.robust_acquire.specs.Acquire.{acquire_access, acquire_resumed}
use Rattle.robust_release.specs.declared.ReleasePlace.{ReleasePlace}
use Rattle.robust_release.specs.declared.RobustUniqueIndexSetReleaseError.{RobustUniqueIndexSetReleaseError}
use Rattle.robust_release.specs.Release.{release_access, release_resumed}
use Rattle.robust_find.specs.declared.FindPlace.{FindPlace}
use Rattle.robust_find.specs.Find.{find_access, find_resumed, find_noted}
use Rattle.robust_recover.specs.declared.RecoverPlace.{RecoverPlace}
use Rattle.robust_recover.specs.Recover.{recover_access, recover_resumed, recover_noted}
use Rattle.robust_places.specs.declared.Place.{Place}
use Rattle.robust_places.specs.declared.Place.TheVariants.{Acquire, Release, Borrowed, LockedLook, Find, Recover}

-- the one shared access that is made from a place (is_locked: 237 to 239)
abbrev pub access_at : Place → Access
access_at (Acquire p) = acquire_access p
access_at (Release p) = release_access p
access_at (Borrowed p) = count_access p
access_at LockedLook = access.Look
access_at (Find p) = find_access p
access_at (Recover p) = recover_access p

abbrev pub acquire_next : ControlFlow (Result Index UniqueIndexSetAcquireFailure) AcquirePlace → ControlFlow Answer Place
acquire_next (Continue p) = Continue (Acquire p)
acquire_next (Break (Ok i)) = Break (answer.Acquired i)
acquire_next (Break (Err f)) = Break (answer.NotAcquired f)

abbrev pub release_next : ControlFlow (Result ReleaseState RobustUniqueIndexSetReleaseError) ReleasePlace → ControlFlow Answer Place
release_next (Continue p) = Continue (Release p)
release_next (Break (Ok s)) = Break (answer.Released s)
release_next (Break (Err e)) = Break answer.NotOwned

-- borrowed_indices is one count
abbrev pub borrowed_next : ControlFlow SetState CountPlace → ControlFlow Answer Place
borrowed_next (Continue p) = Continue (Borrowed p)
borrowed_next (Break state) = Break (answer.Borrowed state.borrowed_indices)

abbrev pub find_next : ControlFlow ℕ FindPlace → ControlFlow Answer Place
find_next (Continue p) = Continue (Find p)
find_next (Break n) = Break (answer.Found n)

abbrev pub recover_next : ControlFlow ReleaseState RecoverPlace → ControlFlow Answer Place
recover_next (Continue p) = Continue (Recover p)
recover_next (Break s) = Break (answer.Recovered s)

abbrev pub resumed_at : ℕ → Place → OwnerList → Saw → ControlFlow Answer Place
resumed_at capacity (Acquire p) list saw = acquire_next (acquire_resumed capacity p saw)
resumed_at capacity (Release p) list saw = release_next (release_resumed capacity p saw)
resumed_at capacity (Borrowed p) list saw = borrowed_next (count_resumed capacity p saw)
resumed_at capacity LockedLook list saw = Break (answer.Locked (is_locked_at saw.generation))
resumed_at capacity (Find p) list saw = find_next (find_resumed capacity p saw)
resumed_at capacity (Recover p) list saw = recover_next (recover_resumed capacity p list saw)

-- what a step tells beside its progress: found, freed
abbrev pub noted_at : Place → Saw → Option Note
noted_at (Acquire p) saw = None
noted_at (Release p) saw = None
noted_at (Borrowed p) saw = None
noted_at LockedLook saw = None
noted_at (Find p) saw = find_noted p saw
noted_at (Recover p) saw = recover_noted p saw

-- every answer of a recover empties the list, no other does
abbrev pub list_after : Answer → OwnerList → OwnerList
list_after (answer.Acquired i) list = list
list_after (answer.NotAcquired f) list = list
list_after (answer.Released s) list = list
list_after answer.NotOwned list = list
list_after answer.NotBorrowed list = list
list_after (answer.Borrowed n) list = list
list_after (answer.Locked l) list = list
list_after (answer.Found n) list = list
list_after (answer.Recovered s) list = empty_list
