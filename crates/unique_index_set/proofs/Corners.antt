-- The scope's corner of the plain set, as a law of the definitions that the contracts cite: what answer 14 leaves. Assumes nothing.
use Rattle.std.proofs.Common.{◌≡◌, ℕ, false, refl}
use Rattle.unique_index_set_enums.specs.declared.Index.{Index}
use Rattle.unique_index_set_enums.specs.declared.RecordNumber.{RecordNumber}
use Rattle.unique_index_set_enums.specs.declared.ReleaseMode.{ReleaseMode}
use Rattle.calls.specs.declared.Answer.TheVariants as answer
use Rattle.calls.specs.Reports.{answered_report}
use Rattle.custody.specs.declared.Custody.TheVariants.{Held}
use Rattle.thread_records.specs.declared.OwnerList.{OwnerList}
use Rattle.thread_records.specs.Records.{idle_record}
use Rattle.plain_places.specs.declared.Place.{Place}
use Rattle.plain_places.specs.declared.Place.TheVariants.{ReleaseLook, ReleaseExchange}
use Rattle.plain_places.specs.Places.{may_release}
use Rattle.plain_calls.specs.Marks.{mark_as, release_mark}
use Rattle.plain_calls.specs.Resumes.{release_looked}
use Rattle.unique_index_set.specs.Custodies.{marked}
use Rattle.unique_index_set.specs.Steps.{Shared, saw_at, shared_after, advanced}

-- the call is over, its index held again by the record that would have given it back, whatever the custody buffer had there; no shared
-- word is changed
pub record HeldAgain (who : RecordNumber) (i : Index) (p : Place) (list : OwnerList) (s : Shared) : Type 0 where
  pub answers : (advanced who p list s).report ≡ answered_report answer.NotBorrowed
  pub over : (advanced who p list s).thread ≡ idle_record list
  pub word : (advanced who p list s).shared.set.head ≡ s.set.head
  pub capacity : (advanced who p list s).shared.set.capacity ≡ s.set.capacity
  pub slots : (advanced who p list s).shared.slots ≡ s.slots
  pub held : (advanced who p list s).shared.custody ≡ marked (mark_as i (Held who)) s.custody

-- at a release's look that finds borrowed 0 or locked
pub look_holds : (who : RecordNumber) (i : Index) (m : ReleaseMode) (list : OwnerList) (s : Shared) → may_release s.set.head ≡ false
    → HeldAgain who i (ReleaseLook i m) list s
unfolding advanced shared_after release_looked release_mark
look_holds who i m list s e = record { answers = rw e refl; over = rw e refl; word = refl; capacity = refl; slots = refl; held = rw e refl }

-- and at its exchange that is lost to such a word, since that is a look
pub lost_holds : (who : RecordNumber) (i : Index) (m : ReleaseMode) (seen : ℕ) (list : OwnerList) (s : Shared) → (saw_at (ReleaseExchange i m seen) s).won ≡ false
    → may_release s.set.head ≡ false → HeldAgain who i (ReleaseExchange i m seen) list s
unfolding advanced shared_after release_looked release_mark
lost_holds who i m seen list s lost e = record { answers = rw lost (rw e refl); over = rw lost (rw e refl); word = rw lost refl; capacity = refl; slots = refl; held = rw lost (rw e refl) }
