-- What a sound place says of its cell: its access is within the cells. Assumes nothing.
use Rattle.std.proofs.Common.{◌≡◌, ℕ, ◌≤◌, ◌<◌, true, ltb, refl, ltb-true}
use native.Mathlib.Nat.{lt_of_lt_of_le}
use borrow.Author.Tests.{lt-ltb}
use Rattle.unique_index_set_enums.specs.Robust.{is_empty, is_locked_at}
use Rattle.unique_index_set_enums.proofs.Choice.{both_true, second_true}
use Rattle.thread_records.specs.declared.OwnerList.{OwnerList}
use Rattle.robust_moves.specs.declared.bump.BumpPlace.{BumpPlace}
use Rattle.robust_moves.specs.declared.bump.BumpPlace.TheVariants as bump
use Rattle.robust_moves.specs.declared.count.CountPlace.{CountPlace}
use Rattle.robust_moves.specs.declared.count.CountPlace.TheVariants as count
use Rattle.robust_moves.specs.declared.lock.LockPlace.{LockPlace}
use Rattle.robust_moves.specs.declared.lock.LockPlace.TheVariants as lock
use Rattle.robust_moves.specs.Bump.{bump_access}
use Rattle.robust_moves.specs.Count.{count_sound, count_access}
use Rattle.robust_moves.specs.Lock.{lock_sound, lock_access}
use Rattle.robust_moves.proofs.Laws.{cell_facts}
use Rattle.robust_acquire.specs.declared.AcquirePlace.{AcquirePlace}
use Rattle.robust_acquire.specs.declared.AcquirePlace.TheVariants as acquire
use Rattle.robust_acquire.specs.Acquire.{acquire_sound, acquire_access}
use Rattle.robust_release.specs.declared.ReleasePlace.{ReleasePlace}
use Rattle.robust_release.specs.declared.ReleasePlace.TheVariants as release
use Rattle.robust_release.specs.Release.{release_sound, release_access}
use Rattle.robust_find.proofs.Laws.{find_facts}
use Rattle.robust_recover.specs.declared.RecoverPlace.{RecoverPlace}
use Rattle.robust_recover.specs.declared.RecoverPlace.TheVariants as recover
use Rattle.robust_recover.specs.Recover.{rest_sound, recover_sound, recover_access}
use Rattle.robust_places.specs.declared.Place.{Place}
use Rattle.robust_places.specs.declared.Place.TheVariants.{Acquire, Release, Borrowed, LockedLook, Find, Recover}
use Rattle.robust_places.specs.Places.{sound}
use Rattle.robust_calls.specs.Resumes.{access_at}
use Rattle.robust_unique_index_set.specs.Accesses.{within}

bump_within : (n : ℕ) (b : BumpPlace) → within n (bump_access b) ≡ true
bump_within n bump.Look = refl
bump_within n (bump.Exchange seen) = refl

below : (capacity n i : ℕ) → i < capacity → capacity ≤ n → ltb i n ≡ true
below capacity n i l h = lt-ltb i n (lt_of_lt_of_le l h)

count_within : (capacity n : ℕ) (c : CountPlace) → count_sound capacity c ≡ true → capacity ≤ n → within n (count_access c) ≡ true
count_within capacity n count.Look e h = refl
count_within capacity n (count.Cell first cell m) e h = below capacity n cell.0 (cell_facts capacity first cell m e).below h
count_within capacity n (count.Bump first m b) e h = bump_within n b

lock_within : (capacity n : ℕ) (l : LockPlace) → lock_sound capacity l ≡ true → capacity ≤ n → within n (lock_access l) ≡ true
lock_within capacity n lock.Look e h = refl
lock_within capacity n (lock.Exchange given) e h = refl
lock_within capacity n (lock.Count c) e h = count_within capacity n c e h

acquire_within : (capacity n : ℕ) (p : AcquirePlace) → acquire_sound capacity p ≡ true → capacity ≤ n → within n (acquire_access p) ≡ true
acquire_within capacity n (acquire.Look o) e h = refl
acquire_within capacity n (acquire.Cell o seen cell) e h =
    below capacity n cell.0 (ltb-true _ _ (second_true (is_locked_at seen) (second_true (is_empty o) e).1).1) h
acquire_within capacity n (acquire.Close o seen) e h = refl
acquire_within capacity n (acquire.Bump won b) e h = bump_within n b

release_within : (capacity n : ℕ) (p : ReleasePlace) → release_sound capacity p ≡ true → capacity ≤ n → within n (release_access p) ≡ true
release_within capacity n (release.Cell i o m) e h = below capacity n i.0 (ltb-true _ _ (second_true (is_empty o) e).1) h
release_within capacity n (release.Bump m b) e h = bump_within n b
release_within capacity n (release.Lock l) e h = lock_within capacity n l e h

recover_within : (capacity n : ℕ) (p : RecoverPlace) → recover_sound capacity p ≡ true → capacity ≤ n → within n (recover_access p) ≡ true
recover_within capacity n (recover.Look m) e h = refl
recover_within capacity n (recover.Load cell m) e h = below capacity n cell.0 (ltb-true _ _ e) h
recover_within capacity n (recover.Exchange cell m o) e h = below capacity n cell.0 (ltb-true _ _ (second_true (is_empty o) e).1) h
recover_within capacity n (recover.Bump cell m b) e h = bump_within n b
recover_within capacity n (recover.Lock r l) e h = lock_within capacity n l (both_true (rest_sound capacity r) e).1 h
recover_within capacity n recover.LastLook e h = refl

pub access_within : (capacity n : ℕ) (p : Place) (list : OwnerList) → sound capacity p list ≡ true → capacity ≤ n → within n (access_at p) ≡ true
access_within capacity n (Acquire p) list e h = acquire_within capacity n p e h
access_within capacity n (Release p) list e h = release_within capacity n p e h
access_within capacity n (Borrowed p) list e h = count_within capacity n p e h
access_within capacity n LockedLook list e h = refl
access_within capacity n (Find p) list e h = below capacity n p.cell.0 (find_facts capacity p e).below h
access_within capacity n (Recover p) list e h = recover_within capacity n p (both_true (recover_sound capacity p) e).0 h
