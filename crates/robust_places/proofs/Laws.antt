-- An opened closed place is itself, and a place that opens is sound. Assumes nothing.
use Rattle.std.proofs.Common.{◌≡◌, ℕ, Bool, true, false, cond, eqb, refl, eqb-true, Option, Some, None}
use Rattle.unique_index_set_enums.proofs.Choice.{both_true}
use Rattle.thread_records.specs.declared.OwnerList.{OwnerList}
use Rattle.thread_records.specs.declared.Remembered.{Remembered}
use Rattle.robust_moves.specs.declared.bump.BumpPlace.TheVariants as bump
use Rattle.robust_moves.specs.declared.count.CountPlace.{CountPlace}
use Rattle.robust_moves.specs.declared.count.CountPlace.TheVariants as count
use Rattle.robust_moves.specs.declared.lock.LockPlace.TheVariants as lock
use Rattle.robust_moves.proofs.Laws.{count_read_lem}
use Rattle.robust_acquire.specs.declared.AcquirePlace.{AcquirePlace}
use Rattle.robust_acquire.specs.declared.AcquirePlace.TheVariants as acquire
use Rattle.robust_acquire.proofs.Laws.{acquire_read_lem}
use Rattle.robust_release.specs.declared.ReleasePlace.{ReleasePlace}
use Rattle.robust_release.specs.declared.ReleasePlace.TheVariants as release
use Rattle.robust_release.proofs.Laws.{release_read_lem}
use Rattle.robust_recover.specs.declared.RecoverPlace.{RecoverPlace}
use Rattle.robust_recover.specs.declared.RecoverPlace.TheVariants as recover
use Rattle.robust_recover.specs.Recover.{recover_sound}
use Rattle.robust_recover.proofs.Laws.{recover_read_lem}
use Rattle.robust_places.specs.declared.Place.{Place}
use Rattle.robust_places.specs.declared.Place.TheVariants.{Acquire, Release, Borrowed, LockedLook, Find, Recover}
use Rattle.robust_places.specs.Places.{sound, place_read, opened_from, opened_at, closed_at}

acquire_place : (capacity : ℕ) (p : AcquirePlace) → place_read capacity (closed_at (Acquire p)) ≡ Some (Acquire p)
unfolding place_read
acquire_place capacity (acquire.Look o) = simp (acquire_read_lem (acquire.Look o))
acquire_place capacity (acquire.Cell o seen cell) = simp (acquire_read_lem (acquire.Cell o seen cell))
acquire_place capacity (acquire.Close o seen) = simp (acquire_read_lem (acquire.Close o seen))
acquire_place capacity (acquire.Bump won bump.Look) = simp (acquire_read_lem (acquire.Bump won bump.Look))
acquire_place capacity (acquire.Bump won (bump.Exchange seen)) = simp (acquire_read_lem (acquire.Bump won (bump.Exchange seen)))

release_place : (capacity : ℕ) (p : ReleasePlace) → place_read capacity (closed_at (Release p)) ≡ Some (Release p)
unfolding place_read
release_place capacity (release.Cell i o m) = simp (release_read_lem (release.Cell i o m))
release_place capacity (release.Bump m bump.Look) = simp (release_read_lem (release.Bump m bump.Look))
release_place capacity (release.Bump m (bump.Exchange seen)) = simp (release_read_lem (release.Bump m (bump.Exchange seen)))
release_place capacity (release.Lock lock.Look) = simp (release_read_lem (release.Lock lock.Look))
release_place capacity (release.Lock (lock.Exchange given)) = simp (release_read_lem (release.Lock (lock.Exchange given)))
release_place capacity (release.Lock (lock.Count count.Look)) = simp (release_read_lem (release.Lock (lock.Count count.Look)))
release_place capacity (release.Lock (lock.Count (count.Cell first cell n))) = simp (release_read_lem (release.Lock (lock.Count (count.Cell first cell n))))
release_place capacity (release.Lock (lock.Count (count.Bump first n bump.Look))) = simp (release_read_lem (release.Lock (lock.Count (count.Bump first n bump.Look))))
release_place capacity (release.Lock (lock.Count (count.Bump first n (bump.Exchange seen)))) = simp (release_read_lem (release.Lock (lock.Count (count.Bump first n (bump.Exchange seen)))))

borrowed_place : (capacity : ℕ) (p : CountPlace) → place_read capacity (closed_at (Borrowed p)) ≡ Some (Borrowed p)
unfolding place_read
borrowed_place capacity count.Look = simp (count_read_lem count.Look)
borrowed_place capacity (count.Cell first cell n) = simp (count_read_lem (count.Cell first cell n))
borrowed_place capacity (count.Bump first n bump.Look) = simp (count_read_lem (count.Bump first n bump.Look))
borrowed_place capacity (count.Bump first n (bump.Exchange seen)) = simp (count_read_lem (count.Bump first n (bump.Exchange seen)))

recover_place : (capacity : ℕ) (p : RecoverPlace) → recover_sound capacity p ≡ true → place_read capacity (closed_at (Recover p)) ≡ Some (Recover p)
unfolding place_read
recover_place capacity (recover.Look m) e = simp (recover_read_lem capacity (recover.Look m) e)
recover_place capacity (recover.Load cell m) e = simp (recover_read_lem capacity (recover.Load cell m) e)
recover_place capacity (recover.Exchange cell m o) e = simp (recover_read_lem capacity (recover.Exchange cell m o) e)
recover_place capacity (recover.Bump cell m bump.Look) e = simp (recover_read_lem capacity (recover.Bump cell m bump.Look) e)
recover_place capacity (recover.Bump cell m (bump.Exchange seen)) e = simp (recover_read_lem capacity (recover.Bump cell m (bump.Exchange seen)) e)
recover_place capacity (recover.Lock r lock.Look) e = simp (recover_read_lem capacity (recover.Lock r lock.Look) e)
recover_place capacity (recover.Lock r (lock.Exchange given)) e = simp (recover_read_lem capacity (recover.Lock r (lock.Exchange given)) e)
recover_place capacity (recover.Lock r (lock.Count count.Look)) e = simp (recover_read_lem capacity (recover.Lock r (lock.Count count.Look)) e)
recover_place capacity (recover.Lock r (lock.Count (count.Cell first cell n))) e = simp (recover_read_lem capacity (recover.Lock r (lock.Count (count.Cell first cell n))) e)
recover_place capacity (recover.Lock r (lock.Count (count.Bump first n bump.Look))) e = simp (recover_read_lem capacity (recover.Lock r (lock.Count (count.Bump first n bump.Look))) e)
recover_place capacity (recover.Lock r (lock.Count (count.Bump first n (bump.Exchange seen)))) e = simp (recover_read_lem capacity (recover.Lock r (lock.Count (count.Bump first n (bump.Exchange seen)))) e)
recover_place capacity recover.LastLook e = simp (recover_read_lem capacity recover.LastLook e)

pub place_read_lem : (capacity : ℕ) (p : Place) (list : OwnerList) → sound capacity p list ≡ true → place_read capacity (closed_at p) ≡ Some p
unfolding place_read
place_read_lem capacity (Acquire p) list e = acquire_place capacity p
place_read_lem capacity (Release p) list e = release_place capacity p
place_read_lem capacity (Borrowed p) list e = borrowed_place capacity p
place_read_lem capacity LockedLook list e = refl
place_read_lem capacity (Find p) list e = refl
place_read_lem capacity (Recover p) list e = recover_place capacity p (both_true (recover_sound capacity p) e).0

pub opened_closed : (capacity : ℕ) (p : Place) (list : OwnerList) → sound capacity p list ≡ true → opened_at capacity (closed_at p) list ≡ Some p
unfolding opened_at
opened_closed capacity p list s = simp (place_read_lem capacity p list s, s)

bool_or : (b : Bool) → (b ≡ true → b ≡ false) → (b ≡ false → b ≡ false) → b ≡ false
bool_or true f g = f refl
bool_or false f g = refl

at_or : (b : Bool) (p q : Place) → cond b (Some p) None ≡ Some q → (b ≡ true) × (p ≡ q)
at_or true p q e = (refl, cc)
at_or false p q e = (cc, cc)

from_sound : (capacity : ℕ) (r : Option Place) (list : OwnerList) (p : Place) → opened_from capacity r list ≡ Some p → sound capacity p list ≡ true
from_sound capacity None list p e = cc
from_sound capacity (Some q) list p e = let s = at_or (sound capacity q list) q p e in rw (← s.1) s.0

pub opened_sound : (capacity : ℕ) (c : Remembered) (list : OwnerList) (p : Place) → opened_at capacity c list ≡ Some p → sound capacity p list ≡ true
unfolding opened_at
opened_sound capacity c list p e = from_sound capacity (place_read capacity c) list p e

-- a number that names a place is not 0
pub read_busy : (capacity : ℕ) (c : Remembered) (p : Place) → place_read capacity c ≡ Some p → eqb c.place 0 ≡ false
unfolding place_read
read_busy capacity c p e = bool_or (eqb c.place 0) (λ q. let z : None ≡ Some p = rw (eqb-true c.place 0 q) at e in cc) (λ q. q)
