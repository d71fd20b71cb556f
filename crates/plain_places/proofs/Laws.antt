-- An opened closed place is itself, and a place that opens is sound. Assumes nothing.
use Rattle.std.proofs.Common.{◌≡◌, ℕ, Bool, true, false, cond, refl}
use Rattle.std.specs.Prelude.{Option, Some, None}
use Rattle.unique_index_set_enums.proofs.Modes.{mode_read_lem}
use Rattle.thread_records.specs.declared.Remembered.{Remembered}
use Rattle.plain_places.specs.declared.Place.{Place}
use Rattle.plain_places.specs.declared.Place.TheVariants.{AcquireLook, AcquireRead, AcquireExchange, AcquireWrite, ReleaseLook, ReleaseWrite, ReleaseExchange, BorrowedLook, LockedLook}
use Rattle.plain_places.specs.Places.{sound, release_read, place_read, opened_from, opened_at, closed_at}

pub place_read_lem : (p : Place) → place_read (closed_at p) ≡ Some p
unfolding place_read release_read
place_read_lem AcquireLook = refl
place_read_lem (AcquireRead seen) = refl
place_read_lem (AcquireExchange seen value) = refl
place_read_lem (AcquireWrite i) = refl
place_read_lem (ReleaseLook i m) = simp mode_read_lem
place_read_lem (ReleaseWrite i m seen) = simp mode_read_lem
place_read_lem (ReleaseExchange i m seen) = simp mode_read_lem
place_read_lem BorrowedLook = refl
place_read_lem LockedLook = refl

pub opened_closed : (capacity : ℕ) (p : Place) → sound capacity p ≡ true → opened_at capacity (closed_at p) ≡ Some p
unfolding opened_at
opened_closed capacity p s = simp (place_read_lem p, s)

at_or : (b : Bool) (p q : Place) → cond b (Some p) None ≡ Some q → (b ≡ true) × (p ≡ q)
at_or true p q e = (refl, cc)
at_or false p q e = (cc, cc)

from_sound : (capacity : ℕ) (r : Option Place) (p : Place) → opened_from capacity r ≡ Some p → sound capacity p ≡ true
from_sound capacity None p e = cc
from_sound capacity (Some q) p e = let s = at_or (sound capacity q) q p e in rw (← s.1) s.0

pub opened_sound : (capacity : ℕ) (c : Remembered) (p : Place) → opened_at capacity c ≡ Some p → sound capacity p ≡ true
unfolding opened_at
opened_sound capacity c p e = from_sound capacity (place_read c) p e
