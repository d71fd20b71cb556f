-- Of release: a closed place is read as itself, and what goes on from a sound place is sound. Assumes nothing.
use Rattle.std.proofs.Common.{◌≡◌, Some, Result, ℕ, ◌-◌, ◌^◌, ◌<◌, true, refl}
use Rattle.std.specs.declared.ops.ControlFlow.{ControlFlow}
use Rattle.std.specs.declared.ops.ControlFlow.TheVariants.{Continue, Break}
use Rattle.unique_index_set_enums.specs.declared.Generation.{Generation}
use Rattle.unique_index_set_enums.specs.declared.ReleaseState.{ReleaseState}
use Rattle.unique_index_set_enums.specs.declared.ReleaseMode.{ReleaseMode}
use Rattle.unique_index_set_enums.specs.declared.ReleaseMode.TheVariants.{Default, LockIfLastIndex}
use Rattle.std.proofs.lemmas.Bool.{cond_both}
use Rattle.unique_index_set_enums.proofs.Modes.{mode_read_lem}
use Rattle.robust_moves.specs.declared.Saw.{Saw}
use Rattle.robust_moves.specs.declared.bump.BumpPlace.{BumpPlace}
use Rattle.robust_moves.specs.declared.bump.BumpPlace.TheVariants as bump
use Rattle.robust_moves.specs.declared.count.CountPlace.TheVariants as count
use Rattle.robust_moves.specs.declared.lock.LockPlace.{LockPlace}
use Rattle.robust_moves.specs.declared.lock.LockPlace.TheVariants as lock
use Rattle.robust_moves.specs.Bump.{bump_read, bump_resumed}
use Rattle.robust_moves.specs.Count.{count_read_bump, count_read}
use Rattle.robust_moves.specs.Lock.{lock_resumed, lock_read_count, lock_read}
use Rattle.robust_moves.proofs.Laws.{BumpStays, bump_stays, LockStays, lock_stays}
use Rattle.robust_release.specs.declared.RobustUniqueIndexSetReleaseError.{RobustUniqueIndexSetReleaseError}
use Rattle.robust_release.specs.declared.ReleasePlace.{ReleasePlace}
use Rattle.robust_release.specs.declared.ReleasePlace.TheVariants.{Cell, Bump, Lock}
use Rattle.robust_release.specs.Release.{release_sound, after_bump, release_bumped, release_locked, release_resumed, release_read_cell, release_read_bump, release_read_lock, release_read, release_closed}

pub release_read_lem : (p : ReleasePlace) → release_read ((release_closed p).place - 32) (release_closed p) ≡ Some p
unfolding release_read release_read_cell release_read_bump release_read_lock lock_read lock_read_count count_read count_read_bump bump_read
release_read_lem (Cell i o m) = simp mode_read_lem
release_read_lem (Bump m bump.Look) = simp mode_read_lem
release_read_lem (Bump m (bump.Exchange seen)) = simp mode_read_lem
release_read_lem (Lock lock.Look) = refl
release_read_lem (Lock (lock.Exchange given)) = refl
release_read_lem (Lock (lock.Count count.Look)) = refl
release_read_lem (Lock (lock.Count (count.Cell first cell n))) = refl
release_read_lem (Lock (lock.Count (count.Bump first n bump.Look))) = refl
release_read_lem (Lock (lock.Count (count.Bump first n (bump.Exchange seen)))) = refl

abbrev pub ReleaseStays : ℕ → ControlFlow (Result ReleaseState RobustUniqueIndexSetReleaseError) ReleasePlace → Type 0
ReleaseStays capacity (Continue p) = release_sound capacity p ≡ true
ReleaseStays capacity (Break r) = Unit {0}

after_bump_lem : (capacity : ℕ) (m : ReleaseMode) → ReleaseStays capacity (after_bump m)
after_bump_lem capacity Default = tt
after_bump_lem capacity LockIfLastIndex = refl

bumped_stays : (capacity : ℕ) (m : ReleaseMode) (r : ControlFlow Generation BumpPlace) → BumpStays r → ReleaseStays capacity (release_bumped m r)
bumped_stays capacity m (Continue b) s = s
bumped_stays capacity m (Break g) s = after_bump_lem capacity m

locked_stays : (capacity : ℕ) (r : ControlFlow ReleaseState LockPlace) → LockStays capacity r → ReleaseStays capacity (release_locked r)
locked_stays capacity (Continue l) s = s
locked_stays capacity (Break x) s = tt

pub release_stays : (capacity : ℕ) (p : ReleasePlace) (saw : Saw) → 0 < capacity → capacity < 2 ^ 32 → release_sound capacity p ≡ true
    → ReleaseStays capacity (release_resumed capacity p saw)
release_stays capacity (Cell i o m) saw h k e = cond_both saw.won (Continue (Bump m bump.Look)) _ (ReleaseStays capacity) (λ _. refl) (λ _. tt)
release_stays capacity (Bump m b) saw h k e = bumped_stays capacity m (bump_resumed b saw) (bump_stays b saw)
release_stays capacity (Lock l) saw h k e = locked_stays capacity (lock_resumed capacity l saw) (lock_stays capacity l saw h k e)
