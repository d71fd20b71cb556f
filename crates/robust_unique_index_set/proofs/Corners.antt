-- The scope's corners of the robust set, as laws of the definitions that the contracts cite. Assumes nothing.
use Rattle.std.proofs.Common.{◌≡◌, ℕ, Bool, true, false, cond, leb, eqb, refl}
use Rattle.std.specs.declared.ops.ControlFlow.{ControlFlow}
use Rattle.std.specs.declared.ops.ControlFlow.TheVariants.{Continue, Break}
use Rattle.std.proofs.lemmas.Bool.{cond_both}
use borrow.Author.Tests.{not-true}
use Rattle.unique_index_set_enums.specs.declared.Index.{Index}
use Rattle.unique_index_set_enums.specs.declared.OwnerId.{OwnerId}
use Rattle.unique_index_set_enums.specs.declared.Generation.{Generation}
use Rattle.unique_index_set_enums.specs.declared.ReleaseMode.{ReleaseMode}
use Rattle.unique_index_set_enums.specs.declared.ReleaseState.{ReleaseState}
use Rattle.unique_index_set_enums.specs.declared.ReleaseState.TheVariants as state
use Rattle.unique_index_set_enums.specs.declared.UniqueIndexSetAcquireFailure.TheVariants.{IsLocked}
use Rattle.unique_index_set_enums.specs.Kinds.{generation}
use Rattle.unique_index_set_enums.specs.Robust.{locked_generation, is_empty, is_locked_at, next_generation}
use Rattle.unique_index_set_enums.proofs.Choice.{both_true, second_true}
use Rattle.calls.specs.declared.Answer.TheVariants as answer
use Rattle.calls.specs.declared.Progress.TheVariants as progress
use Rattle.thread_records.specs.declared.OwnerList.{OwnerList}
use Rattle.thread_records.specs.Records.{idle_record}
use Rattle.robust_moves.specs.declared.Access.TheVariants as access
use Rattle.robust_moves.specs.declared.Saw.{Saw}
use Rattle.robust_moves.specs.declared.bump.BumpPlace.{BumpPlace}
use Rattle.robust_moves.specs.declared.bump.BumpPlace.TheVariants as bump
use Rattle.robust_moves.specs.declared.count.CountPlace.{CountPlace}
use Rattle.robust_moves.specs.declared.count.CountPlace.TheVariants as count
use Rattle.robust_moves.specs.declared.lock.LockPlace.{LockPlace}
use Rattle.robust_moves.specs.declared.lock.LockPlace.TheVariants as lock
use Rattle.robust_moves.specs.Bump.{bump_sound, bump_access, bump_looked, bump_resumed}
use Rattle.robust_moves.specs.Count.{count_sound, count_access, count_looked, count_resumed}
use Rattle.robust_moves.specs.Lock.{lock_sound, lock_access, lock_resumed}
use Rattle.robust_moves.proofs.Laws.{counted_facts}
use Rattle.robust_acquire.specs.declared.AcquirePlace.{AcquirePlace}
use Rattle.robust_acquire.specs.declared.AcquirePlace.TheVariants as acquire
use Rattle.robust_acquire.specs.Acquire.{acquire_sound, acquire_access}
use Rattle.robust_release.specs.declared.ReleasePlace.{ReleasePlace}
use Rattle.robust_release.specs.declared.ReleasePlace.TheVariants as release
use Rattle.robust_release.specs.Release.{release_sound, release_access}
use Rattle.robust_recover.specs.declared.Rest.{Rest}
use Rattle.robust_recover.specs.declared.RecoverPlace.{RecoverPlace}
use Rattle.robust_recover.specs.declared.RecoverPlace.TheVariants as recover
use Rattle.robust_recover.specs.Recover.{rest_sound, recover_sound, recover_access, recover_locked, last_looked}
use Rattle.robust_places.specs.declared.Place.{Place}
use Rattle.robust_places.specs.declared.Place.TheVariants.{Acquire, Release, Borrowed, LockedLook, Find, Recover}
use Rattle.robust_places.specs.Places.{sound}
use Rattle.robust_calls.specs.Resumes.{access_at}
use Rattle.robust_unique_index_set.specs.Accesses.{generation_after, cells_after}
use Rattle.robust_unique_index_set.specs.Steps.{Shared, saw_at, shared_after, advanced}

-- an acquire whose bump ends locked answers 2, with the cell still populated: its step leaves every cell, the won one too, as it stood
pub record Populated (won : Index) (b : BumpPlace) (list : OwnerList) (s : Shared) : Type 0 where
  pub answers : (advanced (Acquire (acquire.Bump won b)) list s).report.progress ≡ progress.Answered (answer.NotAcquired IsLocked)
  pub cells : (advanced (Acquire (acquire.Bump won b)) list s).shared.cells ≡ s.cells

bump_leaves : (b : BumpPlace) (s : Shared) → cells_after (bump_access b) s.cells ≡ s.cells
bump_leaves bump.Look s = refl
bump_leaves (bump.Exchange seen) s = refl

pub locked_acquire : (won : Index) (b : BumpPlace) (g : Generation) (list : OwnerList) (s : Shared) → bump_resumed b (saw_at (Acquire (acquire.Bump won b)) s) ≡ Break g
    → is_locked_at g ≡ true → Populated won b list s
unfolding advanced shared_after
locked_acquire won b g list s e l = record { answers = rw e (rw l refl); cells = bump_leaves b s }

-- a release whose cell is not its owner's answers 6 after that one access: the call is over, and every cell and the generation are as they were
pub record NotOwned (i : Index) (o : OwnerId) (m : ReleaseMode) (list : OwnerList) (s : Shared) : Type 0 where
  pub answers : (advanced (Release (release.Cell i o m)) list s).report.progress ≡ progress.Answered answer.NotOwned
  pub over : (advanced (Release (release.Cell i o m)) list s).thread ≡ idle_record list
  pub cells : (advanced (Release (release.Cell i o m)) list s).shared.cells ≡ s.cells
  pub generation_stays : (advanced (Release (release.Cell i o m)) list s).shared.set.generation ≡ s.set.generation

pub not_owned : (i : Index) (o : OwnerId) (m : ReleaseMode) (list : OwnerList) (s : Shared) → (saw_at (Release (release.Cell i o m)) s).won ≡ false
    → NotOwned i o m list s
unfolding advanced shared_after
not_owned i o m list s lost = record { answers = rw lost refl; over = rw lost refl; cells = rw lost refl; generation_stays = refl }

-- a count whose look meets the lock mark gives 0 with that generation, and the lock exchange then remembers it
pub locked_count : (capacity : ℕ) (saw : Saw) → is_locked_at saw.generation ≡ true → count_resumed capacity count.Look saw ≡ Break (record { generation_counter = saw.generation; borrowed_indices = 0 })
unfolding count_looked
locked_count capacity saw l = rw l refl

pub lock_remembers : (capacity : ℕ) (saw : Saw) → is_locked_at saw.generation ≡ true
    → lock_resumed capacity (lock.Count count.Look) saw ≡ Continue (lock.Exchange saw.generation)
unfolding count_looked
lock_remembers capacity saw l = rw l refl

pub lock_may : (capacity : ℕ) (g : Generation) → lock_sound capacity (lock.Exchange g) ≡ true
lock_may capacity g = refl

-- a recover's lock outcome is ignored, and its last look gives the state
pub lock_ignored : (capacity : ℕ) (r : Rest) (x y : ReleaseState) → recover_locked capacity r (Break x) ≡ recover_locked capacity r (Break y)
lock_ignored capacity r x y = refl

abbrev pub state_at : Generation → ReleaseState
state_at found = cond (is_locked_at found) state.Locked state.Unlocked

state_answer : (b : Bool) → ◌≡◌ {A = ControlFlow ReleaseState RecoverPlace} (cond b (Break state.Locked) (Break state.Unlocked)) (Break (cond b state.Locked state.Unlocked))
state_answer true = refl
state_answer false = refl

pub last_look : (list : OwnerList) (s : Shared) → (advanced (Recover recover.LastLook) list s).report.progress ≡ progress.Answered (answer.Recovered (state_at s.set.generation))
unfolding advanced last_looked
last_look list s = rw (state_answer (is_locked_at s.set.generation)) refl

-- a generation of u64::MAX - 1 locks at the next bump: its look goes on to the exchange, which moves it to the lock mark and ends there
abbrev pub last_generation : Generation
last_generation = generation 18446744073709551614

pub record LastBump (b w : Saw) : Type 0 where
  pub looks : bump_resumed bump.Look b ≡ Continue (bump.Exchange last_generation)
  pub moves : generation_after last_generation (bump_access (bump.Exchange last_generation)) ≡ locked_generation
  pub ends : bump_resumed (bump.Exchange last_generation) w ≡ Break locked_generation

pub last_bump : (b w : Saw) → b.generation ≡ last_generation → w.won ≡ true → LastBump b w
unfolding next_generation bump_looked is_locked_at
last_bump b w e won = record { looks = rw e refl; moves = refl; ends = rw won refl }

-- the lock mark never changes: no access from a sound place moves it
not_locked : (g : Generation) → is_locked_at g ≡ false → eqb g.0 locked_generation.0 ≡ false
unfolding is_locked_at
not_locked g e = e

kept : (seen new : Generation) → is_locked_at seen ≡ false → generation_after locked_generation (access.Exchange seen new) ≡ locked_generation
kept seen new e = rw (not_locked seen e) refl

bump_keeps : (b : BumpPlace) → bump_sound b ≡ true → generation_after locked_generation (bump_access b) ≡ locked_generation
bump_keeps bump.Look e = refl
bump_keeps (bump.Exchange seen) e = kept seen (next_generation seen) (not-true (is_locked_at seen) e)

count_keeps : (capacity : ℕ) (c : CountPlace) → count_sound capacity c ≡ true → generation_after locked_generation (count_access c) ≡ locked_generation
count_keeps capacity count.Look e = refl
count_keeps capacity (count.Cell first cell n) e = refl
count_keeps capacity (count.Bump first n b) e = bump_keeps b (counted_facts capacity first n b e).bump

lock_keeps : (capacity : ℕ) (l : LockPlace) → lock_sound capacity l ≡ true → generation_after locked_generation (lock_access l) ≡ locked_generation
lock_keeps capacity lock.Look e = refl
lock_keeps capacity (lock.Exchange given) e = cond_both (eqb given.0 locked_generation.0) locked_generation locked_generation (λ g. g ≡ locked_generation) (λ _. refl) (λ _. refl)
lock_keeps capacity (lock.Count c) e = count_keeps capacity c e

acquire_keeps : (capacity : ℕ) (p : AcquirePlace) → acquire_sound capacity p ≡ true → generation_after locked_generation (acquire_access p) ≡ locked_generation
acquire_keeps capacity (acquire.Look o) e = refl
acquire_keeps capacity (acquire.Cell o seen cell) e = refl
acquire_keeps capacity (acquire.Close o seen) e = kept seen seen (not-true (is_locked_at seen) (second_true (is_empty o) e).1)
acquire_keeps capacity (acquire.Bump won b) e = bump_keeps b (second_true (leb capacity won.0) e).1

release_keeps : (capacity : ℕ) (p : ReleasePlace) → release_sound capacity p ≡ true → generation_after locked_generation (release_access p) ≡ locked_generation
release_keeps capacity (release.Cell i o m) e = refl
release_keeps capacity (release.Bump m b) e = bump_keeps b e
release_keeps capacity (release.Lock l) e = lock_keeps capacity l e

recover_keeps : (capacity : ℕ) (p : RecoverPlace) → recover_sound capacity p ≡ true → generation_after locked_generation (recover_access p) ≡ locked_generation
recover_keeps capacity (recover.Look m) e = refl
recover_keeps capacity (recover.Load cell m) e = refl
recover_keeps capacity (recover.Exchange cell m o) e = refl
recover_keeps capacity (recover.Bump cell m b) e = bump_keeps b (second_true (leb capacity cell.0) e).1
recover_keeps capacity (recover.Lock r l) e = lock_keeps capacity l (both_true (rest_sound capacity r) e).1
recover_keeps capacity recover.LastLook e = refl

pub locked_stays : (capacity : ℕ) (p : Place) (list : OwnerList) → sound capacity p list ≡ true → generation_after locked_generation (access_at p) ≡ locked_generation
locked_stays capacity (Acquire p) list e = acquire_keeps capacity p e
locked_stays capacity (Release p) list e = release_keeps capacity p e
locked_stays capacity (Borrowed p) list e = count_keeps capacity p e
locked_stays capacity LockedLook list e = refl
locked_stays capacity (Find p) list e = refl
locked_stays capacity (Recover p) list e = recover_keeps capacity p (both_true (recover_sound capacity p) e).0
