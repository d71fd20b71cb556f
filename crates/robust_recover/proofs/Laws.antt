-- Of recover: a closed sound place is read as itself, and what goes on from a sound place is sound. Assumes nothing.
use Rattle.std.proofs.Common.{◌≡◌, Option, Some, None, ℕ, ◌-◌, ◌^◌, ◌<◌, true, ltb, leb, refl, ltb-true, lt-ltb, leb-false}
use borrow.Author.Tests.{lt-leb}
use Rattle.std.specs.declared.ops.ControlFlow.{ControlFlow}
use Rattle.std.specs.declared.ops.ControlFlow.TheVariants.{Continue, Break}
use Rattle.unique_index_set_enums.specs.declared.Index.{Index}
use Rattle.unique_index_set_enums.specs.declared.Generation.{Generation}
use Rattle.unique_index_set_enums.specs.declared.ReleaseState.{ReleaseState}
use Rattle.unique_index_set_enums.specs.declared.OwnerId.{OwnerId}
use Rattle.unique_index_set_enums.specs.declared.ReleaseMode.{ReleaseMode}
use Rattle.unique_index_set_enums.specs.declared.ReleaseMode.TheVariants.{Default, LockIfLastIndex}
use Rattle.unique_index_set_enums.specs.Kinds.{index}
use Rattle.unique_index_set_enums.specs.Robust.{is_empty, is_locked_at}
use Rattle.std.proofs.lemmas.Bool.{cond_both}
use Rattle.unique_index_set_enums.proofs.Choice.{both_true, second_true}
use Rattle.unique_index_set_enums.proofs.Modes.{mode_read_lem}
use Rattle.thread_records.specs.declared.OwnerList.{OwnerList}
use Rattle.thread_records.specs.Lists.{listed}
use Rattle.robust_moves.specs.declared.Saw.{Saw}
use Rattle.robust_moves.specs.declared.bump.BumpPlace.{BumpPlace}
use Rattle.robust_moves.specs.declared.bump.BumpPlace.TheVariants as bump
use Rattle.robust_moves.specs.declared.count.CountPlace.TheVariants as count
use Rattle.robust_moves.specs.declared.lock.LockPlace.{LockPlace}
use Rattle.robust_moves.specs.declared.lock.LockPlace.TheVariants as lock
use Rattle.robust_moves.specs.Bump.{bump_read, bump_resumed}
use Rattle.robust_moves.specs.Count.{cell_after, count_read_bump, count_read}
use Rattle.robust_moves.specs.Lock.{lock_resumed, lock_read_count, lock_read}
use Rattle.robust_moves.proofs.Laws.{BumpStays, bump_stays, LockStays, lock_stays, After, cell_after_lem}
use Rattle.robust_recover.specs.declared.Rest.{Rest}
use Rattle.robust_recover.specs.declared.Rest.TheVariants as rest
use Rattle.robust_recover.specs.declared.RecoverPlace.{RecoverPlace}
use Rattle.robust_recover.specs.declared.RecoverPlace.TheVariants.{Look, Load, Exchange, Bump, Lock, LastLook}
use Rattle.robust_recover.specs.Recover.{has_next, rest_sound, recover_sound, rest_of, recover_looked, recover_next_at, recover_next, recover_rest, recover_loaded, after_freed, recover_bumped, recover_locked, last_looked, recover_resumed, recover_read_in, recover_read_bump, rest_read, recover_read_lock, recover_read, recover_closed}

-- what is left behind the cell is read as it was, where it is sound
rest_read_lem : (capacity : ℕ) (r : Rest) (l : LockPlace) → rest_sound capacity r ≡ true → rest_read capacity (recover_closed (Lock r l)) ≡ Some r
unfolding rest_read
rest_read_lem capacity (rest.Cells cell m) l e = simp (e, mode_read_lem)
rest_read_lem capacity (rest.LastLook cell) l e = simp (second_true (has_next capacity cell) e).0

lock_place : (capacity : ℕ) (r : Rest) (l : LockPlace) → rest_sound capacity r ≡ true → recover_read capacity ((recover_closed (Lock r l)).place - 96) (recover_closed (Lock r l)) ≡ Some (Lock r l)
unfolding recover_read recover_read_lock lock_read lock_read_count count_read count_read_bump bump_read
lock_place capacity r lock.Look e = simp (rest_read_lem capacity r lock.Look e)
lock_place capacity r (lock.Exchange given) e = simp (rest_read_lem capacity r (lock.Exchange given) e)
lock_place capacity r (lock.Count count.Look) e = simp (rest_read_lem capacity r (lock.Count count.Look) e)
lock_place capacity r (lock.Count (count.Cell first cell n)) e = simp (rest_read_lem capacity r (lock.Count (count.Cell first cell n)) e)
lock_place capacity r (lock.Count (count.Bump first n bump.Look)) e = simp (rest_read_lem capacity r (lock.Count (count.Bump first n bump.Look)) e)
lock_place capacity r (lock.Count (count.Bump first n (bump.Exchange seen))) e = simp (rest_read_lem capacity r (lock.Count (count.Bump first n (bump.Exchange seen))) e)

pub recover_read_lem : (capacity : ℕ) (p : RecoverPlace) → recover_sound capacity p ≡ true → recover_read capacity ((recover_closed p).place - 96) (recover_closed p) ≡ Some p
unfolding recover_read recover_read_in recover_read_bump bump_read
recover_read_lem capacity (Look m) e = simp mode_read_lem
recover_read_lem capacity (Load cell m) e = simp mode_read_lem
recover_read_lem capacity (Exchange cell m o) e = simp mode_read_lem
recover_read_lem capacity (Bump cell m bump.Look) e = simp mode_read_lem
recover_read_lem capacity (Bump cell m (bump.Exchange seen)) e = simp mode_read_lem
recover_read_lem capacity (Lock r l) e = lock_place capacity r l (both_true (rest_sound capacity r) e).0
recover_read_lem capacity LastLook e = refl

abbrev pub RecoverStays : ℕ → ControlFlow ReleaseState RecoverPlace → Type 0
RecoverStays capacity (Continue p) = recover_sound capacity p ≡ true
RecoverStays capacity (Break s) = Unit {0}

next_at : (capacity : ℕ) (cell : Index) (m : ReleaseMode) (a : Option Index) → After capacity cell a → RecoverStays capacity (recover_next_at a m)
next_at capacity cell m (Some next) f = lt-ltb next.0 capacity f.1
next_at capacity cell m None f = refl

next_stays : (capacity : ℕ) (cell : Index) (m : ReleaseMode) → RecoverStays capacity (recover_next capacity cell m)
unfolding recover_next
next_stays capacity cell m = next_at capacity cell m (cell_after capacity cell) (cell_after_lem capacity cell)

rest_sound_lem : (capacity : ℕ) (cell : Index) (m : ReleaseMode) → ltb cell.0 capacity ≡ true → rest_sound capacity (rest_of capacity cell m) ≡ true
unfolding rest_of
rest_sound_lem capacity cell m e =
    cond_both (has_next capacity cell) (rest.Cells cell m) (rest.LastLook cell) (λ r. rest_sound capacity r ≡ true) (λ h. h) (λ h. simp (h, e))

freed_stays : (capacity : ℕ) (cell : Index) (m : ReleaseMode) → ltb cell.0 capacity ≡ true → RecoverStays capacity (after_freed capacity cell m)
freed_stays capacity cell Default e = next_stays capacity cell Default
freed_stays capacity cell LockIfLastIndex e = simp (rest_sound_lem capacity cell LockIfLastIndex e)

bumped_stays : (capacity : ℕ) (cell : Index) (m : ReleaseMode) (r : ControlFlow Generation BumpPlace) → ltb cell.0 capacity ≡ true → BumpStays r → RecoverStays capacity (recover_bumped capacity cell m r)
bumped_stays capacity cell m (Continue b) e s = simp (lt-leb capacity cell.0 (ltb-true _ _ e), s)
bumped_stays capacity cell m (Break g) e s = cond_both (is_locked_at g) _ (after_freed capacity cell m) (RecoverStays capacity) (λ _. tt) (λ _. freed_stays capacity cell m e)

rest_stays : (capacity : ℕ) (r : Rest) → RecoverStays capacity (recover_rest capacity r)
rest_stays capacity (rest.Cells cell m) = next_stays capacity cell m
rest_stays capacity (rest.LastLook cell) = refl

locked_stays : (capacity : ℕ) (r : Rest) (l : ControlFlow ReleaseState LockPlace) → rest_sound capacity r ≡ true → LockStays capacity l → RecoverStays capacity (recover_locked capacity r l)
locked_stays capacity r (Continue l) e s = simp (e, s)
locked_stays capacity r (Break x) e s = rest_stays capacity r

loaded_stays : (capacity : ℕ) (cell : Index) (m : ReleaseMode) (list : OwnerList) (o : OwnerId) → ltb cell.0 capacity ≡ true → RecoverStays capacity (recover_loaded capacity cell m list o)
unfolding recover_loaded
loaded_stays capacity cell m list o e =
    cond_both (is_empty o) (recover_next capacity cell m) _ (RecoverStays capacity) (λ _. next_stays capacity cell m)
    (λ f. cond_both (listed list o) (Continue (Exchange cell m o)) (recover_next capacity cell m) (RecoverStays capacity) (λ _. simp (f, e)) (λ _. next_stays capacity cell m))

last_stays : (capacity : ℕ) (saw : Saw) → RecoverStays capacity (last_looked saw.generation)
unfolding last_looked
last_stays capacity saw = cond_both (is_locked_at saw.generation) _ _ (RecoverStays capacity) (λ _. tt) (λ _. tt)

looked_stays : (capacity : ℕ) (m : ReleaseMode) (saw : Saw) → 0 < capacity → RecoverStays capacity (recover_looked m saw.generation)
unfolding recover_looked
looked_stays capacity m saw h = cond_both (is_locked_at saw.generation) _ (Continue (Load (index 0) m)) (RecoverStays capacity) (λ _. tt) (λ _. lt-ltb 0 capacity h)

pub recover_stays : (capacity : ℕ) (p : RecoverPlace) (list : OwnerList) (saw : Saw) → 0 < capacity → capacity < 2 ^ 32 → recover_sound capacity p ≡ true
    → RecoverStays capacity (recover_resumed capacity p list saw)
recover_stays capacity (Look m) list saw h k e = looked_stays capacity m saw h
recover_stays capacity (Load cell m) list saw h k e = loaded_stays capacity cell m list saw.owner e
recover_stays capacity (Exchange cell m o) list saw h k e =
    cond_both saw.won (Continue (Bump cell m bump.Look)) (recover_next capacity cell m) (RecoverStays capacity)
    (λ _. simp (lt-leb capacity cell.0 (ltb-true _ _ (second_true (is_empty o) e).1))) (λ _. next_stays capacity cell m)
recover_stays capacity (Bump cell m b) list saw h k e =
    bumped_stays capacity cell m (bump_resumed b saw) (lt-ltb cell.0 capacity (leb-false capacity cell.0 (second_true (leb capacity cell.0) e).0)) (bump_stays b saw)
recover_stays capacity (Lock r l) list saw h k e =
    let b = both_true (rest_sound capacity r) e in
    locked_stays capacity r (lock_resumed capacity l saw) b.0 (lock_stays capacity l saw h k b.1)
recover_stays capacity LastLook list saw h k e = last_stays capacity saw
