-- Of recover: a place that reads the list comes from one that does. Assumes nothing.
use Rattle.std.proofs.Common.{◌≡◌, Option, Some, None, is_some, ℕ, Bool, true, false, cond, refl}
use Rattle.std.specs.declared.ops.ControlFlow.{ControlFlow}
use Rattle.std.specs.declared.ops.ControlFlow.TheVariants.{Continue, Break}
use Rattle.unique_index_set_enums.specs.declared.Index.{Index}
use Rattle.unique_index_set_enums.specs.declared.Generation.{Generation}
use Rattle.unique_index_set_enums.specs.declared.ReleaseState.{ReleaseState}
use Rattle.unique_index_set_enums.specs.declared.ReleaseMode.{ReleaseMode}
use Rattle.unique_index_set_enums.specs.declared.ReleaseMode.TheVariants.{Default, LockIfLastIndex}
use Rattle.unique_index_set_enums.specs.Robust.{is_locked_at}
use Rattle.std.proofs.lemmas.Bool.{cond_both}
use Rattle.thread_records.specs.declared.OwnerList.{OwnerList}
use Rattle.robust_moves.specs.declared.Saw.{Saw}
use Rattle.robust_moves.specs.declared.bump.BumpPlace.{BumpPlace}
use Rattle.robust_moves.specs.declared.bump.BumpPlace.TheVariants as bump
use Rattle.robust_moves.specs.declared.lock.LockPlace.{LockPlace}
use Rattle.robust_moves.specs.Bump.{bump_resumed}
use Rattle.robust_moves.specs.Count.{cell_after}
use Rattle.robust_moves.specs.Lock.{lock_resumed}
use Rattle.robust_recover.specs.declared.Rest.{Rest}
use Rattle.robust_recover.specs.declared.Rest.TheVariants as rest
use Rattle.robust_recover.specs.declared.RecoverPlace.{RecoverPlace}
use Rattle.robust_recover.specs.declared.RecoverPlace.TheVariants.{Look, Load, Exchange, Bump, Lock, LastLook}
use Rattle.robust_recover.specs.Recover.{has_next, rest_reads, reads_list, rest_of, recover_next_at, recover_next, recover_rest, after_freed, recover_bumped, recover_locked, last_looked, recover_resumed}

-- where r says whether the place before it read the list
abbrev pub ReadsBefore : ℕ → Bool → ControlFlow ReleaseState RecoverPlace → Type 0
ReadsBefore capacity r (Continue q) = reads_list capacity q ≡ true → r ≡ true
ReadsBefore capacity r (Break s) = Unit {0}

always : (capacity : ℕ) (n : ControlFlow ReleaseState RecoverPlace) → ReadsBefore capacity true n
always capacity (Continue q) = λ _. refl
always capacity (Break s) = tt

next_at : (capacity : ℕ) (a : Option Index) (m : ReleaseMode) → ReadsBefore capacity (is_some a) (recover_next_at a m)
next_at capacity (Some next) m = λ _. refl
next_at capacity None m = λ e. e

next_reads : (capacity : ℕ) (cell : Index) (m : ReleaseMode) → ReadsBefore capacity (has_next capacity cell) (recover_next capacity cell m)
unfolding has_next recover_next
next_reads capacity cell m = next_at capacity (cell_after capacity cell) m

rest_reads_lem : (h : Bool) (cell : Index) (m : ReleaseMode) → rest_reads (cond h (rest.Cells cell m) (rest.LastLook cell)) ≡ true → h ≡ true
rest_reads_lem true cell m e = refl
rest_reads_lem false cell m e = e

freed_reads : (capacity : ℕ) (cell : Index) (m : ReleaseMode) → ReadsBefore capacity (has_next capacity cell) (after_freed capacity cell m)
unfolding rest_of
freed_reads capacity cell Default = next_reads capacity cell Default
freed_reads capacity cell LockIfLastIndex = rest_reads_lem (has_next capacity cell) cell LockIfLastIndex

bumped_reads : (capacity : ℕ) (cell : Index) (m : ReleaseMode) (r : ControlFlow Generation BumpPlace) → ReadsBefore capacity (has_next capacity cell) (recover_bumped capacity cell m r)
bumped_reads capacity cell m (Continue b) = λ e. e
bumped_reads capacity cell m (Break g) =
    cond_both (is_locked_at g) _ (after_freed capacity cell m) (ReadsBefore capacity (has_next capacity cell)) (λ _. tt) (λ _. freed_reads capacity cell m)

rest_over : (capacity : ℕ) (r : Rest) → ReadsBefore capacity (rest_reads r) (recover_rest capacity r)
rest_over capacity (rest.Cells cell m) = always capacity (recover_next capacity cell m)
rest_over capacity (rest.LastLook cell) = λ e. e

locked_reads : (capacity : ℕ) (r : Rest) (l : ControlFlow ReleaseState LockPlace) → ReadsBefore capacity (rest_reads r) (recover_locked capacity r l)
locked_reads capacity r (Continue l) = λ e. e
locked_reads capacity r (Break s) = rest_over capacity r

last_reads : (capacity : ℕ) (saw : Saw) → ReadsBefore capacity false (last_looked saw.generation)
unfolding last_looked
last_reads capacity saw = cond_both (is_locked_at saw.generation) _ _ (ReadsBefore capacity false) (λ _. tt) (λ _. tt)

pub list_read : (capacity : ℕ) (p : RecoverPlace) (list : OwnerList) (saw : Saw) → ReadsBefore capacity (reads_list capacity p) (recover_resumed capacity p list saw)
list_read capacity (Look m) list saw = always capacity (recover_resumed capacity (Look m) list saw)
list_read capacity (Load cell m) list saw = always capacity (recover_resumed capacity (Load cell m) list saw)
list_read capacity (Exchange cell m o) list saw =
    cond_both saw.won (Continue (Bump cell m bump.Look)) (recover_next capacity cell m) (ReadsBefore capacity (has_next capacity cell)) (λ _ e. e) (λ _. next_reads capacity cell m)
list_read capacity (Bump cell m b) list saw = bumped_reads capacity cell m (bump_resumed b saw)
list_read capacity (Lock r l) list saw = locked_reads capacity r (lock_resumed capacity l saw)
list_read capacity LastLook list saw = last_reads capacity saw
