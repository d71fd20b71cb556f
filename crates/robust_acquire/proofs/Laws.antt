-- Of acquire: a closed place is read as itself, and what goes on from a sound place is sound. Assumes nothing.
use Rattle.std.proofs.Common.{◌≡◌, Option, Some, None, Result, ℕ, ◌-◌, ◌<◌, true, false, leb, refl, ltb-true, lt-ltb}
use Rattle.std.specs.declared.ops.ControlFlow.{ControlFlow}
use Rattle.std.specs.declared.ops.ControlFlow.TheVariants.{Continue, Break}
use borrow.Author.Tests.{lt-leb, not-true}
use Rattle.unique_index_set_enums.specs.declared.Index.{Index}
use Rattle.unique_index_set_enums.specs.declared.OwnerId.{OwnerId}
use Rattle.unique_index_set_enums.specs.declared.Generation.{Generation}
use Rattle.unique_index_set_enums.specs.declared.UniqueIndexSetAcquireFailure.{UniqueIndexSetAcquireFailure}
use Rattle.unique_index_set_enums.specs.Kinds.{index}
use Rattle.unique_index_set_enums.specs.Robust.{is_empty, is_locked_at}
use Rattle.std.proofs.lemmas.Bool.{cond_both}
use Rattle.unique_index_set_enums.proofs.Choice.{second_true}
use Rattle.robust_moves.specs.declared.Saw.{Saw}
use Rattle.robust_moves.specs.declared.bump.BumpPlace.{BumpPlace}
use Rattle.robust_moves.specs.declared.bump.BumpPlace.TheVariants as bump
use Rattle.robust_moves.specs.Bump.{bump_read, bump_resumed}
use Rattle.robust_moves.specs.Count.{cell_after}
use Rattle.robust_moves.proofs.Laws.{BumpStays, bump_stays, After, cell_after_lem}
use Rattle.robust_acquire.specs.declared.AcquirePlace.{AcquirePlace}
use Rattle.robust_acquire.specs.declared.AcquirePlace.TheVariants.{Look, Cell, Close, Bump}
use Rattle.robust_acquire.specs.Acquire.{acquire_sound, acquire_looked, acquire_on_at, acquire_on, acquire_bumped, acquire_resumed, acquire_read_bump, acquire_read, acquire_closed}

pub acquire_read_lem : (p : AcquirePlace) → acquire_read ((acquire_closed p).place - 16) (acquire_closed p) ≡ Some p
unfolding acquire_read acquire_read_bump bump_read
acquire_read_lem (Look o) = refl
acquire_read_lem (Cell o seen cell) = refl
acquire_read_lem (Close o seen) = refl
acquire_read_lem (Bump won bump.Look) = refl
acquire_read_lem (Bump won (bump.Exchange seen)) = refl

abbrev pub AcquireStays : ℕ → ControlFlow (Result Index UniqueIndexSetAcquireFailure) AcquirePlace → Type 0
AcquireStays capacity (Continue p) = acquire_sound capacity p ≡ true
AcquireStays capacity (Break r) = Unit {0}

looked : (capacity : ℕ) (o : OwnerId) (found : Generation) → 0 < capacity → is_empty o ≡ false → AcquireStays capacity (acquire_looked o found)
unfolding acquire_looked
looked capacity o found h e =
    cond_both (is_locked_at found) _ (Continue (Cell o found (index 0))) (AcquireStays capacity) (λ _. tt) (λ l. simp (e, l, lt-ltb 0 capacity h))

on_stays : (capacity : ℕ) (o : OwnerId) (seen : Generation) (cell : Index) (a : Option Index) → After capacity cell a → is_empty o ≡ false → is_locked_at seen ≡ false
    → AcquireStays capacity (acquire_on_at a o seen)
on_stays capacity o seen cell (Some next) f e l = simp (e, l, lt-ltb next.0 capacity f.1)
on_stays capacity o seen cell None f e l = simp (e, l)

bumped_stays : (capacity : ℕ) (won : Index) (r : ControlFlow Generation BumpPlace) → leb capacity won.0 ≡ false → BumpStays r → AcquireStays capacity (acquire_bumped won r)
bumped_stays capacity won (Continue b) e s = simp (e, s)
bumped_stays capacity won (Break g) e s = cond_both (is_locked_at g) _ _ (AcquireStays capacity) (λ _. tt) (λ _. tt)

pub acquire_stays : (capacity : ℕ) (p : AcquirePlace) (saw : Saw) → 0 < capacity → acquire_sound capacity p ≡ true → AcquireStays capacity (acquire_resumed capacity p saw)
unfolding acquire_on
acquire_stays capacity (Look o) saw h e = looked capacity o saw.generation h (not-true _ e)
acquire_stays capacity (Cell o seen cell) saw h e =
    let a = second_true (is_empty o) e in
    let b = second_true (is_locked_at seen) a.1 in
    cond_both saw.won (Continue (Bump cell bump.Look)) _ (AcquireStays capacity)
    (λ _. simp (lt-leb capacity cell.0 (ltb-true _ _ b.1)))
    (λ _. on_stays capacity o seen cell (cell_after capacity cell) (cell_after_lem capacity cell) a.0 b.0)
acquire_stays capacity (Close o seen) saw h e =
    cond_both saw.won _ (acquire_looked o saw.generation) (AcquireStays capacity) (λ _. tt) (λ _. looked capacity o saw.generation h (second_true (is_empty o) e).0)
acquire_stays capacity (Bump won b) saw h e = bumped_stays capacity won (bump_resumed b saw) (second_true (leb capacity won.0) e).0 (bump_stays b saw)
