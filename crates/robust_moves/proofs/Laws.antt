-- Of bump, count and lock: a closed place is read as itself, and what goes on from a sound place is sound. Assumes nothing.
use Rattle.std.proofs.Common.{◌≡◌, Option, Some, None, ℕ, ◌+◌, ◌%◌, ◌^◌, ◌<◌, ◌≤◌, true, false, eqb, ltb, leb, refl, arith, ltb-false, ltb-true, le-ltb, le-leb, leb-false, leb-true}
use Rattle.std.specs.declared.ops.ControlFlow.{ControlFlow}
use Rattle.std.specs.declared.ops.ControlFlow.TheVariants.{Continue, Break}
use borrow.Author.Tests.{lt-leb}
use Rattle.unique_index_set_enums.specs.declared.Index.{Index}
use Rattle.unique_index_set_enums.specs.declared.OwnerId.{OwnerId}
use Rattle.unique_index_set_enums.specs.declared.Generation.{Generation}
use Rattle.unique_index_set_enums.specs.declared.ReleaseState.{ReleaseState}
use Rattle.unique_index_set_enums.specs.Kinds.{index}
use Rattle.unique_index_set_enums.specs.Robust.{is_empty, is_locked_at, next_generation}
use Rattle.std.proofs.lemmas.Bool.{cond_both}
use Rattle.unique_index_set_enums.proofs.Choice.{second_true}
use Rattle.robust_moves.specs.declared.Saw.{Saw}
use Rattle.robust_moves.specs.declared.bump.BumpPlace.{BumpPlace}
use Rattle.robust_moves.specs.declared.bump.BumpPlace.TheVariants as bump
use Rattle.robust_moves.specs.declared.count.CountPlace.{CountPlace}
use Rattle.robust_moves.specs.declared.count.CountPlace.TheVariants as count
use Rattle.robust_moves.specs.declared.count.SetState.{SetState}
use Rattle.robust_moves.specs.declared.lock.LockPlace.{LockPlace}
use Rattle.robust_moves.specs.declared.lock.LockPlace.TheVariants as lock
use Rattle.robust_moves.specs.Bump.{bump_sound, bump_looked, bump_resumed, bump_read, bump_closed}
use Rattle.robust_moves.specs.Count.{cell_after, count_sound, count_looked, one_more, count_on_at, count_on, count_bumped, count_resumed, count_read_bump, count_read, count_closed}
use Rattle.robust_moves.specs.Lock.{lock_sound, lock_looked, lock_counted, lock_resumed, lock_read_count, lock_read, lock_closed}

-- a closed place is read as itself
pub bump_read_lem : (b : BumpPlace) → bump_read (bump_closed b).part (bump_closed b).seen ≡ Some b
unfolding bump_read
bump_read_lem bump.Look = refl
bump_read_lem (bump.Exchange seen) = refl

pub count_read_lem : (c : CountPlace) → count_read (count_closed c).part (count_closed c).counting ≡ Some c
unfolding count_read count_read_bump bump_read
count_read_lem count.Look = refl
count_read_lem (count.Cell first cell n) = refl
count_read_lem (count.Bump first n bump.Look) = refl
count_read_lem (count.Bump first n (bump.Exchange seen)) = refl

pub lock_read_lem : (l : LockPlace) → lock_read (lock_closed l).part (lock_closed l).counting ≡ Some l
unfolding lock_read lock_read_count count_read count_read_bump bump_read
lock_read_lem lock.Look = refl
lock_read_lem (lock.Exchange given) = refl
lock_read_lem (lock.Count count.Look) = refl
lock_read_lem (lock.Count (count.Cell first cell n)) = refl
lock_read_lem (lock.Count (count.Bump first n bump.Look)) = refl
lock_read_lem (lock.Count (count.Bump first n (bump.Exchange seen))) = refl

-- what goes on is sound
abbrev pub BumpStays : ControlFlow Generation BumpPlace → Type 0
BumpStays (Continue b) = bump_sound b ≡ true
BumpStays (Break g) = Unit {0}

bump_looked_lem : (found : Generation) → BumpStays (bump_looked found)
unfolding bump_looked
bump_looked_lem found = cond_both (is_locked_at found) (Break found) (Continue (bump.Exchange found)) BumpStays (λ _. tt) (λ e. rw e refl)

pub bump_stays : (b : BumpPlace) (saw : Saw) → BumpStays (bump_resumed b saw)
bump_stays bump.Look saw = bump_looked_lem saw.generation
bump_stays (bump.Exchange seen) saw =
    cond_both saw.won (Break (next_generation seen)) (bump_looked saw.generation) BumpStays (λ _. tt) (λ _. bump_looked_lem saw.generation)

abbrev pub CountStays : ℕ → ControlFlow SetState CountPlace → Type 0
CountStays capacity (Continue c) = count_sound capacity c ≡ true
CountStays capacity (Break s) = Unit {0}

-- a sound cell: not locked, below the capacity, no more counted than cells passed
pub cell_sound : (capacity : ℕ) (first : Generation) (cell : Index) (n : ℕ) → is_locked_at first ≡ false → cell.0 < capacity → n ≤ cell.0
    → count_sound capacity (count.Cell first cell n) ≡ true
cell_sound capacity first cell n e h k = simp (e, lt-leb _ _ h, le-leb _ _ k)

pub record CellFacts (capacity : ℕ) (first : Generation) (cell : Index) (n : ℕ) : Type 0 where
  pub unlocked : is_locked_at first ≡ false
  pub below : cell.0 < capacity
  pub passed : n ≤ cell.0

pub cell_facts : (capacity : ℕ) (first : Generation) (cell : Index) (n : ℕ) → count_sound capacity (count.Cell first cell n) ≡ true → CellFacts capacity first cell n
cell_facts capacity first cell n e =
    let a = second_true (is_locked_at first) e in
    let b = second_true (leb capacity cell.0) a.1 in
    record { unlocked = a.0; below = leb-false _ _ b.0; passed = leb-true _ _ b.1 }

pub record CountedFacts (capacity : ℕ) (first : Generation) (n : ℕ) (b : BumpPlace) : Type 0 where
  pub unlocked : is_locked_at first ≡ false
  pub most : n ≤ capacity
  pub bump : bump_sound b ≡ true

pub counted_facts : (capacity : ℕ) (first : Generation) (n : ℕ) (b : BumpPlace) → count_sound capacity (count.Bump first n b) ≡ true → CountedFacts capacity first n b
counted_facts capacity first n b e =
    let x = second_true (is_locked_at first) e in
    let y = second_true (ltb capacity n) x.1 in
    record { unlocked = x.0; most = ltb-false _ _ y.0; bump = y.1 }

counted_sound : (capacity : ℕ) (first : Generation) (n : ℕ) (b : BumpPlace) → is_locked_at first ≡ false → n ≤ capacity → bump_sound b ≡ true
    → count_sound capacity (count.Bump first n b) ≡ true
counted_sound capacity first n b e k s = simp (e, le-ltb _ _ k, s)

count_looked_lem : (capacity : ℕ) (found : Generation) → 0 < capacity → CountStays capacity (count_looked found)
unfolding count_looked
count_looked_lem capacity found h =
    cond_both (is_locked_at found) _ (Continue (count.Cell found (index 0) 0)) (CountStays capacity) (λ _. tt)
    (λ e. cell_sound capacity found (index 0) 0 e h (omega arith))

-- the cell behind another
abbrev pub After : ℕ → Index → Option Index → Type 0
After capacity cell (Some next) = (next.0 ≡ cell.0 + 1) × (next.0 < capacity)
After capacity cell None = capacity ≤ cell.0 + 1

pub cell_after_lem : (capacity : ℕ) (cell : Index) → After capacity cell (cell_after capacity cell)
unfolding cell_after
cell_after_lem capacity cell =
    cond_both (ltb (cell.0 + 1) capacity) (Some (index (cell.0 + 1))) None (After capacity cell)
    (λ e. (refl, ltb-true _ _ e)) (λ e. ltb-false _ _ e)

at_most_one : (n : ℕ) (o : OwnerId) (m : ℕ) → n ≤ m → m + 1 < 2 ^ 32 → one_more n o ≤ m + 1
unfolding one_more
at_most_one n o m h k = cond_both (is_empty o) n ((n + 1) % 2 ^ 32) (λ x. x ≤ m + 1) (λ _. omega arith) (λ _. omega arith)

on_stays : (capacity : ℕ) (first : Generation) (cell : Index) (n : ℕ) (a : Option Index) → After capacity cell a → is_locked_at first ≡ false → cell.0 < capacity → n ≤ cell.0 + 1
    → CountStays capacity (count_on_at a first n)
on_stays capacity first cell n (Some next) f e h k = cell_sound capacity first next n e f.1 (rw f.0 k)
on_stays capacity first cell n None f e h k = counted_sound capacity first n bump.Look e (omega arith) refl

bumped_stays : (capacity : ℕ) (first : Generation) (n : ℕ) (r : ControlFlow Generation BumpPlace) → is_locked_at first ≡ false → n ≤ capacity → BumpStays r → CountStays capacity (count_bumped first n r)
bumped_stays capacity first n (Continue b) e h s = counted_sound capacity first n b e h s
bumped_stays capacity first n (Break g) e h s =
    cond_both (eqb g.0 (next_generation first).0) _ (Continue count.Look) (CountStays capacity) (λ _. tt) (λ _. refl)

pub count_stays : (capacity : ℕ) (c : CountPlace) (saw : Saw) → 0 < capacity → capacity < 2 ^ 32 → count_sound capacity c ≡ true → CountStays capacity (count_resumed capacity c saw)
unfolding count_on
count_stays capacity count.Look saw p q e = count_looked_lem capacity saw.generation p
count_stays capacity (count.Cell first cell n) saw p q e =
    let f = cell_facts capacity first cell n e in
    on_stays capacity first cell (one_more n saw.owner) (cell_after capacity cell) (cell_after_lem capacity cell) f.unlocked f.below
    (at_most_one n saw.owner cell.0 f.passed (omega (arith, f.below)))
count_stays capacity (count.Bump first n b) saw p q e =
    let f = counted_facts capacity first n b e in
    bumped_stays capacity first n (bump_resumed b saw) f.unlocked f.most (bump_stays b saw)

abbrev pub LockStays : ℕ → ControlFlow ReleaseState LockPlace → Type 0
LockStays capacity (Continue l) = lock_sound capacity l ≡ true
LockStays capacity (Break s) = Unit {0}

lock_counted_lem : (capacity : ℕ) (r : ControlFlow SetState CountPlace) → CountStays capacity r → LockStays capacity (lock_counted r)
lock_counted_lem capacity (Continue c) s = s
lock_counted_lem capacity (Break x) s = cond_both (eqb x.borrowed_indices 0) (Continue (lock.Exchange x.generation_counter)) _ (LockStays capacity) (λ _. refl) (λ _. tt)

pub lock_stays : (capacity : ℕ) (l : LockPlace) (saw : Saw) → 0 < capacity → capacity < 2 ^ 32 → lock_sound capacity l ≡ true → LockStays capacity (lock_resumed capacity l saw)
unfolding lock_looked
lock_stays capacity lock.Look saw p q e = cond_both (is_locked_at saw.generation) _ (Continue (lock.Count count.Look)) (LockStays capacity) (λ _. tt) (λ _. refl)
lock_stays capacity (lock.Exchange given) saw p q e = cond_both saw.won _ (Continue (lock.Count count.Look)) (LockStays capacity) (λ _. tt) (λ _. refl)
lock_stays capacity (lock.Count c) saw p q e = lock_counted_lem capacity (count_resumed capacity c saw) (count_stays capacity c saw p q e)
