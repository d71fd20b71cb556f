-- Of find: a closed place is read as itself, and what goes on from a sound place is sound. Assumes nothing.
use Rattle.std.proofs.Common.{◌≡◌, Option, Some, None, ℕ, ◌+◌, ◌^◌, ◌<◌, ◌≤◌, true, false, eqb, ltb, leb, refl, arith, ltb-false, ltb-true, le-ltb, lt-ltb, leb-false}
use Rattle.std.specs.declared.ops.ControlFlow.{ControlFlow}
use Rattle.std.specs.declared.ops.ControlFlow.TheVariants.{Continue, Break}
use borrow.Author.Tests.{lt-leb}
use Rattle.unique_index_set_enums.specs.declared.Index.{Index}
use Rattle.unique_index_set_enums.specs.Robust.{is_empty}
use Rattle.std.proofs.lemmas.Bool.{cond_both}
use Rattle.unique_index_set_enums.proofs.Choice.{second_true}
use Rattle.robust_moves.specs.declared.Saw.{Saw}
use Rattle.robust_moves.specs.Count.{cell_after}
use Rattle.robust_moves.proofs.Laws.{After, cell_after_lem}
use Rattle.robust_find.specs.declared.FindPlace.{FindPlace}
use Rattle.robust_find.specs.Find.{find_sound, find_on_at, find_on, one_reported, find_matched, find_resumed, find_read, find_closed}

pub find_read_lem : (p : FindPlace) → find_read (find_closed p) ≡ p
find_read_lem p = refl

pub record FindFacts (capacity : ℕ) (p : FindPlace) : Type 0 where
  pub owner : is_empty p.owner ≡ false
  pub below : p.cell.0 < capacity
  pub passed : p.reported ≤ p.cell.0
  pub room : p.reported < p.room

pub find_facts : (capacity : ℕ) (p : FindPlace) → find_sound capacity p ≡ true → FindFacts capacity p
unfolding find_sound
find_facts capacity p e =
    let a = second_true (is_empty p.owner) e in
    let b = second_true (leb capacity p.cell.0) a.1 in
    let d = second_true (ltb p.cell.0 p.reported) b.1 in
    record { owner = a.0; below = leb-false _ _ b.0; passed = ltb-false _ _ d.0; room = ltb-true _ _ d.1 }

facts_sound : (capacity : ℕ) (p : FindPlace) → FindFacts capacity p → find_sound capacity p ≡ true
unfolding find_sound
facts_sound capacity p f = simp (f.owner, lt-leb capacity p.cell.0 f.below, le-ltb p.cell.0 p.reported f.passed, lt-ltb p.reported p.room f.room)

abbrev pub FindStays : ℕ → ControlFlow ℕ FindPlace → Type 0
FindStays capacity (Continue p) = find_sound capacity p ≡ true
FindStays capacity (Break n) = Unit {0}

on_stays : (capacity : ℕ) (p : FindPlace) (n : ℕ) (a : Option Index) → After capacity p.cell a → is_empty p.owner ≡ false → n ≤ p.cell.0 + 1 → n < p.room
    → FindStays capacity (find_on_at a p n)
on_stays capacity p n (Some next) f e h k =
    facts_sound capacity _ (record { owner = e; below = f.1; passed = rw f.0 h; room = k })
on_stays capacity p n None f e h k = tt

pub find_stays : (capacity : ℕ) (p : FindPlace) (saw : Saw) → capacity < 2 ^ 32 → find_sound capacity p ≡ true → FindStays capacity (find_resumed capacity p saw)
unfolding find_resumed find_matched find_on
find_stays capacity p saw q e =
    let f = find_facts capacity p e in
    let c = p.cell.0 in
    cond_both (eqb p.owner.0 saw.owner.0) _ _ (FindStays capacity)
    (λ _. cond_both (leb p.room (one_reported p)) (Break (one_reported p)) _ (FindStays capacity) (λ _. tt)
    (λ g. on_stays capacity p (one_reported p) (cell_after capacity p.cell) (cell_after_lem capacity p.cell) f.owner
    (omega (arith, f.passed, f.below)) (leb-false p.room (one_reported p) g)))
    (λ _. on_stays capacity p p.reported (cell_after capacity p.cell) (cell_after_lem capacity p.cell) f.owner (omega (arith, f.passed)) f.room)
