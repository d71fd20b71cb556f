-- A turn on a dock of whichever set: refused, it changes nothing. Any two results that the contract of a turn allows are the same.
-- Assumes nothing.
use Rattle.std.proofs.Common.{ℕ, ◌≡◌, refl, ap, length}
use mathlib.Core.List as list
use Rattle.std.specs.Prelude.{Ok}
use Rattle.unique_index_set_enums.specs.declared.RecordNumber.{RecordNumber}
use Rattle.calls.specs.declared.Refusal.{Refusal}
use Rattle.calls.specs.declared.Progress.TheVariants as progress
use Rattle.calls.specs.Runs.{Run}
use Rattle.thread_records.specs.declared.Record.{Record}
use Rattle.thread_records.specs.Records.{empty_list, idle_record}
use Rattle.thread_records.specs.Effects.{Effect}
use Rattle.thread_records.proofs.Effects.{Harmless}
use Rattle.thread_records.proofs.Besides.{death_harmless, list_harmless}
use Rattle.thread_records.proofs.Determined.{determined}
use Rattle.unique_index_set.specs.declared.UniqueIndexSet.{UniqueIndexSet}
use Rattle.unique_index_set.specs.Steps as plain
use Rattle.unique_index_set.specs.Setups as plainsetup
use Rattle.robust_unique_index_set.specs.declared.RobustUniqueIndexSet.{RobustUniqueIndexSet}
use Rattle.robust_unique_index_set.specs.Steps as robust
use Rattle.robust_unique_index_set.specs.Setups as robustsetup
use Rattle.turns.specs.declared.Operation.{Operation}
use Rattle.turns.specs.declared.Operation.TheVariants.{Start, Step, List, Death, Drain}
use Rattle.turns.specs.declared.Turned as turned
use Rattle.turns.specs.Moves.{Moves, MovesLaws, Untouched, run_of, turn_of}
use Rattle.turns.specs.Plain.{plain_moves, plain_setup_same, plain_turn_of}
use Rattle.turns.specs.Robust.{robust_moves, robust_setup_same, robust_turn_of}
use Rattle.turns.specs.Laws.{plain_laws, robust_laws}
use Rattle.turns.specs.Docks.{Table, named, setup_in, Dock, turn, set_up}
use Rattle.turns.proofs.Tables.{turn_unchanged, setup_unchanged, setup_each}

untouched : {S : Type 0} {s : S} {t : Record} {e : Effect S} → Harmless s t e → Untouched s t e
untouched h why p = ((h why p).shared, (h why p).thread)

-- of whichever set
pub moves_untouched : {S : Type 0} (m : Moves S) → MovesLaws m → (records : ℕ) (who : RecordNumber) (o : Operation) (s : S) (t : Record) → Untouched s t (turn_of m records who o s t).left
moves_untouched m laws records who (Start q) s t = laws.start_untouched records who q s t
moves_untouched m laws records who Step s t = laws.step_untouched records who s t
moves_untouched m laws records who (List owners) s t = untouched (list_harmless s m.kind t records who owners)
moves_untouched m laws records who Death s t = untouched (death_harmless s t records who)
moves_untouched m laws records who (Drain b) s t = laws.drain_untouched records who b s t

-- a refused turn changes nothing
pub turn_harmless : (who : RecordNumber) (o : Operation) (d : Dock) (why : Refusal) → (turn who o d).report.progress ≡ progress.Refused why
    → (turn who o d).left ≡ d
turn_harmless who o (Dock.plain_dock d) why p =
    ap Dock.plain_dock (turn_unchanged (λ n s t. plain_turn_of n who o s t) who d (moves_untouched plain_moves plain_laws (length d.records) who o d.shared (named who d.records)) why p)
turn_harmless who o (Dock.robust_dock d) why p =
    ap Dock.robust_dock (turn_unchanged (λ n s t. robust_turn_of n who o s t) who d (moves_untouched robust_moves robust_laws (length d.records) who o d.shared (named who d.records)) why p)

-- nor does a refused setup
pub setup_harmless : (capacity : ℕ) (d : Dock) (why : Refusal) → (set_up capacity d).report.progress ≡ progress.Refused why → (set_up capacity d).left ≡ d
setup_harmless capacity (Dock.plain_dock d) why p =
    ap Dock.plain_dock (setup_unchanged (λ n s t. plainsetup.setup_of n capacity s t) d (plain_setup_same (length d.records) capacity d.shared) why p)
setup_harmless capacity (Dock.robust_dock d) why p =
    ap Dock.robust_dock (setup_unchanged (λ n s t. robustsetup.setup_of n capacity s t) d (robust_setup_same (length d.records) capacity d.shared) why p)

-- and an accepted one leaves every record idle, its list empty
pub plain_idles : (capacity : ℕ) (d : Table plain.Shared) → plainsetup.setup_judged (length d.records) capacity d.shared ≡ Ok tt
    → (setup_in (λ n s t. plainsetup.setup_of n capacity s t) d).left.records ≡ list.map (λ t. idle_record empty_list) d.records
unfolding plainsetup.setup_of
plain_idles capacity d e =
    setup_each (λ n s t. plainsetup.setup_of n capacity s t) d (record { verdict = plainsetup.setup_judged (length d.records) capacity d.shared; fresh = plainsetup.fresh capacity d.shared; same = λ t. refl }) e

pub robust_idles : (capacity : ℕ) (d : Table robust.Shared) → robustsetup.setup_judged (length d.records) capacity d.shared ≡ Ok tt
    → (setup_in (λ n s t. robustsetup.setup_of n capacity s t) d).left.records ≡ list.map (λ t. idle_record empty_list) d.records
unfolding robustsetup.setup_of
robust_idles capacity d e =
    setup_each (λ n s t. robustsetup.setup_of n capacity s t) d (record { verdict = robustsetup.setup_judged (length d.records) capacity d.shared; fresh = robustsetup.fresh capacity d.shared; same = λ t. refl }) e

-- of take_turn on each dock, whose contract is `run_of (shared set ..) r ≡ u`
abbrev plain_left : turned.Turned × UniqueIndexSet × list.List ℕ × list.List ℕ → Run (Effect plain.Shared)
plain_left x = run_of (plain.shared x.1 x.2 x.3) x.0

abbrev plain_back : Run (Effect plain.Shared) → turned.Turned × UniqueIndexSet × list.List ℕ × list.List ℕ
plain_back u = (record { thread = u.left.thread; report = u.left.report; steps = u.steps }, u.left.shared.set, u.left.shared.slots, u.left.shared.custody)

pub plain_determined : (u : Run (Effect plain.Shared)) (x y : turned.Turned × UniqueIndexSet × list.List ℕ × list.List ℕ) → plain_left x ≡ u → plain_left y ≡ u → x ≡ y
plain_determined = determined plain_left plain_back (λ x. refl)

abbrev robust_left : turned.Turned × RobustUniqueIndexSet × list.List ℕ → Run (Effect robust.Shared)
robust_left x = run_of (robust.shared x.1 x.2) x.0

abbrev robust_back : Run (Effect robust.Shared) → turned.Turned × RobustUniqueIndexSet × list.List ℕ
robust_back u = (record { thread = u.left.thread; report = u.left.report; steps = u.steps }, u.left.shared.set, u.left.shared.cells)

pub robust_determined : (u : Run (Effect robust.Shared)) (x y : turned.Turned × RobustUniqueIndexSet × list.List ℕ) → robust_left x ≡ u → robust_left y ≡ u → x ≡ y
robust_determined = determined robust_left robust_back (λ x. refl)
