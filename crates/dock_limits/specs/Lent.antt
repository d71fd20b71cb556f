-- A table by value of which the first `records` are lent: the dock's work leaves these, and the rest stay.
use Rattle.std.specs.Prelude.{ℕ, ◌≡◌, List, ◌++◌, take, drop}
use Rattle.thread_records.specs.declared.Record.{Record}
use Rattle.unique_index_set.specs.Steps as plain
use Rattle.robust_unique_index_set.specs.Steps as robust
use Rattle.turns.specs.declared.Done.{Done}
use Rattle.turns.specs.Docks.{Table, Turned}
use Rattle.dock.specs.declared.Work.{Work}
use Rattle.dock.specs.Works.{table, done_in}
use Rattle.dock.specs.Plain.{plain_works}
use Rattle.dock.specs.Robust.{robust_works}
use Rattle.dock_limits.specs.declared.sides.PlainSide.{PlainSide}
use Rattle.dock_limits.specs.declared.sides.RobustSide.{RobustSide}

-- what the records share, and the table of them, as they are held before the work and after it
abbrev pub LentAs : {S : Type 0} → (Table S → Turned (Table S)) → ℕ → S → List Record → Done → S → List Record → Type 0
LentAs works records s held r s' held' =
    (left : List Record) × ((done_in (table s' left) r ≡ works (table s (take records held))) × (held' ≡ left ++ drop records held))

abbrev pub PlainLentAs : ℕ → Work → PlainSide → Done → PlainSide → Type 0
PlainLentAs records w a r b =
    LentAs (plain_works w) records (plain.shared a.set a.slots a.custody) a.table r (plain.shared b.set b.slots b.custody) b.table

abbrev pub RobustLentAs : ℕ → Work → RobustSide → Done → RobustSide → Type 0
RobustLentAs records w a r b =
    LentAs (robust_works w) records (robust.shared a.set a.cells) a.table r (robust.shared b.set b.cells) b.table
