-- Work by value, settled in the table, is the table's work; and that is the work of the dock that it is. The other set's buffers stay.
-- Any two results that the contract allows are the same. Assumes nothing.
use Prim.Native.Nat.{ℕ}
use mathlib.Core.Path.{◌≡◌, refl, ap}
use mathlib.Core.List.{List}
use lib.ListN.{length}
use Rattle.thread_records.specs.declared.Record.{Record}
use Rattle.unique_index_set.specs.Steps as plain
use Rattle.robust_unique_index_set.specs.Steps as robust
use Rattle.turns.specs.Docks.{docked}
use Rattle.thread_records.proofs.Determined.{determined}
use Rattle.dock.specs.declared.Work.{Work}
use Rattle.dock.specs.declared.Worked as by_value
use Rattle.dock.specs.Works.{Worked, worked_table}
use Rattle.dock.specs.Docks.{work_in}
use Rattle.dock.proofs.Works.{read_at, plain_works_lem, robust_works_lem}
use Rattle.any_dock.specs.declared.AnySet.{AnySet}
use Rattle.any_dock.specs.declared.AnySet.TheVariants.{Plain, Robust}
use Rattle.any_dock.specs.Any.{AnyShared, any_left, work_on, works_on, plain_table_among, robust_table_among, dock_of, dock_on}

module _ (w : Work) (slots custody cells : List ℕ) (records : List Record) where
  -- the record that is read, worked on by value, and what that leaves settled in the table
  pub any_works : (set : AnySet) → worked_table (work_on (length records) w set slots custody cells (read_at w records)) records ≡ works_on w set slots custody cells records
  any_works (Plain s) = ap (plain_table_among cells) (plain_works_lem w (plain.shared s slots custody) records)
  any_works (Robust s) = ap (robust_table_among slots custody) (robust_works_lem w (robust.shared s cells) records)

  -- the dock's own work
  pub any_dock_lem : (set : AnySet) → docked dock_of (works_on w set slots custody cells records) ≡ work_in w (dock_on set slots custody cells records)
  any_dock_lem (Plain s) = refl
  any_dock_lem (Robust s) = refl

abbrev left : by_value.Worked × AnySet × List ℕ × List ℕ × List ℕ → Worked AnyShared
left x = any_left x.0 x.1 x.2 x.3 x.4

abbrev back : Worked AnyShared → by_value.Worked × AnySet × List ℕ × List ℕ × List ℕ
back u = (record { settled = u.settled; report = u.report; steps = u.steps }, u.shared.set, u.shared.slots, u.shared.custody, u.shared.cells)

pub any_work_determined : (u : Worked AnyShared) (x y : by_value.Worked × AnySet × List ℕ × List ℕ × List ℕ) → left x ≡ u → left y ≡ u → x ≡ y
any_work_determined = determined left back (λ x. refl)
