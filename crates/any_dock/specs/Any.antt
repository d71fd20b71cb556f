-- The dock of either set, with all buffers lent: the set says which are its own, and the other's stay.
use Rattle.std.specs.Prelude.{ℕ, List}
use Rattle.thread_records.specs.declared.Record.{Record}
use Rattle.unique_index_set.specs.Steps as plain
use Rattle.robust_unique_index_set.specs.Steps as robust
use Rattle.dock.specs.declared.Work.{Work}
use Rattle.dock.specs.declared.Worked as by_value
use Rattle.turns.specs.Docks.{Table, Turned, Dock}
use Rattle.turns.specs.Docks.Dock.{plain_dock, robust_dock}
use Rattle.dock.specs.Works.{Worked, worked_as, table}
use Rattle.dock.specs.Plain.{plain_work_of, plain_works}
use Rattle.dock.specs.Robust.{robust_work_of, robust_works}
use Rattle.any_dock.specs.declared.AnySet.{AnySet}
use Rattle.any_dock.specs.declared.AnySet.TheVariants.{Plain, Robust}

pub record AnyShared : Type 0 where
  pub set : AnySet
  pub slots : List ℕ
  pub custody : List ℕ
  pub cells : List ℕ

abbrev pub any_shared : AnySet → List ℕ → List ℕ → List ℕ → AnyShared
any_shared set slots custody cells = record { set = set; slots = slots; custody = custody; cells = cells }

abbrev pub any_left : by_value.Worked → AnySet → List ℕ → List ℕ → List ℕ → Worked AnyShared
any_left r set slots custody cells = worked_as (any_shared set slots custody cells) r

-- what a plain set's work leaves, beside cells that stay; a robust set's, beside slots and custody that stay
abbrev pub plain_among : List ℕ → Worked plain.Shared → Worked AnyShared
plain_among cells w = record { settled = w.settled; shared = any_shared (Plain w.shared.set) w.shared.slots w.shared.custody cells; report = w.report; steps = w.steps }

abbrev pub robust_among : List ℕ → List ℕ → Worked robust.Shared → Worked AnyShared
robust_among slots custody w = record { settled = w.settled; shared = any_shared (Robust w.shared.set) slots custody w.shared.cells; report = w.report; steps = w.steps }

abbrev pub work_on : ℕ → Work → AnySet → List ℕ → List ℕ → List ℕ → Record → Worked AnyShared
work_on records w (Plain s) slots custody cells t = plain_among cells (plain_work_of records w (plain.shared s slots custody) t)
work_on records w (Robust s) slots custody cells t = robust_among slots custody (robust_work_of records w (robust.shared s cells) t)

-- for the record that is read, of `records` that are lent
abbrev pub any_work_of : ℕ → Work → AnyShared → Record → Worked AnyShared
any_work_of records w s t = work_on records w s.set s.slots s.custody s.cells t

-- for the whole table
abbrev pub plain_table_among : List ℕ → Turned (Table plain.Shared) → Turned (Table AnyShared)
plain_table_among cells u = record {
  left = table (any_shared (Plain u.left.shared.set) u.left.shared.slots u.left.shared.custody cells) u.left.records;
  report = u.report;
  steps = u.steps;
}

abbrev pub robust_table_among : List ℕ → List ℕ → Turned (Table robust.Shared) → Turned (Table AnyShared)
robust_table_among slots custody u = record {
  left = table (any_shared (Robust u.left.shared.set) slots custody u.left.shared.cells) u.left.records;
  report = u.report;
  steps = u.steps;
}

abbrev pub works_on : Work → AnySet → List ℕ → List ℕ → List ℕ → List Record → Turned (Table AnyShared)
works_on w (Plain s) slots custody cells records = plain_table_among cells (plain_works w (table (plain.shared s slots custody) records))
works_on w (Robust s) slots custody cells records = robust_table_among slots custody (robust_works w (table (robust.shared s cells) records))

-- which dock it is
abbrev pub dock_on : AnySet → List ℕ → List ℕ → List ℕ → List Record → Dock
dock_on (Plain s) slots custody cells records = plain_dock (table (plain.shared s slots custody) records)
dock_on (Robust s) slots custody cells records = robust_dock (table (robust.shared s cells) records)

abbrev pub dock_of : Table AnyShared → Dock
dock_of d = dock_on d.shared.set d.shared.slots d.shared.custody d.shared.cells d.records
