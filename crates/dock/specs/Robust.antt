-- Work for the dock of a robust set: for the record that is read, and for the whole table.
use Rattle.std.specs.Prelude.{ℕ}
use Rattle.thread_records.specs.declared.Record.{Record}
use Rattle.robust_unique_index_set.specs.Steps.{Shared}
use Rattle.turns.specs.Robust.{robust_moves}
use Rattle.turns.specs.Docks.{Table, Turned}
use Rattle.dock.specs.declared.Work.{Work}
use Rattle.dock.specs.Works.{Worked, work_of, works_in}

abbrev pub robust_work_of : ℕ → Work → Shared → Record → Worked Shared
robust_work_of records w s t = work_of robust_moves records w s t

abbrev pub robust_works : Work → Table Shared → Turned (Table Shared)
robust_works w d = works_in robust_moves w d
