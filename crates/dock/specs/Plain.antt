-- Work for the dock of a plain set: for the record that is read, and for the whole table.
use Rattle.std.specs.Prelude.{ℕ}
use Rattle.thread_records.specs.declared.Record.{Record}
use Rattle.unique_index_set.specs.Steps.{Shared}
use Rattle.turns.specs.Plain.{plain_moves}
use Rattle.turns.specs.Docks.{Table, Turned}
use Rattle.dock.specs.declared.Work.{Work}
use Rattle.dock.specs.Works.{Worked, work_of, works_in}

abbrev pub plain_work_of : ℕ → Work → Shared → Record → Worked Shared
plain_work_of records w s t = work_of plain_moves records w s t

abbrev pub plain_works : Work → Table Shared → Turned (Table Shared)
plain_works w d = works_in plain_moves w d
