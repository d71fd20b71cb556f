use Rattle.std.proofs.Common.{rules}
use Rattle.dock.proofs.Works.{works_done}
use Rattle.dock.proofs.do_work.Goals as goal

pub returns-clause-left : goal.returns-clause-left
returns-clause-left g c =
    works_done c.args.work c.args.records.now _ c.fetch-thread.result (search rules) g.S.SteppedSet.moves g.met.S.SteppedSet.laws
    (g.S.SteppedSet.shared c.args.set.now) _ c.work_by_value-worked.result c.work_by_value-worked.ensures.left c.settle.ensures
