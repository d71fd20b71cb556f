use Rattle.any_dock.specs.Any.{any_shared}
use Rattle.trace_text.proofs.Laying.{laid_as}
use Rattle.trace_text.proofs.Room.{laid_whole}
use Rattle.trace_lines.proofs.Begins.{line_readied}
use Rattle.trace_lines.proofs.Tracer.set_up.Goals as goal

pub returns-clause-laid : goal.returns-clause-laid
returns-clause-laid c =
    let lent = c.args.buffers.now in
    let done = rw c.from.ensures at c.any_work-worked.ensures in
    laid_as _ _ _ _ _ _
    (line_readied c.args.set c.args.entry (any_shared c.args.self.now.running.set lent.slots.now lent.custody.now lent.cells.now) _ c.any_work-worked.result _ _ _ _ c.default.ensures done _ _ c.kind_of.ensures c.setup_line.ensures)
    (laid_whole _ _ _ _ c.setup_line.result c.requires c.put_line.ensures)
