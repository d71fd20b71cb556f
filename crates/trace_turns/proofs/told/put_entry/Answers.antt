use Rattle.std.proofs.Common.{arith}
use Rattle.trace_text.specs.declared.Line.TheVariants.{Entry}
use Rattle.trace_text.proofs.Laws.{line_short}
use Rattle.trace_text.proofs.Room.{laid_whole}
use Rattle.trace_turns.proofs.told.put_entry.Goals as goal

pub returns-clause-laid : goal.returns-clause-laid
returns-clause-laid c = laid_whole _ _ _ _ (Entry c.args.line) c.requires c.put_line.ensures

pub returns-clause-upper_bound : goal.returns-clause-upper_bound
returns-clause-upper_bound c = let h = laid_whole _ _ _ _ (Entry c.args.line) c.requires c.put_line.ensures in omega (arith, line_short (Entry c.args.line), h.1)
