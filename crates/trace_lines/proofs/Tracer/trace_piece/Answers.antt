use Rattle.std.proofs.Common.{refl}
use Rattle.trace_lines.specs.Pieces.{piece_of}
use Rattle.trace_lines.proofs.Calls.{still}
use Rattle.trace_lines.proofs.Tracer.trace_piece.Goals as goal

pub returns-in-Over-clause-piece : goal.returns-in-Over-clause-piece
unfolding piece_of
returns-in-Over-clause-piece c = rw c.in-Over.is (still _ _ _ _ _ _ refl c.none.ensures)
