-- A line with room for the longest is laid. Assumes nothing.
use Rattle.std.proofs.Common.{ℕ, ◌≡◌, ◌+◌, ◌≤◌, List, length, arith}
use Rattle.trace_text.specs.declared.Line.{Line}
use Rattle.trace_text.specs.Laid.{LaidAs}
use Rattle.trace_text.specs.Lines.{line_text, has_room, line_in, line_end}

-- where there is room, what `put_line` leaves is the line laid
pub laid_whole : (l l' : List ℕ) (at p : ℕ) (line : Line) → at + 128 ≤ length l → (l' ≡ line_in l at line) × (p ≡ line_end (length l) at line) → LaidAs l at (line_text line) l' p
unfolding has_room
laid_whole l l' at p line h e = (grind (arith, e.0), grind (arith, e.1))
