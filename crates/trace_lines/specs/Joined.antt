-- The calls that a caller makes for a schedule that comes in pieces: each is given what the one before left unread, with some of what is still to come
-- behind it; when nothing is to come, it is told so. The room may be another at each call.
use Rattle.std.specs.Prelude.{ℕ, true, false, List, [], ◌++◌, drop}
use Rattle.trace_text.specs.Lines.{Text}
use Rattle.trace_turns.specs.Scenes.{Scene}
use Rattle.trace_lines.specs.declared.Stage.{Stage}
use Rattle.trace_lines.specs.declared.Stage.TheVariants as stage
use Rattle.trace_lines.specs.Pieces.{piece_of}

-- from a stage and scene, with bytes unread and bytes to come, to the lines that the calls write, until the trace is over
pub data Joined : Stage → Scene → List ℕ → List ℕ → Text → Type 0 where
  over : {s : Scene} {unread coming : List ℕ} → Joined stage.Over s unread coming []
  more : {st : Stage} {s : Scene} {unread coming : List ℕ} {text : Text} (room : ℕ) (new : List ℕ)
      → Joined (piece_of st room s (unread ++ new) false).stage (piece_of st room s (unread ++ new) false).scene (drop (piece_of st room s (unread ++ new) false).used (unread ++ new)) coming text
      → Joined st s unread (new ++ coming) ((piece_of st room s (unread ++ new) false).text ++ text)
  last : {st : Stage} {s : Scene} {unread : List ℕ} {text : Text} (room : ℕ)
      → Joined (piece_of st room s unread true).stage (piece_of st room s unread true).scene (drop (piece_of st room s unread true).used unread) [] text
      → Joined st s unread [] ((piece_of st room s unread true).text ++ text)
