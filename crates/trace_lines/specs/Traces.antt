-- The trace of a schedule, whatever pieces it comes in: the setup's line, each turn's lines, and what ends it.
use Rattle.std.specs.Prelude.{ℕ, ◌≡◌, true, false, [], ◌++◌, length, Ok, Err}
use mathlib.Core.List as list
use Rattle.schedule.specs.declared.SetupEntry.{SetupEntry}
use Rattle.schedule.specs.declared.NoEntry.TheVariants.{Bad}
use Rattle.schedule.specs.Format.{entry_of, rest_of}
use Rattle.trace_text.specs.declared.Line.TheVariants as line
use Rattle.trace_text.specs.Lines.{Text, line_text}
use Rattle.trace_turns.specs.Scenes.{Scene, is_turn, scene_after, told_in}
use Rattle.trace_lines.specs.declared.Stage.{Stage}
use Rattle.trace_lines.specs.declared.Stage.TheVariants as stage
use Rattle.trace_lines.specs.Setups.{opened_of}
use Rattle.trace_lines.specs.Pieces.{closing_of, closing_text, opening_of}

-- from a scene on: turns while the entry at the front is one; then the end, where no bytes are left, or a bad entry's line and the end
pub data Runs : Scene → list.List ℕ → Text → Type 0 where
  turns : {s : Scene} {bytes : list.List ℕ} {text : Text} → is_turn (entry_of bytes) ≡ true → Runs (scene_after s bytes) (rest_of bytes) text → Runs s bytes (told_in s bytes ++ text)
  ends : {s : Scene} {bytes : list.List ℕ} → is_turn (entry_of bytes) ≡ false → Runs s bytes (closing_text s.shared.set s.counts (closing_of (entry_of bytes) (length bytes) true))

-- where the trace stands: before its setup, running, or over
pub data Traces : Stage → Scene → list.List ℕ → Text → Type 0 where
  begins : {s : Scene} {bytes : list.List ℕ} {text : Text} {e : SetupEntry} → opening_of (entry_of bytes) true ≡ Ok e → Traces (opened_of e s).stage (opened_of e s).scene (rest_of bytes) text
      → Traces stage.Fresh s bytes ((opened_of e s).text ++ text)
  lacks : {s : Scene} {bytes : list.List ℕ} → opening_of (entry_of bytes) true ≡ Err Bad → Traces stage.Fresh s bytes (line_text line.Bad)
  runs : {s : Scene} {bytes : list.List ℕ} {text : Text} → Runs s bytes text → Traces stage.Running s bytes text
  rests : {s : Scene} {bytes : list.List ℕ} → Traces stage.Over s bytes []
