-- As many turns as there are whole entries at the front of the bytes, and room for their lines.
use Rattle.std.specs.Prelude.{◌≡◌, ℕ, zero, suc, ◌+◌, ◌-◌, ◌≤◌, Bool, false, cond, List, [], ◌++◌, length, nat_lt, Option, Some, None}
use Rattle.dock.specs.declared.Turn.{Turn}
use Rattle.schedule.specs.Format.{entry_of, rest_of}
use Rattle.trace_text.specs.Laid.{LaidAs}
use Rattle.trace_text.specs.Lines.{Text}
use Rattle.trace_turns.specs.declared.runs.Made.{Made}
use Rattle.trace_turns.specs.Scenes.{Scene, is_turn, turn_at, scene_after, told_in}

-- the scene, the bytes that are left, and the lines written
pub record Went : Type 0 where
  pub scene : Scene
  pub rest : List ℕ
  pub text : Text

abbrev pub stopped : Scene → List ℕ → Went
stopped s bytes = record { scene = s; rest = bytes; text = [] }

abbrev pub behind : Text → Went → Went
behind text w = record { scene = w.scene; rest = w.rest; text = text ++ w.text }

-- what a call asks of the room that it is lent: two lines
unfoldable pub lacks_room : ℕ → ℕ → Bool
lacks_room room at = nat_lt room (at + 256)

-- there is room, and the entry at the front is a turn
unfoldable pub goes_on : List ℕ → ℕ → ℕ → Bool
goes_on bytes room at = cond (lacks_room room at) false (is_turn (entry_of bytes))

abbrev pub next_turn : List ℕ → ℕ → ℕ → Option Turn
next_turn bytes room at = cond (goes_on bytes room at) (Some (turn_at bytes)) None

-- at most so many turns, lines written from a place on
unfoldable pub went : ℕ → ℕ → Scene → List ℕ → ℕ → Went
went zero room s bytes at = stopped s bytes
went (suc k) room s bytes at = cond (goes_on bytes room at) (behind (told_in s bytes) (went k room (scene_after s bytes) (rest_of bytes) (at + length (told_in s bytes)))) (stopped s bytes)

-- an entry has bytes, so there are no more turns than bytes
abbrev pub went_of : ℕ → Scene → List ℕ → Went
went_of room s bytes = went (length bytes) room s bytes 0

-- what `make_turns` comes back with, and the scene and the lines as it leaves them
pub record MadeAs (w : Went) (bytes out : List ℕ) (r : Made) (s : Scene) (out' : List ℕ) : Type 0 where
  pub scene : s ≡ w.scene
  pub used : r.used ≡ length bytes - length w.rest
  pub laid : LaidAs out 0 w.text out' r.written
  pub within : r.written ≤ length out
