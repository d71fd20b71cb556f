-- What one call does with a piece of a schedule's bytes: the setup, or as many turns as there are whole entries and room for their lines; and what
-- ends a trace.
use Rattle.std.specs.Prelude.{ℕ, ◌-◌, ◌≡◌, Bool, cond, [], ◌++◌, eqb, length, replicate, Result, Ok, Err}
use mathlib.Core.List as list
use Rattle.unique_index_set_enums.specs.Kinds.{record_number}
use Rattle.thread_records.specs.Records.{empty_list, idle_record}
use Rattle.any_dock.specs.declared.AnySet.{AnySet}
use Rattle.any_dock.specs.declared.AnySet.TheVariants.{Plain, Robust}
use Rattle.schedule.specs.declared.Entry.{Entry}
use Rattle.schedule.specs.declared.Entry.TheVariants.{Setup, Start, Step, Death, List}
use Rattle.schedule.specs.declared.NoEntry.{NoEntry}
use Rattle.schedule.specs.declared.NoEntry.TheVariants.{Cut, Bad}
use Rattle.schedule.specs.declared.SetupEntry.{SetupEntry}
use Rattle.schedule.specs.Format.{entry_of, size_of}
use Rattle.trace_text.specs.declared.events.Event.TheVariants as event
use Rattle.trace_text.specs.declared.Line.TheVariants as line
use Rattle.trace_text.specs.Laid.{LaidAs}
use Rattle.trace_text.specs.Lines.{Text, line_text}
use Rattle.trace_turns.specs.declared.moves.Counts.{Counts}
use Rattle.trace_turns.specs.Told.{entry_line}
use Rattle.trace_turns.specs.Scenes.{Scene}
use Rattle.trace_turns.specs.Went.{Went, lacks_room, went_of}
use Rattle.trace_lines.specs.declared.Stage.{Stage}
use Rattle.trace_lines.specs.declared.Stage.TheVariants as stage
use Rattle.trace_lines.specs.declared.Wants.{Wants}
use Rattle.trace_lines.specs.declared.Wants.TheVariants as wants
use Rattle.trace_lines.specs.declared.Piece.{Piece}
use Rattle.trace_lines.specs.declared.closings.Closing.{Closing}
use Rattle.trace_lines.specs.declared.closings.Closing.TheVariants as closing
use Rattle.trace_lines.specs.declared.Tracer.{Tracer}
use Rattle.trace_lines.specs.Setups.{no_counts, Opened, opened_of}

-- the stage, the scene, how many bytes were read, the lines, and what is wanted next
pub record Pieced : Type 0 where
  pub stage : Stage
  pub scene : Scene
  pub used : ℕ
  pub text : Text
  pub wants : Wants

abbrev pub piece : Stage → Scene → ℕ → Text → Wants → Pieced
piece st s used text w = record { stage = st; scene = s; used = used; text = text; wants = w }

-- ---- the end of a trace: the word of a plain set or the generation of a robust one, and what was counted
abbrev pub word_of : AnySet → ℕ
word_of (Plain s) = s.head
word_of (Robust s) = s.generation.0

abbrev pub end_line : AnySet → Counts → Text
end_line set c = line_text (line.End (record { word = word_of set; acquires = c.acquires; steps = c.steps }))

-- a bad entry has the number that it would have had, and record 0
abbrev pub bad_line : Counts → Text
bad_line c = entry_line c.entries (record_number 0) event.Bad

-- where the bytes end in the middle of an entry, more may come; if none do, the entry is bad, unless there is none
abbrev pub cut_at : ℕ → Bool → Closing
cut_at left last = cond last (cond (eqb left 0) closing.Ends closing.Bad) closing.Waits

abbrev pub closing_of : Result Entry NoEntry → ℕ → Bool → Closing
closing_of (Ok (Setup e)) left last = closing.Bad
closing_of (Ok (Start e)) left last = closing.Turns
closing_of (Ok (Step who)) left last = closing.Turns
closing_of (Ok (Death who)) left last = closing.Turns
closing_of (Ok (List e)) left last = closing.Turns
closing_of (Err Bad) left last = closing.Bad
closing_of (Err Cut) left last = cut_at left last

abbrev pub closing_text : AnySet → Counts → Closing → Text
closing_text set c closing.Turns = []
closing_text set c closing.Waits = []
closing_text set c closing.Ends = end_line set c
closing_text set c closing.Bad = bad_line c ++ end_line set c

abbrev pub stage_closed : Closing → Stage
stage_closed closing.Turns = stage.Running
stage_closed closing.Waits = stage.Running
stage_closed closing.Ends = stage.Over
stage_closed closing.Bad = stage.Over

abbrev pub wants_closed : Closing → Wants
wants_closed closing.Turns = wants.Again
wants_closed closing.Waits = wants.Bytes
wants_closed closing.Ends = wants.Nothing
wants_closed closing.Bad = wants.Nothing

abbrev pub closed_by : Went → ℕ → Closing → Pieced
closed_by w used c = piece (stage_closed c) w.scene used (w.text ++ closing_text w.scene.shared.set w.scene.counts c) (wants_closed c)

-- turns, and what ends a trace where the entries do
abbrev pub turned_by : ℕ → ℕ → Bool → Went → Pieced
turned_by room bytes last w =
    cond (lacks_room room (length w.text)) (piece stage.Running w.scene (bytes - length w.rest) w.text wants.Again)
    (closed_by w (bytes - length w.rest) (closing_of (entry_of w.rest) (length w.rest) last))

abbrev pub running_of : ℕ → Scene → list.List ℕ → Bool → Pieced
running_of room s bytes last = turned_by room (length bytes) last (went_of room s bytes)

-- ---- its beginning: the first entry is the setup; where the bytes end in the middle of it, more may come
abbrev pub opening_of : Result Entry NoEntry → Bool → Result SetupEntry NoEntry
opening_of (Ok (Setup e)) last = Ok e
opening_of (Ok (Start e)) last = Err Bad
opening_of (Ok (Step who)) last = Err Bad
opening_of (Ok (Death who)) last = Err Bad
opening_of (Ok (List e)) last = Err Bad
opening_of (Err Bad) last = Err Bad
opening_of (Err Cut) last = cond last (Err Bad) (Err Cut)

abbrev pub wants_in : Stage → Wants
wants_in stage.Fresh = wants.Bytes
wants_in stage.Running = wants.Again
wants_in stage.Over = wants.Nothing

abbrev pub opened_as : ℕ → Opened → Pieced
opened_as used o = piece o.stage o.scene used o.text (wants_in o.stage)

abbrev pub opened_piece : Result SetupEntry NoEntry → Scene → ℕ → Pieced
opened_piece (Ok e) s used = opened_as used (opened_of e s)
opened_piece (Err Cut) s used = piece stage.Fresh s 0 [] wants.Bytes
opened_piece (Err Bad) s used = piece stage.Over s 0 (line_text line.Bad) wants.Nothing

abbrev pub fresh_of : ℕ → Scene → list.List ℕ → Bool → Pieced
fresh_of room s bytes last = cond (lacks_room room 0) (piece stage.Fresh s 0 [] wants.Again) (opened_piece (opening_of (entry_of bytes) last) s (size_of bytes))

-- ---- one call
unfoldable pub piece_of : Stage → ℕ → Scene → list.List ℕ → Bool → Pieced
piece_of stage.Fresh room s bytes last = fresh_of room s bytes last
piece_of stage.Running room s bytes last = running_of room s bytes last
piece_of stage.Over room s bytes last = piece stage.Over s 0 [] wants.Nothing

-- what a call comes back with, and the stage, the scene and the lines as it leaves them
pub record PieceAs (p : Pieced) (out : list.List ℕ) (r : Piece) (st : Stage) (s : Scene) (out' : list.List ℕ) : Type 0 where
  pub stage : st ≡ p.stage
  pub scene : s ≡ p.scene
  pub used : r.used ≡ p.used
  pub wants : r.wants ≡ p.wants
  pub laid : LaidAs out 0 p.text out' r.written

-- a trace that has not begun
abbrev pub fresh_tracer : Tracer
fresh_tracer = record {
  stage = stage.Fresh;
  running = record { set = Plain (record { capacity = 0; head = 0 }); counts = no_counts; records = 0; table = replicate 16 (idle_record empty_list) };
}
