-- The setup that a trace begins with: a set that is known, a capacity that the trace has room for, then the set's own setup.
use Rattle.std.specs.Prelude.{ℕ, ◌≡◌, cond, eqb, ltb, replicate, Option, Some, None}
use Rattle.unique_index_set_enums.specs.declared.UniqueIndexCreationError.TheVariants.{ProvidedCapacityGreaterThanMaxCapacity}
use Rattle.unique_index_set_enums.specs.Kinds.{generation}
use Rattle.unique_index_set_enums.specs.Limits.{trace_capacity_limit}
use Rattle.calls.specs.declared.SetKind.{SetKind}
use Rattle.calls.specs.declared.SetKind.TheVariants as kind
use Rattle.calls.specs.declared.Progress.{Progress}
use Rattle.calls.specs.declared.Progress.TheVariants as progress
use Rattle.calls.specs.declared.Refusal.TheVariants as refusal
use Rattle.thread_records.specs.Records.{empty_list, idle_record}
use Rattle.dock.specs.declared.Work.TheVariants as work
use Rattle.dock.specs.Works.{Worked, settled_thread}
use Rattle.any_dock.specs.declared.AnySet.{AnySet}
use Rattle.any_dock.specs.declared.AnySet.TheVariants.{Plain, Robust}
use Rattle.any_dock.specs.Any.{AnyShared, any_shared, any_work_of}
use Rattle.schedule.specs.declared.SetupEntry.{SetupEntry}
use Rattle.trace_text.specs.declared.Line.{Line}
use Rattle.trace_text.specs.declared.Line.TheVariants as line
use Rattle.trace_text.specs.Lines.{Text, line_text}
use Rattle.trace_turns.specs.declared.moves.Counts.{Counts}
use Rattle.trace_turns.specs.Scenes.{Scene}
use Rattle.trace_lines.specs.declared.Stage.{Stage}
use Rattle.trace_lines.specs.declared.Stage.TheVariants as stage

-- 0 is a plain set, 1 a robust one; there is no other
abbrev pub set_read : ℕ → Option AnySet
set_read n = cond (eqb n 0) (Some (Plain (record { capacity = 0; head = 0 }))) (cond (eqb n 1) (Some (Robust (record { capacity = 0; generation = generation 0 }))) None)

abbrev pub kind_of : AnySet → SetKind
kind_of (Plain s) = kind.Plain
kind_of (Robust s) = kind.Robust

-- the line of a setup: the set, or why there is none
abbrev pub setup_line : SetupEntry → SetKind → Progress → Line
setup_line e k progress.Accepted = line.Set (record { kind = k; capacity = e.capacity; records = e.records })
setup_line e k (progress.Answered a) = line.Set (record { kind = k; capacity = e.capacity; records = e.records })
setup_line e k (progress.Refused why) = line.Refused why

abbrev pub stage_after : Progress → Stage
stage_after progress.Accepted = stage.Running
stage_after (progress.Answered a) = stage.Running
stage_after (progress.Refused why) = stage.Over

abbrev pub no_counts : Counts
no_counts = record { entries = 0; acquires = 0; steps = 0 }

pub record Opened : Type 0 where
  pub stage : Stage
  pub scene : Scene
  pub text : Text

-- the set's own setup, for as many idle records as the entry says
unfoldable pub ready_of : AnySet → SetupEntry → AnyShared → Worked AnyShared
ready_of set e s = any_work_of e.records (work.Setup e.capacity) (any_shared set s.slots s.custody s.cells) (idle_record empty_list)

abbrev pub opened_by : SetupEntry → SetKind → Worked AnyShared → Opened
opened_by e k w = record {
  stage = stage_after w.report.progress;
  scene = record { shared = w.shared; counts = no_counts; lent = e.records; held = replicate 16 (settled_thread w.settled) };
  text = line_text (setup_line e k w.report.progress);
}

-- where there is no set, one line, and the rest is not read
abbrev pub over : Scene → Line → Opened
over s l = record { stage = stage.Over; scene = s; text = line_text l }

abbrev pub too_large_line : Line
too_large_line = line.Refused (refusal.Capacity ProvidedCapacityGreaterThanMaxCapacity)

-- above 1,024 the capacity is refused as too large, before all else that a setup tests
abbrev pub opened_with : Option AnySet → SetupEntry → Scene → Opened
opened_with None e s = over s line.Bad
opened_with (Some set) e s = cond (ltb trace_capacity_limit e.capacity) (over s too_large_line) (opened_by e (kind_of set) (ready_of set e s.shared))

abbrev pub opened_of : SetupEntry → Scene → Opened
opened_of e s = opened_with (set_read e.set) e s

-- the stage and the scene as `begin` leaves them
pub record BegunAs (o : Opened) (st : Stage) (s : Scene) : Type 0 where
  pub stage : st ≡ o.stage
  pub scene : s ≡ o.scene
