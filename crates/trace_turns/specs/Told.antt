-- What the trace tells of a turn: what its step found or freed, then what became of it, each in a line of its own.
use Rattle.std.specs.Prelude.{ℕ, [], ◌++◌, Option, Some, None}
use Rattle.unique_index_set_enums.specs.declared.RecordNumber.{RecordNumber}
use Rattle.calls.specs.declared.Note.{Note}
use Rattle.calls.specs.declared.Note.TheVariants as note
use Rattle.calls.specs.declared.Progress.{Progress}
use Rattle.calls.specs.declared.Progress.TheVariants as progress
use Rattle.calls.specs.declared.Report.{Report}
use Rattle.turns.specs.declared.Operation.{Operation}
use Rattle.turns.specs.declared.Operation.TheVariants as operation
use Rattle.dock.specs.declared.Turn.{Turn}
use Rattle.trace_text.specs.declared.EntryLine.{EntryLine}
use Rattle.trace_text.specs.declared.events.Event.{Event}
use Rattle.trace_text.specs.declared.events.Event.TheVariants as event
use Rattle.trace_text.specs.declared.Line.TheVariants as line
use Rattle.trace_text.specs.Lines.{Text, line_text}

-- an operation that was accepted and has no answer
abbrev pub accepted_as : Operation → Event
accepted_as (operation.Start request) = event.Begin
accepted_as operation.Step = event.Step
accepted_as (operation.List owners) = event.List
accepted_as operation.Death = event.Dead
accepted_as (operation.Drain budget) = event.Step

abbrev pub event_of : Operation → Progress → Event
event_of o progress.Accepted = accepted_as o
event_of o (progress.Answered a) = event.Done a
event_of o (progress.Refused why) = event.Refused why

abbrev pub noted_as : Note → Event
noted_as (note.Found i) = event.Found i
noted_as (note.Freed i owner) = event.Freed i owner

-- the line of the entry of a number
abbrev pub entry_line : ℕ → RecordNumber → Event → Text
entry_line number who e = line_text (line.Entry (record { number = number; who = who; event = e }))

abbrev pub noted_text : ℕ → RecordNumber → Option Note → Text
noted_text number who None = []
noted_text number who (Some n) = entry_line number who (noted_as n)

unfoldable pub told_text : ℕ → Turn → Report → Text
told_text number turn report = noted_text number turn.who report.noted ++ entry_line number turn.who (event_of turn.operation report.progress)

-- the same of a line as a value
abbrev pub told_line : EntryLine → Text
told_line l = line_text (line.Entry l)

abbrev pub noted_line : EntryLine → Option Note → Text
noted_line l n = noted_text l.number l.who n
