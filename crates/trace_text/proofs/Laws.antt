-- No line is longer than the room that is asked for it. Assumes nothing.
use Rattle.std.proofs.Common.{◌≤◌, length, arith}
use Rattle.std.proofs.lemmas.Grind.{common_steps}
use Rattle.numerals.proofs.Laws.{decimal_short}
use Rattle.calls.specs.Numbers.{answer_number, answer_value, refusal_number}
use Rattle.calls.specs.declared.SetKind.{SetKind}
use Rattle.calls.specs.declared.SetKind.TheVariants as kind
use Rattle.trace_text.specs.declared.events.Event.{Event}
use Rattle.trace_text.specs.declared.events.Event.TheVariants as event
use Rattle.trace_text.specs.declared.Line.{Line}
use Rattle.trace_text.specs.declared.Line.TheVariants as line
use Rattle.trace_text.specs.Lines.{event_text, kind_word, line_text}

event_short : (e : Event) → length (event_text e) ≤ 64
event_short event.Begin = omega arith
event_short event.List = omega arith
event_short event.Step = omega arith
event_short (event.Done a) = grind (arith, common_steps, decimal_short (answer_number a), decimal_short (answer_value a))
event_short event.Dead = omega arith
event_short (event.Refused why) = grind (arith, common_steps, decimal_short (refusal_number why))
event_short event.Bad = omega arith
event_short (event.Found i) = grind (arith, common_steps, decimal_short i.0)
event_short (event.Freed i owner) = grind (arith, common_steps, decimal_short i.0, decimal_short owner.0)

kind_short : (k : SetKind) → length (kind_word k) ≤ 11
kind_short kind.Plain = omega arith
kind_short kind.Robust = omega arith

pub line_short : (l : Line) → length (line_text l) ≤ 128
line_short (line.Set l) = grind (arith, common_steps, kind_short l.kind, decimal_short l.capacity, decimal_short l.records)
line_short (line.Refused why) = grind (arith, common_steps, decimal_short (refusal_number why))
line_short line.Bad = omega arith
line_short (line.Entry l) = grind (arith, common_steps, decimal_short l.number, decimal_short l.who.0, event_short l.event)
line_short (line.End l) = grind (arith, common_steps, decimal_short l.acquires, decimal_short l.steps)
