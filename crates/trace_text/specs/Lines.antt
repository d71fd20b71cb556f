-- The lines of a trace: words, and numbers in decimal with one space before each; the word in `end` alone is hex. A newline ends each line.
use Rattle.std.specs.Prelude.{ℕ, ◌+◌, Bool, not, cond, List, ◌++◌, ltb, length}
use Rattle.numerals.specs.Digits.{decimal_of, hex_of}
use Rattle.calls.specs.declared.SetKind.{SetKind}
use Rattle.calls.specs.declared.SetKind.TheVariants as kind
use Rattle.calls.specs.Numbers.{answer_number, answer_value, refusal_number}
use Rattle.trace_text.specs.declared.events.Event.{Event}
use Rattle.trace_text.specs.declared.events.Event.TheVariants as event
use Rattle.trace_text.specs.declared.SetLine.{SetLine}
use Rattle.trace_text.specs.declared.EntryLine.{EntryLine}
use Rattle.trace_text.specs.declared.EndLine.{EndLine}
use Rattle.trace_text.specs.declared.Line.{Line}
use Rattle.trace_text.specs.declared.Line.TheVariants as line
use Rattle.trace_text.specs.Laid.{laid}
use Rattle.trace_text.specs.Words as words

abbrev pub Text : Type 0
Text = List ℕ

-- a word and a number behind it
abbrev pub with_number : Text → ℕ → Text
with_number word n = word ++ decimal_of n

-- a word and a number, which end a line; a word and two numbers, which end a line
abbrev pub one_text : Text → ℕ → Text
one_text word n = with_number word n ++ words.newline

abbrev pub pair_text : Text → ℕ → ℕ → Text
pair_text word n m = (with_number word n ++ with_number words.space m) ++ words.newline

-- what is told of a record, to the line's end
abbrev pub event_text : Event → Text
event_text event.Begin = words.begins
event_text event.List = words.lists
event_text event.Step = words.steps
event_text (event.Done a) = pair_text words.done (answer_number a) (answer_value a)
event_text event.Dead = words.dies
event_text (event.Refused why) = one_text words.is_refused (refusal_number why)
event_text event.Bad = words.is_bad
event_text (event.Found i) = one_text words.found i.0
event_text (event.Freed i owner) = pair_text words.freed i.0 owner.0

abbrev pub kind_word : SetKind → Text
kind_word kind.Plain = words.set_plain
kind_word kind.Robust = words.set_robust

abbrev pub set_text : SetLine → Text
set_text l = ((kind_word l.kind ++ decimal_of l.capacity) ++ with_number words.space l.records) ++ words.newline

abbrev pub entry_text : EntryLine → Text
entry_text l = (decimal_of l.number ++ with_number words.space l.who.0) ++ event_text l.event

abbrev pub end_text : EndLine → Text
end_text l = (((words.ends ++ hex_of l.word) ++ with_number words.space l.acquires) ++ with_number words.space l.steps) ++ words.newline

abbrev pub line_text : Line → Text
line_text (line.Set l) = set_text l
line_text (line.Refused why) = one_text words.refused_word (refusal_number why)
line_text line.Bad = words.bad_line
line_text (line.Entry l) = entry_text l
line_text (line.End l) = end_text l

-- a line is written where there is room for the longest; else nothing is
unfoldable pub has_room : ℕ → ℕ → Bool
has_room room at = not (ltb room (at + 128))

abbrev pub line_in : Text → ℕ → Line → Text
line_in l at line = cond (has_room (length l) at) (laid l at (line_text line)) l

abbrev pub line_end : ℕ → ℕ → Line → ℕ
line_end room at line = cond (has_room room at) (at + length (line_text line)) at
