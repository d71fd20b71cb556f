-- A running trace: what the records share, the records themselves of which the first `lent` are lent, and what was counted. One entry makes one turn.
use Rattle.std.specs.Prelude.{ℕ, ◌≡◌, ◌+◌, ◌%◌, ◌^◌, Bool, true, false, cond, nat_lt, slice_index_or, slice_set, Option, Some, None, Result, Ok, Err}
use mathlib.Core.List as list
use Rattle.unique_index_set_enums.specs.Kinds.{record_number}
use Rattle.calls.specs.declared.Answer.{Answer}
use Rattle.calls.specs.declared.Answer.TheVariants as answer
use Rattle.calls.specs.declared.Progress.{Progress}
use Rattle.calls.specs.declared.Progress.TheVariants as progress
use Rattle.calls.specs.declared.Report.{Report}
use Rattle.thread_records.specs.declared.Record.{Record}
use Rattle.thread_records.specs.Records.{empty_list, idle_call, live_record, idle_record}
use Rattle.turns.specs.declared.Operation.TheVariants as operation
use Rattle.dock.specs.declared.Turn.{Turn}
use Rattle.dock.specs.declared.Work.TheVariants as work
use Rattle.dock.specs.Works.{Worked, settled_thread}
use Rattle.any_dock.specs.Any.{AnyShared, any_shared, any_work_of}
use Rattle.schedule.specs.declared.Entry.{Entry}
use Rattle.schedule.specs.declared.Entry.TheVariants.{Setup, Start, Step, Death, List}
use Rattle.schedule.specs.declared.NoEntry.{NoEntry}
use Rattle.schedule.specs.Format.{entry_of, first_owners}
use Rattle.trace_text.specs.Lines.{Text}
use Rattle.trace_turns.specs.declared.Buffers.{Buffers}
use Rattle.trace_turns.specs.declared.moves.Counts.{Counts}
use Rattle.trace_turns.specs.declared.runs.Running.{Running}
use Rattle.trace_turns.specs.Told.{told_text}

pub record Scene : Type 0 where
  pub shared : AnyShared
  pub counts : Counts
  pub lent : ℕ
  pub held : list.List Record

-- as it is held by value, beside the lent buffers
abbrev pub scene_of : Running → list.List ℕ → list.List ℕ → list.List ℕ → Scene
scene_of r slots custody cells = record { shared = any_shared r.set slots custody cells; counts = r.counts; lent = r.records; held = r.table }

abbrev pub scene_in : Running → Buffers → Scene
scene_in r b = scene_of r b.slots.now b.custody.now b.cells.now

-- the same buffers are lent by both
abbrev pub LendsSame : Buffers → Buffers → Type 0
LendsSame a b = (a.slots.ghost_name ≡ b.slots.ghost_name) × (a.custody.ghost_name ≡ b.custody.ghost_name) × (a.cells.ghost_name ≡ b.cells.ghost_name)

-- the entries that are turns
abbrev pub is_turn : Result Entry NoEntry → Bool
is_turn (Ok (Setup e)) = false
is_turn (Ok (Start e)) = true
is_turn (Ok (Step who)) = true
is_turn (Ok (Death who)) = true
is_turn (Ok (List e)) = true
is_turn (Err why) = false

-- which turn an entry is, with the owners that a list brings, which stand in its bytes; asked only of those that are turns
abbrev pub nobody : Turn
nobody = record { who = record_number 0; operation = operation.Step }

abbrev pub turn_of : Result Entry NoEntry → list.List ℕ → Turn
turn_of (Ok (Setup e)) bytes = nobody
turn_of (Ok (Start e)) bytes = record { who = e.who; operation = operation.Start e.request }
turn_of (Ok (Step who)) bytes = record { who = who; operation = operation.Step }
turn_of (Ok (Death who)) bytes = record { who = who; operation = operation.Death }
turn_of (Ok (List e)) bytes = record { who = e.who; operation = operation.List (record { count = e.count; owners = first_owners bytes }) }
turn_of (Err why) bytes = nobody

abbrev pub turn_in : Result Entry NoEntry → list.List ℕ → Option Turn
turn_in e bytes = cond (is_turn e) (Some (turn_of e bytes)) None

-- entries, acquires that answered with an index, and steps taken, each at 64 bits
abbrev pub is_acquired : Answer → ℕ
is_acquired (answer.Acquired i) = 1
is_acquired (answer.NotAcquired why) = 0
is_acquired (answer.Released state) = 0
is_acquired answer.NotOwned = 0
is_acquired answer.NotBorrowed = 0
is_acquired (answer.Borrowed n) = 0
is_acquired (answer.Locked b) = 0
is_acquired (answer.Found n) = 0
is_acquired (answer.Recovered state) = 0

abbrev pub acquired_in : Progress → ℕ
acquired_in progress.Accepted = 0
acquired_in (progress.Answered a) = is_acquired a
acquired_in (progress.Refused why) = 0

abbrev pub counted_with : Counts → Report → ℕ → Counts
counted_with c report steps = record {
  entries = (c.entries + 1) % 2 ^ 64;
  acquires = (c.acquires + acquired_in report.progress) % 2 ^ 64;
  steps = (c.steps + steps) % 2 ^ 64;
}

-- the record is read from those that are lent, of the 16 that are held, and stored back; where there is none, an idle one stands in and none is stored
abbrev pub seats_of : ℕ → ℕ
seats_of lent = cond (nat_lt lent 16) lent 16

-- (what a list reads as beyond its own end, `beyond`, is never read where it has 16)
abbrev pub beyond : Record
beyond = live_record idle_call (record { count = 0; owners = list.[] })

abbrev pub fetched_at : ℕ → ℕ → list.List Record → Record
fetched_at lent place held = cond (nat_lt place (seats_of lent)) (slice_index_or held place beyond) (idle_record empty_list)

abbrev pub stored_at : ℕ → ℕ → Record → list.List Record → list.List Record
stored_at lent place t held = cond (nat_lt place (seats_of lent)) (slice_set held place t) held

-- a turn, for the record that stands at its place: its work, what that leaves, and what is told of it
abbrev pub read_by : Scene → Turn → Record
read_by s w = fetched_at s.lent w.who.0 s.held

unfoldable pub worked_by : ℕ → AnyShared → Record → Turn → Worked AnyShared
worked_by records s t w = any_work_of records (work.Turn w) s t

abbrev pub left_by : Scene → Turn → Worked AnyShared → Scene
left_by s w u = record {
  shared = u.shared;
  counts = counted_with s.counts u.report u.steps;
  lent = s.lent;
  held = stored_at s.lent w.who.0 (settled_thread u.settled) s.held;
}

unfoldable pub scene_by : Scene → Turn → Scene
scene_by s w = left_by s w (worked_by s.lent s.shared (read_by s w) w)

unfoldable pub told_by : Scene → Turn → Text
told_by s w = told_text s.counts.entries w (worked_by s.lent s.shared (read_by s w) w).report

-- the turn of the entry at the front of the bytes
abbrev pub turn_at : list.List ℕ → Turn
turn_at bytes = turn_of (entry_of bytes) bytes

abbrev pub place_at : list.List ℕ → ℕ
place_at bytes = (turn_at bytes).who.0

abbrev pub read_in : Scene → list.List ℕ → Record
read_in s bytes = read_by s (turn_at bytes)

abbrev pub worked_of : ℕ → AnyShared → Record → list.List ℕ → Worked AnyShared
worked_of records s t bytes = worked_by records s t (turn_at bytes)

unfoldable pub scene_after : Scene → list.List ℕ → Scene
scene_after s bytes = scene_by s (turn_at bytes)

unfoldable pub told_in : Scene → list.List ℕ → Text
told_in s bytes = told_by s (turn_at bytes)
