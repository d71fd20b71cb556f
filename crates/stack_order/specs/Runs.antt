-- A run: a setup of a plain dock, then any operations for any records, each the dock's own turn; and its history.
use Rattle.std.specs.Prelude.{ℕ, zero, suc, [], ◌∷◌, ◌++◌, length, Option, Some, None}
use Rattle.plain_places.specs.declared.Place.{Place}
use mathlib.Core.List as list
use Rattle.unique_index_set_enums.specs.declared.RecordNumber.{RecordNumber}
use Rattle.calls.specs.declared.Progress.{Progress}
use Rattle.calls.specs.declared.Progress.TheVariants.{Accepted, Answered, Refused}
use Rattle.thread_records.specs.declared.Record.{Record}
use Rattle.plain_calls.specs.Asks.{asked_of}
use Rattle.unique_index_set.specs.Steps.{Shared, saw_at, next_at, opened_in, step_of}
use Rattle.unique_index_set.specs.Starts.{start_of}
use Rattle.unique_index_set.specs.Setups.{setup_of}
use Rattle.turns.specs.declared.Operation.{Operation}
use Rattle.turns.specs.declared.Operation.TheVariants.{Start, Step, List, Death, Drain}
use Rattle.turns.specs.Plain.{plain_turn_of}
use Rattle.turns.specs.Docks.{Table, Turned, named, turn_in, setup_in}
use Rattle.stack_order.specs.History.{Event, start_event, step_event}

-- an operation for a record
pub record Entry : Type 0 where
  pub who : RecordNumber
  pub operation : Operation

abbrev pub turned : Entry → Table Shared → Turned (Table Shared)
turned e d = turn_in (λ records s t. plain_turn_of records e.who e.operation s t) e.who d

-- ---- what an operation leaves in the history: a refused one nothing, a start or a step one event, a drain those of its steps
abbrev pub if_taken : Progress → list.List Event → list.List Event
if_taken Accepted events = events
if_taken (Answered a) events = events
if_taken (Refused why) events = []

abbrev pub opened_event : RecordNumber → Option Place → Shared → list.List Event
opened_event who (Some p) s = step_event who p (saw_at p s) (next_at p s) ∷ []
opened_event who None s = []

abbrev pub step_events : ℕ → RecordNumber → Shared → Record → list.List Event
step_events records who s t = if_taken (step_of records who s t).report.progress (opened_event who (opened_in s t) s)

-- of so many steps, one after another; the newest first
unfoldable pub steps_events : ℕ → ℕ → RecordNumber → Shared → Record → list.List Event
steps_events zero records who s t = []
steps_events (suc k) records who s t = steps_events k records who (step_of records who s t).shared (step_of records who s t).thread ++ step_events records who s t

abbrev pub events_of : ℕ → RecordNumber → Operation → Shared → Record → list.List Event
events_of records who (Start request) s t = if_taken (start_of records who request s t).report.progress (start_event who (asked_of request) ∷ [])
events_of records who Step s t = step_events records who s t
events_of records who (List owners) s t = []
events_of records who Death s t = []
events_of records who (Drain budget) s t = steps_events (plain_turn_of records who (Drain budget) s t).steps records who s t

abbrev pub events : Entry → Table Shared → list.List Event
events e d = events_of (length d.records) e.who e.operation d.shared (named e.who d.records)

-- ---- the run
pub record World : Type 0 where
  pub dock : Table Shared
  pub history : list.List Event

unfoldable pub after : World → Entry → World
after w e = record { dock = (turned e w.dock).left; history = events e w.dock ++ w.history }

unfoldable pub ran : World → list.List Entry → World
ran w [] = w
ran w (e ∷ es) = ran (after w e) es

abbrev pub set_up_of : ℕ → Table Shared → Turned (Table Shared)
set_up_of capacity d = setup_in (λ records s t. setup_of records capacity s t) d

-- a dock of any records and buffers, after its setup
abbrev pub begun : ℕ → Table Shared → World
begun capacity d = record { dock = (set_up_of capacity d).left; history = [] }
