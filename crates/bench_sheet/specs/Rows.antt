-- A row of the bench sheet: a dock to start with, turns of its records, and what must come out. The turns are the dock's own.
use Rattle.std.specs.Prelude.{ℕ, ◌+◌, Bool, true, false, cond, [], ◌∷◌, ◌++◌, get_or, set, replicate}
use mathlib.Core.List as list
use Rattle.unique_index_set_enums.specs.declared.RecordNumber.{RecordNumber}
use Rattle.unique_index_set_enums.specs.Kinds.{owner, record_number, generation}
use Rattle.calls.specs.declared.Progress.{Progress}
use Rattle.calls.specs.declared.Progress.TheVariants.{Accepted, Answered, Refused}
use Rattle.calls.specs.Numbers.{answer_number, answer_value, refusal_number}
use Rattle.thread_records.specs.Records.{empty_list, idle_record}
use Rattle.turns.specs.declared.Operation.{Operation}
use Rattle.turns.specs.declared.Operation.TheVariants.{Start, Step, List, Death, Drain}
use Rattle.turns.specs.Docks.{Dock, Turned, turn, set_up}
use Rattle.turns.specs.Docks.Dock.{plain_dock, robust_dock}

-- how many records each dock of the sheet has
abbrev pub records_lent : ℕ
records_lent = 3

-- a dock of that capacity, just set up over buffers that held something else
abbrev pub plain_of : ℕ → Dock
plain_of capacity =
    (set_up capacity (plain_dock (record {
      shared = record {
        set = record { capacity = 77; head = 77 };
        slots = replicate (capacity + 1) 77;
        custody = replicate capacity 77;
      };
      records = replicate records_lent (idle_record empty_list);
    }))).left

abbrev pub robust_of : ℕ → Dock
robust_of capacity =
    (set_up capacity (robust_dock (record {
      shared = record { set = record { capacity = 77; generation = generation 77 }; cells = replicate capacity 77 };
      records = replicate records_lent (idle_record empty_list);
    }))).left

-- with that word in place of its own
abbrev pub with_word : ℕ → Dock → Dock
with_word w (plain_dock d) = plain_dock (record {
  shared = record {
    set = record { capacity = d.shared.set.capacity; head = w };
    slots = d.shared.slots;
    custody = d.shared.custody;
  };
  records = d.records;
})
with_word w (robust_dock d) = robust_dock (record {
  shared = record { set = record { capacity = d.shared.set.capacity; generation = generation w }; cells = d.shared.cells };
  records = d.records;
})

pub record Entry : Type 0 where
  pub who : RecordNumber
  pub operation : Operation

-- the start of a call by its number: an index or the room, an owner, a mode
abbrev pub starts : ℕ → ℕ → ℕ → ℕ → ℕ → Entry
starts who call at o mode = record {
  who = record_number who;
  operation = Start (record { call = call; index_or_room = at; owner = owner o; mode = mode });
}

abbrev pub steps : ℕ → ℕ → list.List Entry
steps who n = replicate n (record { who = record_number who; operation = Step })

abbrev pub acquires : ℕ → ℕ → Entry
acquires who o = starts who 1 0 o 0

abbrev pub releases : ℕ → ℕ → ℕ → ℕ → Entry
releases who i o mode = starts who 2 i o mode

-- what a call came back with: its record, the scope's number and value, and the steps that it took
pub record Came : Type 0 where
  pub who : ℕ
  pub number : ℕ
  pub value : ℕ
  pub steps : ℕ

abbrev pub came : ℕ → ℕ → ℕ → ℕ → Came
came who number value steps = record { who = who; number = number; value = value; steps = steps }

-- a run so far: the dock, the steps of each record's call, and what came back, refusals too
pub record Ran : Type 0 where
  pub dock : Dock
  pub taken : list.List ℕ
  pub back : list.List Came

abbrev pub starts_call : Operation → Bool
starts_call (Start request) = true
starts_call Step = false
starts_call (List owners) = false
starts_call Death = false
starts_call (Drain budget) = false

abbrev pub back_with : ℕ → ℕ → Progress → list.List Came
back_with who taken Accepted = []
back_with who taken (Answered a) = came who (answer_number a) (answer_value a) taken ∷ []
back_with who taken (Refused why) = came who (refusal_number why) 0 0 ∷ []

abbrev pub taken_after : Entry → ℕ → ℕ → ℕ
taken_after e before more = cond (starts_call e.operation) 0 (before + more)

abbrev pub ran_with : Entry → Ran → ℕ → Turned Dock → Ran
ran_with e r taken t = record {
  dock = t.left;
  taken = set r.taken e.who.0 taken;
  back = r.back ++ back_with e.who.0 taken t.report.progress;
}

abbrev pub ran_after : Entry → Ran → Turned Dock → Ran
ran_after e r t = ran_with e r (taken_after e (get_or r.taken e.who.0 0) t.steps) t

unfoldable pub runs : list.List Entry → Ran → Ran
runs [] r = r
runs (e ∷ es) r = runs es (ran_after e r (turn e.who e.operation r.dock))

-- what comes out: what came back, the word or generation, and all slots or cells
pub record Left : Type 0 where
  pub back : list.List Came
  pub word : ℕ
  pub entries : list.List ℕ

abbrev pub word_of : Dock → ℕ
word_of (plain_dock d) = d.shared.set.head
word_of (robust_dock d) = d.shared.set.generation.0

abbrev pub entries_of : Dock → list.List ℕ
entries_of (plain_dock d) = d.shared.slots
entries_of (robust_dock d) = d.shared.cells

abbrev pub left_by : Ran → Left
left_by r = record { back = r.back; word = word_of r.dock; entries = entries_of r.dock }

pub record Row : Type 0 where
  pub start : Dock
  pub turns : list.List Entry
  pub left : Left

abbrev pub computed : Row → Left
computed row = left_by (runs row.turns (record { dock = row.start; taken = replicate records_lent 0; back = [] }))

abbrev pub stated : Row → Left
stated row = row.left
