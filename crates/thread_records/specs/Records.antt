-- The idle record, and when a record may be worked with (refusal 9).
use Rattle.std.specs.Prelude.{ℕ, Bool, true, false, cond, not, [], ◌∷◌, leb, eqb}
use Rattle.unique_index_set_enums.specs.declared.Index.{Index}
use Rattle.unique_index_set_enums.specs.declared.OwnerId.{OwnerId}
use Rattle.unique_index_set_enums.specs.declared.Generation.{Generation}
use Rattle.unique_index_set_enums.specs.declared.RecordNumber.{RecordNumber}
use Rattle.unique_index_set_enums.specs.Kinds.{index, owner, generation}
use Rattle.thread_records.specs.declared.OwnerList.{OwnerList}
use Rattle.thread_records.specs.declared.Counting.{Counting}
use Rattle.thread_records.specs.declared.Remembered.{Remembered}
use Rattle.thread_records.specs.declared.Record.{Record}

-- owners beyond the count are 0
abbrev pub empty_list : OwnerList
empty_list = record {
  count = 0;
  owners = owner 0 ∷ owner 0 ∷ owner 0 ∷ owner 0 ∷ owner 0 ∷ owner 0 ∷ owner 0 ∷ owner 0 ∷ [];
}

abbrev pub no_counting : Counting
no_counting = record { generation = generation 0; cell = index 0; counted = 0; bump = generation 0 }

-- what a plain call remembers: its place's number, mode, index, word seen and value read; all else 0
abbrev pub plain_call : ℕ → ℕ → Index → ℕ → ℕ → Remembered
plain_call place mode i seen value = record {
  place = place;
  mode = mode;
  index = i;
  seen = seen;
  value = value;
  owner = owner 0;
  generation = generation 0;
  reported = 0;
  room = 0;
  counting = no_counting;
}

-- what a robust call remembers; all else 0
abbrev pub robust_call : ℕ → ℕ → Index → OwnerId → Generation → ℕ → ℕ → Counting → Remembered
robust_call place mode i o g reported room counting = record {
  place = place;
  mode = mode;
  index = i;
  seen = 0;
  value = 0;
  owner = o;
  generation = g;
  reported = reported;
  room = room;
  counting = counting;
}

-- what a bump outside a count remembers
abbrev pub bump_counting : Generation → Counting
bump_counting seen = record { generation = generation 0; cell = index 0; counted = 0; bump = seen }

-- no call: all 0
abbrev pub idle_call : Remembered
idle_call = plain_call 0 0 (index 0) 0 0

-- a live record, its list beside its call
abbrev pub live_record : Remembered → OwnerList → Record
live_record call list = record { dead = false; call = call; list = list }

-- what a setup or an answer leaves: all 0 beside the list
abbrev pub idle_record : OwnerList → Record
idle_record list = live_record idle_call list

abbrev pub marked_dead : Record → Record
marked_dead t = record { dead = true; call = t.call; list = t.list }

-- of `records` that are lent there is none of that number, or it is dead
unfoldable pub not_alive : Record → ℕ → RecordNumber → Bool
not_alive t records who = cond (leb records who.0) true t.dead

-- or it is busy: refusal 9 of a start or a list
unfoldable pub not_idle : Record → ℕ → RecordNumber → Bool
not_idle t records who = cond (not_alive t records who) true (not (eqb t.call.place 0))

-- or it is idle: refusal 9 of a step or a drain
unfoldable pub not_calling : Record → ℕ → RecordNumber → Bool
not_calling t records who = cond (not_alive t records who) true (eqb t.call.place 0)
