-- A thread record as 132 bytes: 4 fields of one byte, 6 of four, 13 of eight, in this order; and a table of them.
use Rattle.std.specs.Prelude.{ℕ, zero, suc, ◌+◌, ◌*◌, ◌/◌, ◌^◌, ◌<◌, ◌≡◌, Bool, true, false, cond, not, List, [], ◌∷◌, eqb, ltb, length, get_or}
use Rattle.byte_numbers.specs.Numbers.{le4, le8}
use Rattle.unique_index_set_enums.specs.Kinds.{index, owner, generation}
use Rattle.thread_records.specs.declared.OwnerList.{OwnerList}
use Rattle.thread_records.specs.declared.Counting.{Counting}
use Rattle.thread_records.specs.declared.Remembered.{Remembered}
use Rattle.thread_records.specs.declared.Record.{Record}
use Rattle.record_bytes.specs.Stored.{stored_all}

abbrev pub dead_number : Bool → ℕ
dead_number true = 1
dead_number false = 0

-- dead, place, mode, how many owners the list has
abbrev pub narrow_fields : Record → List ℕ
narrow_fields t = dead_number t.dead ∷ t.call.place ∷ t.call.mode ∷ t.list.count ∷ []

-- index, value, reported, room; a count's cell and how many it counted
abbrev pub middle_fields : Record → List ℕ
middle_fields t =
    t.call.index.0 ∷ t.call.value ∷ t.call.reported ∷ t.call.room ∷ t.call.counting.cell.0 ∷ t.call.counting.counted ∷ []

abbrev pub owner_number : Record → ℕ → ℕ
owner_number t i = (get_or t.list.owners i (owner 0)).0

-- the word seen, owner, generation; a count's generation and its bump's; the list's owners
abbrev pub wide_fields : Record → List ℕ
wide_fields t =
    t.call.seen
    ∷ t.call.owner.0
    ∷ t.call.generation.0
    ∷ t.call.counting.generation.0
    ∷ t.call.counting.bump.0
    ∷ owner_number t 0
    ∷ owner_number t 1
    ∷ owner_number t 2
    ∷ owner_number t 3
    ∷ owner_number t 4
    ∷ owner_number t 5
    ∷ owner_number t 6
    ∷ owner_number t 7
    ∷ []

-- the record's bytes from a place on
unfoldable pub laid_at : List ℕ → ℕ → Record → List ℕ
laid_at l at t = stored_all 8 (stored_all 4 (stored_all 1 l at (narrow_fields t)) (at + 4) (middle_fields t)) (at + 28) (wide_fields t)

-- and read again
abbrev pub counting_at : List ℕ → ℕ → Counting
counting_at l at = record {
  generation = generation (le8 l (at + 52));
  cell = index (le4 l (at + 20));
  counted = le4 l (at + 24);
  bump = generation (le8 l (at + 60));
}

abbrev pub call_at : List ℕ → ℕ → Remembered
call_at l at = record {
  place = get_or l (at + 1) 0;
  mode = get_or l (at + 2) 0;
  index = index (le4 l (at + 4));
  seen = le8 l (at + 28);
  value = le4 l (at + 8);
  owner = owner (le8 l (at + 36));
  generation = generation (le8 l (at + 44));
  reported = le4 l (at + 12);
  room = le4 l (at + 16);
  counting = counting_at l at;
}

abbrev pub list_at : List ℕ → ℕ → OwnerList
list_at l at = record {
  count = get_or l (at + 3) 0;
  owners =
      owner (le8 l (at + 68))
      ∷ owner (le8 l (at + 76))
      ∷ owner (le8 l (at + 84))
      ∷ owner (le8 l (at + 92))
      ∷ owner (le8 l (at + 100))
      ∷ owner (le8 l (at + 108))
      ∷ owner (le8 l (at + 116))
      ∷ owner (le8 l (at + 124))
      ∷ [];
}

-- whatever the bytes are; any byte but 0 is dead
unfoldable pub record_at : List ℕ → ℕ → Record
record_at l at = record { dead = not (eqb (get_or l at 0) 0); call = call_at l at; list = list_at l at }

-- how many whole records a table has
abbrev pub records_in : List ℕ → ℕ
records_in l = length l / 132

-- so many of them from a place on, and all
abbrev pub records_from : List ℕ → ℕ → ℕ → List Record
records_from l k zero = []
records_from l k (suc n) = record_at l (132 * k) ∷ records_from l (k + 1) n

unfoldable pub table_of : List ℕ → List Record
table_of l = records_from l 0 (records_in l)

-- one record written, where it is there
unfoldable pub record_written : List ℕ → ℕ → Record → List ℕ
record_written l place t = cond (ltb place (records_in l)) (laid_at l (132 * place) t) l

-- the first n
unfoldable pub all_written : ℕ → List ℕ → Record → List ℕ
all_written zero l t = l
all_written (suc n) l t = laid_at (all_written n l t) (132 * n) t

-- its numbers are of their widths, and there are eight owners beside its list's count
pub record Fits (t : Record) : Type 0 where
  pub narrow : (i : ℕ) → get_or (narrow_fields t) i 0 < 256 ^ 1
  pub middle : (i : ℕ) → get_or (middle_fields t) i 0 < 256 ^ 4
  pub wide : (i : ℕ) → get_or (wide_fields t) i 0 < 256 ^ 8
  pub eight : length t.list.owners ≡ 8
