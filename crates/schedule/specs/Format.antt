-- The format of a schedule: a 2-byte length of what follows, a 2-byte kind, the body. Which bytes are which entry.
use Rattle.std.specs.Prelude.{ℕ, ◌+◌, ◌*◌, ◌-◌, Bool, true, false, cond, [], ◌∷◌, length, get_or, take, drop, eqb, ltb, Result, Ok, Err}
use mathlib.Core.List as list
use Rattle.unique_index_set_enums.specs.declared.OwnerId.{OwnerId}
use Rattle.unique_index_set_enums.specs.Kinds.{owner, record_number}
use Rattle.schedule.specs.declared.Entry.{Entry}
use Rattle.schedule.specs.declared.Entry.TheVariants.{Setup, Start, Step, Death, List}
use Rattle.schedule.specs.declared.NoEntry.{NoEntry}
use Rattle.schedule.specs.declared.NoEntry.TheVariants.{Cut, Bad}
use Rattle.schedule.specs.declared.kinds.Kind.{Kind}
use Rattle.schedule.specs.declared.kinds.Kind.TheVariants as kind
use Rattle.byte_numbers.specs.Numbers.{le2, le4, le8}

-- the kind of that number; there is no other
unfoldable pub kind_of : ℕ → Result Kind NoEntry
kind_of n =
    cond (eqb n 1) (Ok kind.Setup)
    (cond (eqb n 2) (Ok kind.Start)
    (cond (eqb n 3) (Ok kind.Step)
    (cond (eqb n 4) (Ok kind.Death)
    (cond (eqb n 5) (Ok kind.List) (Err Bad)))))

-- the length that an entry of a kind says: 8, 17, 3, 3, or 4 + 8 times the owners
abbrev pub right_length : Kind → ℕ → ℕ → Bool
right_length kind.Setup len count = eqb len 8
right_length kind.Start len count = eqb len 17
right_length kind.Step len count = eqb len 3
right_length kind.Death len count = eqb len 3
right_length kind.List len count = eqb len (4 + 8 * count)

-- a list's count is the sixth byte
abbrev pub lacks_count : Kind → ℕ → Bool
lacks_count kind.Setup bytes = false
lacks_count kind.Start bytes = false
lacks_count kind.Step bytes = false
lacks_count kind.Death bytes = false
lacks_count kind.List bytes = ltb bytes 6

-- the entry of a kind, where all its bytes are there
abbrev pub body_of : list.List ℕ → Kind → Entry
body_of s kind.Setup = Setup (record { set = get_or s 4 0; records = get_or s 5 0; capacity = le4 s 6 })
body_of s kind.Start =
    Start (record {
      who = record_number (get_or s 4 0);
      request = record { call = get_or s 5 0; index_or_room = le4 s 6; owner = owner (le8 s 10); mode = get_or s 18 0 };
    })
body_of s kind.Step = Step (record_number (get_or s 4 0))
body_of s kind.Death = Death (record_number (get_or s 4 0))
body_of s kind.List = List (record { who = record_number (get_or s 4 0); count = get_or s 5 0 })

unfoldable pub whole_of : list.List ℕ → ℕ → Kind → Result Entry NoEntry
whole_of s len kind = cond (ltb (length s) (2 + len)) (Err Cut) (Ok (body_of s kind))

-- by its length and its kind
unfoldable pub headed_of : list.List ℕ → ℕ → Kind → Result Entry NoEntry
headed_of s len kind = cond (lacks_count kind (length s)) (Err Cut) (cond (right_length kind len (get_or s 5 0)) (whole_of s len kind) (Err Bad))

abbrev pub kinded_of : list.List ℕ → Result Kind NoEntry → Result Entry NoEntry
kinded_of s (Ok kind) = headed_of s (le2 s 0) kind
kinded_of s (Err why) = Err why

-- the entry at the front
unfoldable pub entry_of : list.List ℕ → Result Entry NoEntry
entry_of s = cond (ltb (length s) 4) (Err Cut) (kinded_of s (kind_of (le2 s 2)))

abbrev pub is_whole : Result Entry NoEntry → Bool
is_whole (Ok e) = true
is_whole (Err why) = false

-- how many bytes it has; all of them where there is none
abbrev pub size_by : Result Entry NoEntry → list.List ℕ → ℕ
size_by (Ok e) s = 2 + le2 s 0
size_by (Err why) s = length s

unfoldable pub size_of : list.List ℕ → ℕ
size_of s = size_by (entry_of s) s

-- what stands behind it
unfoldable pub rest_of : list.List ℕ → list.List ℕ
rest_of s = drop (size_of s) s

abbrev pub is_list : Result Entry NoEntry → Bool
is_list (Ok (Setup e)) = false
is_list (Ok (Start e)) = false
is_list (Ok (Step r)) = false
is_list (Ok (Death r)) = false
is_list (Ok (List e)) = true
is_list (Err why) = false

-- where the owners of a list end, which begin at the seventh byte; 0 of any other entry
unfoldable pub owners_end : list.List ℕ → ℕ
owners_end s = cond (is_list (entry_of s)) (6 + 8 * get_or s 5 0) 0

unfoldable pub owners_of : list.List ℕ → list.List ℕ
owners_of s = take (owners_end s - 6) (drop 6 s)

-- the owner at a place of a list's bytes, 0 behind their end; the first 8
abbrev pub owner_at : list.List ℕ → ℕ → OwnerId
owner_at owners i = owner (le8 owners (8 * i))

unfoldable pub first_owners : list.List ℕ → list.List OwnerId
first_owners s =
    let owners = owners_of s in
    owner_at owners 0 ∷ owner_at owners 1 ∷ owner_at owners 2 ∷ owner_at owners 3 ∷ owner_at owners 4 ∷ owner_at owners 5 ∷ owner_at owners 6 ∷ owner_at owners 7 ∷ []
