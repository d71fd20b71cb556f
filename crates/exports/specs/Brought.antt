-- What a call brings: a start, as four numbers; the owners of a list, the first eight, 0 where there is none, and how many they are, 255 for more.
use Rattle.std.specs.Prelude.{ℕ, cond, List, [], ◌∷◌, ltb, length, get_or}
use Rattle.unique_index_set_enums.specs.declared.OwnerId.{OwnerId}
use Rattle.unique_index_set_enums.specs.Kinds.{owner}
use Rattle.thread_records.specs.declared.OwnerList.{OwnerList}
use Rattle.turns.specs.declared.Operation.{Operation}
use Rattle.turns.specs.declared.Operation.TheVariants.{Start}

-- a call's number, an index or the room, an owner, a mode
abbrev pub start_asked : ℕ → ℕ → ℕ → ℕ → Operation
start_asked call at o mode = Start (record { call = call; index_or_room = at; owner = owner o; mode = mode })

unfoldable pub count_in : ℕ → ℕ
count_in n = cond (ltb 255 n) 255 n

abbrev pub owner_in : List ℕ → ℕ → OwnerId
owner_in owners i = owner (get_or owners i 0)

abbrev pub brought_in : List ℕ → OwnerList
brought_in owners = record {
  count = count_in (length owners);
  owners =
      owner_in owners 0
      ∷ owner_in owners 1
      ∷ owner_in owners 2
      ∷ owner_in owners 3
      ∷ owner_in owners 4
      ∷ owner_in owners 5
      ∷ owner_in owners 6
      ∷ owner_in owners 7
      ∷ [];
}
