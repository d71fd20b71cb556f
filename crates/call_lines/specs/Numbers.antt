-- All the numbers of a record, in an order of the gate's programs' own; what is the same.
use Rattle.std.specs.Prelude.{ℕ, zero, suc, Bool, true, false, cond, List, [], ◌∷◌, eqb, ltb, length, get_or}
use Rattle.unique_index_set_enums.specs.Kinds.{owner}
use Rattle.thread_records.specs.declared.OwnerList.{OwnerList}
use Rattle.thread_records.specs.declared.Record.{Record}

unfoldable pub flag : Bool → ℕ
flag mark = cond mark 1 0

abbrev pub owner_at : OwnerList → ℕ → ℕ
owner_at list i = (get_or list.owners i (owner 0)).0

abbrev pub record_numbers : Record → List ℕ
record_numbers t =
    flag t.dead
    ∷ t.call.place
    ∷ t.call.mode
    ∷ t.call.index.0
    ∷ t.call.owner.0
    ∷ t.call.generation.0
    ∷ t.call.reported
    ∷ t.call.room
    ∷ t.call.counting.generation.0
    ∷ t.call.counting.cell.0
    ∷ t.call.counting.counted
    ∷ t.call.counting.bump.0
    ∷ t.call.seen
    ∷ t.call.value
    ∷ t.list.count
    ∷ owner_at t.list 0
    ∷ owner_at t.list 1
    ∷ owner_at t.list 2
    ∷ owner_at t.list 3
    ∷ owner_at t.list 4
    ∷ owner_at t.list 5
    ∷ owner_at t.list 6
    ∷ owner_at t.list 7
    ∷ []

-- the first n numbers of two lists are the same
unfoldable pub agree_below : ℕ → List ℕ → List ℕ → Bool
agree_below zero a b = true
agree_below (suc n) a b = cond (eqb (get_or a n 0) (get_or b n 0)) (agree_below n a b) false

-- two buffers are the same, entry by entry
unfoldable pub same_entries : List ℕ → List ℕ → Bool
same_entries a b = cond (eqb (length a) (length b)) (agree_below (length a) a b) false

unfoldable pub least_of : ℕ → ℕ → ℕ
least_of count most = cond (ltb most count) most count
