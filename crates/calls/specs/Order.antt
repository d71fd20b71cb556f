-- The order in which a call is refused, for every call of both sets: each refusal is given exactly where its own test fails and
-- none before it in the order does.
use Rattle.std.specs.Prelude.{Bool, false, cond, List, [], ◌∷◌, Result, Ok, Err}
use Rattle.unique_index_set_enums.specs.declared.UniqueIndexCreationError.TheVariants.{ProvidedCapacityGreaterThanMaxCapacity, ProvidedCapacityIsZero}
use Rattle.calls.specs.declared.Refusal.{Refusal}
use Rattle.calls.specs.declared.Refusal.TheVariants.{Capacity, BufferTooShort, RecordNotReady, RecordDamaged, NotKnown, OwnerIsEmpty, IndexOutOfRange, IndexNotHeld}
use Rattle.calls.specs.declared.Tests.{Tests}

-- 3, 4, 10, 9, 11, 13, 5, 7, 8; 12 is the reader's, and comes before any call is made
abbrev pub refusal_order : List Refusal
refusal_order =
    Capacity ProvidedCapacityGreaterThanMaxCapacity
    ∷ Capacity ProvidedCapacityIsZero
    ∷ BufferTooShort
    ∷ RecordNotReady
    ∷ RecordDamaged
    ∷ NotKnown
    ∷ OwnerIsEmpty
    ∷ IndexOutOfRange
    ∷ IndexNotHeld
    ∷ []

-- the test of each refusal
abbrev pub failed : Tests → Refusal → Bool
failed t (Capacity ProvidedCapacityGreaterThanMaxCapacity) = t.capacity_above_limit
failed t (Capacity ProvidedCapacityIsZero) = t.capacity_zero
failed t BufferTooShort = t.buffer_too_short
failed t RecordNotReady = t.record_not_ready
failed t RecordDamaged = t.record_damaged
failed t NotKnown = t.not_known
failed t OwnerIsEmpty = t.owner_is_empty
failed t IndexOutOfRange = t.index_out_of_range
failed t IndexNotHeld = t.index_not_held

-- the first of them that fails
abbrev pub first_failed : Tests → List Refusal → Result (Unit {0}) Refusal
first_failed t [] = Ok tt
first_failed t (r ∷ rs) = cond (failed t r) (Err r) (first_failed t rs)

unfoldable pub verdict_of : Tests → Result (Unit {0}) Refusal
verdict_of t = first_failed t refusal_order

-- what a setup of either set can fail: 3, 4 and 10
abbrev pub tests_at_setup : Bool → Bool → Bool → Tests
tests_at_setup above zero short = record {
  capacity_above_limit = above;
  capacity_zero = zero;
  buffer_too_short = short;
  record_not_ready = false;
  record_damaged = false;
  not_known = false;
  owner_is_empty = false;
  index_out_of_range = false;
  index_not_held = false;
}

-- a step or a drain: 3, 4, 10, 9, 11 and, a drain, 13
abbrev pub tests_at_turn : Bool → Bool → Bool → Bool → Bool → Bool → Tests
tests_at_turn above zero short not_ready damaged not_known = record {
  capacity_above_limit = above;
  capacity_zero = zero;
  buffer_too_short = short;
  record_not_ready = not_ready;
  record_damaged = damaged;
  not_known = not_known;
  owner_is_empty = false;
  index_out_of_range = false;
  index_not_held = false;
}

-- a list or a death, which lend no buffer: 10 and 9, and, a list, 13 and 5
abbrev pub tests_of_record : Bool → Bool → Bool → Bool → Tests
tests_of_record short not_ready not_known owner_empty = record {
  capacity_above_limit = false;
  capacity_zero = false;
  buffer_too_short = short;
  record_not_ready = not_ready;
  record_damaged = false;
  not_known = not_known;
  owner_is_empty = owner_empty;
  index_out_of_range = false;
  index_not_held = false;
}
