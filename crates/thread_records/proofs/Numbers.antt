-- Of both sets: a refusal's number is among those whose tests a call makes. Assumes nothing.
use Prim.Native.Nat.{ℕ}
use mathlib.Core.Path.{◌≡◌, refl, sym}
use mathlib.Core.Bool.{Bool, true, false, cond}
use mathlib.Core.List.{List, [], ◌∷◌}
use lib.Dec.{eqb}
use Rattle.std.specs.Prelude.{Result, Ok, Err}
use Rattle.unique_index_set_enums.specs.declared.UniqueIndexCreationError.TheVariants.{ProvidedCapacityGreaterThanMaxCapacity, ProvidedCapacityIsZero}
use Rattle.calls.specs.declared.Refusal.{Refusal}
use Rattle.calls.specs.declared.Refusal.TheVariants.{Capacity, BufferTooShort, RecordNotReady, RecordDamaged, NotKnown, OwnerIsEmpty, IndexOutOfRange, IndexNotHeld}
use Rattle.calls.specs.declared.Progress.TheVariants as progress
use Rattle.calls.specs.declared.Tests.{Tests}
use Rattle.calls.specs.Numbers.{refusal_number}
use Rattle.calls.specs.Order.{failed, verdict_of, tests_at_setup, tests_at_turn, tests_of_record}
use Rattle.calls.proofs.Order.{refused_failed}
use Rattle.thread_records.specs.declared.Record.{Record}
use Rattle.thread_records.specs.Effects.{Effect, unchanged, judged}
use Rattle.thread_records.proofs.Effects.{taken}

abbrev pub among : ℕ → List ℕ → Bool
among n [] = false
among n (m ∷ ms) = cond (eqb n m) true (among n ms)

-- an effect that is a refusal has one of these numbers
abbrev pub RefusedAmong : {S : Type 0} → List ℕ → Effect S → Type 0
RefusedAmong ns e = (why : Refusal) → e.report.progress ≡ progress.Refused why → among (refusal_number why) ns ≡ true

-- the tests that can fail are those of these numbers
abbrev pub FailedAmong : List ℕ → Tests → Type 0
FailedAmong ns t = (w : Refusal) → failed t w ≡ true → among (refusal_number w) ns ≡ true

same_refusal : (v w : Refusal) → progress.Refused v ≡ progress.Refused w → v ≡ w
same_refusal v w e = cc

pub unchanged-among : {S : Type 0} (ns : List ℕ) (s : S) (r : Record) (w : Refusal) → among (refusal_number w) ns ≡ true → RefusedAmong ns (unchanged s r w)
unchanged-among ns s r w e why p = rw (same_refusal w why p) at e

pub taken_among : {S : Type 0} (ns : List ℕ) (e : Effect S) → taken e.report.progress ≡ true → RefusedAmong ns e
taken_among ns e h why p = let z : taken (progress.Refused why) ≡ true = rw p at h in cc

pub judged_among : {S : Type 0} (ns : List ℕ) (v : Result (Unit {0}) Refusal) (t : Tests) (s : S) (r : Record) (e : Effect S) → v ≡ verdict_of t
    → FailedAmong ns t → RefusedAmong ns e → RefusedAmong ns (judged v s r e)
judged_among ns (Err w) t s r e q f g = unchanged-among ns s r w (f w (refused_failed t w (sym q)))
judged_among ns (Ok u) t s r e q f g = g

-- a setup is refused with 3, 4 or 10
abbrev pub setup_numbers : List ℕ
setup_numbers = 3 ∷ 4 ∷ 10 ∷ []

pub setup_failed : (above zero short : Bool) → FailedAmong setup_numbers (tests_at_setup above zero short)
setup_failed above zero short (Capacity ProvidedCapacityGreaterThanMaxCapacity) e = refl
setup_failed above zero short (Capacity ProvidedCapacityIsZero) e = refl
setup_failed above zero short BufferTooShort e = refl
setup_failed above zero short RecordNotReady e = e
setup_failed above zero short RecordDamaged e = e
setup_failed above zero short NotKnown e = e
setup_failed above zero short OwnerIsEmpty e = e
setup_failed above zero short IndexOutOfRange e = e
setup_failed above zero short IndexNotHeld e = e

-- a step with 3, 4, 10, 9 or 11
abbrev pub step_numbers : List ℕ
step_numbers = 3 ∷ 4 ∷ 10 ∷ 9 ∷ 11 ∷ []

pub step_failed : (above zero short not_ready damaged : Bool) → FailedAmong step_numbers (tests_at_turn above zero short not_ready damaged false)
step_failed above zero short not_ready damaged (Capacity ProvidedCapacityGreaterThanMaxCapacity) e = refl
step_failed above zero short not_ready damaged (Capacity ProvidedCapacityIsZero) e = refl
step_failed above zero short not_ready damaged BufferTooShort e = refl
step_failed above zero short not_ready damaged RecordNotReady e = refl
step_failed above zero short not_ready damaged RecordDamaged e = refl
step_failed above zero short not_ready damaged NotKnown e = e
step_failed above zero short not_ready damaged OwnerIsEmpty e = e
step_failed above zero short not_ready damaged IndexOutOfRange e = e
step_failed above zero short not_ready damaged IndexNotHeld e = e

-- a drain with these, or with 13
abbrev pub drain_numbers : List ℕ
drain_numbers = 3 ∷ 4 ∷ 10 ∷ 9 ∷ 11 ∷ 13 ∷ []

pub drain_failed : (above zero short not_ready damaged not_known : Bool) → FailedAmong drain_numbers (tests_at_turn above zero short not_ready damaged not_known)
drain_failed above zero short not_ready damaged not_known (Capacity ProvidedCapacityGreaterThanMaxCapacity) e = refl
drain_failed above zero short not_ready damaged not_known (Capacity ProvidedCapacityIsZero) e = refl
drain_failed above zero short not_ready damaged not_known BufferTooShort e = refl
drain_failed above zero short not_ready damaged not_known RecordNotReady e = refl
drain_failed above zero short not_ready damaged not_known RecordDamaged e = refl
drain_failed above zero short not_ready damaged not_known NotKnown e = refl
drain_failed above zero short not_ready damaged not_known OwnerIsEmpty e = e
drain_failed above zero short not_ready damaged not_known IndexOutOfRange e = e
drain_failed above zero short not_ready damaged not_known IndexNotHeld e = e

-- a death with 10 or 9
abbrev pub death_numbers : List ℕ
death_numbers = 10 ∷ 9 ∷ []

pub death_failed : (short not_ready : Bool) → FailedAmong death_numbers (tests_of_record short not_ready false false)
death_failed short not_ready (Capacity ProvidedCapacityGreaterThanMaxCapacity) e = e
death_failed short not_ready (Capacity ProvidedCapacityIsZero) e = e
death_failed short not_ready BufferTooShort e = refl
death_failed short not_ready RecordNotReady e = refl
death_failed short not_ready RecordDamaged e = e
death_failed short not_ready NotKnown e = e
death_failed short not_ready OwnerIsEmpty e = e
death_failed short not_ready IndexOutOfRange e = e
death_failed short not_ready IndexNotHeld e = e

-- a list with 10, 9, 13 or 5
abbrev pub list_numbers : List ℕ
list_numbers = 10 ∷ 9 ∷ 13 ∷ 5 ∷ []

pub list_failed : (short not_ready not_known owner_empty : Bool) → FailedAmong list_numbers (tests_of_record short not_ready not_known owner_empty)
list_failed short not_ready not_known owner_empty (Capacity ProvidedCapacityGreaterThanMaxCapacity) e = e
list_failed short not_ready not_known owner_empty (Capacity ProvidedCapacityIsZero) e = e
list_failed short not_ready not_known owner_empty BufferTooShort e = refl
list_failed short not_ready not_known owner_empty RecordNotReady e = refl
list_failed short not_ready not_known owner_empty RecordDamaged e = e
list_failed short not_ready not_known owner_empty NotKnown e = refl
list_failed short not_ready not_known owner_empty OwnerIsEmpty e = refl
list_failed short not_ready not_known owner_empty IndexOutOfRange e = e
list_failed short not_ready not_known owner_empty IndexNotHeld e = e
