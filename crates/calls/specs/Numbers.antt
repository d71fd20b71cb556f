-- The scope's number and value for each call, answer and refusal.
use Rattle.std.specs.Prelude.{ℕ, cond, eqb, Result, Ok, Err}
use Rattle.unique_index_set_enums.specs.Numbers.{state_value, acquire_failure_number, creation_error_number}
use Rattle.calls.specs.declared.Call.{Call}
use Rattle.calls.specs.declared.Call.TheVariants as call
use Rattle.calls.specs.declared.UnknownCall.{UnknownCall}
use Rattle.calls.specs.declared.Answer.{Answer}
use Rattle.calls.specs.declared.Answer.TheVariants.{Acquired, NotAcquired, Released, NotOwned, NotBorrowed, Borrowed, Locked, Found, Recovered}
use Rattle.calls.specs.declared.Refusal.{Refusal}
use Rattle.calls.specs.declared.Refusal.TheVariants.{Capacity, BufferTooShort, RecordNotReady, RecordDamaged, NotKnown, OwnerIsEmpty, IndexOutOfRange, IndexNotHeld}

-- a lent number read as a call
unfoldable pub call_read : ℕ → Result Call UnknownCall
call_read n =
    cond (eqb n 1) (Ok call.Acquire)
    (cond (eqb n 2) (Ok call.Release)
    (cond (eqb n 3) (Ok call.BorrowedIndices)
    (cond (eqb n 4) (Ok call.IsLocked)
    (cond (eqb n 5) (Ok call.Find)
    (cond (eqb n 6) (Ok call.Recover) (Err (record { 0 = n })))))))

abbrev pub answer_number : Answer → ℕ
answer_number (Acquired index) = 0
answer_number (NotAcquired failure) = acquire_failure_number failure
answer_number (Released state) = 0
answer_number NotOwned = 6
answer_number NotBorrowed = 14
answer_number (Borrowed count) = 0
answer_number (Locked locked) = 0
answer_number (Found reported) = 0
answer_number (Recovered state) = 0

-- the value is 0 unless the answer is 0
abbrev pub answer_value : Answer → ℕ
answer_value (Acquired index) = index.0
answer_value (NotAcquired failure) = 0
answer_value (Released state) = state_value state
answer_value NotOwned = 0
answer_value NotBorrowed = 0
answer_value (Borrowed count) = count
answer_value (Locked locked) = cond locked 1 0
answer_value (Found reported) = reported
answer_value (Recovered state) = state_value state

abbrev pub refusal_number : Refusal → ℕ
refusal_number (Capacity error) = creation_error_number error
refusal_number BufferTooShort = 10
refusal_number RecordNotReady = 9
refusal_number RecordDamaged = 11
refusal_number NotKnown = 13
refusal_number OwnerIsEmpty = 5
refusal_number IndexOutOfRange = 7
refusal_number IndexNotHeld = 8
