-- A stack of free indices, used one call after another: what the plain set is to answer as.
use Rattle.std.specs.Prelude.{ℕ, zero, suc, ◌+◌, ◌≤◌, ◌≡◌, Bool, true, false, cond, ◌||◌, List, [], ◌∷◌, eqb, length}
use Rattle.unique_index_set_enums.specs.declared.Index.{Index}
use Rattle.unique_index_set_enums.specs.declared.ReleaseMode.{ReleaseMode}
use Rattle.unique_index_set_enums.specs.declared.ReleaseMode.TheVariants.{Default, LockIfLastIndex}
use Rattle.unique_index_set_enums.specs.declared.ReleaseState.{ReleaseState}
use Rattle.unique_index_set_enums.specs.declared.ReleaseState.TheVariants.{Unlocked, Locked}
use Rattle.unique_index_set_enums.specs.declared.UniqueIndexSetAcquireFailure.TheVariants.{OutOfIndices, IsLocked}
use Rattle.unique_index_set_enums.specs.Kinds.{index}
use Rattle.calls.specs.declared.Answer.{Answer}
use Rattle.calls.specs.declared.Answer.TheVariants as answer

-- the four calls
pub data Called : Type 0 where
  acquire borrowed_indices is_locked : Called
  release : Index → ReleaseMode → Called

-- a call with its answer
pub record Call : Type 0 where
  pub called : Called
  pub answer : Answer

-- the free indices, the one to be taken next first; those that are out; whether the set is locked. An index stands here as the number that it is over, so that
-- it can be counted
pub record Stack : Type 0 where
  pub free : List ℕ
  pub out : List ℕ
  pub locked : Bool

-- how often an index is in a list, and the list with it taken out once
abbrev pub one_if : Bool → ℕ
one_if true = 1
one_if false = 0

unfoldable pub count : ℕ → List ℕ → ℕ
count i [] = 0
count i (x ∷ l) = one_if (eqb i x) + count i l

unfoldable pub without : ℕ → List ℕ → List ℕ
without i [] = []
without i (x ∷ l) = cond (eqb i x) l (x ∷ without i l)

-- a release that is to lock does so where its index is the only one out
abbrev pub locks : ReleaseMode → ℕ → Bool
locks Default out = false
locks LockIfLastIndex out = eqb out 1

abbrev pub state_of : Bool → ReleaseState
state_of true = Locked
state_of false = Unlocked

-- an acquire takes the first free index, unless there is none or the set is locked
abbrev pub taken : List ℕ → List ℕ → Bool → Stack
taken [] out locked = record { free = []; out = out; locked = locked }
taken (x ∷ free) out true = record { free = x ∷ free; out = out; locked = true }
taken (x ∷ free) out false = record { free = free; out = x ∷ out; locked = false }

abbrev pub taken_answer : List ℕ → Bool → Answer
taken_answer [] locked = answer.NotAcquired OutOfIndices
taken_answer (x ∷ free) true = answer.NotAcquired IsLocked
taken_answer (x ∷ free) false = answer.Acquired (index x)

-- what a call does to the stack, and what it answers
unfoldable pub stack_after : Stack → Called → Stack
stack_after s acquire = taken s.free s.out s.locked
stack_after s borrowed_indices = s
stack_after s is_locked = s
stack_after s (release i m) = record { free = i.0 ∷ s.free; out = without i.0 s.out; locked = s.locked || locks m (length s.out) }

unfoldable pub stack_answer : Stack → Called → Answer
stack_answer s acquire = taken_answer s.free s.locked
stack_answer s borrowed_indices = answer.Borrowed (length s.out)
stack_answer s is_locked = answer.Locked s.locked
stack_answer s (release i m) = answer.Released (state_of (locks m (length s.out)))

-- only what is out comes back
abbrev pub Allowed : Stack → Called → Type 0
Allowed s acquire = Unit {0}
Allowed s borrowed_indices = Unit {0}
Allowed s is_locked = Unit {0}
Allowed s (release i m) = 1 ≤ count i.0 s.out

-- a fresh one: 0, 1, 2, .. are free
unfoldable pub up_from : ℕ → ℕ → List ℕ
up_from i zero = []
up_from i (suc n) = i ∷ up_from (suc i) n

abbrev pub fresh_stack : ℕ → Stack
fresh_stack capacity = record { free = up_from 0 capacity; out = []; locked = false }

-- the stack after calls, and that each of them was allowed and answered as the stack answers it; the newest call stands first
unfoldable pub replay : Stack → List Call → Stack
replay s [] = s
replay s (c ∷ calls) = stack_after (replay s calls) c.called

unfoldable pub Answers : Stack → List Call → Type 0
Answers s [] = Unit {0}
Answers s (c ∷ calls) = Allowed (replay s calls) c.called × (c.answer ≡ stack_answer (replay s calls) c.called) × Answers s calls
