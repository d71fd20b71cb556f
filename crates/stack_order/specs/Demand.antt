-- Demand 3: what holds of a plain set after every run.
use Rattle.std.specs.Prelude.{ℕ, zero, suc, ◌+◌, ◌≤◌, ◌<◌, ◌≡◌, ◌↔◌, Bool, true, false, cond, List, [], ◌∷◌, ◌++◌, map, eqb, ltb, length, get_or, Option, Some, None, Ok}
use Rattle.unique_index_set_enums.specs.declared.UniqueIndexSetAcquireFailure.TheVariants.{OutOfIndices}
use Rattle.unique_index_set_enums.specs.Limits.{lock_acquire}
use Rattle.calls.specs.declared.Answer.TheVariants as answer
use Rattle.calls.specs.declared.Progress.TheVariants.{Accepted}
use Rattle.thread_records.specs.declared.Record.{Record}
use Rattle.thread_records.specs.Records.{empty_list, idle_record}
use Rattle.head_details.specs.Word.{head_of, borrowed_of}
use Rattle.custody.specs.declared.Custody.TheVariants.{Free}
use Rattle.custody.specs.Entry.{custody_of}
use Rattle.plain_places.specs.declared.Place.{Place}
use Rattle.plain_places.specs.declared.Place.TheVariants.{AcquireLook, AcquireRead, AcquireExchange, AcquireWrite, ReleaseLook, ReleaseWrite, ReleaseExchange, BorrowedLook, LockedLook}
use Rattle.std.specs.declared.ops.ControlFlow.TheVariants.{Break}
use Rattle.unique_index_set.specs.Steps.{Shared, saw_at, next_at, opened_in, is_damaged}
use Rattle.turns.specs.Docks.{Table}
use Rattle.stack_order.specs.Stack.{acquire, Call, Stack, count, fresh_stack, replay, Answers}
use Rattle.stack_order.specs.History.{Event, call_at, ordered, started_by, ordered_by, answered_by, in_custody}
use Rattle.stack_order.specs.Runs.{Entry, World, ran, set_up_of, begun}

-- the free chain, walked from the head through the slots, to the first that is no index. It has at most as many as there are indices, so one step more than
-- those sees its end
unfoldable pub walked : ℕ → ℕ → List ℕ → ℕ → List ℕ
walked zero capacity slots at = []
walked (suc k) capacity slots at = cond (ltb at capacity) (at ∷ walked k capacity slots (get_or slots at 0)) []

abbrev pub free_chain : ℕ → Shared → List ℕ
free_chain capacity s = walked (suc capacity) capacity s.slots (head_of s.set.head)

-- where a record stands in its call: nowhere if it is idle; a dead one where its death met it
abbrev pub opens_as : Option Place → List Place
opens_as (Some p) = p ∷ []
opens_as None = []

abbrev pub stands_at : Shared → Record → List Place
stands_at s t = cond (eqb t.call.place 0) [] (opens_as (opened_in s t))

abbrev pub record_at : World → ℕ → Record
record_at w r = get_or w.dock.records r (idle_record empty_list)

abbrev pub places_of : World → ℕ → List Place
places_of w r = stands_at w.dock.shared (record_at w r)

-- a call that is not answered, or never will be, and counts all the same: an acquire whose exchange won
abbrev pub counted : Place → List Call
counted AcquireLook = []
counted (AcquireRead seen) = []
counted (AcquireExchange seen value) = []
counted (AcquireWrite i) = record { called = acquire; answer = answer.Acquired i } ∷ []
counted (ReleaseLook i m) = []
counted (ReleaseWrite i m seen) = []
counted (ReleaseExchange i m seen) = []
counted BorrowedLook = []
counted LockedLook = []

abbrev pub counted_in : List Place → List Call
counted_in [] = []
counted_in (p ∷ ps) = counted p ++ counted_in ps

-- in the order: an acquire answers 1 exactly where nothing of the stack is then free
unfoldable pub RunsOut : Stack → List Call → Type 0
RunsOut s [] = Unit {0}
RunsOut s (c ∷ calls) = (c.called ≡ acquire → (c.answer ≡ answer.NotAcquired OutOfIndices) ↔ ((replay s calls).free ≡ [])) × RunsOut s calls

-- at each moment of the history, also within a drain: of each record no more is answered than is ordered, no more is ordered than was started
unfoldable pub InOrder : List Event → Type 0
InOrder [] = Unit {0}
InOrder (e ∷ h) =
    ((r : ℕ) → (length (answered_by r (e ∷ h)) ≤ length (ordered_by r (e ∷ h))) × (length (ordered_by r (e ∷ h)) ≤ length (started_by r (e ∷ h)))) × InOrder h

-- no call was answered with 14
unfoldable pub NoneSpoiled : List Call → Type 0
NoneSpoiled [] = Unit {0}
NoneSpoiled (c ∷ calls) = (c.answer ≡ answer.NotBorrowed → ⊥) × NoneSpoiled calls

abbrev pub is_calling : Record → Bool
is_calling t = cond t.dead false (cond (eqb t.call.place 0) false true)

module _ (capacity : ℕ) (w : World) where
  abbrev pub calls : List Call
  calls = ordered w.history

  abbrev pub stack : Stack
  stack = replay (fresh_stack capacity) calls

  abbrev pub custody : List ℕ
  custody = in_custody calls

  abbrev pub IsLockedNow : Type 0
  IsLockedNow = borrowed_of w.dock.shared.set.head ≡ lock_acquire

  pub record Demand3 : Type 0 where
    -- the calls, in the order of the steps that won their exchange or judged the head, answer as a stack does, used one call after another
    pub answers : Answers (fresh_stack capacity) calls
    -- of each record, what is ordered is what was answered, with that answer, and at most a call whose exchange won and that is unfinished, or cut by death
    pub counts : (r : ℕ) → ordered_by r w.history ≡ counted_in (places_of w r) ++ answered_by r w.history
    -- of each record, what was started is what was answered and the call that it is in
    pub starts : (r : ℕ) → started_by r w.history ≡ map call_at (places_of w r) ++ map (λ (c : Call). c.called) (answered_by r w.history)
    -- each call's place in the order is between its start and its answer
    pub in_order : InOrder w.history
    -- the free chain is the stack
    pub chain : free_chain capacity w.dock.shared ≡ stack.free
    -- every index is on it once, or in custody by the history, never both; nothing else is
    pub once : (i : ℕ) → i < capacity → count i (free_chain capacity w.dock.shared) + count i custody ≡ 1
    pub nothing_else : (i : ℕ) → capacity ≤ i → count i (free_chain capacity w.dock.shared) + count i custody ≡ 0
    -- the custody buffer says the same of which are free
    pub buffer : (i : ℕ) → i < capacity → (custody_of (get_or w.dock.shared.custody i 0) ≡ Ok Free) ↔ (count i custody ≡ 0)
    -- unless locked, the borrowed count is the number in custody; locked, nothing is in custody
    pub borrowed : (IsLockedNow → ⊥) → borrowed_of w.dock.shared.set.head ≡ length custody
    pub locked : IsLockedNow → custody ≡ []
    -- an acquire runs out exactly when nothing is free at its judging step: in the order, and now, at a look and at an exchange that fails
    pub runs_out : RunsOut (fresh_stack capacity) calls
    pub judges : (next_at AcquireLook w.dock.shared ≡ Break (answer.NotAcquired OutOfIndices)) ↔ (free_chain capacity w.dock.shared ≡ [])
    pub judges_again : (seen value : ℕ) → (saw_at (AcquireExchange seen value) w.dock.shared).won ≡ false → next_at (AcquireExchange seen value) w.dock.shared ≡ next_at AcquireLook w.dock.shared
    -- no call answers 14, and no live record in a call is damaged, which is what 11 is given for
    pub none_spoiled : (r : ℕ) → NoneSpoiled (answered_by r w.history)
    pub none_damaged : (r : ℕ) → is_calling (record_at w r) ≡ true → is_damaged (opened_in w.dock.shared (record_at w r)) ≡ false

-- the theorem: a dock of any records and buffers whose setup is accepted, any operations after it; under the premise, all of it holds after each of them
abbrev pub Holds : (List Event → Type 0) → Type 0
Holds Premise =
    (capacity : ℕ) (d : Table Shared) → (set_up_of capacity d).report.progress ≡ Accepted → (xs ys : List Entry) → Premise (ran (begun capacity d) (xs ++ ys)).history
    → Demand3 capacity (ran (begun capacity d) xs)
