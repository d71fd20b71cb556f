-- The history of a run: what each step looked at, whether its exchange won, which call it ordered and which it answered. The newest event stands first.
use Rattle.std.specs.Prelude.{ℕ, suc, ◌-◌, ◌<◌, ◌≡◌, Bool, true, false, cond, not, ◌&&◌, List, [], ◌∷◌, ◌++◌, eqb, Option, Some, None}
use Rattle.unique_index_set_enums.specs.declared.RecordNumber.{RecordNumber}
use Rattle.unique_index_set_enums.specs.Kinds.{index}
use Rattle.calls.specs.declared.Answer.{Answer}
use Rattle.calls.specs.declared.Answer.TheVariants as answer
use Rattle.head_details.specs.Word.{head_of}
use Rattle.plain_places.specs.declared.Place.{Place}
use Rattle.plain_places.specs.declared.Place.TheVariants.{AcquireLook, AcquireRead, AcquireExchange, AcquireWrite, ReleaseLook, ReleaseWrite, ReleaseExchange, BorrowedLook, LockedLook}
use Rattle.plain_calls.specs.declared.asks.Asked.{Asked}
use Rattle.plain_calls.specs.declared.asks.Asked.TheVariants as asked
use Rattle.plain_calls.specs.declared.resumes.Saw.{Saw}
use Rattle.std.specs.declared.ops.ControlFlow.{ControlFlow}
use Rattle.std.specs.declared.ops.ControlFlow.TheVariants.{Continue, Break}
use Rattle.stack_order.specs.Stack.{Called, acquire, borrowed_indices, is_locked, release, Call, without}

-- what an accepted start or step did. `looks`: it looked at the head word (an exchange that fails is a look); `exchanges`: it was an exchange; `wins`: it was an exchange
-- that won; `starts`: the call that it began; `orders`: the call that is ordered here, with its answer; `ends`: the call that it answered
pub record Event : Type 0 where
  pub by : RecordNumber
  pub looks : Bool
  pub exchanges : Bool
  pub wins : Bool
  pub starts : List Called
  pub orders : List Call
  pub ends : List Call

-- ---- a start
abbrev pub called_by : Option Asked → List Called
called_by (Some asked.Acquire) = acquire ∷ []
called_by (Some (asked.Release i m)) = release i m ∷ []
called_by (Some asked.BorrowedIndices) = borrowed_indices ∷ []
called_by (Some asked.IsLocked) = is_locked ∷ []
called_by None = []

abbrev pub start_event : RecordNumber → Option Asked → Event
start_event who a = record { by = who; looks = false; exchanges = false; wins = false; starts = called_by a; orders = []; ends = [] }

-- ---- a step, by its place, what its access showed, and how the call goes on
abbrev pub call_at : Place → Called
call_at AcquireLook = acquire
call_at (AcquireRead seen) = acquire
call_at (AcquireExchange seen value) = acquire
call_at (AcquireWrite i) = acquire
call_at (ReleaseLook i m) = release i m
call_at (ReleaseWrite i m seen) = release i m
call_at (ReleaseExchange i m seen) = release i m
call_at BorrowedLook = borrowed_indices
call_at LockedLook = is_locked

abbrev pub exchanges_at : Place → Bool
exchanges_at AcquireLook = false
exchanges_at (AcquireRead seen) = false
exchanges_at (AcquireExchange seen value) = true
exchanges_at (AcquireWrite i) = false
exchanges_at (ReleaseLook i m) = false
exchanges_at (ReleaseWrite i m seen) = false
exchanges_at (ReleaseExchange i m seen) = true
exchanges_at BorrowedLook = false
exchanges_at LockedLook = false

abbrev pub wins_at : Place → Saw → Bool
wins_at p saw = exchanges_at p && saw.won

abbrev pub looks_at : Place → Saw → Bool
looks_at AcquireLook saw = true
looks_at (AcquireRead seen) saw = false
looks_at (AcquireExchange seen value) saw = not saw.won
looks_at (AcquireWrite i) saw = false
looks_at (ReleaseLook i m) saw = true
looks_at (ReleaseWrite i m seen) saw = false
looks_at (ReleaseExchange i m seen) saw = not saw.won
looks_at BorrowedLook saw = true
looks_at LockedLook saw = true

-- the call that a step answers
abbrev pub ends_with : Called → ControlFlow Answer Place → List Call
ends_with c (Continue p) = []
ends_with c (Break a) = record { called = c; answer = a } ∷ []

-- the call that it orders: an acquire that takes an index at its won exchange, before it writes its slot and answers; every other call at the look or the
-- exchange that answers it
abbrev pub orders_at : Place → Saw → ControlFlow Answer Place → List Call
orders_at (AcquireExchange seen value) saw next = cond saw.won (record { called = acquire; answer = answer.Acquired (index (head_of seen)) } ∷ []) (ends_with acquire next)
orders_at (AcquireWrite i) saw next = []
orders_at AcquireLook saw next = ends_with acquire next
orders_at (AcquireRead seen) saw next = []
orders_at (ReleaseLook i m) saw next = ends_with (release i m) next
orders_at (ReleaseWrite i m seen) saw next = []
orders_at (ReleaseExchange i m seen) saw next = ends_with (release i m) next
orders_at BorrowedLook saw next = ends_with borrowed_indices next
orders_at LockedLook saw next = ends_with is_locked next

abbrev pub step_event : RecordNumber → Place → Saw → ControlFlow Answer Place → Event
step_event who p saw next = record {
  by = who;
  looks = looks_at p saw;
  exchanges = exchanges_at p;
  wins = wins_at p saw;
  starts = [];
  orders = orders_at p saw next;
  ends = ends_with (call_at p) next;
}

-- ---- read from a history
abbrev pub one_more_if : Bool → ℕ → ℕ
one_more_if true n = suc n
one_more_if false n = n

-- how often the head has changed
unfoldable pub changes : List Event → ℕ
changes [] = 0
changes (e ∷ h) = one_more_if e.wins (changes h)

-- how often it had when the record last looked at it
unfoldable pub looked_at : List Event → ℕ → ℕ
looked_at [] r = 0
looked_at (e ∷ h) r = cond (e.looks && eqb e.by.0 r) (changes h) (looked_at h r)

-- the calls in the order of the steps that won their exchange or judged the head
unfoldable pub ordered : List Event → List Call
ordered [] = []
ordered (e ∷ h) = e.orders ++ ordered h

-- one record's calls: those it started, those of it that are ordered, those that were answered
abbrev pub mine : {A : Type 0} → ℕ → Event → List A → List A → List A
mine r e here before = cond (eqb e.by.0 r) (here ++ before) before

unfoldable pub started_by : ℕ → List Event → List Called
started_by r [] = []
started_by r (e ∷ h) = mine r e e.starts (started_by r h)

unfoldable pub ordered_by : ℕ → List Event → List Call
ordered_by r [] = []
ordered_by r (e ∷ h) = mine r e e.orders (ordered_by r h)

unfoldable pub answered_by : ℕ → List Event → List Call
answered_by r [] = []
answered_by r (e ∷ h) = mine r e e.ends (answered_by r h)

-- which indices are out: an acquire that is ordered with an index takes it, a release that is ordered as released brings it back
abbrev pub custody_after : Called → Answer → List ℕ → List ℕ
custody_after acquire (answer.Acquired i) out = i.0 ∷ out
custody_after acquire (answer.NotAcquired why) out = out
custody_after acquire (answer.Released state) out = out
custody_after acquire answer.NotOwned out = out
custody_after acquire answer.NotBorrowed out = out
custody_after acquire (answer.Borrowed n) out = out
custody_after acquire (answer.Locked b) out = out
custody_after acquire (answer.Found n) out = out
custody_after acquire (answer.Recovered state) out = out
custody_after borrowed_indices a out = out
custody_after is_locked a out = out
custody_after (release i m) (answer.Acquired j) out = out
custody_after (release i m) (answer.NotAcquired why) out = out
custody_after (release i m) (answer.Released state) out = without i.0 out
custody_after (release i m) answer.NotOwned out = out
custody_after (release i m) answer.NotBorrowed out = out
custody_after (release i m) (answer.Borrowed n) out = out
custody_after (release i m) (answer.Locked b) out = out
custody_after (release i m) (answer.Found n) out = out
custody_after (release i m) (answer.Recovered state) out = out

unfoldable pub in_custody : List Call → List ℕ
in_custody [] = []
in_custody (c ∷ calls) = custody_after c.called c.answer (in_custody calls)

-- the premise, of exchanges that win: fewer than 65,536 head changes since the record last looked
unfoldable pub Young : List Event → Type 0
Young [] = Unit {0}
Young (e ∷ h) = (e.wins ≡ true → changes h - looked_at h e.by.0 < 65536) × Young h

-- the premise as it is demanded, of every exchange
unfoldable pub AllYoung : List Event → Type 0
AllYoung [] = Unit {0}
AllYoung (e ∷ h) = (e.exchanges ≡ true → changes h - looked_at h e.by.0 < 65536) × AllYoung h
