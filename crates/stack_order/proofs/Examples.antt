-- Not vacuous: two runs, computed, that meet the premise. Between them they have every kind of event. Assumes nothing.
use Prim.Native.Nat.{ℕ, ◌-◌, ◌<◌}
use mathlib.Core.Path.{◌≡◌, refl}
use mathlib.Core.Bool.{Bool, true, false, cond}
use mathlib.Core.List as list
use mathlib.Core.List.{[], ◌∷◌}
use borrow.Author.Tests.{ltb-true}
use lib.Dec.{ltb}
use lib.ListN.{replicate}
use Rattle.unique_index_set_enums.specs.declared.ReleaseState.TheVariants.{Unlocked, Locked}
use Rattle.unique_index_set_enums.specs.declared.UniqueIndexSetAcquireFailure.TheVariants.{OutOfIndices, IsLocked}
use Rattle.unique_index_set_enums.specs.Kinds.{index, owner, record_number}
use Rattle.calls.specs.declared.Answer.{Answer}
use Rattle.calls.specs.declared.Answer.TheVariants as answer
use Rattle.calls.specs.declared.Progress.TheVariants as progress
use Rattle.thread_records.specs.Records.{empty_list, idle_record}
use Rattle.unique_index_set.specs.Steps.{Shared}
use Rattle.turns.specs.declared.Operation.{Operation}
use Rattle.turns.specs.declared.Operation.TheVariants.{Start, Step, List, Death, Drain}
use Rattle.turns.specs.Docks.{Table}
use Rattle.unique_index_set_enums.specs.Numbers as unique-index-set-enums-numbers
use Rattle.unique_index_set_enums.specs.Robust as unique-index-set-enums-robust
use Rattle.calls.specs.Numbers as calls-numbers
use Rattle.calls.specs.Order as calls-order
use Rattle.calls.specs.Runs as calls-runs
use Rattle.custody.specs.Entry as custody-entry
use Rattle.thread_records.specs.Deaths as thread-records-deaths
use Rattle.thread_records.specs.Filled as thread-records-filled
use Rattle.thread_records.specs.Lists as thread-records-lists
use Rattle.thread_records.specs.Records as thread-records-records
use Rattle.plain_places.specs.Places as plain-places-places
use Rattle.plain_calls.specs.Asks as plain-calls-asks
use Rattle.plain_calls.specs.Marks as plain-calls-marks
use Rattle.plain_calls.specs.Resumes as plain-calls-resumes
use Rattle.unique_index_set.specs.Accesses as unique-index-set-accesses
use Rattle.unique_index_set.specs.Custodies as unique-index-set-custodies
use Rattle.unique_index_set.specs.Drains as unique-index-set-drains
use Rattle.unique_index_set.specs.Setups as unique-index-set-setups
use Rattle.unique_index_set.specs.Starts as unique-index-set-starts
use Rattle.unique_index_set.specs.Steps as unique-index-set-steps
use Rattle.turns.specs.Docks as turns-docks
use Rattle.stack_order.specs.Stack as Stack
use Rattle.stack_order.specs.History as History
use Rattle.stack_order.specs.Runs as Runs
use Rattle.stack_order.specs.Demand.{Demand3}
use Rattle.stack_order.proofs.Lawful.{clash}
use Rattle.stack_order.proofs.Theorem.{demand_3}

-- buffers longer than they need be, with anything in them; three records
abbrev dock : Table Shared
dock = record {
  shared = record { set = record { capacity = 7; head = 7 }; slots = replicate 5 9; custody = replicate 4 9 };
  records = replicate 3 (idle_record empty_list);
}

abbrev entry : ℕ → Operation → Runs.Entry
entry who o = record { who = record_number who; operation = o }

abbrev asked : ℕ → ℕ → ℕ → Operation
asked call i mode = Start (record { call = call; index_or_room = i; owner = owner 0; mode = mode })

-- two acquires side by side, of which the second loses its exchange, wins the next index and is cut by death before it answers; a third finds nothing free;
-- a list and a step that are refused; a release that is to lock and does not, since the dead record's index is out, made by a drain; what is borrowed, and
-- whether it is locked
abbrev entries : list.List Runs.Entry
entries =
    entry 0 (asked 1 0 0) ∷ entry 0 Step ∷ entry 0 Step ∷ entry 1 (asked 1 0 0) ∷ entry 1 Step ∷ entry 1 Step ∷ entry 0 Step ∷ entry 0 Step
    ∷ entry 1 Step ∷ entry 1 Step ∷ entry 1 Step ∷ entry 1 Death ∷ entry 1 Step
    ∷ entry 2 (asked 1 0 0) ∷ entry 2 Step ∷ entry 2 (List empty_list) ∷ entry 9 Step
    ∷ entry 0 (asked 2 0 1) ∷ entry 0 (Drain 9) ∷ entry 0 (asked 3 0 0) ∷ entry 0 Step ∷ entry 0 (asked 4 0 0) ∷ entry 0 Step ∷ []

abbrev after : Runs.World
after = Runs.ran (Runs.begun 2 dock) entries

abbrev answers : list.List Stack.Call → list.List Answer
answers [] = []
answers (c ∷ calls) = c.answer ∷ answers calls

set_up : (Runs.set_up_of 2 dock).report.progress ≡ progress.Accepted
unfolding unique-index-set-enums-numbers.mode_read unique-index-set-enums-robust.owner_read unique-index-set-enums-robust.is_empty unique-index-set-enums-robust.is_locked_at unique-index-set-enums-robust.next_generation calls-numbers.call_read calls-order.verdict_of calls-runs.run_from custody-entry.custody_of thread-records-deaths.death_of thread-records-filled.filled thread-records-lists.among_first thread-records-lists.owners_counted thread-records-lists.listed thread-records-lists.good_list thread-records-lists.owner_within thread-records-lists.list_of thread-records-records.not_alive thread-records-records.not_idle thread-records-records.not_calling plain-places-places.may_acquire plain-places-places.may_release plain-places-places.release_read plain-places-places.place_read plain-places-places.opened_at plain-calls-asks.asked_release plain-calls-asks.asked_of plain-calls-marks.release_mark plain-calls-resumes.acquire_looked plain-calls-resumes.release_looked plain-calls-resumes.borrowed_indices plain-calls-resumes.is_locked unique-index-set-accesses.acquired_word unique-index-set-accesses.released_word unique-index-set-custodies.holds unique-index-set-drains.drain_of unique-index-set-setups.too_large unique-index-set-setups.setup_short unique-index-set-setups.setup_verdict unique-index-set-setups.setup_of unique-index-set-starts.start_verdict unique-index-set-starts.start_of unique-index-set-steps.shared_after unique-index-set-steps.advanced unique-index-set-steps.too_short unique-index-set-steps.step_verdict unique-index-set-steps.step_of turns-docks.settled Stack.count Stack.without Stack.stack_after Stack.stack_answer Stack.up_from Stack.replay History.changes History.looked_at History.ordered History.in_custody Runs.steps_events Runs.after Runs.ran
set_up = refl

-- what the calls answer, in their order, the newest first
pub ordered-answers : answers (History.ordered after.history)
    ≡ answer.Locked false ∷ answer.Borrowed 1 ∷ answer.Released Unlocked ∷ answer.NotAcquired OutOfIndices ∷ answer.Acquired (index 1) ∷ answer.Acquired (index 0) ∷ []
unfolding unique-index-set-enums-numbers.mode_read unique-index-set-enums-robust.owner_read unique-index-set-enums-robust.is_empty unique-index-set-enums-robust.is_locked_at unique-index-set-enums-robust.next_generation calls-numbers.call_read calls-order.verdict_of calls-runs.run_from custody-entry.custody_of thread-records-deaths.death_of thread-records-filled.filled thread-records-lists.among_first thread-records-lists.owners_counted thread-records-lists.listed thread-records-lists.good_list thread-records-lists.owner_within thread-records-lists.list_of thread-records-records.not_alive thread-records-records.not_idle thread-records-records.not_calling plain-places-places.may_acquire plain-places-places.may_release plain-places-places.release_read plain-places-places.place_read plain-places-places.opened_at plain-calls-asks.asked_release plain-calls-asks.asked_of plain-calls-marks.release_mark plain-calls-resumes.acquire_looked plain-calls-resumes.release_looked plain-calls-resumes.borrowed_indices plain-calls-resumes.is_locked unique-index-set-accesses.acquired_word unique-index-set-accesses.released_word unique-index-set-custodies.holds unique-index-set-drains.drain_of unique-index-set-setups.too_large unique-index-set-setups.setup_short unique-index-set-setups.setup_verdict unique-index-set-setups.setup_of unique-index-set-starts.start_verdict unique-index-set-starts.start_of unique-index-set-steps.shared_after unique-index-set-steps.advanced unique-index-set-steps.too_short unique-index-set-steps.step_verdict unique-index-set-steps.step_of turns-docks.settled Stack.count Stack.without Stack.stack_after Stack.stack_answer Stack.up_from Stack.replay History.changes History.looked_at History.ordered History.in_custody Runs.steps_events Runs.after Runs.ran
ordered-answers = refl

-- the premise, as a test
youngs : list.List History.Event → Bool
youngs [] = true
youngs (e ∷ h) = cond (cond e.wins (ltb (History.changes h - History.looked_at h e.by.0) 65536) true) (youngs h) false

is_young : (h : list.List History.Event) → youngs h ≡ true → History.Young h
unfolding youngs History.Young
is_young [] y = tt
is_young (e ∷ h) y = by_tests e.wins (ltb (History.changes h - History.looked_at h e.by.0) 65536) refl (is_young h) y
  where
    by_tests : (w b : Bool) → ltb (History.changes h - History.looked_at h e.by.0) 65536 ≡ b → (youngs h ≡ true → History.Young h) → cond (cond w b true) (youngs h) false ≡ true
        → (w ≡ true → History.changes h - History.looked_at h e.by.0 < 65536) × History.Young h
    by_tests true true q f k = (λ v. ltb-true _ _ q, f k)
    by_tests true false q f k = clash k
    by_tests false b q f k = (λ v. clash v, f k)

premise_met : youngs after.history ≡ true
unfolding youngs unique-index-set-enums-numbers.mode_read unique-index-set-enums-robust.owner_read unique-index-set-enums-robust.is_empty unique-index-set-enums-robust.is_locked_at unique-index-set-enums-robust.next_generation calls-numbers.call_read calls-order.verdict_of calls-runs.run_from custody-entry.custody_of thread-records-deaths.death_of thread-records-filled.filled thread-records-lists.among_first thread-records-lists.owners_counted thread-records-lists.listed thread-records-lists.good_list thread-records-lists.owner_within thread-records-lists.list_of thread-records-records.not_alive thread-records-records.not_idle thread-records-records.not_calling plain-places-places.may_acquire plain-places-places.may_release plain-places-places.release_read plain-places-places.place_read plain-places-places.opened_at plain-calls-asks.asked_release plain-calls-asks.asked_of plain-calls-marks.release_mark plain-calls-resumes.acquire_looked plain-calls-resumes.release_looked plain-calls-resumes.borrowed_indices plain-calls-resumes.is_locked unique-index-set-accesses.acquired_word unique-index-set-accesses.released_word unique-index-set-custodies.holds unique-index-set-drains.drain_of unique-index-set-setups.too_large unique-index-set-setups.setup_short unique-index-set-setups.setup_verdict unique-index-set-setups.setup_of unique-index-set-starts.start_verdict unique-index-set-starts.start_of unique-index-set-steps.shared_after unique-index-set-steps.advanced unique-index-set-steps.too_short unique-index-set-steps.step_verdict unique-index-set-steps.step_of turns-docks.settled Stack.count Stack.without Stack.stack_after Stack.stack_answer Stack.up_from Stack.replay History.changes History.looked_at History.ordered History.in_custody Runs.steps_events Runs.after Runs.ran
premise_met = refl

pub example : Demand3 2 after
example = demand_3 2 dock set_up entries [] (is_young after.history premise_met)

-- a lock: two acquires; a release that is to lock loses its exchange to the other's release, writes its slot anew, wins and locks; then nothing is granted
abbrev locking : list.List Runs.Entry
locking =
    entry 0 (asked 1 0 0) ∷ entry 0 (Drain 4) ∷ entry 1 (asked 1 0 0) ∷ entry 1 (Drain 4)
    ∷ entry 0 (asked 2 0 1) ∷ entry 0 Step ∷ entry 0 Step ∷ entry 1 (asked 2 1 0) ∷ entry 1 (Drain 3) ∷ entry 0 Step ∷ entry 0 Step ∷ entry 0 Step
    ∷ entry 2 (asked 1 0 0) ∷ entry 2 Step ∷ entry 2 (asked 3 0 0) ∷ entry 2 Step ∷ entry 2 (asked 4 0 0) ∷ entry 2 Step ∷ []

abbrev locked : Runs.World
locked = Runs.ran (Runs.begun 2 dock) locking

pub locked-answers : answers (History.ordered locked.history)
    ≡ answer.Locked true ∷ answer.Borrowed 0 ∷ answer.NotAcquired IsLocked ∷ answer.Released Locked ∷ answer.Released Unlocked ∷ answer.Acquired (index 1) ∷ answer.Acquired (index 0) ∷ []
unfolding unique-index-set-enums-numbers.mode_read unique-index-set-enums-robust.owner_read unique-index-set-enums-robust.is_empty unique-index-set-enums-robust.is_locked_at unique-index-set-enums-robust.next_generation calls-numbers.call_read calls-order.verdict_of calls-runs.run_from custody-entry.custody_of thread-records-deaths.death_of thread-records-filled.filled thread-records-lists.among_first thread-records-lists.owners_counted thread-records-lists.listed thread-records-lists.good_list thread-records-lists.owner_within thread-records-lists.list_of thread-records-records.not_alive thread-records-records.not_idle thread-records-records.not_calling plain-places-places.may_acquire plain-places-places.may_release plain-places-places.release_read plain-places-places.place_read plain-places-places.opened_at plain-calls-asks.asked_release plain-calls-asks.asked_of plain-calls-marks.release_mark plain-calls-resumes.acquire_looked plain-calls-resumes.release_looked plain-calls-resumes.borrowed_indices plain-calls-resumes.is_locked unique-index-set-accesses.acquired_word unique-index-set-accesses.released_word unique-index-set-custodies.holds unique-index-set-drains.drain_of unique-index-set-setups.too_large unique-index-set-setups.setup_short unique-index-set-setups.setup_verdict unique-index-set-setups.setup_of unique-index-set-starts.start_verdict unique-index-set-starts.start_of unique-index-set-steps.shared_after unique-index-set-steps.advanced unique-index-set-steps.too_short unique-index-set-steps.step_verdict unique-index-set-steps.step_of turns-docks.settled Stack.count Stack.without Stack.stack_after Stack.stack_answer Stack.up_from Stack.replay History.changes History.looked_at History.ordered History.in_custody Runs.steps_events Runs.after Runs.ran
locked-answers = refl

locked_young : youngs locked.history ≡ true
unfolding youngs unique-index-set-enums-numbers.mode_read unique-index-set-enums-robust.owner_read unique-index-set-enums-robust.is_empty unique-index-set-enums-robust.is_locked_at unique-index-set-enums-robust.next_generation calls-numbers.call_read calls-order.verdict_of calls-runs.run_from custody-entry.custody_of thread-records-deaths.death_of thread-records-filled.filled thread-records-lists.among_first thread-records-lists.owners_counted thread-records-lists.listed thread-records-lists.good_list thread-records-lists.owner_within thread-records-lists.list_of thread-records-records.not_alive thread-records-records.not_idle thread-records-records.not_calling plain-places-places.may_acquire plain-places-places.may_release plain-places-places.release_read plain-places-places.place_read plain-places-places.opened_at plain-calls-asks.asked_release plain-calls-asks.asked_of plain-calls-marks.release_mark plain-calls-resumes.acquire_looked plain-calls-resumes.release_looked plain-calls-resumes.borrowed_indices plain-calls-resumes.is_locked unique-index-set-accesses.acquired_word unique-index-set-accesses.released_word unique-index-set-custodies.holds unique-index-set-drains.drain_of unique-index-set-setups.too_large unique-index-set-setups.setup_short unique-index-set-setups.setup_verdict unique-index-set-setups.setup_of unique-index-set-starts.start_verdict unique-index-set-starts.start_of unique-index-set-steps.shared_after unique-index-set-steps.advanced unique-index-set-steps.too_short unique-index-set-steps.step_verdict unique-index-set-steps.step_of turns-docks.settled Stack.count Stack.without Stack.stack_after Stack.stack_answer Stack.up_from Stack.replay History.changes History.looked_at History.ordered History.in_custody Runs.steps_events Runs.after Runs.ran
locked_young = refl

pub locked_example : Demand3 2 locked
locked_example = demand_3 2 dock set_up locking [] (is_young locked.history locked_young)
