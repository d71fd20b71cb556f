-- A step that is accepted is the advance from the place at which its record opens; where it goes on, its record is ready again.
-- Assumes nothing.
use Rattle.std.proofs.Common.{◌≡◌, ℕ, Bool, true, false, cond, List, length, ltb, eqb, refl, Option, Some, None, Ok}
use lib.ListN.{set, length-set}
use Rattle.std.specs.declared.ops.ControlFlow.{ControlFlow}
use Rattle.std.specs.declared.ops.ControlFlow.TheVariants.{Continue}
use Rattle.unique_index_set_enums.specs.declared.RecordNumber.{RecordNumber}
use Rattle.unique_index_set_enums.specs.Limits.{robust_capacity_limit}
use Rattle.calls.specs.declared.Answer.{Answer}
use Rattle.calls.specs.declared.Request.{Request}
use Rattle.calls.specs.Numbers.{call_read}
use Rattle.calls.proofs.Order.{accepted}
use Rattle.thread_records.specs.declared.OwnerList.{OwnerList}
use Rattle.thread_records.specs.declared.Record.{Record}
use Rattle.thread_records.specs.Records.{live_record}
use Rattle.thread_records.proofs.Lent.{Lent, turn_lent, start_lent, lent_accepted}
use Rattle.robust_moves.specs.declared.Access.{Access}
use Rattle.robust_moves.specs.declared.Access.TheVariants.{Look, Exchange, Load, ExchangeCell}
use Rattle.robust_places.specs.declared.Place.{Place}
use Rattle.robust_places.specs.declared.Place.TheVariants.{LockedLook}
use Rattle.robust_places.specs.Places.{sound, closed_at}
use Rattle.robust_places.proofs.Laws.{place_read_lem, read_busy, opened_closed, opened_sound}
use Rattle.robust_calls.specs.Asks.{asked_of, list_damaged}
use Rattle.robust_calls.proofs.Laws.{NextStays, next_stays}
use Rattle.robust_unique_index_set.specs.Accesses.{owner_in, cells_after}
use Rattle.robust_unique_index_set.specs.Steps.{Shared, saw_at, next_at, shared_after, advanced, too_short, is_damaged, turn_verdict, opened_in, step_judged, step_of}
use Rattle.robust_unique_index_set.specs.Starts.{start_tests, start_verdict, start_judged}
use Rattle.robust_unique_index_set.proofs.Accepted.{turn_passed, turn_roomy}

-- the record's step is accepted, and its call opens at a place
pub record Ready (records : ℕ) (who : RecordNumber) (s : Shared) (t : Record) (p : Place) : Type 0 where
  pub judged : step_judged records who s t ≡ Ok tt
  pub opened : opened_in s t ≡ Some p

pub stepped : (records : ℕ) (who : RecordNumber) (s : Shared) (t : Record) (p : Place) → Ready records who s t p → step_of records who s t ≡ advanced p t.list s
unfolding step_of
stepped records who s t p r = rw r.judged (rw r.opened refl)

pub ready_sound : (records : ℕ) (who : RecordNumber) (s : Shared) (t : Record) (p : Place) → Ready records who s t p → sound s.set.capacity p t.list ≡ true
ready_sound records who s t p r = opened_sound s.set.capacity t.call t.list p r.opened

opened_or : (o : Option Place) → is_damaged o ≡ false → (E : Type 0) → ((p : Place) → o ≡ Some p → E) → E
opened_or (Some p) e E f = f p refl
opened_or None e E f = f LockedLook cc

-- what is accepted is ready at the place at which it opens
pub accepted_ready : (records : ℕ) (who : RecordNumber) (s : Shared) (t : Record) → step_judged records who s t ≡ Ok tt
    → (E : Type 0) → ((p : Place) → Ready records who s t p → E) → E
accepted_ready records who s t e E f =
    let a = turn_passed records who s.set.capacity (length s.cells) (opened_in s t) t false e in
    opened_or (opened_in s t) a.damaged E (λ p q. f p (record { judged = e; opened = q }))

-- every step keeps the number of cells
exchanged_length : (b : Bool) (cells : List ℕ) (i v : ℕ) → length (cond b (set cells i v) cells) ≡ length cells
exchanged_length true cells i v = simp length-set
exchanged_length false cells i v = refl

cells_length : (a : Access) (cells : List ℕ) → length (cells_after a cells) ≡ length cells
cells_length Look cells = refl
cells_length (Exchange old new) cells = refl
cells_length (Load i) cells = refl
cells_length (ExchangeCell i old new) cells = exchanged_length (eqb old.0 (owner_in cells i.0)) cells i.0 new.0

-- the set and its cells serve the record of that number
abbrev pub Serves : ℕ → RecordNumber → Shared → Type 0
Serves records who s = Lent (ltb robust_capacity_limit s.set.capacity) (eqb s.set.capacity 0) (too_short records s.set.capacity (length s.cells)) records who

pub step_serves : (records : ℕ) (who : RecordNumber) (s : Shared) (t : Record) → step_judged records who s t ≡ Ok tt → Serves records who s
step_serves records who s t e = turn_lent _ t records who refl (turn_passed records who s.set.capacity (length s.cells) (opened_in s t) t false e)

pub start_serves : (records : ℕ) (who : RecordNumber) (request : Request) (s : Shared) (t : Record) → start_judged records who request s t ≡ Ok tt → Serves records who s
unfolding start_verdict
start_serves records who request s t e =
    start_lent (start_tests records who s.set.capacity (length s.cells) (asked_of request) t (list_damaged (call_read request.call) t.list)) t records who refl (accepted _ e)

-- a live record in a call that stands at a sound place is ready there
pub ready : (records : ℕ) (who : RecordNumber) (s : Shared) (p : Place) (list : OwnerList) → Serves records who s → sound s.set.capacity p list ≡ true
    → Ready records who s (live_record (closed_at p) list) p
unfolding turn_verdict
ready records who s p list l e =
    let o = opened_closed s.set.capacity p list e in
    record {
      judged = lent_accepted _ _ _ _ (closed_at p) list records who l (read_busy s.set.capacity (closed_at p) p (place_read_lem s.set.capacity p list e)) (rw o refl);
      opened = o;
    }

stays_served : (records : ℕ) (who : RecordNumber) (s : Shared) (p : Place) → Serves records who s → Serves records who (shared_after p s)
unfolding shared_after
stays_served records who s p l = record { above = l.above; zero = l.zero; short = simp cells_length l.short; here = l.here }

going_sound : (capacity : ℕ) (list : OwnerList) (n : ControlFlow Answer Place) (q : Place) → n ≡ Continue q → NextStays capacity list n → sound capacity q list ≡ true
going_sound capacity list n q e h = rw e at h

-- a step that goes on leaves its record ready at the place it goes on to
pub stays : (records : ℕ) (who : RecordNumber) (s : Shared) (t : Record) (p q : Place) → Ready records who s t p → next_at p t.list s ≡ Continue q
    → Ready records who (shared_after p s) (live_record (closed_at q) t.list) q
unfolding shared_after
stays records who s t p q r e =
    let m = turn_roomy records who s.set.capacity (length s.cells) (opened_in s t) t false r.judged in
    let n = next_stays s.set.capacity p t.list (saw_at p s) m.some m.small (ready_sound records who s t p r) in
    ready records who (shared_after p s) q t.list (stays_served records who s p (step_serves records who s t r.judged)) (going_sound s.set.capacity t.list (next_at p t.list s) q e n)
