-- A step that is accepted is the advance from the place at which its record opens, and leaves a record that is idle or opens again:
-- at a sound place that takes fewer further steps, where the record is alone. Assumes nothing.
use Rattle.std.proofs.Common.{◌≡◌, ℕ, ◌<◌, Bool, true, false, cond, eqb, ltb, leb, List, length, refl, lit<, length-set, lt-ltb, eq-eqb, leb-false}
use Rattle.std.specs.Prelude.{Option, Some, None, Ok}
use Rattle.std.specs.declared.ops.ControlFlow.{ControlFlow}
use Rattle.std.specs.declared.ops.ControlFlow.TheVariants.{Continue, Break}
use Rattle.unique_index_set_enums.specs.declared.Index.{Index}
use Rattle.unique_index_set_enums.specs.declared.RecordNumber.{RecordNumber}
use Rattle.unique_index_set_enums.specs.declared.ReleaseMode.{ReleaseMode}
use Rattle.unique_index_set_enums.specs.Kinds.{index}
use Rattle.unique_index_set_enums.specs.Limits.{lock_acquire, plain_capacity_limit}
use Rattle.std.proofs.lemmas.Bool.{cond_both}
use Rattle.unique_index_set_enums.proofs.Choice.{both_true}
use Rattle.calls.specs.declared.Answer.{Answer}
use Rattle.calls.proofs.Order.{accepted}
use Rattle.thread_records.specs.declared.OwnerList.{OwnerList}
use Rattle.thread_records.specs.declared.Record.{Record}
use Rattle.thread_records.specs.Records.{live_record}
use Rattle.thread_records.proofs.Lent.{Lent, turn_lent, start_lent, lent_accepted}
use Rattle.head_details.specs.Word.{head_of, borrowed_of}
use Rattle.plain_places.specs.declared.Place.{Place}
use Rattle.plain_places.specs.declared.Place.TheVariants.{AcquireLook, AcquireRead, AcquireExchange, AcquireWrite, ReleaseLook, ReleaseWrite, ReleaseExchange, BorrowedLook, LockedLook}
use Rattle.plain_places.specs.Places.{may_acquire, may_release, sound, closed_at}
use Rattle.plain_places.proofs.Laws.{opened_closed, opened_sound}
use Rattle.unique_index_set.specs.declared.accesses.Access.{Access}
use Rattle.unique_index_set.specs.declared.accesses.Access.TheVariants.{Look, Exchange, Read, Write}
use Rattle.plain_calls.specs.declared.marks.Mark.{Mark}
use Rattle.unique_index_set.specs.Accesses.{access_at, word_after, slots_after}
use Rattle.plain_calls.specs.Resumes.{acquire_looked, release_looked}
use Rattle.unique_index_set.specs.Custodies.{marked}
use Rattle.unique_index_set.specs.Steps.{Shared, shared, next_at, shared_after, advanced, too_short, is_damaged, step_verdict, opened_in, step_judged, step_of}
use Rattle.plain_calls.specs.declared.asks.Asked.{Asked}
use Rattle.unique_index_set.specs.Starts.{start_tests, start_verdict, start_judged}
use Rattle.unique_index_set.proofs.Sound.{may_acquire_head}
use Rattle.unique_index_set.proofs.Accepted.{step_passed}

-- how many steps more a record alone takes at most, from a place, where the head word is w
abbrev pub further : Place → ℕ → ℕ
further AcquireLook w = 4
further (AcquireRead seen) w = cond (eqb seen w) 3 5
further (AcquireExchange seen value) w = cond (eqb seen w) 2 4
further (AcquireWrite i) w = 1
further (ReleaseLook i m) w = 3
further (ReleaseWrite i m seen) w = cond (eqb seen w) 2 4
further (ReleaseExchange i m seen) w = cond (eqb seen w) 1 3
further BorrowedLook w = 1
further LockedLook w = 1

-- the call is over, or goes on at a sound place from which it takes fewer than k steps
abbrev pub Nearer : ℕ → ℕ → ℕ → ControlFlow Answer Place → Type 0
Nearer capacity k w (Break a) = Unit {0}
Nearer capacity k w (Continue p) = (sound capacity p ≡ true) × (further p w < k)

acquire_looked_lem : (capacity w k : ℕ) → 3 < k → Nearer capacity k w (acquire_looked capacity w)
unfolding acquire_looked may_acquire
acquire_looked_lem capacity w k h =
    cond_both (leb capacity (head_of w)) _ _ (Nearer capacity k w) (λ t. tt) (λ f.
    cond_both (eqb (borrowed_of w) lock_acquire) _ _ (Nearer capacity k w) (λ t. tt) (λ g.
    (simp (lt-ltb _ _ (leb-false capacity (head_of w) f), g), rw (eq-eqb w w refl) h)))

release_looked_lem : (capacity w k : ℕ) (i : Index) (m : ReleaseMode) → ltb i.0 capacity ≡ true → 2 < k → Nearer capacity k w (release_looked i m w)
unfolding release_looked
release_looked_lem capacity w k i m l h =
    cond_both (may_release w) _ _ (Nearer capacity k w) (λ t. (simp (l, t), rw (eq-eqb w w refl) h)) (λ f. tt)

-- an exchange: won, or a look at the word found
acquire_exchanged : (capacity w new head : ℕ) (b : Bool) → head < capacity
    → Nearer capacity (cond b 2 4) (cond b new w) (cond b (Continue (AcquireWrite (index head))) (acquire_looked capacity w))
acquire_exchanged capacity w new head true l = (lt-ltb head capacity l, lit< tt)
acquire_exchanged capacity w new head false l = acquire_looked_lem capacity w 4 (lit< tt)

release_exchanged : (capacity w new : ℕ) (a : Answer) (i : Index) (m : ReleaseMode) (b : Bool) → ltb i.0 capacity ≡ true
    → Nearer capacity (cond b 1 3) (cond b new w) (cond b (Break a) (release_looked i m w))
release_exchanged capacity w new a i m true l = tt
release_exchanged capacity w new a i m false l = release_looked_lem capacity w 3 i m l (lit< tt)

falls : (b : Bool) (x y x' y' : ℕ) → x < x' → y < y' → cond b x y < cond b x' y'
falls true x y x' y' p q = p
falls false x y x' y' p q = q

-- a step from a sound place
pub nearer : (p : Place) (s : Shared) → sound s.set.capacity p ≡ true
    → Nearer s.set.capacity (further p s.set.head) (word_after s.set.head (access_at s.set.capacity p)) (next_at p s)
nearer AcquireLook s e = acquire_looked_lem s.set.capacity s.set.head 4 (lit< tt)
nearer (AcquireRead seen) s e = (e, falls (eqb seen s.set.head) 2 4 3 5 (lit< tt) (lit< tt))
nearer (AcquireExchange seen value) s e = acquire_exchanged s.set.capacity s.set.head _ (head_of seen) (eqb seen s.set.head) (may_acquire_head _ seen e)
nearer (AcquireWrite i) s e = tt
nearer (ReleaseLook i m) s e = release_looked_lem s.set.capacity s.set.head 3 i m e (lit< tt)
nearer (ReleaseWrite i m seen) s e = (e, falls (eqb seen s.set.head) 1 3 2 4 (lit< tt) (lit< tt))
nearer (ReleaseExchange i m seen) s e = release_exchanged s.set.capacity s.set.head _ _ i m (eqb seen s.set.head) (both_true (ltb i.0 s.set.capacity) e).0
nearer BorrowedLook s e = tt
nearer LockedLook s e = tt

-- the record's step is accepted, and its call opens at a place
pub record Ready (records : ℕ) (who : RecordNumber) (s : Shared) (t : Record) (p : Place) : Type 0 where
  pub judged : step_judged records who s t ≡ Ok tt
  pub opened : opened_in s t ≡ Some p

pub stepped : (records : ℕ) (who : RecordNumber) (s : Shared) (t : Record) (p : Place) → Ready records who s t p → step_of records who s t ≡ advanced who p t.list s
unfolding step_of
stepped records who s t p r = rw r.judged (rw r.opened refl)

pub ready_sound : (records : ℕ) (who : RecordNumber) (s : Shared) (t : Record) (p : Place) → Ready records who s t p → sound s.set.capacity p ≡ true
ready_sound records who s t p r = opened_sound s.set.capacity t.call p r.opened

opened_or : (o : Option Place) → is_damaged o ≡ false → (E : Type 0) → ((p : Place) → o ≡ Some p → E) → E
opened_or (Some p) e E f = f p refl
opened_or None e E f = f AcquireLook cc

-- what is accepted is ready at the place at which it opens
pub accepted_ready : (records : ℕ) (who : RecordNumber) (s : Shared) (t : Record) → step_judged records who s t ≡ Ok tt
    → (E : Type 0) → ((p : Place) → Ready records who s t p → E) → E
unfolding step_verdict
accepted_ready records who s t e E f =
    let a = step_passed records who s.set.capacity (length s.slots) (length s.custody) (opened_in s t) t e in
    opened_or (opened_in s t) a.damaged E (λ p q. f p (record { judged = e; opened = q }))

-- what every step keeps: the buffers' lengths
slots_length : (a : Access) (slots : List ℕ) → length (slots_after a slots) ≡ length slots
slots_length Look slots = refl
slots_length (Exchange old new) slots = refl
slots_length (Read i) slots = refl
slots_length (Write i v) slots = simp length-set

marked-length : (m : Option Mark) (custody : List ℕ) → length (marked m custody) ≡ length custody
marked-length None custody = refl
marked-length (Some m) custody = simp length-set

not_idle : (p : Place) → eqb (closed_at p).place 0 ≡ false
not_idle AcquireLook = refl
not_idle (AcquireRead seen) = refl
not_idle (AcquireExchange seen value) = refl
not_idle (AcquireWrite i) = refl
not_idle (ReleaseLook i m) = refl
not_idle (ReleaseWrite i m seen) = refl
not_idle (ReleaseExchange i m seen) = refl
not_idle BorrowedLook = refl
not_idle LockedLook = refl

-- the set and its buffers serve the record of that number
abbrev pub Serves : ℕ → RecordNumber → Shared → Type 0
Serves records who s =
    Lent (ltb plain_capacity_limit s.set.capacity) (eqb s.set.capacity 0) (too_short records s.set.capacity (length s.slots) (length s.custody)) records who

pub step_serves : (records : ℕ) (who : RecordNumber) (s : Shared) (t : Record) → step_judged records who s t ≡ Ok tt → Serves records who s
step_serves records who s t e =
    turn_lent _ t records who refl (step_passed records who s.set.capacity (length s.slots) (length s.custody) (opened_in s t) t e)

pub start_serves : (records : ℕ) (who : RecordNumber) (asked : Option Asked) (s : Shared) (t : Record) → start_judged records who asked s t ≡ Ok tt → Serves records who s
unfolding start_verdict
start_serves records who asked s t e =
    start_lent (start_tests records who s.set.capacity (length s.slots) s.custody asked t) t records who refl (accepted _ e)

-- a live record in a call that stands at a sound place is ready there
pub ready : (records : ℕ) (who : RecordNumber) (s : Shared) (p : Place) (list : OwnerList) → Serves records who s → sound s.set.capacity p ≡ true
    → Ready records who s (live_record (closed_at p) list) p
unfolding step_verdict
ready records who s p list l e =
    let o = opened_closed s.set.capacity p e in
    record { judged = lent_accepted _ _ _ _ (closed_at p) list records who l (not_idle p) (rw o refl); opened = o }

stays_served : (records : ℕ) (who : RecordNumber) (s : Shared) (p : Place) → Serves records who s → Serves records who (shared_after who p s)
unfolding shared_after
stays_served records who s p l = record { above = l.above; zero = l.zero; short = simp (slots_length, marked-length) l.short; here = l.here }

pub marked_serves : (records : ℕ) (who : RecordNumber) (s : Shared) (m : Option Mark) → Serves records who s → Serves records who (shared s.set s.slots (marked m s.custody))
marked_serves records who s m l = record { above = l.above; zero = l.zero; short = simp marked-length l.short; here = l.here }

pub going_sound : (capacity k w : ℕ) (n : ControlFlow Answer Place) (q : Place) → n ≡ Continue q → Nearer capacity k w n → (sound capacity q ≡ true) × (further q w < k)
going_sound capacity k w n q e h = rw e at h

-- a step that goes on leaves its record ready at the place it goes on to
pub stays : (records : ℕ) (who : RecordNumber) (s : Shared) (t : Record) (p q : Place) → Ready records who s t p → next_at p s ≡ Continue q
    → Ready records who (shared_after who p s) (live_record (closed_at q) t.list) q
unfolding shared_after
stays records who s t p q r e =
    let n = going_sound _ _ _ (next_at p s) q e (nearer p s (ready_sound records who s t p r)) in
    ready records who (shared_after who p s) q t.list (stays_served records who s p (step_serves records who s t r.judged)) n.0
