-- One record run alone: an acquire ends within 5 further steps from any place, a release within 4, the two looks within 1. Assumes
-- nothing.
use Rattle.std.proofs.Common.{◌≡◌, ℕ, zero, suc, ◌+◌, ◌≤◌, Bool, false, cond, eqb, sym, refl, subst, le_trans, arith, lit≤}
use Rattle.std.specs.Prelude.{Ok}
use Rattle.std.specs.declared.ops.ControlFlow.TheVariants.{Continue}
use Rattle.unique_index_set_enums.specs.declared.RecordNumber.{RecordNumber}
use Rattle.std.proofs.lemmas.Bool.{cond_both}
use Rattle.calls.specs.Reports.{goes_on}
use Rattle.calls.specs.Runs.{Run, run_from}
use Rattle.thread_records.specs.declared.Record.{Record}
use Rattle.thread_records.specs.Effects.{Effect}
use Rattle.thread_records.specs.Drains.{going, begun}
use Rattle.plain_places.specs.declared.Place.{Place}
use Rattle.plain_places.specs.declared.Place.TheVariants.{AcquireLook, AcquireRead, AcquireExchange, AcquireWrite, ReleaseLook, ReleaseWrite, ReleaseExchange, BorrowedLook, LockedLook}
use Rattle.unique_index_set.specs.Steps.{Shared, next_at, shared_after, step_judged, step_of}
use Rattle.unique_index_set.specs.Drains.{again, drain_of}
use Rattle.unique_index_set.proofs.Stays.{Ready, further, nearer, going_sound, ready_sound}
use Rattle.unique_index_set.proofs.Refused.{after, ready_or}

either : (b : Bool) (x y : ℕ) (E : ℕ → Type 0) → E x → E y → E (cond b x y)
either b x y E p q = cond_both b x y E (λ _. p) (λ _. q)

further_some : (p : Place) (w : ℕ) → 1 ≤ further p w
further_some AcquireLook w = lit≤ tt
further_some (AcquireRead seen) w = either (eqb seen w) 3 5 (λ k. 1 ≤ k) (lit≤ tt) (lit≤ tt)
further_some (AcquireExchange seen value) w = either (eqb seen w) 2 4 (λ k. 1 ≤ k) (lit≤ tt) (lit≤ tt)
further_some (AcquireWrite i) w = lit≤ tt
further_some (ReleaseLook i m) w = lit≤ tt
further_some (ReleaseWrite i m seen) w = either (eqb seen w) 2 4 (λ k. 1 ≤ k) (lit≤ tt) (lit≤ tt)
further_some (ReleaseExchange i m seen) w = either (eqb seen w) 1 3 (λ k. 1 ≤ k) (lit≤ tt) (lit≤ tt)
further_some BorrowedLook w = lit≤ tt
further_some LockedLook w = lit≤ tt

-- the bound for each call
abbrev pub bound : Place → ℕ
bound AcquireLook = 5
bound (AcquireRead seen) = 5
bound (AcquireExchange seen value) = 5
bound (AcquireWrite i) = 5
bound (ReleaseLook i m) = 4
bound (ReleaseWrite i m seen) = 4
bound (ReleaseExchange i m seen) = 4
bound BorrowedLook = 1
bound LockedLook = 1

further-bound : (p : Place) (w : ℕ) → further p w ≤ bound p
further-bound AcquireLook w = lit≤ tt
further-bound (AcquireRead seen) w = either (eqb seen w) 3 5 (λ k. k ≤ 5) (lit≤ tt) (lit≤ tt)
further-bound (AcquireExchange seen value) w = either (eqb seen w) 2 4 (λ k. k ≤ 5) (lit≤ tt) (lit≤ tt)
further-bound (AcquireWrite i) w = lit≤ tt
further-bound (ReleaseLook i m) w = lit≤ tt
further-bound (ReleaseWrite i m seen) w = either (eqb seen w) 2 4 (λ k. k ≤ 4) (lit≤ tt) (lit≤ tt)
further-bound (ReleaseExchange i m seen) w = either (eqb seen w) 1 3 (λ k. k ≤ 4) (lit≤ tt) (lit≤ tt)
further-bound BorrowedLook w = lit≤ tt
further-bound LockedLook w = lit≤ tt

-- the run is answered, in at most k steps
pub record Over (k : ℕ) (u : Run (Effect Shared)) : Type 0 where
  pub answered : goes_on u.left.report.progress ≡ false
  pub within : u.steps ≤ k

-- one turn of a run, where its step's effect is x
abbrev turn : ℕ → RecordNumber → ℕ → ℕ → Effect Shared → Run (Effect Shared)
turn records who b n x = cond (going x) (run_from (again records who) going b (n + 1) x) (record { left = x; steps = n + 1 })

pub run_over : (records : ℕ) (who : RecordNumber) (b n : ℕ) (e : Effect Shared) (p : Place) → Ready records who e.shared e.thread p
    → further p e.shared.set.head ≤ b → Over (n + further p e.shared.set.head) (run_from (again records who) going b n e)
unfolding run_from shared_after
run_over records who zero n e p r h = let k = further_some p e.shared.set.head in absurd (omega arith)
run_over records who (suc b) n e p r h =
    let s = e.shared in
    let t = e.thread in
    let k = further p s.set.head in
    ready_or records who s t p r (Over (n + k) (turn records who b n (step_of records who s t)))
    (λ q g i z.
    let f = (going_sound _ _ _ (next_at p s) q g (nearer p s (ready_sound records who s t p r))).1 in
    let o = run_over records who b (n + 1) (after (Continue q) who p s t) q z (omega (arith, f)) in
    subst (λ x. Over (n + k) (turn records who b n x)) (sym i) (record { answered = o.answered; within = omega (arith, o.within, f) }))
    (λ a i.
    let f = further_some p s.set.head in
    subst (λ x. Over (n + k) (turn records who b n x)) (sym i) (record { answered = refl; within = omega (arith, f) }))

drain_accepted : (records : ℕ) (who : RecordNumber) (b : ℕ) (s : Shared) (t : Record) → step_judged records who s t ≡ Ok tt
    → drain_of records who b s t ≡ run_from (again records who) going b 0 (begun s t)
unfolding drain_of
drain_accepted records who b s t e = rw e refl

-- a drain that is not refused ends within its call's bound, where the budget has that many steps
pub drain_ends : (records : ℕ) (who : RecordNumber) (b : ℕ) (s : Shared) (t : Record) (p : Place) → Ready records who s t p → bound p ≤ b
    → Over (bound p) (drain_of records who b s t)
drain_ends records who b s t p r h =
    let f = further-bound p s.set.head in
    let o = run_over records who b 0 (begun s t) p r (le_trans f h) in
    subst (Over (bound p)) (sym (drain_accepted records who b s t r.judged)) (record { answered = o.answered; within = omega (arith, o.within, f) })
