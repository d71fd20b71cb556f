-- Of both sets: a drain whose steps stay accepted is refused by its verdict alone, and then changes nothing and takes no step.
-- Assumes nothing.
use Prim.Native.Nat.{ℕ, zero, suc, ◌+◌}
use mathlib.Core.Path.{◌≡◌, refl, sym}
use mathlib.Core.Bool.{true}
use mathlib.Core.List.{List}
use Rattle.std.specs.Prelude.{Result, Ok, Err}
use Rattle.std.proofs.lemmas.Bool.{cond_both}
use Rattle.calls.specs.declared.Answer.{Answer}
use Rattle.calls.specs.declared.Refusal.{Refusal}
use Rattle.calls.specs.declared.Progress.{Progress}
use Rattle.calls.specs.declared.Progress.TheVariants as progress
use Rattle.calls.specs.declared.Tests.{Tests}
use Rattle.calls.specs.Order.{verdict_of}
use Rattle.calls.specs.Reports.{goes_on}
use Rattle.calls.specs.Runs.{Run, run_from}
use Rattle.calls.proofs.Order.{refused_failed}
use Rattle.thread_records.specs.declared.OwnerList.{OwnerList}
use Rattle.thread_records.specs.declared.Record.{Record}
use Rattle.thread_records.specs.Effects.{Effect}
use Rattle.thread_records.specs.Drains.{going, begun, drained}
use Rattle.thread_records.proofs.Effects.{Harmless, taken, taken_harmless, unchanged_harmless}
use Rattle.thread_records.proofs.Leaves.{Leaves}
use Rattle.thread_records.proofs.Numbers.{RefusedAmong, FailedAmong, unchanged-among, taken_among}

-- a step from what is ready is taken, and where the call goes on it is ready again
pub record Keeps {S : Type 0} (step : Effect S → Effect S) (Ready : Effect S → Type 0) : Type 0 where
  pub takes : (e : Effect S) → Ready e → taken (step e).report.progress ≡ true
  pub stays : (e : Effect S) → Ready e → going (step e) ≡ true → Ready (step e)

-- a refused drain changes nothing and takes no step
pub record DrainHarmless {S : Type 0} (s : S) (t : Record) (u : Run (Effect S)) : Type 0 where
  pub harmless : Harmless s t u.left
  pub none : (why : Refusal) → u.left.report.progress ≡ progress.Refused why → u.steps ≡ 0

module _ {S : Type 0} (step : Effect S → Effect S) (Ready : Effect S → Type 0) (k : Keeps step Ready) where
  -- no step of a run from what is ready is refused
  pub run_taken : (b n : ℕ) (e : Effect S) → Ready e → taken e.report.progress ≡ true → taken (run_from step going b n e).left.report.progress ≡ true
  unfolding run_from
  run_taken zero n e r h = h
  run_taken (suc b) n e r h =
      cond_both (going (step e)) (run_from step going b (n + 1) (step e)) (record { left = step e; steps = n + 1 }) (λ u. taken u.left.report.progress ≡ true)
      (λ g. run_taken b (n + 1) (step e) (k.stays e r g) (k.takes e r)) (λ _. k.takes e r)

  module _ (b : ℕ) (s : S) (t : Record) where
    pub drain_harmless : (v : Result (Unit {0}) Refusal) → (v ≡ Ok tt → Ready (begun s t)) → DrainHarmless s t (drained v step b s t)
    drain_harmless (Err why) f = record { harmless = unchanged_harmless s t why; none = λ w q. refl }
    drain_harmless (Ok u) f =
        let h = run_taken b 0 (begun s t) (f refl) refl in
        record { harmless = taken_harmless s t _ h; none = λ why q. (let z : taken (progress.Refused why) ≡ true = rw q at h in cc) }

    pub drain_among : (ns : List ℕ) (tests : Tests) (v : Result (Unit {0}) Refusal) → v ≡ verdict_of tests → FailedAmong ns tests → (v ≡ Ok tt → Ready (begun s t))
        → RefusedAmong ns (drained v step b s t).left
    drain_among ns tests (Err why) q f g = unchanged-among ns s t why (f why (refused_failed tests why (sym q)))
    drain_among ns tests (Ok u) q f g = taken_among ns (run_from step going b 0 (begun s t)).left (run_taken b 0 (begun s t) (g refl) refl)

accepted_goes : (p : Progress) → goes_on p ≡ true → p ≡ progress.Accepted
accepted_goes progress.Accepted e = refl
accepted_goes (progress.Answered a) e = cc
accepted_goes (progress.Refused why) e = cc

-- a set's steps keep records ready where what goes on is accepted again and what is accepted is taken
pub keeps : {S : Type 0} (judge : S → Record → Result (Unit {0}) Refusal) (step : S → Record → Effect S) (after : Answer → OwnerList → OwnerList)
    → ((s : S) (t : Record) → Leaves (λ s t. judge s t ≡ Ok tt) after t (step s t))
    → ((s : S) (t : Record) → judge s t ≡ Ok tt → taken (step s t).report.progress ≡ true)
    → Keeps (λ e. step e.shared e.thread) (λ e. judge e.shared e.thread ≡ Ok tt)
keeps judge step after l k = record {
  takes = λ e r. k e.shared e.thread r;
  stays = λ e r g. (l e.shared e.thread).opens (accepted_goes (step e.shared e.thread).report.progress g);
}
