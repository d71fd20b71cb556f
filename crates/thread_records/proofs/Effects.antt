-- Of both sets: what is refused changes nothing. Assumes nothing.
use Prim.Native.Nat.{ℕ}
use mathlib.Core.Path.{◌≡◌, refl}
use mathlib.Core.Bool.{Bool, true, false}
use native.Mathlib.Omega.{arith}
use Rattle.std.specs.Prelude.{Result, Ok, Err}
use Rattle.calls.specs.declared.Refusal.{Refusal}
use Rattle.calls.specs.declared.Progress.{Progress}
use Rattle.calls.specs.declared.Progress.TheVariants.{Accepted, Answered, Refused}
use Rattle.thread_records.specs.declared.Record.{Record}
use Rattle.thread_records.specs.Effects.{Effect, unchanged, judged}

-- an effect that is a refusal has changed nothing
pub record Unchanged {S : Type 0} (s : S) (t : Record) (e : Effect S) : Type 0 where
  pub shared : e.shared ≡ s
  pub thread : e.thread ≡ t

abbrev pub Harmless : {S : Type 0} → S → Record → Effect S → Type 0
Harmless s t e = (why : Refusal) → e.report.progress ≡ Refused why → Unchanged s t e

pub unchanged_harmless : {S : Type 0} (s : S) (t : Record) (why : Refusal) → Harmless s t (unchanged s t why)
unchanged_harmless s t why why' e = record { shared = refl; thread = refl }

-- what is accepted or answered is no refusal
abbrev pub taken : Progress → Bool
taken Accepted = true
taken (Answered a) = true
taken (Refused why) = false

pub taken_harmless : {S : Type 0} (s : S) (t : Record) (e : Effect S) → taken e.report.progress ≡ true → Harmless s t e
taken_harmless s t e p why q =
    let z : taken (Refused why) ≡ true = rw q at p in
    let y : ◌≡◌ {A = ℕ} 0 1 = cc in
    absurd (omega arith)

pub judged_harmless : {S : Type 0} (v : Result (Unit {0}) Refusal) (s : S) (t : Record) (e : Effect S) → Harmless s t e → Harmless s t (judged v s t e)
judged_harmless (Err why) s t e h = unchanged_harmless s t why
judged_harmless (Ok u) s t e h = h
