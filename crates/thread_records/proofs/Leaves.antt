-- Of both sets: what is not refused leaves a record that opens again, or, answered, the idle record. Assumes nothing.
use Prim.Native.Nat.{ℕ}
use mathlib.Core.Path.{◌≡◌, refl}
use native.Mathlib.Omega.{arith}
use Rattle.std.specs.Prelude.{Result, Ok, Err}
use Rattle.calls.specs.declared.Answer.{Answer}
use Rattle.calls.specs.declared.Refusal.{Refusal}
use Rattle.calls.specs.declared.Progress.TheVariants.{Accepted, Answered}
use Rattle.thread_records.specs.declared.OwnerList.{OwnerList}
use Rattle.thread_records.specs.declared.Record.{Record}
use Rattle.thread_records.specs.Records.{idle_record}
use Rattle.thread_records.specs.Effects.{Effect, judged}

-- where Opens says that a record opens, and `after` what an answer leaves of the list
pub record Leaves {S : Type 0} (Opens : S → Record → Type 0) (after : Answer → OwnerList → OwnerList) (t : Record) (e : Effect S) : Type 0 where
  pub opens : e.report.progress ≡ Accepted → Opens e.shared e.thread
  pub idle : (a : Answer) → e.report.progress ≡ Answered a → e.thread ≡ idle_record (after a t.list)

pub same_answer : (a b : Answer) → Answered a ≡ Answered b → a ≡ b
same_answer a b e = cc

module _ {S : Type 0} (Opens : S → Record → Type 0) (after : Answer → OwnerList → OwnerList) (t : Record) where
  pub going_leaves : (e : Effect S) → e.report.progress ≡ Accepted → Opens e.shared e.thread → Leaves Opens after t e
  going_leaves e p o = record { opens = λ _. o; idle = λ a q. (let z : Accepted ≡ Answered a = rw p at q in cc) }

  pub answered_leaves : (e : Effect S) (a : Answer) → e.report.progress ≡ Answered a → e.thread ≡ idle_record (after a t.list) → Leaves Opens after t e
  answered_leaves e a p i = record {
    opens = λ q. (let z : Answered a ≡ Accepted = rw p at q in let y : ◌≡◌ {A = ℕ} 0 1 = cc in absurd (omega arith));
    idle = λ b q. (let z : Answered a ≡ Answered b = rw p at q in rw (← same_answer a b z) i);
  }

  pub judged_leaves : (v : Result (Unit {0}) Refusal) (s : S) (e : Effect S) → (v ≡ Ok tt → Leaves Opens after t e) → Leaves Opens after t (judged v s t e)
  judged_leaves (Err why) s e f = record { opens = λ q. (let y : ◌≡◌ {A = ℕ} 0 1 = cc in absurd (omega arith)); idle = λ a q. cc }
  judged_leaves (Ok u) s e f = f refl
