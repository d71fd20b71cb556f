-- A drain, whatever its set: one record run alone with a budget, refused as its verdict says at any budget, each of its steps a step.
use Rattle.std.specs.Prelude.{ℕ, Bool, Result, Ok, Err}
use Rattle.calls.specs.declared.Refusal.{Refusal}
use Rattle.calls.specs.Reports.{accepted_report, goes_on}
use Rattle.calls.specs.Runs.{Run, run_from}
use Rattle.thread_records.specs.declared.Record.{Record}
use Rattle.thread_records.specs.Effects.{Effect, unchanged}

abbrev pub going : {S : Type 0} → Effect S → Bool
going e = goes_on e.report.progress

abbrev pub begun : {S : Type 0} → S → Record → Effect S
begun s t = record { shared = s; thread = t; report = accepted_report }

abbrev pub drained : {S : Type 0} → Result (Unit {0}) Refusal → (Effect S → Effect S) → ℕ → S → Record → Run (Effect S)
drained (Err why) step budget s t = record { left = unchanged s t why; steps = 0 }
drained (Ok u) step budget s t = run_from step going budget 0 (begun s t)
