-- A turn: one operation for one record, whatever the set. `Run` has what it leaves and how many steps were taken.
use Rattle.std.specs.Prelude.{ℕ}
use Rattle.calls.specs.declared.Progress.{Progress}
use Rattle.calls.specs.declared.Progress.TheVariants.{Accepted, Answered, Refused}
use Rattle.calls.specs.Runs.{Run}
use Rattle.thread_records.specs.Effects.{Effect}

-- a step that is not refused counts, the answering one too
abbrev pub steps_in : Progress → ℕ
steps_in Accepted = 1
steps_in (Answered a) = 1
steps_in (Refused why) = 0

-- what takes no step
abbrev pub aside : {S : Type 0} → Effect S → Run (Effect S)
aside e = record { left = e; steps = 0 }

abbrev pub stepping : {S : Type 0} → Effect S → Run (Effect S)
stepping e = record { left = e; steps = steps_in e.report.progress }
