-- What is reported where nothing is told beside the progress.
use Rattle.std.specs.Prelude.{Bool, true, false, None}
use Rattle.calls.specs.declared.Answer.{Answer}
use Rattle.calls.specs.declared.Refusal.{Refusal}
use Rattle.calls.specs.declared.Progress.{Progress}
use Rattle.calls.specs.declared.Progress.TheVariants.{Accepted, Answered, Refused}
use Rattle.calls.specs.declared.Report.{Report}

abbrev pub accepted_report : Report
accepted_report = record { progress = Accepted; noted = None }

abbrev pub answered_report : Answer → Report
answered_report answer = record { progress = Answered answer; noted = None }

abbrev pub refused_report : Refusal → Report
refused_report why = record { progress = Refused why; noted = None }

-- the call goes on: no answer yet
abbrev pub goes_on : Progress → Bool
goes_on Accepted = true
goes_on (Answered answer) = false
goes_on (Refused why) = false
