-- What a call comes back with, as numbers: its progress (0 accepted, 1 answered, 2 refused) with the paper's number and value, what it notes
-- (0 nothing, 1 found, 2 freed) with the index and the owner, and the steps taken.
use Rattle.std.specs.Prelude.{ℕ, List, Option, None, Some}
use Rattle.calls.specs.declared.Note.{Note}
use Rattle.calls.specs.declared.Note.TheVariants.{Found, Freed}
use Rattle.calls.specs.declared.Progress.{Progress}
use Rattle.calls.specs.declared.Progress.TheVariants.{Accepted, Answered, Refused}
use Rattle.calls.specs.declared.Report.{Report}
use Rattle.calls.specs.Numbers.{answer_number, answer_value, refusal_number}
use Rattle.byte_docks.specs.Called.{Called, RecordsAlone}
use Rattle.exports.specs.declared.outcomes.Outcome.{Outcome}
use Rattle.exports.specs.declared.outcomes.Told.{Told}
use Rattle.exports.specs.declared.outcomes.NotedNumbers.{NotedNumbers}

abbrev pub told_of : Progress → Told
told_of Accepted = record { progress = 0; number = 0; value = 0 }
told_of (Answered a) = record { progress = 1; number = answer_number a; value = answer_value a }
told_of (Refused why) = record { progress = 2; number = refusal_number why; value = 0 }

abbrev pub noted_of : Option Note → NotedNumbers
noted_of None = record { noted = 0; index = 0; owner = 0 }
noted_of (Some (Found i)) = record { noted = 1; index = i.0; owner = 0 }
noted_of (Some (Freed i o)) = record { noted = 2; index = i.0; owner = o.0 }

abbrev pub outcome_of : Report → ℕ → Outcome
outcome_of r steps = record {
  noted_owner = (noted_of r.noted).owner;
  progress = (told_of r.progress).progress;
  number = (told_of r.progress).number;
  value = (told_of r.progress).value;
  noted = (noted_of r.noted).noted;
  noted_index = (noted_of r.noted).index;
  steps = steps;
}

-- what is left where the records alone are lent
pub record RecordsLeft : Type 0 where
  pub outcome : Outcome
  pub records : List ℕ

abbrev pub records_left : RecordsAlone → RecordsLeft
records_left n = record { outcome = outcome_of n.report 0; records = n.records }

-- what a call leaves, its outcome put beside what is lent as `with` says
abbrev pub with_outcome : {S A : Type 0} → (Outcome → Called S → A) → Called S → A
with_outcome with c = with (outcome_of c.report c.steps) c
