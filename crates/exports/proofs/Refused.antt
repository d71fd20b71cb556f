-- An exported call that comes back refused, by its number, has changed nothing. Assumes nothing.
use Prim.Native.Nat.{ℕ}
use mathlib.Core.Path.{◌≡◌, refl}
use mathlib.Core.List.{List}
use native.Mathlib.Omega.{arith}
use Rattle.unique_index_set_enums.specs.declared.RecordNumber.{RecordNumber}
use Rattle.calls.specs.declared.Progress.{Progress}
use Rattle.calls.specs.declared.Progress.TheVariants.{Accepted, Answered, Refused}
use Rattle.calls.specs.declared.Refusal.{Refusal}
use Rattle.calls.specs.declared.SetKind.TheVariants as kind
use Rattle.unique_index_set.specs.Steps as plain
use Rattle.robust_unique_index_set.specs.Steps as robust
use Rattle.turns.specs.declared.Operation.{Operation}
use Rattle.byte_docks.specs.Called.{died_in, listed_in}
use Rattle.byte_docks.specs.Plain.{plain_called, plain_readied}
use Rattle.byte_docks.specs.Robust.{robust_called, robust_readied}
use Rattle.byte_docks.proofs.Laws.{Unmoved, plain_refused, robust_refused, death_refused, list_refused}
use Rattle.byte_docks.proofs.Setups.{plain_setup_refused, robust_setup_refused}
use Rattle.exports.specs.Outcomes.{told_of, records_left}
use Rattle.exports.specs.Brought.{brought_in}

-- 2 is refused
pub refused_number : {X : Type 0} (p : Progress) → (told_of p).progress ≡ 2 → ((why : Refusal) → p ≡ Refused why → X) → X
refused_number Accepted e k = absurd (omega (arith, e))
refused_number (Answered a) e k = absurd (omega (arith, e))
refused_number (Refused why) e k = k why refl

-- of husk_plain_setup and husk_robust_setup
pub plain_setup_unmoved : (asked : ℕ) (s : plain.Shared) (bytes : List ℕ) → (told_of (plain_readied asked s bytes).report.progress).progress ≡ 2
    → Unmoved s bytes (plain_readied asked s bytes)
plain_setup_unmoved asked s bytes e = refused_number _ e (plain_setup_refused asked s bytes)

pub robust_setup_unmoved : (asked : ℕ) (s : robust.Shared) (bytes : List ℕ) → (told_of (robust_readied asked s bytes).report.progress).progress ≡ 2
    → Unmoved s bytes (robust_readied asked s bytes)
robust_setup_unmoved asked s bytes e = refused_number _ e (robust_setup_refused asked s bytes)

-- of every start, step and drain
pub plain_unmoved : (who : RecordNumber) (o : Operation) (s : plain.Shared) (bytes : List ℕ)
    → (told_of (plain_called who o s bytes).report.progress).progress ≡ 2 → Unmoved s bytes (plain_called who o s bytes)
plain_unmoved who o s bytes e = refused_number _ e (plain_refused who o s bytes)

pub robust_unmoved : (who : RecordNumber) (o : Operation) (s : robust.Shared) (bytes : List ℕ)
    → (told_of (robust_called who o s bytes).report.progress).progress ≡ 2 → Unmoved s bytes (robust_called who o s bytes)
robust_unmoved who o s bytes e = refused_number _ e (robust_refused who o s bytes)

-- of a death, and of the lists
pub death_unmoved : (who : RecordNumber) (bytes : List ℕ) → (records_left (died_in who bytes)).outcome.progress ≡ 2 → (died_in who bytes).records ≡ bytes
death_unmoved who bytes e = refused_number _ e (death_refused who bytes)

pub plain_list_unmoved : (who : RecordNumber) (owners bytes : List ℕ) → (records_left (listed_in kind.Plain who (brought_in owners) bytes)).outcome.progress ≡ 2
    → (listed_in kind.Plain who (brought_in owners) bytes).records ≡ bytes
plain_list_unmoved who owners bytes e = refused_number _ e (list_refused kind.Plain who (brought_in owners) bytes)

pub robust_list_unmoved : (who : RecordNumber) (owners bytes : List ℕ) → (records_left (listed_in kind.Robust who (brought_in owners) bytes)).outcome.progress ≡ 2
    → (listed_in kind.Robust who (brought_in owners) bytes).records ≡ bytes
robust_list_unmoved who owners bytes e = refused_number _ e (list_refused kind.Robust who (brought_in owners) bytes)
