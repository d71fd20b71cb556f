-- Any two results that a contract of an exported call allows are the same. Assumes nothing.
use Prim.Native.Nat.{ℕ}
use mathlib.Core.Path.{◌≡◌, refl}
use mathlib.Core.List.{List}
use Rattle.thread_records.proofs.Determined.{determined}
use Rattle.exports.specs.declared.outcomes.Outcome.{Outcome}
use Rattle.exports.specs.Outcomes.{RecordsLeft}
use Rattle.exports.specs.Plain.{PlainReady, PlainStarted, PlainStepped}
use Rattle.exports.specs.Robust.{RobustReady, RobustStarted, RobustStepped}

-- of husk_death, husk_plain_list and husk_robust_list
abbrev records_lent : Outcome × List ℕ → RecordsLeft
records_lent x = record { outcome = x.0; records = x.1 }

pub records_determined : (e : RecordsLeft) (x y : Outcome × List ℕ) → records_lent x ≡ e → records_lent y ≡ e → x ≡ y
records_determined = determined records_lent (λ e. (e.outcome, e.records)) (λ x. refl)

-- of husk_plain_setup, husk_plain_start, and of husk_plain_step and husk_plain_drain
abbrev plain_ready_lent : Outcome × ℕ × ℕ × List ℕ × List ℕ × List ℕ → PlainReady
plain_ready_lent x = record { outcome = x.0; capacity = x.1; head = x.2; records = x.3; slots = x.4; custody = x.5 }

pub plain_ready_determined : (e : PlainReady) (x y : Outcome × ℕ × ℕ × List ℕ × List ℕ × List ℕ) → plain_ready_lent x ≡ e → plain_ready_lent y ≡ e → x ≡ y
plain_ready_determined =
    determined plain_ready_lent (λ e. (e.outcome, e.capacity, e.head, e.records, e.slots, e.custody)) (λ x. refl)

abbrev plain_started_lent : Outcome × List ℕ × List ℕ × List ℕ → PlainStarted
plain_started_lent x = record { outcome = x.0; records = x.1; slots = x.2; custody = x.3 }

pub plain_started_determined : (e : PlainStarted) (x y : Outcome × List ℕ × List ℕ × List ℕ) → plain_started_lent x ≡ e → plain_started_lent y ≡ e → x ≡ y
plain_started_determined = determined plain_started_lent (λ e. (e.outcome, e.records, e.slots, e.custody)) (λ x. refl)

abbrev plain_stepped_lent : Outcome × ℕ × List ℕ × List ℕ × List ℕ → PlainStepped
plain_stepped_lent x = record { outcome = x.0; head = x.1; records = x.2; slots = x.3; custody = x.4 }

pub plain_stepped_determined : (e : PlainStepped) (x y : Outcome × ℕ × List ℕ × List ℕ × List ℕ) → plain_stepped_lent x ≡ e → plain_stepped_lent y ≡ e → x ≡ y
plain_stepped_determined = determined plain_stepped_lent (λ e. (e.outcome, e.head, e.records, e.slots, e.custody)) (λ x. refl)

-- and of the robust set's
abbrev robust_ready_lent : Outcome × ℕ × ℕ × List ℕ × List ℕ → RobustReady
robust_ready_lent x = record { outcome = x.0; capacity = x.1; generation = x.2; records = x.3; cells = x.4 }

pub robust_ready_determined : (e : RobustReady) (x y : Outcome × ℕ × ℕ × List ℕ × List ℕ) → robust_ready_lent x ≡ e → robust_ready_lent y ≡ e → x ≡ y
robust_ready_determined = determined robust_ready_lent (λ e. (e.outcome, e.capacity, e.generation, e.records, e.cells)) (λ x. refl)

abbrev robust_started_lent : Outcome × List ℕ × List ℕ → RobustStarted
robust_started_lent x = record { outcome = x.0; records = x.1; cells = x.2 }

pub robust_started_determined : (e : RobustStarted) (x y : Outcome × List ℕ × List ℕ) → robust_started_lent x ≡ e → robust_started_lent y ≡ e → x ≡ y
robust_started_determined = determined robust_started_lent (λ e. (e.outcome, e.records, e.cells)) (λ x. refl)

abbrev robust_stepped_lent : Outcome × ℕ × List ℕ × List ℕ → RobustStepped
robust_stepped_lent x = record { outcome = x.0; generation = x.1; records = x.2; cells = x.3 }

pub robust_stepped_determined : (e : RobustStepped) (x y : Outcome × ℕ × List ℕ × List ℕ) → robust_stepped_lent x ≡ e → robust_stepped_lent y ≡ e → x ≡ y
robust_stepped_determined = determined robust_stepped_lent (λ e. (e.outcome, e.generation, e.records, e.cells)) (λ x. refl)
