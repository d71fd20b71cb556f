-- What an accepted setup, start or step may go by. Assumes nothing.
use Rattle.std.proofs.Common.{◌≡◌, ℕ, ◌≤◌, ◌<◌, ◌^◌, Bool, false, ltb, eqb, arith, ltb-false, Option, Ok}
use Rattle.std.proofs.lemmas.Bool.{eqb-false}
use Rattle.std.specs.Prelude.{IsSome}
use Rattle.unique_index_set_enums.specs.declared.RecordNumber.{RecordNumber}
use Rattle.unique_index_set_enums.specs.Limits.{robust_capacity_limit, records_limit}
use Rattle.unique_index_set_enums.proofs.Choice.{both_false, not_none}
use Rattle.calls.specs.Order.{tests_at_setup, tests_at_turn}
use Rattle.calls.proofs.Order.{AllPassed, accepted}
use Rattle.thread_records.specs.declared.Record.{Record}
use Rattle.thread_records.specs.Records.{not_calling}
use Rattle.robust_places.specs.declared.Place.{Place}
use Rattle.robust_calls.specs.declared.asks.Asked.{Asked}
use Rattle.robust_unique_index_set.specs.Steps.{too_short, is_damaged, turn_verdict}
use Rattle.robust_unique_index_set.specs.Starts.{start_tests, start_verdict}
use Rattle.robust_unique_index_set.specs.Setups.{too_large, setup_verdict}

-- cells that are enough for a capacity within the limit
pub record Roomy (capacity n : ℕ) : Type 0 where
  pub some : 0 < capacity
  pub small : capacity < 2 ^ 32
  pub cells : capacity ≤ n

pub roomy : (records capacity cells : ℕ) → ltb robust_capacity_limit capacity ≡ false → eqb capacity 0 ≡ false → too_short records capacity cells ≡ false → Roomy capacity cells
unfolding too_short
roomy records capacity cells a z e =
    let n = eqb-false capacity 0 z in
    record {
      some = omega arith;
      small = omega (arith, ltb-false robust_capacity_limit capacity a);
      cells = ltb-false cells capacity (both_false (ltb records_limit records) e).1;
    }

-- the tests of an accepted step or drain, all passed
pub turn_passed : (records : ℕ) (who : RecordNumber) (capacity cells : ℕ) (opened : Option Place) (t : Record) (unknown : Bool)
    → turn_verdict records who capacity cells opened t unknown ≡ Ok tt
    → AllPassed (tests_at_turn (ltb robust_capacity_limit capacity) (eqb capacity 0) (too_short records capacity cells) (not_calling t records who) (is_damaged opened) unknown)
unfolding turn_verdict
turn_passed records who capacity cells opened t unknown e = accepted _ e

pub turn_roomy : (records : ℕ) (who : RecordNumber) (capacity cells : ℕ) (opened : Option Place) (t : Record) (unknown : Bool)
    → turn_verdict records who capacity cells opened t unknown ≡ Ok tt → Roomy capacity cells
turn_roomy records who capacity cells opened t unknown e =
    let a = turn_passed records who capacity cells opened t unknown e in
    roomy records capacity cells a.above a.zero a.short

pub setup_roomy : (records capacity cells : ℕ) → setup_verdict records capacity cells ≡ Ok tt → capacity ≤ cells
unfolding setup_verdict too_large
setup_roomy records capacity cells e =
    let a = accepted (tests_at_setup (too_large capacity cells) (eqb capacity 0) (ltb records_limit records)) e in
    ltb-false cells capacity (both_false (ltb robust_capacity_limit capacity) a.above).1

-- an accepted step opens at a place
pub step_opens : (records : ℕ) (who : RecordNumber) (capacity cells : ℕ) (opened : Option Place) (t : Record)
    → turn_verdict records who capacity cells opened t false ≡ Ok tt → IsSome opened
step_opens records who capacity cells opened t e = not_none opened (turn_passed records who capacity cells opened t false e).damaged

-- what an accepted start asks is known
pub start_known : (records : ℕ) (who : RecordNumber) (capacity cells : ℕ) (asked : Option Asked) (t : Record) (damaged : Bool)
    → start_verdict records who capacity cells asked t damaged ≡ Ok tt → IsSome asked
unfolding start_verdict
start_known records who capacity cells asked t damaged e = not_none asked (accepted (start_tests records who capacity cells asked t damaged) e).known
