-- What an accepted setup, start or step may go by. Assumes nothing.
use Rattle.std.proofs.Common.{◌≡◌, ℕ, ◌+◌, ◌^◌, ◌<◌, ◌≤◌, true, false, eqb, ltb, leb, List, length, refl, lt_of_lt_of_le, arith, ltb-false, lt-ltb, leb-false}
use Rattle.std.specs.Prelude.{Option, Some, None, Ok, IsSome}
use Rattle.unique_index_set_enums.specs.declared.Index.{Index}
use Rattle.unique_index_set_enums.specs.declared.RecordNumber.{RecordNumber}
use Rattle.unique_index_set_enums.specs.declared.ReleaseMode.{ReleaseMode}
use Rattle.unique_index_set_enums.specs.Limits.{plain_capacity_limit, records_limit}
use Rattle.unique_index_set_enums.proofs.Choice.{both_false, not_none}
use Rattle.calls.specs.Order.{tests_at_setup, tests_at_turn}
use Rattle.calls.proofs.Order.{AllPassed, accepted}
use Rattle.thread_records.specs.declared.Record.{Record}
use Rattle.thread_records.specs.Records.{not_calling}
use Rattle.plain_places.specs.declared.Place.{Place}
use Rattle.plain_calls.specs.declared.asks.Asked.{Asked}
use Rattle.plain_calls.specs.declared.asks.Asked.TheVariants.{Acquire, Release, BorrowedIndices, IsLocked}
use Rattle.unique_index_set.specs.Custodies.{mark_within}
use Rattle.unique_index_set.specs.Steps.{Shared, too_short, is_damaged, step_verdict}
use Rattle.plain_calls.specs.Asks.{is_out_of_range}
use Rattle.unique_index_set.specs.Starts.{start_tests, start_verdict, start_judged}
use Rattle.plain_calls.specs.Marks.{start_mark}
use Rattle.unique_index_set.specs.Setups.{too_large, setup_short, setup_verdict}

-- buffers that are long enough for a capacity within the limit
pub record Roomy (capacity m n : ℕ) : Type 0 where
  pub small : capacity + 1 < 2 ^ 24
  pub slots : capacity < m
  pub custody : capacity ≤ n

roomy : (records capacity slots custody : ℕ) → ltb plain_capacity_limit capacity ≡ false → too_short records capacity slots custody ≡ false → Roomy capacity slots custody
unfolding too_short
roomy records capacity slots custody a e =
    let f = (both_false (ltb records_limit records) e).1 in
    let g = both_false (leb slots capacity) f in
    record { small = omega (arith, ltb-false plain_capacity_limit capacity a); slots = leb-false slots capacity g.0; custody = ltb-false custody capacity g.1 }

-- the tests of an accepted step, all passed
pub step_passed : (records : ℕ) (who : RecordNumber) (capacity slots custody : ℕ) (opened : Option Place) (t : Record)
    → step_verdict records who capacity slots custody opened t ≡ Ok tt
    → AllPassed (tests_at_turn (ltb plain_capacity_limit capacity) (eqb capacity 0) (too_short records capacity slots custody) (not_calling t records who) (is_damaged opened) false)
unfolding step_verdict
step_passed records who capacity slots custody opened t e = accepted _ e

pub step_roomy : (records : ℕ) (who : RecordNumber) (capacity slots custody : ℕ) (opened : Option Place) (t : Record)
    → step_verdict records who capacity slots custody opened t ≡ Ok tt → Roomy capacity slots custody
step_roomy records who capacity slots custody opened t e =
    let a = step_passed records who capacity slots custody opened t e in
    roomy records capacity slots custody a.above a.short

pub start_roomy : (records : ℕ) (who : RecordNumber) (capacity slots : ℕ) (custody : List ℕ) (asked : Option Asked) (t : Record)
    → start_verdict records who capacity slots custody asked t ≡ Ok tt → Roomy capacity slots (length custody)
unfolding start_verdict
start_roomy records who capacity slots custody asked t e =
    let a = accepted (start_tests records who capacity slots custody asked t) e in
    roomy records capacity slots (length custody) a.above a.short

pub setup_roomy : (records capacity slots custody : ℕ) → setup_verdict records capacity slots custody ≡ Ok tt → Roomy capacity slots custody
unfolding setup_verdict too_large setup_short
setup_roomy records capacity slots custody e =
    let a = accepted (tests_at_setup (too_large capacity slots) (eqb capacity 0) (setup_short records capacity custody)) e in
    let f = both_false (ltb plain_capacity_limit capacity) a.above in
    let g = both_false (ltb records_limit records) a.short in
    record { small = omega (arith, ltb-false plain_capacity_limit capacity f.0); slots = leb-false slots capacity f.1; custody = ltb-false custody capacity g.1 }

-- an accepted step's record opens
pub step_opens : (records : ℕ) (who : RecordNumber) (capacity slots custody : ℕ) (opened : Option Place) (t : Record)
    → step_verdict records who capacity slots custody opened t ≡ Ok tt → IsSome opened
step_opens records who capacity slots custody opened t e = not_none opened (step_passed records who capacity slots custody opened t e).damaged

mark_in : (capacity n : ℕ) (who : RecordNumber) (asked : Option Asked) → is_out_of_range capacity asked ≡ false → capacity ≤ n → mark_within n (start_mark who asked) ≡ true
mark_in capacity n who None e h = refl
mark_in capacity n who (Some Acquire) e h = refl
mark_in capacity n who (Some (Release i m)) e h = lt-ltb i.0 n (lt_of_lt_of_le (leb-false capacity i.0 e) h)
mark_in capacity n who (Some BorrowedIndices) e h = refl
mark_in capacity n who (Some IsLocked) e h = refl

-- what an accepted start asks is known
pub start_known : (records : ℕ) (who : RecordNumber) (capacity slots : ℕ) (custody : List ℕ) (asked : Option Asked) (t : Record)
    → start_verdict records who capacity slots custody asked t ≡ Ok tt → IsSome asked
unfolding start_verdict
start_known records who capacity slots custody asked t e = not_none asked (accepted (start_tests records who capacity slots custody asked t) e).known

-- what a start marks is within the custody buffer
pub start_mark_within : (records : ℕ) (who : RecordNumber) (capacity slots : ℕ) (custody : List ℕ) (asked : Option Asked) (t : Record)
    → start_verdict records who capacity slots custody asked t ≡ Ok tt → mark_within (length custody) (start_mark who asked) ≡ true
unfolding start_verdict
start_mark_within records who capacity slots custody asked t e =
    let a = accepted (start_tests records who capacity slots custody asked t) e in
    mark_in capacity (length custody) who asked a.range (start_roomy records who capacity slots custody asked t e).custody

-- what a release gives back is below the capacity
pub release_in : (records : ℕ) (who : RecordNumber) (i : Index) (m : ReleaseMode) (s : Shared) (t : Record) → start_judged records who (Some (Release i m)) s t ≡ Ok tt
    → ltb i.0 s.set.capacity ≡ true
unfolding start_verdict
release_in records who i m s t e =
    let a = accepted (start_tests records who s.set.capacity (length s.slots) s.custody (Some (Release i m)) t) e in
    lt-ltb _ _ (leb-false s.set.capacity i.0 a.range)
