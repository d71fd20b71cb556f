-- Of both sets: what is lent serves any live record that is in a call and opens. Assumes nothing.
use Prim.Native.Nat.{ℕ}
use mathlib.Core.Path.{◌≡◌, refl}
use mathlib.Core.Bool.{Bool, false}
use lib.Dec.{leb, eqb}
use Rattle.std.specs.Prelude.{Ok}
use Rattle.unique_index_set_enums.specs.declared.RecordNumber.{RecordNumber}
use Rattle.unique_index_set_enums.proofs.Choice.{both_false}
use Rattle.calls.specs.declared.Tests.{Tests}
use Rattle.calls.specs.Order.{tests_at_turn, verdict_of}
use Rattle.calls.proofs.Order.{AllPassed, all_accepted}
use Rattle.thread_records.specs.declared.OwnerList.{OwnerList}
use Rattle.thread_records.specs.declared.Remembered.{Remembered}
use Rattle.thread_records.specs.declared.Record.{Record}
use Rattle.thread_records.specs.Records.{live_record, not_alive, not_idle, not_calling}

-- the capacity and the buffers pass their tests (3, 4, 10), and there is a record of that number
pub record Lent (a z s : Bool) (records : ℕ) (who : RecordNumber) : Type 0 where
  pub above : a ≡ false
  pub zero : z ≡ false
  pub short : s ≡ false
  pub here : leb records who.0 ≡ false

present : (t : Record) (records : ℕ) (who : RecordNumber) → not_alive t records who ≡ false → leb records who.0 ≡ false
unfolding not_alive
present t records who e = (both_false (leb records who.0) e).0

calling_here : (t : Record) (records : ℕ) (who : RecordNumber) → not_calling t records who ≡ false → leb records who.0 ≡ false
unfolding not_calling
calling_here t records who e = present t records who (both_false (not_alive t records who) e).0

idle_here : (t : Record) (records : ℕ) (who : RecordNumber) → not_idle t records who ≡ false → leb records who.0 ≡ false
unfolding not_idle
idle_here t records who e = present t records who (both_false (not_alive t records who) e).0

-- what was lent to a step or a drain that is accepted, and to a start
pub turn_lent : (tests : Tests) (t : Record) (records : ℕ) (who : RecordNumber) → tests.record_not_ready ≡ not_calling t records who → AllPassed tests
    → Lent tests.capacity_above_limit tests.capacity_zero tests.buffer_too_short records who
turn_lent tests t records who q a = record { above = a.above; zero = a.zero; short = a.short; here = calling_here t records who (rw q at a.ready) }

pub start_lent : (tests : Tests) (t : Record) (records : ℕ) (who : RecordNumber) → tests.record_not_ready ≡ not_idle t records who → AllPassed tests
    → Lent tests.capacity_above_limit tests.capacity_zero tests.buffer_too_short records who
start_lent tests t records who q a = record { above = a.above; zero = a.zero; short = a.short; here = idle_here t records who (rw q at a.ready) }

calling : (call : Remembered) (list : OwnerList) (records : ℕ) (who : RecordNumber) → leb records who.0 ≡ false → eqb call.place 0 ≡ false
    → not_calling (live_record call list) records who ≡ false
unfolding not_calling not_alive
calling call list records who h b = simp (h, b)

-- the next step of a live record in a call that opens is accepted
pub lent_accepted : (above zero short damaged : Bool) (call : Remembered) (list : OwnerList) (records : ℕ) (who : RecordNumber) → Lent above zero short records who
    → eqb call.place 0 ≡ false → damaged ≡ false → verdict_of (tests_at_turn above zero short (not_calling (live_record call list) records who) damaged false) ≡ Ok tt
lent_accepted above zero short damaged call list records who l b d =
    all_accepted _ (record {
      above = l.above;
      zero = l.zero;
      short = l.short;
      ready = calling call list records who l.here b;
      damaged = d;
      known = refl;
      owner = refl;
      range = refl;
      held = refl;
    })
