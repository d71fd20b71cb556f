-- A death and a list, beside whatever the records share: refused, they change nothing, and their numbers. Assumes nothing.
use Prim.Native.Nat.{ℕ}
use mathlib.Core.Path.{◌≡◌, refl, subst}
use mathlib.Core.List.{List}
use lib.Dec.{ltb}
use Rattle.std.specs.Prelude.{Result, Ok, Err}
use Rattle.unique_index_set_enums.specs.declared.RecordNumber.{RecordNumber}
use Rattle.unique_index_set_enums.specs.Limits.{records_limit}
use Rattle.unique_index_set_enums.specs.Robust.{no_owner}
use Rattle.calls.specs.declared.Refusal.{Refusal}
use Rattle.calls.specs.declared.SetKind.{SetKind}
use Rattle.calls.specs.declared.Tests.{Tests}
use Rattle.calls.specs.Order.{verdict_of}
use Rattle.thread_records.specs.declared.OwnerList.{OwnerList}
use Rattle.thread_records.specs.declared.Record.{Record}
use Rattle.thread_records.specs.Records.{marked_dead, not_alive, not_idle}
use Rattle.thread_records.specs.Effects.{judged, record_judged, beside}
use Rattle.thread_records.specs.Deaths.{death_tests, death_of}
use Rattle.thread_records.specs.Lists.{listed, list_refused, list_tests, with_list, written_list, list_of}
use Rattle.thread_records.proofs.Effects.{Harmless, judged_harmless, taken_harmless}
use Rattle.thread_records.proofs.Numbers.{RefusedAmong, FailedAmong, judged_among, taken_among, death_numbers, death_failed, list_numbers, list_failed}

from_judged : {S : Type 0} (v : Result (Unit {0}) Refusal) (s : S) (t after : Record) → judged v s t (beside s (record_judged (Ok tt) t after)) ≡ beside s (record_judged v t after)
from_judged (Err why) s t after = refl
from_judged (Ok u) s t after = refl

harmless : {S : Type 0} (v : Result (Unit {0}) Refusal) (s : S) (t after : Record) → Harmless s t (beside s (record_judged v t after))
harmless v s t after = subst (Harmless s t) (from_judged v s t after) (judged_harmless v s t _ (taken_harmless s t (beside s (record_judged (Ok tt) t after)) refl))

numbers : {S : Type 0} (ns : List ℕ) (tests : Tests) (s : S) (t after : Record) → FailedAmong ns tests → RefusedAmong ns (beside s (record_judged (verdict_of tests) t after))
numbers ns tests s t after f =
    let v = verdict_of tests in
    subst (RefusedAmong ns) (from_judged v s t after) (judged_among ns v tests s t _ refl f (taken_among ns (beside s (record_judged (Ok tt) t after)) refl))

pub death_harmless : {S : Type 0} (s : S) (t : Record) (records : ℕ) (who : RecordNumber) → Harmless s t (beside s (death_of t records who))
unfolding death_of
death_harmless s t records who = harmless (verdict_of (death_tests t records who)) s t (marked_dead t)

pub death_numbers_lem : {S : Type 0} (s : S) (t : Record) (records : ℕ) (who : RecordNumber) → RefusedAmong death_numbers (beside s (death_of t records who))
unfolding death_of
death_numbers_lem s t records who = numbers death_numbers (death_tests t records who) s t (marked_dead t) (death_failed (ltb records_limit records) (not_alive t records who))

pub list_harmless : {S : Type 0} (s : S) (kind : SetKind) (t : Record) (records : ℕ) (who : RecordNumber) (brought : OwnerList) → Harmless s t (beside s (list_of kind t records who brought))
unfolding list_of
list_harmless s kind t records who brought = harmless (verdict_of (list_tests kind t records who brought)) s t (with_list t (written_list brought))

pub list_numbers_lem : {S : Type 0} (s : S) (kind : SetKind) (t : Record) (records : ℕ) (who : RecordNumber) (brought : OwnerList)
    → RefusedAmong list_numbers (beside s (list_of kind t records who brought))
unfolding list_of
list_numbers_lem s kind t records who brought =
    numbers list_numbers (list_tests kind t records who brought) s t (with_list t (written_list brought))
    (list_failed (ltb records_limit records) (not_idle t records who) (list_refused kind brought.count) (listed brought no_owner))
