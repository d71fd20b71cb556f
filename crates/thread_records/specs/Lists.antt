-- The owners that a list counts, and when it is good: at most 8, u64::MAX not among them; and a list brought to a record, for its next
-- accepted recover.
use Rattle.std.specs.Prelude.{ℕ, zero, suc, Bool, true, false, cond, not, List, [], ◌∷◌, get_or, ltb, eqb}
use Rattle.unique_index_set_enums.specs.declared.OwnerId.{OwnerId}
use Rattle.unique_index_set_enums.specs.declared.RecordNumber.{RecordNumber}
use Rattle.unique_index_set_enums.specs.Kinds.{owner}
use Rattle.unique_index_set_enums.specs.Limits.{owners_limit, records_limit}
use Rattle.unique_index_set_enums.specs.Robust.{no_owner}
use Rattle.calls.specs.declared.SetKind.{SetKind}
use Rattle.calls.specs.declared.SetKind.TheVariants.{Plain, Robust}
use Rattle.calls.specs.declared.Tests.{Tests}
use Rattle.calls.specs.Order.{tests_of_record, verdict_of}
use Rattle.thread_records.specs.declared.OwnerList.{OwnerList}
use Rattle.thread_records.specs.declared.Record.{Record}
use Rattle.thread_records.specs.declared.RecordAfter.{RecordAfter}
use Rattle.thread_records.specs.Records.{not_idle}
use Rattle.thread_records.specs.Effects.{record_judged}

-- among the first n
unfoldable pub among_first : ℕ → List OwnerId → OwnerId → Bool
among_first zero owners o = false
among_first (suc n) owners o = cond (eqb (get_or owners n (owner 0)).0 o.0) true (among_first n owners o)

unfoldable pub owners_counted : ℕ → ℕ
owners_counted n = cond (ltb owners_limit n) owners_limit n

unfoldable pub listed : OwnerList → OwnerId → Bool
listed list o = among_first (owners_counted list.count) list.owners o

unfoldable pub good_list : OwnerList → Bool
good_list list = cond (ltb owners_limit list.count) false (not (listed list no_owner))

-- refusal 13 of a list: a plain set takes none, a robust set none above 8 owners
abbrev pub list_refused : SetKind → ℕ → Bool
list_refused Plain n = true
list_refused Robust n = ltb owners_limit n

-- refusals 10, 9, 13 and 5
abbrev pub list_tests : SetKind → Record → ℕ → RecordNumber → OwnerList → Tests
list_tests kind t records who brought =
    tests_of_record (ltb records_limit records) (not_idle t records who) (list_refused kind brought.count) (listed brought no_owner)

-- a list is written whole, 0 beyond its count
unfoldable pub owner_within : OwnerList → ℕ → OwnerId
owner_within list i = cond (ltb i list.count) (get_or list.owners i (owner 0)) (owner 0)

abbrev pub written_list : OwnerList → OwnerList
written_list list = record {
  count = list.count;
  owners =
      owner_within list 0
      ∷ owner_within list 1
      ∷ owner_within list 2
      ∷ owner_within list 3
      ∷ owner_within list 4
      ∷ owner_within list 5
      ∷ owner_within list 6
      ∷ owner_within list 7
      ∷ [];
}

abbrev pub with_list : Record → OwnerList → Record
with_list t list = record { dead = t.dead; call = t.call; list = list }

unfoldable pub list_of : SetKind → Record → ℕ → RecordNumber → OwnerList → RecordAfter
list_of kind t records who brought = record_judged (verdict_of (list_tests kind t records who brought)) t (with_list t (written_list brought))
