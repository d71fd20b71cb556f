-- A setup that is accepted leaves a scene whose lent records stand among the 16 that it holds, and its dock as the dock's own setup leaves one of as many
-- idle records. Assumes nothing.
use Prim.Native.Nat.{ℕ, zero, suc, ◌≤◌}
use native.Mathlib.Nat.{not-suc-le-zero, le_of_suc-le-suc}
use mathlib.Core.Path.{◌≡◌, refl, sym, ap, ◌∙◌}
use mathlib.Core.Bool.{Bool, true, false, cond}
use mathlib.Core.List as list
use mathlib.Core.List.{◌∷◌}
use borrow.Author.Tests.{ltb-false}
use lib.Dec.{ltb, eqb}
use lib.ListN.{length, get_or, take, replicate, length-replicate}
use Rattle.unique_index_set_enums.specs.Limits.{trace_capacity_limit}
use Rattle.std.specs.Prelude.{Option, Some, None, Result, Ok, Err}
use Rattle.calls.specs.declared.Progress.{Progress}
use Rattle.calls.specs.declared.Progress.TheVariants.{Accepted}
use Rattle.calls.specs.declared.Refusal.{Refusal}
use Rattle.calls.specs.Order.{tests_at_setup, verdict_of}
use Rattle.thread_records.specs.declared.Record.{Record}
use Rattle.thread_records.specs.Records.{empty_list, idle_record}
use Rattle.thread_records.specs.Effects.{Effect, judged}
use Rattle.unique_index_set.specs.Steps as plain
use Rattle.unique_index_set.specs.Setups as plainsetup
use Rattle.robust_unique_index_set.specs.Steps as robust
use Rattle.robust_unique_index_set.specs.Setups as robustsetup
use Rattle.turns.specs.Docks.{Table, Turned, Dock, set_up}
use Rattle.dock.specs.declared.Work.TheVariants as work
use Rattle.dock.specs.declared.tables.Settled.TheVariants.{All}
use Rattle.dock.specs.Works.{Worked, table, settled_by, settled_in, settled_thread, worked_table}
use Rattle.dock.proofs.Works.{work_setup}
use Rattle.any_dock.specs.declared.AnySet.{AnySet}
use Rattle.any_dock.specs.declared.AnySet.TheVariants.{Plain, Robust}
use Rattle.any_dock.specs.Any.{AnyShared, work_on, dock_of, dock_on}
use Rattle.any_dock.proofs.Laws.{any_works, any_dock_lem}
use Rattle.schedule.specs.declared.SetupEntry.{SetupEntry}
use Rattle.schedule.proofs.Laws.{no}
use Rattle.trace_turns.specs.Scenes.{Scene}
use Rattle.trace_turns.proofs.Docks.{Seated, dock_in}
use Rattle.trace_lines.specs.Setups.{set_read, kind_of, stage_after, ready_of, opened_by, over, too_large_line, opened_with, opened_of}
use Rattle.trace_lines.proofs.Joins.{is_running}

-- what is refused with 10 does not run
not_short : {S : Type 0} (above none short : Bool) (s : S) (t : Record) (e : Effect S) → is_running (stage_after (judged (verdict_of (tests_at_setup above none short)) s t e).report.progress) ≡ true → short ≡ false
unfolding verdict_of
not_short true none short s t e h = no h
not_short false true short s t e h = no h
not_short false false true s t e h = no h
not_short false false false s t e h = refl

first_not : (a b : Bool) → cond a true b ≡ false → a ≡ false
first_not true b h = no (sym h)
first_not false b h = refl

ready_few : (set : AnySet) (e : SetupEntry) (s : AnyShared) → is_running (stage_after (ready_of set e s).report.progress) ≡ true → e.records ≤ 16
unfolding ready_of plainsetup.setup_of plainsetup.setup_verdict plainsetup.setup_short robustsetup.setup_of robustsetup.setup_verdict
ready_few (Plain p) e s h =
    let short = not_short (plainsetup.too_large e.capacity (length s.slots)) (eqb e.capacity 0) (plainsetup.setup_short e.records e.capacity (length s.custody)) (plain.shared p s.slots s.custody) (idle_record empty_list) (plainsetup.set_fresh e.capacity (plain.shared p s.slots s.custody)) h in
    ltb-false 16 e.records (first_not (ltb 16 e.records) (ltb (length s.custody) e.capacity) short)
ready_few (Robust r) e s h =
    ltb-false 16 e.records
    (not_short (robustsetup.too_large e.capacity (length s.cells)) (eqb e.capacity 0) (ltb 16 e.records) (robust.shared r s.cells) (idle_record empty_list) (robustsetup.set_fresh e.capacity (robust.shared r s.cells)) h)

pub opened_seated : (e : SetupEntry) (s : Scene) → is_running (opened_of e s).stage ≡ true → Seated (opened_of e s).scene
opened_seated e s = by_read (set_read e.set)
  where
    by-room : (set : AnySet) (b : Bool) → is_running (cond b (over s too_large_line) (opened_by e (kind_of set) (ready_of set e s.shared))).stage ≡ true
        → Seated (cond b (over s too_large_line) (opened_by e (kind_of set) (ready_of set e s.shared))).scene
    by-room set true h = no h
    by-room set false h = record { lent = ready_few set e s.shared h; held = length-replicate 16 (settled_thread (ready_of set e s.shared).settled) }

    by_read : (r : Option AnySet) → is_running (opened_with r e s).stage ≡ true → Seated (opened_with r e s).scene
    by_read None h = no h
    by_read (Some set) h = by-room set (ltb trace_capacity_limit e.capacity) h

-- ---- the dock's own setup
first_idle : (n : ℕ) (t : Record) → get_or (replicate n t) 0 t ≡ t
first_idle zero t = refl
first_idle (suc n) t = refl

take_same : (n m : ℕ) (t : Record) → n ≤ m → take n (replicate m t) ≡ replicate n t
take_same zero m t h = refl
take_same (suc n) zero t h = absurd (not-suc-le-zero h)
take_same (suc n) (suc m) t h = ap (λ (l : list.List Record). t ∷ l) (take_same n m t (le_of_suc-le-suc h))

-- a setup that runs was accepted, so that every record is settled
judged_all : {S : Type 0} (v : Result (Unit {0}) Refusal) (s : S) (t : Record) (e : Effect S) → e.report.progress ≡ Accepted → is_running (stage_after (judged v s t e).report.progress) ≡ true
    → settled_by (judged v s t e).report.progress (judged v s t e).thread ≡ All (judged v s t e).thread
judged_all (Err why) s t e a h = no h
judged_all (Ok u) s t e a h = ap (λ (p : Progress). settled_by p e.thread) a

everywhere : (set : AnySet) (e : SetupEntry) (s : AnyShared) → is_running (stage_after (ready_of set e s).report.progress) ≡ true → (ready_of set e s).settled ≡ All (settled_thread (ready_of set e s).settled)
unfolding ready_of plainsetup.setup_of robustsetup.setup_of
everywhere (Plain p) e s h =
    let S = plain.shared p s.slots s.custody in
    let k = judged_all (plainsetup.setup_judged e.records e.capacity S) S (idle_record empty_list) (plainsetup.set_fresh e.capacity S) refl h in
    k ∙ ap All (sym (ap settled_thread k))
everywhere (Robust r) e s h =
    let S = robust.shared r s.cells in
    let k = judged_all (robustsetup.setup_judged e.records e.capacity S) S (idle_record empty_list) (robustsetup.set_fresh e.capacity S) refl h in
    k ∙ ap All (sym (ap settled_thread k))

module _ (set : AnySet) (e : SetupEntry) (s : AnyShared) (h : is_running (stage_after (ready_of set e s).report.progress) ≡ true) where
  abbrev R : list.List Record
  R = replicate e.records (idle_record empty_list)

  abbrev U : Worked AnyShared
  U = ready_of set e s

  all_settled : take e.records (replicate 16 (settled_thread U.settled)) ≡ settled_in U.settled R
  all_settled =
      take_same e.records 16 (settled_thread U.settled) (ready_few set e s h) ∙ ap (λ (k : ℕ). replicate k (settled_thread U.settled)) (sym (length-replicate e.records (idle_record empty_list)))
      ∙ sym (ap (λ (x : _). settled_in x R) (everywhere set e s h))

  for_all : U ≡ work_on (length R) (work.Setup e.capacity) set s.slots s.custody s.cells (get_or R 0 (idle_record empty_list))
  unfolding ready_of
  for_all = rw (length-replicate e.records (idle_record empty_list), first_idle e.records (idle_record empty_list)) refl

  pub opened_dock : dock_in (opened_by e (kind_of set) (ready_of set e s)).scene ≡ (set_up e.capacity (dock_on set s.slots s.custody s.cells R)).left
  opened_dock =
      ap (λ (l : list.List Record). dock_of (table U.shared l)) all_settled
      ∙ ap (λ (u : Worked AnyShared). dock_of (worked_table u R).left) for_all
      ∙ ap (λ (v : Turned (Table AnyShared)). dock_of v.left) (any_works (work.Setup e.capacity) s.slots s.custody s.cells R set)
      ∙ ap (λ (v : Turned Dock). v.left) (any_dock_lem (work.Setup e.capacity) s.slots s.custody s.cells R set ∙ work_setup e.capacity (dock_on set s.slots s.custody s.cells R))
