-- Setups over a table of bytes: a refused one changes nothing, and each is the dock's own setup on the table that the bytes are read as. Assumes
-- nothing.
use Prim.Native.Nat.{ℕ}
use mathlib.Core.Path.{◌≡◌, refl, sym, ◌∙◌, ap, subst}
use mathlib.Core.List.{List}
use lib.ListN.{length}
use Rattle.calls.specs.declared.Progress.TheVariants as progress
use Rattle.std.specs.Prelude.{Result, Ok, Err}
use Rattle.std.proofs.lemmas.List.{map-id}
use Rattle.std.proofs.lemmas.Simd.{splat_is_map}
use Rattle.calls.specs.declared.Refusal.{Refusal}
use Rattle.thread_records.specs.declared.Record.{Record}
use Rattle.thread_records.specs.Records.{empty_list, idle_record}
use Rattle.thread_records.specs.Effects.{Effect, judged, unchanged}
use Rattle.unique_index_set.specs.Steps as plain
use Rattle.unique_index_set.specs.Setups as plainsetup
use Rattle.robust_unique_index_set.specs.Steps as robust
use Rattle.robust_unique_index_set.specs.Setups as robustsetup
use Rattle.turns.specs.Moves.{Moves, MovesLaws, set_fresh}
use Rattle.turns.specs.Plain.{plain_moves}
use Rattle.turns.specs.Robust.{robust_moves}
use Rattle.turns.specs.Laws.{plain_laws, robust_laws}
use Rattle.turns.specs.Docks.{Table, Turned, setup_in}
use Rattle.turns.proofs.Tables.{setup_as}
use Rattle.record_bytes.specs.Layout.{records_in, table_of}
use Rattle.record_bytes.proofs.Tables.{length_all_of, table_all}
use Rattle.record_bytes.proofs.Fitting.{idle_fits}
use Rattle.byte_docks.specs.Called.{ready_for, readied_in}
use Rattle.byte_docks.specs.Plain.{plain_readied}
use Rattle.byte_docks.specs.Robust.{robust_readied}
use Rattle.byte_docks.proofs.Laws.{Unmoved, as_table}

abbrev idle : Record
idle = idle_record empty_list

judged_refused : {S : Type 0} (v : Result (Unit {0}) Refusal) (s fresh : S) (bytes : List ℕ) (why : Refusal)
    → (ready_for bytes (judged v s idle (set_fresh fresh))).report.progress ≡ progress.Refused why → Unmoved s bytes (ready_for bytes (judged v s idle (set_fresh fresh)))
judged_refused (Err w) s fresh bytes why p = record { shared = refl; records = refl }
judged_refused (Ok u) s fresh bytes why p = cc

abbrev read : {S : Type 0} → S → List ℕ → Table S
read s bytes = record { shared = s; records = table_of bytes }

abbrev found : {S : Type 0} → Effect S → List Record → Turned (Table S)
found e records = record { left = record { shared = e.shared; records = records }; report = e.report; steps = 0 }

setup_table : {S : Type 0} (v : Result (Unit {0}) Refusal) (s fresh : S) (bytes : List ℕ)
    → as_table (ready_for bytes (judged v s idle (set_fresh fresh))) ≡ setup_in (λ n z t. judged v z t (set_fresh fresh)) (read s bytes)
setup_table (Err w) s fresh bytes = ap (found (unchanged s idle w)) (sym (map-id (table_of bytes)))
setup_table (Ok u) s fresh bytes = ap (found (set_fresh fresh)) (table_all bytes idle idle_fits ∙ splat_is_map (table_of bytes) (length (table_of bytes)) idle refl)

-- of whichever set
module _ {S : Type 0} (m : Moves S) (laws : MovesLaws m) (capacity : ℕ) (s : S) (bytes : List ℕ) where
  pub setup_refused : (why : Refusal) → (readied_in m capacity s bytes).report.progress ≡ progress.Refused why → Unmoved s bytes (readied_in m capacity s bytes)
  setup_refused why p =
      let u = laws.setup_same (records_in bytes) capacity s in
      subst (λ (e : Effect S). Unmoved s bytes (ready_for bytes e)) (sym (u.same idle))
      (judged_refused u.verdict s u.fresh bytes why (ap (λ (e : Effect S). e.report.progress) (sym (u.same idle)) ∙ p))

  pub sets_up : as_table (readied_in m capacity s bytes) ≡ setup_in (λ n z t. m.setup n capacity z t) (read s bytes)
  sets_up =
      let u = laws.setup_same (length (table_of bytes)) capacity s in
      ap (λ (n : ℕ). as_table (ready_for bytes (m.setup n capacity s idle))) (sym (length_all_of bytes))
      ∙ ap (λ (e : Effect S). as_table (ready_for bytes e)) (u.same idle)
      ∙ setup_table u.verdict s u.fresh bytes
      ∙ sym (setup_as (λ n z t. m.setup n capacity z t) (read s bytes) u)

pub plain_setup_refused : (capacity : ℕ) (s : plain.Shared) (bytes : List ℕ) (why : Refusal) → (plain_readied capacity s bytes).report.progress ≡ progress.Refused why
    → Unmoved s bytes (plain_readied capacity s bytes)
plain_setup_refused = setup_refused plain_moves plain_laws

pub robust_setup_refused : (capacity : ℕ) (s : robust.Shared) (bytes : List ℕ) (why : Refusal) → (robust_readied capacity s bytes).report.progress ≡ progress.Refused why
    → Unmoved s bytes (robust_readied capacity s bytes)
robust_setup_refused = setup_refused robust_moves robust_laws

pub plain_sets_up : (capacity : ℕ) (s : plain.Shared) (bytes : List ℕ)
    → as_table (plain_readied capacity s bytes) ≡ setup_in (λ n z t. plainsetup.setup_of n capacity z t) (read s bytes)
plain_sets_up = sets_up plain_moves plain_laws

pub robust_sets_up : (capacity : ℕ) (s : robust.Shared) (bytes : List ℕ)
    → as_table (robust_readied capacity s bytes) ≡ setup_in (λ n z t. robustsetup.setup_of n capacity z t) (read s bytes)
robust_sets_up = sets_up robust_moves robust_laws
