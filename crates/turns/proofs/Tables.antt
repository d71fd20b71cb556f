-- A turn on a table of records, whatever the set: refused, it changes nothing; the other records stay as `elsewhere` says; the named one
-- is left as its turn leaves it. Whoever reads the named record out of a table, turns it by value and stores it back has made that turn.
-- A refused setup changes nothing, an accepted one leaves every record idle. Assumes nothing.
use Prim.Native.Nat.{ℕ, ◌≤◌, ◌<◌}
use mathlib.Core.Path.{◌≡◌, refl, sym, ap, ◌∙◌}
use mathlib.Core.List.{List, [], ◌∷◌, map}
use lib.ListN.{length, get_or, set, get_or-eq_default}
use lib.Seq.{get_or-set_same, get_or-set_other, set-get_or, set_out}
use Rattle.std.specs.Prelude.{Result, Ok, Err}
use Rattle.std.proofs.lemmas.List.{map-id}
use Rattle.unique_index_set_enums.specs.declared.RecordNumber.{RecordNumber}
use Rattle.calls.specs.declared.Refusal.{Refusal}
use Rattle.calls.specs.declared.Progress.TheVariants as progress
use Rattle.calls.specs.Runs.{Run}
use Rattle.thread_records.specs.declared.Record.{Record}
use Rattle.thread_records.specs.Records.{empty_list, idle_record}
use Rattle.thread_records.specs.Effects.{Effect, judged}
use Rattle.turns.specs.Moves.{Untouched, SetsUp, set_fresh}
use Rattle.turns.specs.Docks.{Table, Turned, elsewhere, settled, named, turned_table, turn_in, setup_in}

module _ {S : Type 0} (who : RecordNumber) (e : Effect S) (records : List Record) where
  elsewhere_same : map (elsewhere e) records ≡ records
  elsewhere_same = map-id records

  settled_as : settled who e records ≡ set records who.0 e.thread
  unfolding settled
  settled_as = rw elsewhere_same refl

  -- the other records stay as `elsewhere` says
  pub others_stay : (j : ℕ) (d : Record) → (j ≡ who.0 → ⊥) → get_or (settled who e records) j d ≡ elsewhere e (get_or records j d)
  others_stay j d n = rw settled_as (get_or-set_other records who.0 j e.thread d n)

  -- the named one is left as its turn leaves it
  pub named_after : (d : Record) → who.0 < length records → get_or (settled who e records) who.0 d ≡ e.thread
  named_after d h = rw settled_as (get_or-set_same records who.0 e.thread d h)

  settled_same : e.thread ≡ named who records → settled who e records ≡ records
  settled_same q = rw settled_as (rw q (set-get_or records who.0 (idle_record empty_list)))

-- whoever keeps the table: a turn of the record by value, and what it gave stored back
module _ {S : Type 0} (own : ℕ → S → Record → Run (Effect S)) (who : RecordNumber) (s : S) (records : List Record) where
  abbrev turn_at : ℕ → Run (Effect S)
  turn_at j = own (length records) s (get_or records j (idle_record empty_list))

  abbrev with : Run (Effect S) → List Record → Turned (Table S)
  with u l = record { left = record { shared = u.left.shared; records = l }; report = u.left.report; steps = u.steps }

  stored : (u : Run (Effect S)) → with u (set records who.0 u.left.thread) ≡ turned_table who records u
  stored u = ap (with u) (sym (settled_as who u.left records))

  -- a record that is there
  pub there : (u : Run (Effect S)) (i : ℕ) → i ≡ who.0 → u ≡ turn_at i → with u (set records i u.left.thread) ≡ turn_in own who (record { shared = s; records = records })
  there u i h e =
      ap (λ (j : ℕ). with u (set records j u.left.thread)) h
      ∙ ap (λ (w : Run (Effect S)). with w (set records who.0 w.left.thread)) (e ∙ ap turn_at h)
      ∙ stored (turn_at who.0)

  -- a record that is not: the idle one stands in, and the table is left alone
  pub missing : (u : Run (Effect S)) → length records ≤ who.0 → u ≡ own (length records) s (idle_record empty_list)
      → with u records ≡ turn_in own who (record { shared = s; records = records })
  missing u h e =
      let q : u ≡ turn_at who.0 = e ∙ ap (λ (t : Record). own (length records) s t) (sym (get_or-eq_default records (idle_record empty_list) h)) in
      ap (λ (w : Run (Effect S)). with w records) q
      ∙ ap (with (turn_at who.0)) (sym (set_out records who.0 (turn_at who.0).left.thread h))
      ∙ stored (turn_at who.0)

same_table : {S : Type 0} (s : S) (records : List Record) (d : Table S) → s ≡ d.shared → records ≡ d.records
    → ◌≡◌ {A = Table S} (record { shared = s; records = records }) d
same_table s records d p q = rw p (rw q refl)

-- a refused turn changes nothing
pub turn_unchanged : {S : Type 0} (own : ℕ → S → Record → Run (Effect S)) (who : RecordNumber) (d : Table S)
    → Untouched d.shared (named who d.records) (own (length d.records) d.shared (named who d.records)).left
    → (why : Refusal) → (turn_in own who d).report.progress ≡ progress.Refused why → (turn_in own who d).left ≡ d
turn_unchanged own who d h why p =
    let u = h why p in
    same_table _ _ d u.0 (settled_same who (own (length d.records) d.shared (named who d.records)).left d.records u.1)

each_same : (f g : Record → Record) → ((t : Record) → f t ≡ g t) → (records : List Record) → map f records ≡ map g records
each_same f g e [] = refl
each_same f g e (t ∷ records) = rw (e t) (ap (λ (l : List Record). g t ∷ l) (each_same f g e records))

-- a setup, where it is judged without the record
module _ {S : Type 0} (own : ℕ → S → Record → Effect S) (d : Table S) (u : SetsUp d.shared (own (length d.records) d.shared)) where
  -- whoever keeps the table: an accepted one leaves each record idle, a refused one each as it was
  pub setup_as : setup_in own d ≡ setup_in (λ n s t. judged u.verdict s t (set_fresh u.fresh)) d
  setup_as =
      rw (u.same (idle_record empty_list))
      (ap (λ (l : List Record). record { left = record { shared = (judged u.verdict d.shared (idle_record empty_list) (set_fresh u.fresh)).shared; records = l }; report = (judged u.verdict d.shared (idle_record empty_list) (set_fresh u.fresh)).report; steps = 0 })
      (each_same (λ t. (own (length d.records) d.shared t).thread) (λ t. (judged u.verdict d.shared t (set_fresh u.fresh)).thread) (λ t. ap (λ (e : Effect S). e.thread) (u.same t)) d.records))

judged_unchanged : {S : Type 0} (v : Result (Unit {0}) Refusal) (fresh : S) (d : Table S) (why : Refusal)
    → (setup_in (λ n s t. judged v s t (set_fresh fresh)) d).report.progress ≡ progress.Refused why → (setup_in (λ n s t. judged v s t (set_fresh fresh)) d).left ≡ d
judged_unchanged (Err w) fresh d why p = same_table _ _ d refl (map-id d.records)
judged_unchanged (Ok u) fresh d why p = cc

-- refused, it changes nothing
pub setup_unchanged : {S : Type 0} (own : ℕ → S → Record → Effect S) (d : Table S) → SetsUp d.shared (own (length d.records) d.shared)
    → (why : Refusal) → (setup_in own d).report.progress ≡ progress.Refused why → (setup_in own d).left ≡ d
setup_unchanged own d u why p =
    let e = setup_as own d u in
    ap (λ (r : Turned (Table _)). r.left) e ∙ judged_unchanged u.verdict u.fresh d why (sym (ap (λ (r : Turned (Table _)). r.report.progress) e) ∙ p)

-- accepted, it leaves every record idle
pub setup_each : {S : Type 0} (own : ℕ → S → Record → Effect S) (d : Table S) (u : SetsUp d.shared (own (length d.records) d.shared)) → u.verdict ≡ Ok tt
    → (setup_in own d).left.records ≡ map (λ t. idle_record empty_list) d.records
setup_each own d u q = ap (λ (r : Turned (Table _)). r.left.records) (setup_as own d u) ∙ rw q refl
