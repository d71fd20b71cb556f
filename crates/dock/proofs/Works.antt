-- Work for a whole table is the work for the record that is read, with what it leaves of the records settled. Refused work changes nothing;
-- any two results that the contracts allow are the same. Assumes nothing.
use Prim.Native.Nat.{ℕ, zero, suc, ◌<◌}
use native.Mathlib.Nat.{not-suc-le-zero, le_of_suc-le-suc}
use mathlib.Core.Path.{◌≡◌, refl, sym, ap, ◌∙◌}
use mathlib.Core.List.{List, [], ◌∷◌, ◌++◌}
use lib.ListN.{length, get_or, set, take, drop, take-append-drop}
use lib.Seq.{set-get_or}
use Rattle.std.specs.Prelude.{Result, Ok, Err}
use Rattle.std.proofs.lemmas.List.{map-id}
use Rattle.std.proofs.lemmas.Simd.{splat_is_map}
use Rattle.calls.specs.declared.Refusal.{Refusal}
use Rattle.calls.specs.declared.Progress.TheVariants as progress
use Rattle.calls.specs.Reports.{accepted_report, refused_report}
use Rattle.thread_records.specs.declared.Record.{Record}
use Rattle.thread_records.specs.Records.{empty_list, idle_record}
use Rattle.thread_records.specs.Effects.{Effect, judged}
use Rattle.thread_records.proofs.Determined.{determined}
use Rattle.unique_index_set.specs.declared.UniqueIndexSet.{UniqueIndexSet}
use Rattle.unique_index_set.specs.Steps as plain
use Rattle.robust_unique_index_set.specs.declared.RobustUniqueIndexSet.{RobustUniqueIndexSet}
use Rattle.robust_unique_index_set.specs.Steps as robust
use Rattle.turns.specs.declared.Done.{Done}
use Rattle.turns.specs.Moves.{Moves, MovesLaws, set_fresh, turn_of}
use Rattle.turns.specs.Plain.{plain_moves}
use Rattle.turns.specs.Robust.{robust_moves}
use Rattle.turns.specs.Laws.{plain_laws, robust_laws}
use Rattle.turns.specs.Docks.{Table, Turned, setup_in, Dock, turn, set_up}
use Rattle.turns.specs.Docks.Dock.{plain_dock, robust_dock}
use Rattle.turns.proofs.Tables.{there, setup_as}
use Rattle.turns.proofs.Laws.{turn_harmless, setup_harmless}
use Rattle.dock.specs.declared.Work.{Work}
use Rattle.dock.specs.declared.Work.TheVariants.{Setup, Turn}
use Rattle.dock.specs.declared.Worked as by_value
use Rattle.dock.specs.Works.{place_of, settled_in, Worked, setup_worked, work_of, worked_as, table, worked_table, works_in, done_in}
use Rattle.dock.specs.Plain.{plain_work_of, plain_works}
use Rattle.dock.specs.Robust.{robust_work_of, robust_works}
use Rattle.dock.specs.Docks.{work_in}

-- the record that is read
abbrev pub read_at : Work → List Record → Record
read_at w records = get_or records (place_of w) (idle_record empty_list)

-- a setup: refused, the record that is read is put back as it was; accepted, each is as it leaves one
setup_works : {S : Type 0} (v : Result (Unit {0}) Refusal) (fresh s : S) (records : List Record)
    → worked_table (setup_worked (judged v s (get_or records 0 (idle_record empty_list)) (set_fresh fresh))) records ≡ setup_in (λ n s' t. judged v s' t (set_fresh fresh)) (table s records)
setup_works (Err why) fresh s records = ap (λ (l : List Record). record { left = table s l; report = refused_report why; steps = 0 }) (set-get_or records 0 (idle_record empty_list) ∙ sym (map-id records))
setup_works (Ok u) fresh s records = ap (λ (l : List Record). record { left = table fresh l; report = accepted_report; steps = 0 }) (splat_is_map records (length records) (idle_record empty_list) refl)

-- of whichever set
pub works_lem : {S : Type 0} (m : Moves S) → MovesLaws m → (w : Work) (s : S) (records : List Record)
    → worked_table (work_of m (length records) w s (read_at w records)) records ≡ works_in m w (table s records)
works_lem {S} m laws (Setup capacity) s records =
    let u = laws.setup_same (length records) capacity s in
    ap (λ (e : Effect S). worked_table (setup_worked e) records) (u.same (get_or records 0 (idle_record empty_list)))
    ∙ setup_works u.verdict u.fresh s records
    ∙ sym (setup_as (λ n z t. m.setup n capacity z t) (table s records) u)
works_lem m laws (Turn w) s records = there (λ n z t. turn_of m n w.who w.operation z t) w.who s records _ w.who.0 refl refl

pub plain_works_lem : (w : Work) (s : plain.Shared) (records : List Record) → worked_table (plain_work_of (length records) w s (read_at w records)) records ≡ plain_works w (table s records)
plain_works_lem w s records = works_lem plain_moves plain_laws w s records

pub robust_works_lem : (w : Work) (s : robust.Shared) (records : List Record) → worked_table (robust_work_of (length records) w s (read_at w records)) records ≡ robust_works w (table s records)
robust_works_lem w s records = works_lem robust_moves robust_laws w s records

abbrev told : by_value.Worked → Done
told r = record { report = r.report; steps = r.steps }

-- the record that is read, worked on by value, and what that leaves settled in the table: that is the table's work
module _ (w : Work) (records left : List Record) (t : Record) (read : t ≡ read_at w records) where
  pub works_done : {S : Type 0} (m : Moves S) → MovesLaws m → (s s' : S) (r : by_value.Worked) → worked_as s' r ≡ work_of m (length records) w s t → left ≡ settled_in r.settled records
      → done_in (table s' left) (told r) ≡ works_in m w (table s records)
  works_done {S} m laws s s' r e l =
      ap (λ (z : List Record). done_in (table s' z) (told r)) l
      ∙ ap (λ (u : Worked S). worked_table u records) (e ∙ ap (work_of m (length records) w s) read)
      ∙ works_lem m laws w s records

  pub plain_done : (s s' : plain.Shared) (r : by_value.Worked) → worked_as s' r ≡ plain_work_of (length records) w s t → left ≡ settled_in r.settled records
      → done_in (table s' left) (told r) ≡ plain_works w (table s records)
  plain_done = works_done plain_moves plain_laws

  pub robust_done : (s s' : robust.Shared) (r : by_value.Worked) → worked_as s' r ≡ robust_work_of (length records) w s t → left ≡ settled_in r.settled records
      → done_in (table s' left) (told r) ≡ robust_works w (table s records)
  robust_done = works_done robust_moves robust_laws

-- whoever keeps a longer table by value and lends the first n of it: below n a record is read and stored in the whole table as in the part
pub lent_read : (n i : ℕ) (held : List Record) (d : Record) → i < n → get_or (take n held) i d ≡ get_or held i d
lent_read zero i held d l = absurd (not-suc-le-zero l)
lent_read (suc n) i [] d l = refl
lent_read (suc n) zero (t ∷ held) d l = refl
lent_read (suc n) (suc i) (t ∷ held) d l = lent_read n i held d (le_of_suc-le-suc l)

pub lent_stored : (n i : ℕ) (held : List Record) (t : Record) → i < n → set (take n held) i t ++ drop n held ≡ set held i t
lent_stored zero i held t l = absurd (not-suc-le-zero l)
lent_stored (suc n) i [] t l = refl
lent_stored (suc n) zero (u ∷ held) t l = ap (λ (z : List Record). t ∷ z) (take-append-drop n held)
lent_stored (suc n) (suc i) (u ∷ held) t l = ap (λ (z : List Record). u ∷ z) (lent_stored n i held t (le_of_suc-le-suc l))

-- work is a setup of the dock, or a turn of one record
pub work_setup : (capacity : ℕ) (d : Dock) → work_in (Setup capacity) d ≡ set_up capacity d
work_setup capacity (plain_dock d) = refl
work_setup capacity (robust_dock d) = refl

pub work_turn : (w : _) (d : Dock) → work_in (Turn w) d ≡ turn w.who w.operation d
work_turn w (plain_dock d) = refl
work_turn w (robust_dock d) = refl

-- refused work changes nothing
pub work_harmless : (w : Work) (d : Dock) (why : Refusal) → (work_in w d).report.progress ≡ progress.Refused why → (work_in w d).left ≡ d
work_harmless (Setup capacity) (plain_dock d) why p = setup_harmless capacity (plain_dock d) why p
work_harmless (Setup capacity) (robust_dock d) why p = setup_harmless capacity (robust_dock d) why p
work_harmless (Turn w) (plain_dock d) why p = turn_harmless w.who w.operation (plain_dock d) why p
work_harmless (Turn w) (robust_dock d) why p = turn_harmless w.who w.operation (robust_dock d) why p

-- one contract, one result: of do_work on either dock, with all that it is lent, and of work_by_value
abbrev plain_left : Done × List Record × UniqueIndexSet × List ℕ × List ℕ → Turned (Table plain.Shared)
plain_left x = done_in (table (plain.shared x.2 x.3 x.4) x.1) x.0

abbrev plain_back : Turned (Table plain.Shared) → Done × List Record × UniqueIndexSet × List ℕ × List ℕ
plain_back d = (record { report = d.report; steps = d.steps }, d.left.records, d.left.shared.set, d.left.shared.slots, d.left.shared.custody)

pub plain_determined : (d : Turned (Table plain.Shared)) (x y : Done × List Record × UniqueIndexSet × List ℕ × List ℕ) → plain_left x ≡ d → plain_left y ≡ d → x ≡ y
plain_determined = determined plain_left plain_back (λ x. refl)

abbrev robust_left : Done × List Record × RobustUniqueIndexSet × List ℕ → Turned (Table robust.Shared)
robust_left x = done_in (table (robust.shared x.2 x.3) x.1) x.0

abbrev robust_back : Turned (Table robust.Shared) → Done × List Record × RobustUniqueIndexSet × List ℕ
robust_back d = (record { report = d.report; steps = d.steps }, d.left.records, d.left.shared.set, d.left.shared.cells)

pub robust_determined : (d : Turned (Table robust.Shared)) (x y : Done × List Record × RobustUniqueIndexSet × List ℕ) → robust_left x ≡ d → robust_left y ≡ d → x ≡ y
robust_determined = determined robust_left robust_back (λ x. refl)

abbrev by_value_back : {S : Type 0} → Worked S → by_value.Worked
by_value_back u = record { settled = u.settled; report = u.report; steps = u.steps }

abbrev plain_work_left : by_value.Worked × UniqueIndexSet × List ℕ × List ℕ → Worked plain.Shared
plain_work_left x = worked_as (plain.shared x.1 x.2 x.3) x.0

pub plain_work_determined : (u : Worked plain.Shared) (x y : by_value.Worked × UniqueIndexSet × List ℕ × List ℕ) → plain_work_left x ≡ u → plain_work_left y ≡ u → x ≡ y
plain_work_determined = determined plain_work_left (λ u. (by_value_back u, u.shared.set, u.shared.slots, u.shared.custody)) (λ x. refl)

abbrev robust_work_left : by_value.Worked × RobustUniqueIndexSet × List ℕ → Worked robust.Shared
robust_work_left x = worked_as (robust.shared x.1 x.2) x.0

pub robust_work_determined : (u : Worked robust.Shared) (x y : by_value.Worked × RobustUniqueIndexSet × List ℕ) → robust_work_left x ≡ u → robust_work_left y ≡ u → x ≡ y
robust_work_determined = determined robust_work_left (λ u. (by_value_back u, u.shared.set, u.shared.cells)) (λ x. refl)
