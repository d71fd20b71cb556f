-- The calls over a table of bytes: a refused one changes nothing, the other records' bytes stay, each is the dock's own turn on the table that the
-- bytes are read as, if the record that it leaves fits its bytes, and any two results that a contract allows are the same. Assumes nothing.
use Prim.Native.Nat.{ℕ, ◌+◌, ◌*◌, ◌≤◌, ◌<◌}
use mathlib.Core.Path.{◌≡◌, refl, sym, ◌∙◌, ap}
use mathlib.Core.Bool.{Bool, true, false, cond}
use mathlib.Core.Logic.{◌⊎◌, inl, inr}
use mathlib.Core.List.{List}
use borrow.Author.Tests.{le-ltb}
use lib.Dec.{ltb}
use lib.ListN.{length, get_or, set}
use lib.Seq.{set-get_or}
use Rattle.unique_index_set_enums.specs.declared.RecordNumber.{RecordNumber}
use Rattle.calls.specs.declared.Progress.{Progress}
use Rattle.calls.specs.declared.Progress.TheVariants as progress
use Rattle.calls.specs.declared.Refusal.{Refusal}
use Rattle.calls.specs.declared.Report.{Report}
use Rattle.calls.specs.declared.SetKind.{SetKind}
use Rattle.calls.specs.Runs.{Run}
use Rattle.thread_records.specs.declared.OwnerList.{OwnerList}
use Rattle.thread_records.specs.declared.Record.{Record}
use Rattle.thread_records.specs.Records.{empty_list, idle_record}
use Rattle.thread_records.specs.Effects.{Effect}
use Rattle.thread_records.specs.Deaths.{death_of}
use Rattle.thread_records.specs.Lists.{list_of}
use Rattle.thread_records.proofs.Determined.{determined}
use Rattle.unique_index_set.specs.declared.UniqueIndexSet.{UniqueIndexSet}
use Rattle.unique_index_set.specs.Steps as plain
use Rattle.robust_unique_index_set.specs.declared.RobustUniqueIndexSet.{RobustUniqueIndexSet}
use Rattle.robust_unique_index_set.specs.Steps as robust
use Rattle.turns.specs.declared.Operation.{Operation}
use Rattle.turns.specs.declared.Done.{Done}
use Rattle.turns.specs.Moves.{Moves, MovesLaws, turn_of}
use Rattle.turns.specs.Plain.{plain_moves, plain_turn_of}
use Rattle.turns.specs.Robust.{robust_moves, robust_turn_of}
use Rattle.turns.specs.Laws.{plain_laws, robust_laws}
use Rattle.turns.specs.Docks.{Table, Turned, turn_in}
use Rattle.turns.proofs.Laws.{moves_untouched}
use Rattle.turns.proofs.Tables as tables
use Rattle.record_bytes.specs.Layout.{Fits, records_in, table_of, laid_at, record_written}
use Rattle.record_bytes.proofs.Laid.{laid_before, laid_behind}
use Rattle.record_bytes.proofs.Tables.{in_table, length_all_of, table_written}
use Rattle.byte_docks.specs.Called.{Called, RecordsAlone, named, records_after, came_as, called_in, TurnFits, died_in, listed_in}
use Rattle.byte_docks.specs.Plain.{plain_called, PlainFits}
use Rattle.byte_docks.specs.Robust.{robust_called, RobustFits}

-- what a refused call leaves
pub record Unmoved {S : Type 0} (s : S) (bytes : List ℕ) (c : Called S) : Type 0 where
  pub shared : c.shared ≡ s
  pub records : c.records ≡ bytes

-- of whichever set
pub called_refused : {S : Type 0} (m : Moves S) → MovesLaws m → (who : RecordNumber) (o : Operation) (s : S) (bytes : List ℕ) (why : Refusal)
    → (called_in m who o s bytes).report.progress ≡ progress.Refused why → Unmoved s bytes (called_in m who o s bytes)
called_refused m laws who o s bytes why p = record {
  shared = (moves_untouched m laws (records_in bytes) who o s (named who bytes) why p).0;
  records = ap (λ (q : Progress). records_after q who (turn_of m (records_in bytes) who o s (named who bytes)).left.thread bytes) p;
}

pub plain_refused : (who : RecordNumber) (o : Operation) (s : plain.Shared) (bytes : List ℕ) (why : Refusal)
    → (plain_called who o s bytes).report.progress ≡ progress.Refused why → Unmoved s bytes (plain_called who o s bytes)
plain_refused = called_refused plain_moves plain_laws

pub robust_refused : (who : RecordNumber) (o : Operation) (s : robust.Shared) (bytes : List ℕ) (why : Refusal)
    → (robust_called who o s bytes).report.progress ≡ progress.Refused why → Unmoved s bytes (robust_called who o s bytes)
robust_refused = called_refused robust_moves robust_laws

-- nor does a refused death or list
pub death_refused : (who : RecordNumber) (bytes : List ℕ) (why : Refusal) → (died_in who bytes).report.progress ≡ progress.Refused why → (died_in who bytes).records ≡ bytes
death_refused who bytes why p = ap (λ (q : Progress). records_after q who (death_of (named who bytes) (records_in bytes) who).thread bytes) p

pub list_refused : (kind : SetKind) (who : RecordNumber) (brought : OwnerList) (bytes : List ℕ) (why : Refusal)
    → (listed_in kind who brought bytes).report.progress ≡ progress.Refused why → (listed_in kind who brought bytes).records ≡ bytes
list_refused kind who brought bytes why p =
    ap (λ (q : Progress). records_after q who (list_of kind (named who bytes) (records_in bytes) who brought).thread bytes) p

-- a record that is not there is not written, whatever came back
pub absent_stays : (p : Progress) (who : RecordNumber) (t : Record) (bytes : List ℕ) → records_in bytes ≤ who.0 → records_after p who t bytes ≡ bytes
unfolding record_written
absent_stays progress.Accepted who t bytes h = simp (le-ltb who.0 (records_in bytes) h)
absent_stays (progress.Answered a) who t bytes h = simp (le-ltb who.0 (records_in bytes) h)
absent_stays (progress.Refused why) who t bytes h = refl

-- no byte outside the named record's is written
written_stays : (b : Bool) (bytes : List ℕ) (place : ℕ) (t : Record) (i : ℕ) → i < 132 * place ⊎ 132 * place + 132 ≤ i
    → get_or (cond b (laid_at bytes (132 * place) t) bytes) i 0 ≡ get_or bytes i 0
written_stays false bytes place t i h = refl
written_stays true bytes place t i (inl h) = laid_before bytes (132 * place) t i h
written_stays true bytes place t i (inr h) = laid_behind bytes (132 * place) t i h

pub others_stay : (p : Progress) (who : RecordNumber) (t : Record) (bytes : List ℕ) (i : ℕ) → i < 132 * who.0 ⊎ 132 * who.0 + 132 ≤ i
    → get_or (records_after p who t bytes) i 0 ≡ get_or bytes i 0
unfolding record_written
others_stay progress.Accepted who t bytes i h = written_stays (ltb who.0 (records_in bytes)) bytes who.0 t i h
others_stay (progress.Answered a) who t bytes i h = written_stays (ltb who.0 (records_in bytes)) bytes who.0 t i h
others_stay (progress.Refused why) who t bytes i h = refl

-- the table that the bytes are read as
table_after : (p : Progress) (who : RecordNumber) (t : Record) (bytes : List ℕ) → who.0 < records_in bytes → Fits t
    → ((why : Refusal) → p ≡ progress.Refused why → t ≡ named who bytes) → table_of (records_after p who t bytes) ≡ set (table_of bytes) who.0 t
table_after progress.Accepted who t bytes h fits same = table_written bytes who.0 t fits
table_after (progress.Answered a) who t bytes h fits same = table_written bytes who.0 t fits
table_after (progress.Refused why) who t bytes h fits same =
    let e : t ≡ get_or (table_of bytes) who.0 (idle_record empty_list) = same why refl ∙ sym (in_table bytes who.0 (idle_record empty_list) h) in
    sym (ap (set (table_of bytes) who.0) e ∙ set-get_or (table_of bytes) who.0 (idle_record empty_list))

-- a call's result with the records read out of their bytes
abbrev pub as_table : {S : Type 0} → Called S → Turned (Table S)
as_table c = record { left = record { shared = c.shared; records = table_of c.records }; report = c.report; steps = c.steps }

-- a call of a record that is there is its turn in that table, if the record that it leaves fits its bytes
pub turns_table : {S : Type 0} (m : Moves S) → MovesLaws m → (who : RecordNumber) (o : Operation) (s : S) (bytes : List ℕ) → who.0 < records_in bytes
    → TurnFits m who o s bytes → as_table (called_in m who o s bytes) ≡ turn_in (λ n z t. turn_of m n who o z t) who (record { shared = s; records = table_of bytes })
turns_table m laws who o s bytes h fits =
    let own : ℕ → _ → Record → Run (Effect _) = λ n z t. turn_of m n who o z t in
    let u = own (records_in bytes) s (named who bytes) in
    let counted : records_in bytes ≡ length (table_of bytes) = sym (length_all_of bytes) in
    let read : named who bytes ≡ get_or (table_of bytes) who.0 (idle_record empty_list) = sym (in_table bytes who.0 (idle_record empty_list) h) in
    ap (λ (l : List Record). record { left = record { shared = u.left.shared; records = l }; report = u.left.report; steps = u.steps })
    (table_after u.left.report.progress who u.left.thread bytes h fits (λ why p. (moves_untouched m laws (records_in bytes) who o s (named who bytes) why p).1))
    ∙ tables.there own who s (table_of bytes) u who.0 refl (ap (λ (n : ℕ). own n s (named who bytes)) counted ∙ ap (own (length (table_of bytes)) s) read)

pub plain_turns : (who : RecordNumber) (o : Operation) (s : plain.Shared) (bytes : List ℕ) → who.0 < records_in bytes → PlainFits who o s bytes
    → as_table (plain_called who o s bytes) ≡ turn_in (λ n z t. plain_turn_of n who o z t) who (record { shared = s; records = table_of bytes })
plain_turns = turns_table plain_moves plain_laws

pub robust_turns : (who : RecordNumber) (o : Operation) (s : robust.Shared) (bytes : List ℕ) → who.0 < records_in bytes → RobustFits who o s bytes
    → as_table (robust_called who o s bytes) ≡ turn_in (λ n z t. robust_turn_of n who o z t) who (record { shared = s; records = table_of bytes })
robust_turns = turns_table robust_moves robust_laws

-- any two results are the same: of byte_turn and byte_setup on each dock, of death and list
abbrev plain_left : Done × List ℕ × UniqueIndexSet × List ℕ × List ℕ → Called plain.Shared
plain_left x = came_as (plain.shared x.2 x.3 x.4) x.1 x.0

abbrev plain_back : Called plain.Shared → Done × List ℕ × UniqueIndexSet × List ℕ × List ℕ
plain_back c = (record { report = c.report; steps = c.steps }, c.records, c.shared.set, c.shared.slots, c.shared.custody)

pub plain_determined : (c : Called plain.Shared) (x y : Done × List ℕ × UniqueIndexSet × List ℕ × List ℕ) → plain_left x ≡ c → plain_left y ≡ c → x ≡ y
plain_determined = determined plain_left plain_back (λ x. refl)

abbrev robust_left : Done × List ℕ × RobustUniqueIndexSet × List ℕ → Called robust.Shared
robust_left x = came_as (robust.shared x.2 x.3) x.1 x.0

abbrev robust_back : Called robust.Shared → Done × List ℕ × RobustUniqueIndexSet × List ℕ
robust_back c = (record { report = c.report; steps = c.steps }, c.records, c.shared.set, c.shared.cells)

pub robust_determined : (c : Called robust.Shared) (x y : Done × List ℕ × RobustUniqueIndexSet × List ℕ) → robust_left x ≡ c → robust_left y ≡ c → x ≡ y
robust_determined = determined robust_left robust_back (λ x. refl)

abbrev alone : Report × List ℕ → RecordsAlone
alone x = record { records = x.1; report = x.0 }

pub alone_determined : (n : RecordsAlone) (x y : Report × List ℕ) → alone x ≡ n → alone y ≡ n → x ≡ y
alone_determined = determined alone (λ n. (n.report, n.records)) (λ x. refl)
