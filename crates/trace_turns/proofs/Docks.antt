-- The turn of a scene is the dock's turn on the records that are lent; and a scene whose lent records stand among the 16 that it holds stays one.
-- Assumes nothing else.
use Rattle.std.proofs.Common.{◌≡◌, ℕ, zero, suc, ◌<◌, ◌≤◌, Bool, true, false, cond, ltb, [], ◌∷◌, length, get_or, take, set, sym, refl, ap, ◌∙◌, le_of_suc-le-suc, not-suc-le-zero, arith, length-set, length-take-le, ltb-false, ltb-true}
use mathlib.Core.List as list
use lib.ListN.{get_or-eq_default}
use lib.Seq.{take-set-lt, set_out}
use Rattle.thread_records.specs.declared.Record.{Record}
use Rattle.thread_records.specs.Records.{empty_list, idle_record}
use Rattle.turns.specs.Docks.{Dock, turn, docked}
use Rattle.dock.specs.declared.Turn.{Turn}
use Rattle.dock.specs.declared.Work.TheVariants as work
use Rattle.dock.specs.Works.{Worked, settled_thread, table, worked_table}
use Rattle.dock.proofs.Works.{lent_read, work_turn}
use Rattle.any_dock.specs.declared.AnySet.{AnySet}
use Rattle.any_dock.specs.declared.AnySet.TheVariants.{Plain, Robust}
use Rattle.any_dock.specs.Any.{AnyShared, work_on, dock_of}
use Rattle.any_dock.proofs.Laws.{any_works, any_dock_lem}
use Rattle.trace_turns.specs.Scenes.{Scene, turn_at, place_at, seats_of, beyond, fetched_at, stored_at, read_in, worked_by, worked_of, scene_by, scene_after}

-- no more are lent than are held, of which there are 16
pub record Seated (s : Scene) : Type 0 where
  pub lent : s.lent ≤ 16
  pub held : length s.held ≡ 16

abbrev pub dock_in : Scene → Dock
dock_in s = dock_of (table s.shared (take s.lent s.held))

seats_lent : (n : ℕ) → n ≤ 16 → seats_of n ≡ n
seats_lent n h = by-test (ltb n 16) refl
  where
    by-test : (b : Bool) → ltb n 16 ≡ b → cond b n 16 ≡ n
    by-test true e = refl
    by-test false e = omega (arith, h, ltb-false n 16 e)

-- within a list it does not matter what stands beyond it
any_default : (l : list.List Record) (i : ℕ) (c d : Record) → i < length l → get_or l i c ≡ get_or l i d
any_default [] i c d h = absurd (not-suc-le-zero h)
any_default (x ∷ l) zero c d h = refl
any_default (x ∷ l) (suc i) c d h = any_default l i c d (le_of_suc-le-suc h)

-- the record that is read, and the records as it is stored, are those of the part that is lent
module _ (n place : ℕ) (held : list.List Record) (few : n ≤ 16) (many : length held ≡ 16) where
  fetched_as : fetched_at n place held ≡ get_or (take n held) place (idle_record empty_list)
  fetched_as = rw (seats_lent n few) (by-test (ltb place n) refl)
    where
      by-test : (b : Bool) → ltb place n ≡ b → cond b (get_or held place beyond) (idle_record empty_list) ≡ get_or (take n held) place (idle_record empty_list)
      by-test true e =
          let below : place < n = ltb-true place n e in
          any_default held place beyond (idle_record empty_list) (omega (arith, below, few, many)) ∙ sym (lent_read n place held (idle_record empty_list) below)
      by-test false e = sym (get_or-eq_default (take n held) (idle_record empty_list) (omega (arith, ltb-false place n e, length-take-le n held (omega (arith, few, many)))))

  stored_as : (t : Record) → take n (stored_at n place t held) ≡ set (take n held) place t
  stored_as t = rw (seats_lent n few) (by-test (ltb place n) refl)
    where
      by-test : (b : Bool) → ltb place n ≡ b → take n (cond b (set held place t) held) ≡ set (take n held) place t
      by-test true e = take-set-lt n held place t (ltb-true place n e)
      by-test false e = sym (set_out (take n held) place t (omega (arith, ltb-false place n e, length-take-le n held (omega (arith, few, many)))))

  stored_held : (t : Record) → length (stored_at n place t held) ≡ 16
  stored_held t = rw (seats_lent n few) (by-test (ltb place n))
    where
      by-test : (b : Bool) → length (cond b (set held place t) held) ≡ 16
      by-test true = length-set held place t ∙ many
      by-test false = many

-- what work leaves, where a turn is settled
settles : (n : ℕ) (w : Turn) (set : AnySet) (slots custody cells : list.List ℕ) (t : Record) (records : list.List Record)
    → worked_table (work_on n (work.Turn w) set slots custody cells t) records
    ≡ record { left = table (work_on n (work.Turn w) set slots custody cells t).shared (lib.ListN.set records w.who.0 (settled_thread (work_on n (work.Turn w) set slots custody cells t).settled)); report = (work_on n (work.Turn w) set slots custody cells t).report; steps = (work_on n (work.Turn w) set slots custody cells t).steps }
settles n w (Plain s) slots custody cells t records = refl
settles n w (Robust s) slots custody cells t records = refl

module _ (s : Scene) (b : list.List ℕ) (seated : Seated s) where
  abbrev n : ℕ
  n = s.lent

  abbrev R : list.List Record
  R = take n s.held

  abbrev W : ℕ → Record → Worked AnyShared
  W k t = work_on k (work.Turn (turn_at b)) s.shared.set s.shared.slots s.shared.custody s.shared.cells t

  long : length R ≡ n
  long = length-take-le n s.held (omega (arith, seated.lent, seated.held))

  -- with what the turn tells, and how many steps it took
  pub scene_turn : turn (turn_at b).who (turn_at b).operation (dock_in s)
      ≡ record { left = dock_in (scene_after s b); report = (worked_of n s.shared (read_in s b) b).report; steps = (worked_of n s.shared (read_in s b) b).steps }
  unfolding scene_after scene_by worked_by
  scene_turn =
      sym (work_turn (turn_at b) (dock_in s))
      ∙ sym (any_dock_lem (work.Turn (turn_at b)) s.shared.slots s.shared.custody s.shared.cells R s.shared.set)
      ∙ ap (docked dock_of)
      (sym (any_works (work.Turn (turn_at b)) s.shared.slots s.shared.custody s.shared.cells R s.shared.set)
      ∙ ap (λ (k : ℕ). worked_table (W k (get_or R (place_at b) (idle_record empty_list))) R) long
      ∙ ap (λ (t : Record). worked_table (W n t) R) (sym (fetched_as n (place_at b) s.held seated.lent seated.held))
      ∙ settles n (turn_at b) s.shared.set s.shared.slots s.shared.custody s.shared.cells (read_in s b) R
      ∙ ap (λ (l : list.List Record). record { left = table (W n (read_in s b)).shared l; report = (W n (read_in s b)).report; steps = (W n (read_in s b)).steps }) (sym (stored_as n (place_at b) s.held seated.lent seated.held (settled_thread (W n (read_in s b)).settled))))

  pub seated_after : Seated (scene_after s b)
  unfolding scene_after scene_by
  seated_after = record { lent = seated.lent; held = stored_held n (place_at b) s.held seated.lent seated.held (settled_thread (worked_of n s.shared (read_in s b) b).settled) }
