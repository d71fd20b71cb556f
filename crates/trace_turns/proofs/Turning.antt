-- The turns of a loop: what is written so far and what is still to come are, together, what the whole comes to. Assumes nothing.
use Rattle.std.proofs.Common.{◌≡◌, ℕ, zero, suc, ◌+◌, ◌-◌, ◌<◌, ◌≤◌, Bool, true, false, cond, List, [], ◌++◌, length, sym, refl, ap, ◌∙◌, append_assoc, append-nil, arith, ltb-false}
use Rattle.std.specs.Prelude.{Option, Some, None}
use Rattle.dock.specs.declared.Turn.{Turn}
use Rattle.schedule.specs.Format.{entry_of, rest_of}
use Rattle.schedule.proofs.Laws.{no}
use Rattle.trace_text.specs.Laid.{LaidAs}
use Rattle.trace_text.specs.Lines.{Text}
use Rattle.trace_text.proofs.Laying.{then, laid_none, laid_as, laid-length}
use Rattle.trace_turns.specs.declared.runs.Made.{Made}
use Rattle.trace_turns.specs.Scenes.{Scene, is_turn, turn_at, scene_by, told_by, scene_after, told_in}
use Rattle.trace_turns.specs.Went.{Went, stopped, behind, lacks_room, goes_on, next_turn, went, went_of, MadeAs}
use Rattle.trace_turns.proofs.Shorter.{turn_shorter}

-- there is room where it goes on
pub lacking : (room at : ℕ) → lacks_room room at ≡ false → at + 256 ≤ room
unfolding lacks_room
lacking room at e = ltb-false room (at + 256) e

-- and the entry is a turn
goes : (bytes : List ℕ) (room at : ℕ) → goes_on bytes room at ≡ true → (at + 256 ≤ room) × (is_turn (entry_of bytes) ≡ true)
unfolding goes_on
goes bytes room at g = by-test (lacks_room room at) refl g
  where
    by-test : (b : Bool) → lacks_room room at ≡ b → cond b false (is_turn (entry_of bytes)) ≡ true → (at + 256 ≤ room) × (is_turn (entry_of bytes) ≡ true)
    by-test true e h = no h
    by-test false e h = (lacking room at e, h)

-- a turn is next where it goes on, and it is that of the entry at the front
pub record Next (bytes : List ℕ) (limit at : ℕ) (turn : Turn) : Type 0 where
  pub goes : goes_on bytes limit at ≡ true
  pub room : at + 256 ≤ limit
  pub smaller : length (rest_of bytes) < length bytes
  pub is : turn ≡ turn_at bytes

abbrev turn_back : Turn → Option Turn → Turn
turn_back t (Some u) = u
turn_back t None = t

pub is_next : (bytes : List ℕ) (room at : ℕ) (o : Option Turn) (turn : Turn) → o ≡ next_turn bytes room at → o ≡ Some turn → Next bytes room at turn
is_next bytes room at o turn e is = by-going (goes_on bytes room at) refl (sym is ∙ e)
  where
    by-going : (g : Bool) → goes_on bytes room at ≡ g → Some turn ≡ cond g (Some (turn_at bytes)) None → Next bytes room at turn
    by-going true g f = let h = goes bytes room at g in record { goes = g; room = h.0; smaller = turn_shorter bytes h.1; is = ap (turn_back turn) f }
    by-going false g f = cc

pub is_last : (bytes : List ℕ) (room at : ℕ) (o : Option Turn) → o ≡ next_turn bytes room at → o ≡ None → goes_on bytes room at ≡ false
is_last bytes room at o e is = by-going (goes_on bytes room at) refl (sym is ∙ e)
  where
    by-going : (g : Bool) → goes_on bytes room at ≡ g → None ≡ cond g (Some (turn_at bytes)) None → goes_on bytes room at ≡ false
    by-going true g f = cc
    by-going false g f = g

behind_both : (a b : Text) (w : Went) → behind a (behind b w) ≡ behind (a ++ b) w
behind_both a b w = ap (λ (t : Text). record { scene = w.scene; rest = w.rest; text = t }) (sym (append_assoc a b w.text))

-- so many turns are enough for what is left
pub record Along (s₀ : Scene) (bytes out₀ : List ℕ) (s : Scene) (out left : List ℕ) (written : ℕ) : Type 0 where
  pub turns : ℕ
  pub enough : length left ≤ turns
  pub text : Text
  pub laid : LaidAs out₀ 0 text out written
  pub room : written ≤ length out₀
  pub goes : behind text (went turns (length out₀) s left written) ≡ went_of (length out₀) s₀ bytes
  pub short : length left ≤ length bytes

pub starts : (s₀ : Scene) (bytes out₀ : List ℕ) → Along s₀ bytes out₀ s₀ out₀ bytes 0
starts s₀ bytes out₀ = record { turns = length bytes; enough = omega arith; text = []; laid = laid_none out₀ 0; room = omega arith; goes = refl; short = omega arith }

module _ (s₀ : Scene) (bytes out₀ : List ℕ) where
  pub length_kept : (s : Scene) (out left : List ℕ) (written : ℕ) → Along s₀ bytes out₀ s out left written → length out ≡ length out₀
  length_kept s out left written a = ap length a.laid.0 ∙ laid-length out₀ a.text 0 (omega (arith, a.laid.1, a.room))

  went_more : (k room : ℕ) (s : Scene) (left : List ℕ) (at : ℕ) → goes_on left room at ≡ true
      → went (suc k) room s left at ≡ behind (told_in s left) (went k room (scene_after s left) (rest_of left) (at + length (told_in s left)))
  unfolding went
  went_more k room s left at g = simp g

  went_no_more : (k room : ℕ) (s : Scene) (left : List ℕ) (at : ℕ) → goes_on left room at ≡ false → went k room s left at ≡ stopped s left
  unfolding went
  went_no_more zero room s left at g = refl
  went_no_more (suc k) room s left at g = simp g

  module _ (s : Scene) (out left : List ℕ) (written : ℕ) (a : Along s₀ bytes out₀ s out left written) where
    kept : length out ≡ length out₀
    kept = length_kept s out left written a

    goes_kept : (g : Bool) → goes_on left (length out) written ≡ g → goes_on left (length out₀) written ≡ g
    goes_kept g e = ap (λ (m : ℕ). goes_on left m written) (sym kept) ∙ e

    pub steps : (turn : Turn) (s' : Scene) (out' left' : List ℕ) (written' : ℕ) → Next left (length out) written turn
        → LaidAs out written (told_by s turn) out' written' → written' ≤ written + 256 → left' ≡ rest_of left → s' ≡ scene_by s turn → Along s₀ bytes out₀ s' out' left' written'
    unfolding scene_after told_in
    steps turn s' out' left' written' next l n el es = by-turns a.turns a.enough a.goes
      where
        told_is : told_by s turn ≡ told_in s left
        told_is = ap (told_by s) next.is

        laid_in : LaidAs out written (told_in s left) out' written'
        laid_in = laid_as _ _ _ _ _ _ told_is l

        by-turns : (turns : ℕ) → length left ≤ turns → behind a.text (went turns (length out₀) s left written) ≡ went_of (length out₀) s₀ bytes → Along s₀ bytes out₀ s' out' left' written'
        by-turns zero h e = absurd (omega (arith, h, next.smaller))
        by-turns (suc k) h e = record {
          turns = k;
          enough = rw el (omega (arith, h, next.smaller));
          text = a.text ++ told_in s left;
          laid = then out₀ out a.text 0 written out' (told_in s left) written' a.room a.laid laid_in;
          room = omega (arith, next.room, kept, n);
          goes = rw (es, next.is, el, laid_in.1) (sym (behind_both a.text (told_in s left) _) ∙ ap (behind a.text) (sym (went_more k (length out₀) s left written (goes_kept true next.goes))) ∙ e);
          short = rw el (omega (arith, next.smaller, a.short));
        }

    pub ends : (r : Made) → goes_on left (length out) written ≡ false → r.used ≡ length bytes - length left → r.written ≡ written → MadeAs (went_of (length out₀) s₀ bytes) bytes out₀ r s out
    ends r g eu ew =
        let all : behind a.text (stopped s left) ≡ went_of (length out₀) s₀ bytes = ap (behind a.text) (sym (went_no_more a.turns (length out₀) s left written (goes_kept false g))) ∙ a.goes in
        record {
          scene = ap (λ (w : Went). w.scene) all;
          used = eu ∙ ap (λ (w : Went). length bytes - length w.rest) all;
          laid = laid_as _ _ _ _ _ _ (sym (append-nil a.text) ∙ ap (λ (w : Went). w.text) all) (rw ew a.laid);
          within = rw ew a.room;
        }
