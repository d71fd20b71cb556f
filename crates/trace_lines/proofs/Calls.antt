-- One call made of its parts: the setup, or the turns and what ends a trace. Assumes nothing.
use Rattle.std.proofs.Common.{◌≡◌, ℕ, ◌-◌, Bool, true, false, [], length, drop, refl, sym, ap, ◌∙◌, arith}
use mathlib.Core.List as list
use Rattle.std.specs.Prelude.{Ok, Err}
use Rattle.schedule.specs.declared.SetupEntry.{SetupEntry}
use Rattle.schedule.specs.declared.NoEntry.TheVariants.{Cut}
use Rattle.schedule.specs.Format.{entry_of, rest_of}
use Rattle.schedule.proofs.Laws.{size_by_rest}
use Rattle.trace_text.specs.Laid.{LaidAs}
use Rattle.trace_text.proofs.Laying.{then, laid_none, laid_as}
use Rattle.trace_turns.specs.declared.runs.Made.{Made}
use Rattle.trace_turns.specs.Scenes.{Scene}
use Rattle.trace_turns.specs.Went.{Went, lacks_room, went_of, MadeAs}
use Rattle.trace_turns.proofs.Rests.{went_ends, ends_there}
use Rattle.trace_lines.specs.declared.Stage.{Stage}
use Rattle.trace_lines.specs.declared.Stage.TheVariants as stage
use Rattle.trace_lines.specs.declared.Wants.{Wants}
use Rattle.trace_lines.specs.declared.Wants.TheVariants as wants
use Rattle.trace_lines.specs.declared.Piece.{Piece}
use Rattle.trace_lines.specs.declared.closings.Closing.{Closing}
use Rattle.trace_lines.specs.Setups.{opened_of, BegunAs}
use Rattle.trace_lines.specs.Pieces.{piece, closing_of, closing_text, stage_closed, wants_closed, running_of, opening_of, wants_in, fresh_of, PieceAs}

abbrev pub none_of : Wants → Piece
none_of w = record { used = 0; written = 0; wants = w }

-- nothing is written, and nothing changes
pub still : (s : Scene) (out : list.List ℕ) (r : Piece) (is st : Stage) (w : Wants) → is ≡ st → r ≡ none_of w → PieceAs (piece st s 0 [] w) out r is s out
still s out r is st w i e = rw (i, e) (record { stage = refl; scene = refl; used = refl; wants = refl; laid = laid_none out 0 })

-- ---- the first entry
module _ (s : Scene) (bytes out : list.List ℕ) (last : Bool) where
  pub fresh_lacks : (r : Piece) (is : Stage) → is ≡ stage.Fresh → lacks_room (length out) 0 ≡ true → r ≡ none_of wants.Again → PieceAs (fresh_of (length out) s bytes last) out r is s out
  fresh_lacks r is i l e = rw l (still s out r is stage.Fresh wants.Again i e)

  module _ (has : lacks_room (length out) 0 ≡ false) where
    pub fresh_waits : (r : Piece) (is : Stage) → is ≡ stage.Fresh → opening_of (entry_of bytes) last ≡ Err Cut → r ≡ none_of wants.Bytes → PieceAs (fresh_of (length out) s bytes last) out r is s out
    fresh_waits r is i o e = rw (has, o) (still s out r is stage.Fresh wants.Bytes i e)

    pub fresh_begun : (x : SetupEntry) (st : Stage) (s' : Scene) (out' rest : list.List ℕ) (written : ℕ) (w : Wants) → opening_of (entry_of bytes) last ≡ Ok x
        → BegunAs (opened_of x s) st s' → LaidAs out 0 (opened_of x s).text out' written → rest ≡ rest_of bytes → w ≡ wants_in st
        → PieceAs (fresh_of (length out) s bytes last) out (record { used = length bytes - length rest; written = written; wants = w }) st s' out'
    fresh_begun x st s' out' rest written w o begun h er ew =
        rw (has, o) (record { stage = begun.stage; scene = begun.scene; used = ap (λ (l : list.List ℕ). length bytes - length l) er ∙ size_by_rest bytes; wants = ew ∙ ap wants_in begun.stage; laid = h })

-- ---- turns
module _ (s : Scene) (bytes out : list.List ℕ) (last : Bool) (made : Made) (s₁ : Scene) (out₁ : list.List ℕ) (m : MadeAs (went_of (length out) s bytes) bytes out made s₁ out₁)
    (kept : length out₁ ≡ length out) where
  abbrev W : Went
  W = went_of (length out) s bytes

  written_is : made.written ≡ length W.text
  written_is = m.laid.1 ∙ omega arith

  room : (b : Bool) → lacks_room (length out₁) made.written ≡ b → lacks_room (length out) (length W.text) ≡ b
  room b e = sym (ap (λ (n : ℕ). lacks_room n made.written) kept ∙ ap (lacks_room (length out)) written_is) ∙ e

  pub turns_lack : (is : Stage) → is ≡ stage.Running → lacks_room (length out₁) made.written ≡ true
      → PieceAs (running_of (length out) s bytes last) out (record { used = made.used; written = made.written; wants = wants.Again }) is s₁ out₁
  turns_lack is i l = rw (room true l) (record { stage = i; scene = m.scene; used = m.used; wants = refl; laid = m.laid })

  left_is : (left : list.List ℕ) → left ≡ drop made.used bytes → left ≡ W.rest
  left_is left e = e ∙ ap (λ (n : ℕ). drop n bytes) m.used ∙ ends_there bytes W.rest (went_ends (length bytes) (length out) s bytes 0)

  pub turns_close : (left : list.List ℕ) (c : Closing) (st : Stage) (w : Wants) (out₂ : list.List ℕ) (end : ℕ) → lacks_room (length out₁) made.written ≡ false → left ≡ drop made.used bytes
      → c ≡ closing_of (entry_of left) (length left) last → st ≡ stage_closed c → w ≡ wants_closed c → LaidAs out₁ made.written (closing_text s₁.shared.set s₁.counts c) out₂ end
      → PieceAs (running_of (length out) s bytes last) out (record { used = made.used; written = end; wants = w }) st s₁ out₂
  turns_close left c st w out₂ end l el ec es ew h =
      let c-is : c ≡ closing_of (entry_of W.rest) (length W.rest) last = ec ∙ ap (λ (z : list.List ℕ). closing_of (entry_of z) (length z) last) (left_is left el) in
      let text-is : closing_text s₁.shared.set s₁.counts c ≡ closing_text W.scene.shared.set W.scene.counts c = ap (λ (z : Scene). closing_text z.shared.set z.counts c) m.scene in
      rw (room false l, sym c-is)
      (record {
        stage = es;
        scene = m.scene;
        used = m.used;
        wants = ew;
        laid = then out out₁ W.text 0 made.written out₂ _ end m.within m.laid (laid_as _ _ _ _ _ _ text-is h);
      })
