-- Any two results that the contract of trace_piece allows are the same. Assumes nothing.
use Rattle.std.proofs.Common.{◌≡◌, ℕ, ◌+◌, List, length, sym, ap, ◌∙◌}
use Rattle.trace_text.specs.Laid.{laid}
use Rattle.trace_turns.proofs.Determined.{Lent, scene_lent, lent_in, lent_in_lem}
use Rattle.trace_lines.specs.declared.Stage.{Stage}
use Rattle.trace_lines.specs.declared.Wants.{Wants}
use Rattle.trace_lines.specs.declared.Piece.{Piece}
use Rattle.trace_lines.specs.Pieces.{Pieced, PieceAs}

-- what is held and lent, the stage, what is told, and the lines
abbrev Result : Type 0
Result = Lent × Stage × Piece × List ℕ

abbrev told : ℕ → ℕ → Wants → Piece
told used written w = record { used = used; written = written; wants = w }

piece_is : (p : Pieced) (out : List ℕ) (x : Result) → PieceAs p out x.2 x.1 (scene_lent x.0) x.3
    → x ≡ (lent_in p.scene, p.stage, told p.used (0 + length p.text) p.wants, laid out 0 p.text)
piece_is p out x h =
    ap (λ (l : Lent). (l, x.1, x.2, x.3)) (lent_in_lem x.0 p.scene h.scene)
    ∙ (ap (λ (s : Stage). (lent_in p.scene, s, x.2, x.3)) h.stage
    ∙ (ap (λ (n : ℕ). (lent_in p.scene, p.stage, told n x.2.written x.2.wants, x.3)) h.used
    ∙ (ap (λ (n : ℕ). (lent_in p.scene, p.stage, told p.used n x.2.wants, x.3)) h.laid.1
    ∙ (ap (λ (w : Wants). (lent_in p.scene, p.stage, told p.used (0 + length p.text) w, x.3)) h.wants
    ∙ ap (λ (o : List ℕ). (lent_in p.scene, p.stage, told p.used (0 + length p.text) p.wants, o)) h.laid.0))))

pub piece_determined : (p : Pieced) (out : List ℕ) (x y : Result) → PieceAs p out x.2 x.1 (scene_lent x.0) x.3
    → PieceAs p out y.2 y.1 (scene_lent y.0) y.3 → x ≡ y
piece_determined p out x y a b = piece_is p out x a ∙ sym (piece_is p out y b)
