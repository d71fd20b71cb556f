-- Any two results that the contract of make_turns allows are the same. Assumes nothing.
use Rattle.std.proofs.Common.{◌≡◌, ℕ, ◌+◌, ◌-◌, List, length, sym, ap, ◌∙◌}
use Rattle.trace_text.specs.Laid.{laid}
use Rattle.trace_turns.specs.declared.runs.Running.{Running}
use Rattle.trace_turns.specs.declared.runs.Made.{Made}
use Rattle.trace_turns.specs.Scenes.{Scene, scene_of}
use Rattle.trace_turns.specs.Went.{Went, MadeAs}

-- what is held and lent, out of the scene that it makes
abbrev pub Lent : Type 0
Lent = Running × List ℕ × List ℕ × List ℕ

abbrev pub scene_lent : Lent → Scene
scene_lent l = scene_of l.0 l.1 l.2 l.3

abbrev pub lent_in : Scene → Lent
lent_in s =
    (record { set = s.shared.set; counts = s.counts; records = s.lent; table = s.held }, s.shared.slots, s.shared.custody, s.shared.cells)

pub lent_in_lem : (l : Lent) (s : Scene) → scene_lent l ≡ s → l ≡ lent_in s
lent_in_lem l s e = ap lent_in e

-- with what is told, and the lines
abbrev Result : Type 0
Result = Lent × Made × List ℕ

made_is : (w : Went) (bytes out : List ℕ) (x : Result) → MadeAs w bytes out x.1 (scene_lent x.0) x.2
    → x ≡ (lent_in w.scene, record { used = length bytes - length w.rest; written = 0 + length w.text }, laid out 0 w.text)
made_is w bytes out x h =
    ap (λ (l : Lent). (l, x.1, x.2)) (lent_in_lem x.0 w.scene h.scene)
    ∙ (ap (λ (n : ℕ). (lent_in w.scene, record { used = n; written = x.1.written }, x.2)) h.used
    ∙ (ap (λ (n : ℕ). (lent_in w.scene, record { used = length bytes - length w.rest; written = n }, x.2)) h.laid.1
    ∙ ap (λ (o : List ℕ). (lent_in w.scene, record { used = length bytes - length w.rest; written = 0 + length w.text }, o)) h.laid.0))

pub made_determined : (w : Went) (bytes out : List ℕ) (x y : Result) → MadeAs w bytes out x.1 (scene_lent x.0) x.2
    → MadeAs w bytes out y.1 (scene_lent y.0) y.2 → x ≡ y
made_determined w bytes out x y p q = made_is w bytes out x p ∙ sym (made_is w bytes out y q)
