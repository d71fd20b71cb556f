-- The bytes that are left stand at the end of those that were given. Assumes nothing.
use Rattle.std.proofs.Common.{◌≡◌, ℕ, zero, suc, ◌+◌, ◌-◌, Bool, true, false, cond, List, [], ◌++◌, length, take, drop, sym, refl, ap, ◌∙◌, append_assoc, arith, length-append, take-append-drop, drop_at}
use Rattle.schedule.specs.Format.{rest_of, size_of}
use Rattle.trace_turns.specs.Scenes.{Scene, scene_after, told_in}
use Rattle.trace_turns.specs.Went.{stopped, behind, goes_on, went}

-- one list at the end of another
abbrev pub EndsWith : List ℕ → List ℕ → Type 0
EndsWith b r = (taken : List ℕ) × (b ≡ taken ++ r)

rest_ends : (b : List ℕ) → EndsWith b (rest_of b)
unfolding rest_of
rest_ends b = (take (size_of b) b, sym (take-append-drop (size_of b) b))

both : (b c d : List ℕ) → EndsWith b c → EndsWith c d → EndsWith b d
both b c d (t, e) (u, f) = (t ++ u, e ∙ ap (λ (z : List ℕ). t ++ z) f ∙ sym (append_assoc t u d))

pub went_ends : (k room : ℕ) (s : Scene) (b : List ℕ) (at : ℕ) → EndsWith b (went k room s b at).rest
unfolding went
went_ends zero room s b at = ([], refl)
went_ends (suc k) room s b at = by-test (goes_on b room at) (went_ends k room (scene_after s b) (rest_of b) (at + length (told_in s b)))
  where
    by-test : (g : Bool) → EndsWith (rest_of b) (went k room (scene_after s b) (rest_of b) (at + length (told_in s b))).rest
        → EndsWith b (cond g (behind (told_in s b) (went k room (scene_after s b) (rest_of b) (at + length (told_in s b)))) (stopped s b)).rest
    by-test true later = both b (rest_of b) _ (rest_ends b) later
    by-test false later = ([], refl)

-- so it is what stands behind as many bytes as the lengths differ by
module _ (b r : List ℕ) (e : EndsWith b r) where
  lengths : length b ≡ length e.0 + length r
  lengths = ap length e.1 ∙ length-append e.0 r

  pub ends_there : drop (length b - length r) b ≡ r
  ends_there = ap (λ (z : List ℕ). drop (length b - length r) z) e.1 ∙ drop_at e.0 r (length b - length r) (omega (arith, lengths))
