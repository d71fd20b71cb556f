-- Bytes from a place on: those that are there, and zeros behind the end.
use Rattle.std.proofs.Common.{ℕ, zero, suc, ◌≡◌, ◌+◌, ◌-◌, ◌≤◌, List, [], ◌∷◌, ◌++◌, length, get_or, take, drop, replicate, min, refl, arith, ap, ◌∙◌}
use Rattle.std.proofs.lemmas.List.{get_or_past, drop_more}
use Rattle.std.proofs.Math.Nat.{suc-min-suc}
use lib.ListN.{length-drop}
use lib.Seq.{get_or-drop, take_all}
use Rattle.std.specs.List.{slice_range}
use Rattle.byte_numbers.specs.Numbers.{bytes_from}

pub none_there : (n : ℕ) (s : List ℕ) (at : ℕ) → length s ≤ at → replicate n 0 ≡ bytes_from n s at
none_there zero s at h = refl
none_there (suc n) s at h = rw (get_or_past s at 0 h) (ap (λ (l : List ℕ). 0 ∷ l) (none_there n s (at + 1) (omega (arith, h))))

taken : (n : ℕ) (s b : List ℕ) (at : ℕ) → b ≡ drop at s → take (min (length b) n) b ++ drop (min (length b) n) (replicate n 0) ≡ bytes_from n s at
taken zero s b at e = let m : min (length b) 0 ≡ 0 = omega arith in rw m refl
taken (suc n) s [] at e =
    let m : min 0 (suc n) ≡ 0 = omega arith in
    rw m (none_there (suc n) s at (omega (arith, ap length e, length-drop at s)))
taken (suc n) s (x ∷ b) at e =
    let same : x ∷ b ≡ get_or s at 0 ∷ drop (at + 1) s = e ∙ drop_more s at 0 (omega (arith, ap length e, length-drop at s)) in
    rw (suc-min-suc (length b) n)
    (ap (λ (y : ℕ). y ∷ (take (min (length b) n) b ++ drop (min (length b) n) (replicate n 0))) (ap (λ (l : List ℕ). get_or l 0 0) same)
    ∙ ap (λ (l : List ℕ). get_or s at 0 ∷ l) (taken n s b (at + 1) (ap (drop 1) same)))

pub padded : (n count : ℕ) (b front : List ℕ) → count ≡ min (length b) n → front ≡ take count b → front ++ drop count (replicate n 0) ≡ bytes_from n b 0
padded n count b front c f = rw f (rw c (taken n b b 0 refl))

shifted : (n : ℕ) (s : List ℕ) (at i : ℕ) → bytes_from n (drop at s) i ≡ bytes_from n s (at + i)
shifted zero s at i = refl
shifted (suc n) s at i =
    let next : at + (i + 1) ≡ at + i + 1 = omega arith in
    rw (get_or-drop at s i 0) (ap (λ (l : List ℕ). get_or s (at + i) 0 ∷ l) (shifted n s at (i + 1) ∙ ap (bytes_from n s) next))

-- as a slice that is cut there leaves them
pub moved : (n : ℕ) (s b : List ℕ) (at : ℕ) → b ≡ slice_range s at (length s) → bytes_from n b 0 ≡ bytes_from n s at
moved n s b at e =
    let same : at + 0 ≡ at = omega arith in
    rw (e ∙ take_all (length s - at) (drop at s) (omega (arith, length-drop at s))) (shifted n s at 0 ∙ ap (bytes_from n s) same)
