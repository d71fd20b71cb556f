-- A number spelled: its last digit, and before it those of what is left. Assumes nothing.
use Rattle.std.proofs.Common.{ℕ, suc, ◌-◌, ◌≡◌, ◌+◌, ◌/◌, ◌%◌, ◌≤◌, ◌<◌, List, [], ◌∷◌, length, refl, sym, ap, subst, ◌∙◌, arith, rules, decimal}
use Rattle.std.specs.Prelude.{◌^◌}
use Rattle.std.specs.Str.{IsUtf8}
use Rattle.std.proofs.lemmas.Fmt.{PrependsLastDigit, decimal_from_prepends, length-decimal-le, IsAscii-decimal}
use Rattle.std.proofs.lemmas.List.{take_all}
use Rattle.std.proofs.lemmas.Str.{IsUtf8-from_ascii}
use Rattle.std.proofs.lemmas.Grind.{common_steps}
use borrow.Author.Tests.{lt-ltb, le-ltb}
use lib.ListN.{get_or, set, take, drop, length-set, length-drop, drop_of_length-le}
use lib.Seq.{drop-cons, get_or-set_same, drop-set-lt}
use Rattle.numerals.specs.Digits.{decimal_by, decimal_of}

pub by_more : (n v : ℕ) (t : List ℕ) → 10 ≤ v → decimal_by (suc n) v t ≡ decimal_by n (v / 10) ((48 + v % 10) ∷ t)
unfolding decimal_by
by_more n v t h = simp (le-ltb v 10 h)

pub by_last : (n v : ℕ) (t : List ℕ) → v < 10 → decimal_by (suc n) v t ≡ (48 + v) ∷ t
unfolding decimal_by
by_last n v t h = simp (lt-ltb v 10 h)

pub by_none : (v : ℕ) (t : List ℕ) → decimal_by 0 v t ≡ t
unfolding decimal_by
by_none v t = refl

own : PrependsLastDigit decimal_by
unfolding decimal_by
own = search rules

-- it is std's
pub own_decimal : (n : ℕ) → n < 2 ^ 64 → decimal n ≡ decimal_of n
own_decimal n h =
    let short : length (decimal n) ≤ 20 = search (rules, length-decimal-le 20) in
    let e = decimal_from_prepends decimal_by own 20 n [] h short in
    grind (arith, common_steps, e)

-- what holds while its digits are written, from behind, into a row of 20
pub record Spelled (v : ℕ) (digits : List ℕ) (first left : ℕ) : Type 0 where
  pub long : length digits ≡ 20
  pub within : first < 20
  pub digit : get_or digits first 0 ≡ 48 + left % 10
  pub rest : decimal_by (suc first) left (drop (suc first) digits) ≡ decimal_of v

-- the last digit is written
pub begun : (v : ℕ) (digits : List ℕ) → length digits ≡ 20 → Spelled v (set digits 19 (48 + v % 10)) 19 v
begun v digits l =
    let m : length (set digits 19 (48 + v % 10)) ≡ 20 = length-set digits 19 (48 + v % 10) ∙ l in
    record {
      long = m;
      within = omega arith;
      digit = get_or-set_same digits 19 (48 + v % 10) 0 (omega (arith, l));
      rest = ap (decimal_by 20 v) (drop_of_length-le (set digits 19 (48 + v % 10)) {i = 20} (omega (arith, m)));
    }

module _ (v : ℕ) (digits : List ℕ) (first left : ℕ) (s : Spelled v digits first left) where
  -- the digits from the first on
  from_first : drop first digits ≡ (48 + left % 10) ∷ drop (suc first) digits
  from_first = drop-cons digits first 0 (omega (arith, s.long, s.within)) ∙ ap (λ (d : ℕ). d ∷ drop (suc first) digits) s.digit

  -- one more is written before them
  pub further : 10 ≤ left → 0 < first → Spelled v (set digits (first - 1) (48 + left / 10 % 10)) (first - 1) (left / 10)
  further h p =
      let x : ℕ = 48 + left / 10 % 10 in
      let e : suc (first - 1) ≡ first = omega (arith, p) in
      record {
        long = length-set digits (first - 1) x ∙ s.long;
        within = omega (arith, s.within);
        digit = get_or-set_same digits (first - 1) x 0 (omega (arith, s.long, s.within));
        rest =
            ap (λ (k : ℕ). decimal_by k (left / 10) (drop k (set digits (first - 1) x))) e
            ∙ ap (decimal_by first (left / 10)) (drop-set-lt first digits (first - 1) x (omega (arith, p)) ∙ from_first)
            ∙ sym (by_more first left (drop (suc first) digits) h)
            ∙ s.rest;
      }

  -- all are written
  pub spelled : left < 10 → drop first digits ≡ decimal_of v
  spelled h =
      let z : 48 + left % 10 ≡ 48 + left = omega (arith, h) in
      from_first ∙ ap (λ (d : ℕ). d ∷ drop (suc first) digits) z ∙ sym (by_last first left (drop (suc first) digits) h) ∙ s.rest

  -- there is no room for another, and none is needed
  pub spelled_whole : 10 ≤ left → first ≡ 0 → drop first digits ≡ decimal_of v
  spelled_whole h e =
      from_first ∙ sym (ap (λ (k : ℕ). decimal_by k (left / 10) ((48 + left % 10) ∷ drop (suc first) digits)) e ∙ by_none _ _)
      ∙ sym (by_more first left (drop (suc first) digits) h) ∙ s.rest

-- its bytes are a text
pub is_text : (v : ℕ) → v < 2 ^ 64 → IsUtf8 (decimal_of v)
is_text v h = subst IsUtf8 (own_decimal v h) (IsUtf8-from_ascii (decimal v) (IsAscii-decimal v h))

pub whole_text : (v first : ℕ) (digits : List ℕ) → length digits ≡ 20 → drop first digits ≡ decimal_of v → take (20 - first) (drop first digits) ≡ decimal_of v
whole_text v first digits l e =
    let n : length (drop first digits) ≤ 20 - first = omega (arith, length-drop first digits, l) in
    take_all (20 - first) (drop first digits) n ∙ e

pub text_in : (v first : ℕ) (digits : List ℕ) → v < 2 ^ 64 → length digits ≡ 20 → drop first digits ≡ decimal_of v → IsUtf8 (take (20 - first) (drop first digits))
text_in v first digits h l e = rw (whole_text v first digits l e) (is_text v h)
