-- Text laid into a buffer from a place on: what stands before it and behind it stays.
use Rattle.std.specs.Prelude.{ℕ, ◌+◌, ◌≡◌, List, ◌++◌, length, take, drop}

unfoldable pub laid : List ℕ → ℕ → List ℕ → List ℕ
laid l at text = take at l ++ (text ++ drop (at + length text) l)

-- the buffer as it is left, and the place behind the text
abbrev pub LaidAs : List ℕ → ℕ → List ℕ → List ℕ → ℕ → Type 0
LaidAs l at text l' behind = (l' ≡ laid l at text) × (behind ≡ at + length text)
