-- What is kept in a buffer of which the first `count` bytes are filled and the first `used` of these were read: the others, at its front.
use Rattle.std.specs.Prelude.{ℕ, ◌-◌, cond, List, ◌++◌, ltb, length, take, drop}

-- a count that the buffer does not have keeps nothing
unfoldable pub kept_count : ℕ → ℕ → ℕ → ℕ
kept_count room used count = cond (ltb room count) 0 (count - used)

unfoldable pub moved_in : List ℕ → ℕ → ℕ → List ℕ
moved_in b used n = take n (drop used b) ++ drop n b

abbrev pub kept_in : List ℕ → ℕ → ℕ → List ℕ
kept_in b used count = moved_in b used (kept_count (length b) used count)
