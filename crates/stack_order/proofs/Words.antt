-- The head word's fields, and the tag. Assumes nothing.
use mathlib.Core.Path.{◌≡◌}
use Prim.Native.Nat.{ℕ, suc, ◌+◌, ◌-◌, ◌%◌, ◌≤◌, ◌<◌}
use native.Mathlib.Omega.{arith}
use Rattle.stack_order.proofs.Machine.{head_of, tag_of, bor_of, pack}

pub head_pack : (h t b : ℕ) → h < 16777216 → t < 65536 → head_of (pack h t b) ≡ h
unfolding head_of pack
head_pack h t b p q = omega arith

pub tag_pack : (h t b : ℕ) → t < 65536 → tag_of (pack h t b) ≡ t
unfolding tag_of pack
tag_pack h t b p = omega arith

pub bor_pack : (h t b : ℕ) → b < 16777216 → bor_of (pack h t b) ≡ b
unfolding bor_of pack
bor_pack h t b q = omega arith

pub tag_same : (n₀ n : ℕ) → n₀ ≤ n → n - n₀ < 65536 → n₀ % 65536 ≡ n % 65536 → n₀ ≡ n
tag_same n₀ n p q e = omega arith

pub tag_next : (n : ℕ) → (n % 65536 + 1) % 65536 ≡ suc n % 65536
tag_next n = omega arith

pub tag_bound : (n : ℕ) → n % 65536 < 65536
tag_bound n = omega arith
