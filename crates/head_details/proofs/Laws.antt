-- The head word's round trips: details whose fields fit their bits are unpacked again from their word, and any 64-bit word is packed
-- again from its details. Assumes nothing.
use Prim.Native.Nat.{ℕ, ◌<◌, ◌^◌}
use mathlib.Core.Path.{◌≡◌}
use native.Mathlib.Omega.{arith}
use Rattle.head_details.specs.declared.HeadDetails.{HeadDetails}
use Rattle.head_details.specs.Word.{head_of, tag_of, borrowed_of, details, unpacked, packed, Unpacked}

pub unpacked_as : (w : ℕ) (d : HeadDetails) → Unpacked w d → d ≡ unpacked w
unpacked_as w d u = simp (← u.head, ← u.aba, ← u.borrowed)

pub unpacked-packed : (h t b : ℕ) → h < 2 ^ 24 → t < 2 ^ 16 → b < 2 ^ 24 → unpacked (packed (details h t b)) ≡ details h t b
unpacked-packed h t b h' t' b' =
    let k : head_of (packed (details h t b)) ≡ h = omega arith in
    let l : tag_of (packed (details h t b)) ≡ t = omega arith in
    let m : borrowed_of (packed (details h t b)) ≡ b = omega arith in
    cc

pub packed-unpacked : (w : ℕ) → w < 2 ^ 64 → packed (unpacked w) ≡ w
packed-unpacked w h = omega arith
