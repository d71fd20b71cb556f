-- The head word (HeadDetails, unique_index_set.rs 234 to 254): bits 40..63 the head, 24..39 the tag, 0..23 the borrowed count.
use Rattle.std.specs.Prelude.{ℕ, ◌+◌, ◌*◌, ◌/◌, ◌%◌, ◌^◌, ◌≡◌}
use Rattle.unique_index_set_enums.specs.Kinds.{index, tag}
use Rattle.head_details.specs.declared.HeadDetails.{HeadDetails}

abbrev pub head_of : ℕ → ℕ
head_of w = w / 2 ^ 40 % 2 ^ 24

abbrev pub tag_of : ℕ → ℕ
tag_of w = w / 2 ^ 24 % 2 ^ 16

abbrev pub borrowed_of : ℕ → ℕ
borrowed_of w = w % 2 ^ 24

abbrev pub details : ℕ → ℕ → ℕ → HeadDetails
details h t b = record { head = index h; aba = tag t; borrowed_indices = b }

-- HeadDetails::from, 241 to 247
abbrev pub unpacked : ℕ → HeadDetails
unpacked w = details (head_of w) (tag_of w) (borrowed_of w)

-- HeadDetails::value, 249 to 253: the head and the borrowed count are cut to 24 bits
abbrev pub packed : HeadDetails → ℕ
packed d = d.head.0 % 2 ^ 24 * 2 ^ 40 + d.aba.0 * 2 ^ 24 + d.borrowed_indices % 2 ^ 24

-- `d ≡ unpacked w`, field by field
pub record Unpacked (w : ℕ) (d : HeadDetails) : Type 0 where
  pub head : d.head.0 ≡ head_of w
  pub aba : d.aba.0 ≡ tag_of w
  pub borrowed : d.borrowed_indices ≡ borrowed_of w
