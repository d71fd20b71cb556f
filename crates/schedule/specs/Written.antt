-- The bytes of an entry, written: what an entry at the front of a schedule looks like. A list's owners stand beside it, in their bytes, and what
-- follows the entry too.
use Rattle.std.specs.Prelude.{ℕ, ◌+◌, ◌*◌, ◌/◌, ◌%◌, ◌<◌, ◌≡◌, ◌∷◌, ◌++◌, length, get_or}
use mathlib.Core.List as list
use Rattle.schedule.specs.declared.Entry.{Entry}
use Rattle.schedule.specs.declared.Entry.TheVariants.{Setup, Start, Step, Death, List}

abbrev pub written4 : ℕ → list.List ℕ → list.List ℕ
written4 v t = v % 256 ∷ v / 256 % 256 ∷ v / 256 / 256 % 256 ∷ v / 256 / 256 / 256 % 256 ∷ t

abbrev pub written8 : ℕ → list.List ℕ → list.List ℕ
written8 v t = written4 (v % 4294967296) (written4 (v / 4294967296) t)

abbrev pub written : Entry → list.List ℕ → list.List ℕ → list.List ℕ
written (Setup e) owners t = 8 ∷ 0 ∷ 1 ∷ 0 ∷ e.set ∷ e.records ∷ written4 e.capacity t
written (Start e) owners t = 17 ∷ 0 ∷ 2 ∷ 0 ∷ e.who.0 ∷ e.request.call ∷ written4 e.request.index_or_room (written8 e.request.owner.0 (e.request.mode ∷ t))
written (Step who) owners t = 3 ∷ 0 ∷ 3 ∷ 0 ∷ who.0 ∷ t
written (Death who) owners t = 3 ∷ 0 ∷ 4 ∷ 0 ∷ who.0 ∷ t
written (List e) owners t = (4 + 8 * e.count) % 256 ∷ (4 + 8 * e.count) / 256 ∷ 5 ∷ 0 ∷ e.who.0 ∷ e.count ∷ owners ++ t

-- its numbers are of their widths, and a list has so many owners
abbrev pub InWidth : Entry → list.List ℕ → Type 0
InWidth (Setup e) owners = e.capacity < 4294967296
InWidth (Start e) owners = (e.request.index_or_room < 4294967296) × (e.request.owner.0 < 18446744073709551616)
InWidth (Step who) owners = Unit {0}
InWidth (Death who) owners = Unit {0}
InWidth (List e) owners = (e.count < 256) × (length owners ≡ 8 * e.count)

-- every one is a byte
abbrev pub Bytes : list.List ℕ → Type 0
Bytes s = (i : ℕ) → get_or s i 0 < 256
