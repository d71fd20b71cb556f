-- Which records fit their bytes: those whose call and list do, the idle one among them. Assumes nothing.
use Prim.Native.Nat.{ℕ, zero, suc, ◌^◌, ◌<◌}
use mathlib.Core.Path.{refl}
use mathlib.Core.Bool.{Bool, true, false}
use mathlib.Core.List.{List, [], ◌∷◌}
use native.Mathlib.Omega.{arith}
use lib.ListN.{get_or}
use Rattle.thread_records.specs.Records.{empty_list, idle_record}
use Rattle.thread_records.specs.declared.Record.{Record}
use Rattle.record_bytes.specs.Fitting.{CallFits, ListFits}
use Rattle.record_bytes.specs.Layout.{Fits, dead_number, narrow_fields, middle_fields, wide_fields}

-- every one is below a bound
abbrev Each : ℕ → List ℕ → Type 0
Each b [] = Unit {0}
Each b (v ∷ l) = (v < b) × Each b l

below : (b : ℕ) (l : List ℕ) → 0 < b → Each b l → (i : ℕ) → get_or l i 0 < b
below b [] z each i = z
below b (v ∷ l) z each zero = each.0
below b (v ∷ l) z each (suc i) = below b l z each.1 i

dead_below : (d : Bool) → dead_number d < 256 ^ 1
dead_below true = omega arith
dead_below false = omega arith

-- as its call and its list do
pub parts_fit : (t : Record) → CallFits t.call → ListFits t.list → Fits t
parts_fit t c l = record {
  narrow = below (256 ^ 1) (narrow_fields t) (omega arith) (dead_below t.dead, (c.place, (c.mode, (l.count, tt))));
  middle = below (256 ^ 4) (middle_fields t) (omega arith) (c.index, (c.value, (c.reported, (c.room, (c.cell, (c.counted, tt))))));
  wide = below (256 ^ 8) (wide_fields t) (omega arith) (c.seen, (c.owner, (c.generation, (c.counted_at, (c.bump, (l.owner0, (l.owner1, (l.owner2, (l.owner3, (l.owner4, (l.owner5, (l.owner6, (l.owner7, tt)))))))))))));
  eight = l.eight;
}

pub idle_fits : Fits (idle_record empty_list)
idle_fits =
    let n : 0 < 256 ^ 1 = omega arith in
    let m : 0 < 256 ^ 4 = omega arith in
    let w : 0 < 256 ^ 8 = omega arith in
    parts_fit (idle_record empty_list)
    (record { place = n; mode = n; index = m; value = m; reported = m; room = m; cell = m; counted = m; seen = w; owner = w; generation = w; counted_at = w; bump = w })
    (record { count = n; owner0 = w; owner1 = w; owner2 = w; owner3 = w; owner4 = w; owner5 = w; owner6 = w; owner7 = w; eight = refl })
