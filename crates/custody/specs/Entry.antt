-- A custody entry: a byte for the kind, one for the holder, one for the giver. Free is exactly 0; anything else is unknown:
-- nobody's, not held, not free.
use Rattle.std.specs.Prelude.{ℕ, ◌+◌, ◌*◌, ◌/◌, ◌%◌, cond, eqb, Result, Ok, Err}
use Rattle.unique_index_set_enums.specs.Kinds.{record_number}
use Rattle.custody.specs.declared.Custody.{Custody}
use Rattle.custody.specs.declared.Custody.TheVariants.{Free, Granting, Held, Giving}
use Rattle.custody.specs.declared.UnknownEntry.{UnknownEntry}

abbrev pub owned_by : ℕ → ℕ → ℕ → ℕ
owned_by kind holder giver = kind + holder * 256 + giver * 65_536

abbrev pub entry_of : Custody → ℕ
entry_of Free = 0
entry_of (Granting who) = owned_by 1 who.0 0
entry_of (Held holder) = owned_by 2 holder.0 0
entry_of (Giving holder giver) = owned_by 3 holder.0 giver.0

abbrev pub kind_of : ℕ → ℕ
kind_of e = e % 256

abbrev pub holder_of : ℕ → ℕ
holder_of e = e / 256 % 256

abbrev pub giver_of : ℕ → ℕ
giver_of e = e / 65_536 % 256

abbrev pub unknown : ℕ → Result Custody UnknownEntry
unknown e = Err (record { 0 = e })

unfoldable pub custody_of : ℕ → Result Custody UnknownEntry
custody_of e =
    cond (eqb e 0) (Ok Free)
    (cond (eqb (e / 0x100_0000) 0)
    (cond (eqb (kind_of e) 3) (Ok (Giving (record_number (holder_of e)) (record_number (giver_of e))))
    (cond (eqb (giver_of e) 0)
    (cond (eqb (kind_of e) 1) (Ok (Granting (record_number (holder_of e))))
    (cond (eqb (kind_of e) 2) (Ok (Held (record_number (holder_of e)))) (unknown e)))
    (unknown e)))
    (unknown e))
