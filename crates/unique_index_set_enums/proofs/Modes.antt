-- A mode's number is read as that mode. Assumes nothing.
use Rattle.std.specs.Prelude.{◌≡◌, refl, Ok}
use Rattle.unique_index_set_enums.specs.declared.ReleaseMode.{ReleaseMode}
use Rattle.unique_index_set_enums.specs.declared.ReleaseMode.TheVariants.{Default, LockIfLastIndex}
use Rattle.unique_index_set_enums.specs.Numbers.{mode_number, mode_read}

pub mode_read_lem : (m : ReleaseMode) → mode_read (mode_number m) ≡ Ok m
unfolding mode_read
mode_read_lem Default = refl
mode_read_lem LockIfLastIndex = refl
