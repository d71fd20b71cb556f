-- The scope's number or value for each case of the Rust's enums, and a lent number read as a mode.
use Rattle.std.specs.Prelude.{ℕ, cond, eqb, Result, Ok, Err}
use Rattle.unique_index_set_enums.specs.declared.ReleaseMode.{ReleaseMode}
use Rattle.unique_index_set_enums.specs.declared.ReleaseMode.TheVariants.{Default, LockIfLastIndex}
use Rattle.unique_index_set_enums.specs.declared.ReleaseState.{ReleaseState}
use Rattle.unique_index_set_enums.specs.declared.ReleaseState.TheVariants.{Unlocked, Locked}
use Rattle.unique_index_set_enums.specs.declared.UniqueIndexSetAcquireFailure.{UniqueIndexSetAcquireFailure}
use Rattle.unique_index_set_enums.specs.declared.UniqueIndexSetAcquireFailure.TheVariants.{OutOfIndices, IsLocked}
use Rattle.unique_index_set_enums.specs.declared.UniqueIndexCreationError.{UniqueIndexCreationError}
use Rattle.unique_index_set_enums.specs.declared.UniqueIndexCreationError.TheVariants.{ProvidedCapacityGreaterThanMaxCapacity, ProvidedCapacityIsZero}
use Rattle.unique_index_set_enums.specs.declared.UnknownMode.{UnknownMode}

abbrev pub mode_number : ReleaseMode → ℕ
mode_number Default = 0
mode_number LockIfLastIndex = 1

-- a lent number read as a mode
unfoldable pub mode_read : ℕ → Result ReleaseMode UnknownMode
mode_read m = cond (eqb m 0) (Ok Default) (cond (eqb m 1) (Ok LockIfLastIndex) (Err (record { 0 = m })))

abbrev pub state_value : ReleaseState → ℕ
state_value Unlocked = 0
state_value Locked = 1

abbrev pub acquire_failure_number : UniqueIndexSetAcquireFailure → ℕ
acquire_failure_number OutOfIndices = 1
acquire_failure_number IsLocked = 2

abbrev pub creation_error_number : UniqueIndexCreationError → ℕ
creation_error_number ProvidedCapacityGreaterThanMaxCapacity = 3
creation_error_number ProvidedCapacityIsZero = 4
