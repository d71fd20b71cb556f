-- How many bytes a record takes, as the machine lays it out: computed from its type, so a new field of `Record` moves nothing. And that a record's place
-- in a slice that has room can be told in a machine word. Assumes nothing.
use Prim.Native.Nat.{ℕ, ◌<◌, ◌*◌, ◌^◌}
use native.Mathlib.Omega.{arith}
use prog.Memory.{size}
use denote.Slice.{Room}
use Rattle.thread_records.specs.contracts.Record as T
use Rattle.thread_records.proofs.Record.TheLaws as T'

abbrev pub record_size : ℕ
record_size = size T'.mir

pub far : (n i : ℕ) → Room T.the_row n → i < n → i * record_size < 2 ^ 64
far n i room l = omega (arith, room.1, l)
