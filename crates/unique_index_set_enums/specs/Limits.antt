-- Every limit of the scope, named once.
use Rattle.std.specs.Prelude.{ℕ}

-- the largest capacity of each set
abbrev pub plain_capacity_limit : ℕ
plain_capacity_limit = 16_777_214

abbrev pub robust_capacity_limit : ℕ
robust_capacity_limit = 4_096

-- thread records that may be lent, and owners that a list may have
abbrev pub records_limit : ℕ
records_limit = 16

abbrev pub owners_limit : ℕ
owners_limit = 8

-- u64::MAX: a cell that has no owner, and the generation that marks a locked robust set (robust_unique_index_set.rs 136, 145)
abbrev pub u64_max : ℕ
u64_max = 0xffff_ffff_ffff_ffff

-- the trace program's own limit on the capacity of either set
abbrev pub trace_capacity_limit : ℕ
trace_capacity_limit = 1_024

-- the borrowed count that marks a locked plain set (unique_index_set.rs 232)
abbrev pub lock_acquire : ℕ
lock_acquire = 0x00ff_ffff
