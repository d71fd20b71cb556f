-- The custody buffer: a mark put, and who holds an index.
use Rattle.std.specs.Prelude.{ℕ, Bool, true, false, cond, List, length, nat_lt, slice_index, slice_set, Option, Some, None}
use Rattle.unique_index_set_enums.specs.declared.Index.{Index}
use Rattle.unique_index_set_enums.specs.declared.RecordNumber.{RecordNumber}
use Rattle.custody.specs.Entry.{entry_of, custody_of}
use Rattle.plain_calls.specs.declared.marks.Mark.{Mark}
use Rattle.plain_calls.specs.Marks.{held_by}

-- the mark is within n entries (asked of `put_mark`; a sound place's always is)
abbrev pub mark_within : ℕ → Option Mark → Bool
mark_within n None = true
mark_within n (Some m) = nat_lt m.index.0 n

abbrev pub marked : Option Mark → List ℕ → List ℕ
marked None custody = custody
marked (Some m) custody = slice_set custody m.index.0 (entry_of m.custody)

-- the index is in the buffer, and held by this record
unfoldable pub holds : RecordNumber → Index → List ℕ → Bool
holds who i custody = cond (nat_lt i.0 (length custody)) (held_by who (custody_of (slice_index custody i.0))) false
