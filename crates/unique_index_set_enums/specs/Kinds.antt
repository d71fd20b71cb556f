-- A code of each kind, from what stands for it.
use Rattle.std.specs.Prelude.{ℕ}
use Rattle.unique_index_set_enums.specs.declared.Index.{Index}
use Rattle.unique_index_set_enums.specs.declared.OwnerId.{OwnerId}
use Rattle.unique_index_set_enums.specs.declared.Tag.{Tag}
use Rattle.unique_index_set_enums.specs.declared.Generation.{Generation}
use Rattle.unique_index_set_enums.specs.declared.RecordNumber.{RecordNumber}

abbrev pub index : ℕ → Index
index i = record { 0 = i }

abbrev pub owner : ℕ → OwnerId
owner o = record { 0 = o }

abbrev pub tag : ℕ → Tag
tag t = record { 0 = t }

abbrev pub generation : ℕ → Generation
generation g = record { 0 = g }

abbrev pub record_number : ℕ → RecordNumber
record_number r = record { 0 = r }
