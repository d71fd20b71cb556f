-- What the types of a record's fields say of them: the call's numbers and the list's are of their widths.
use Rattle.std.specs.Prelude.{◌<◌, ◌^◌, ◌≡◌, length, get_or}
use Rattle.unique_index_set_enums.specs.Kinds.{owner}
use Rattle.thread_records.specs.declared.OwnerList.{OwnerList}
use Rattle.thread_records.specs.declared.Remembered.{Remembered}

pub record CallFits (c : Remembered) : Type 0 where
  pub place : c.place < 256 ^ 1
  pub mode : c.mode < 256 ^ 1
  pub index : c.index.0 < 256 ^ 4
  pub value : c.value < 256 ^ 4
  pub reported : c.reported < 256 ^ 4
  pub room : c.room < 256 ^ 4
  pub cell : c.counting.cell.0 < 256 ^ 4
  pub counted : c.counting.counted < 256 ^ 4
  pub seen : c.seen < 256 ^ 8
  pub owner : c.owner.0 < 256 ^ 8
  pub generation : c.generation.0 < 256 ^ 8
  pub counted_at : c.counting.generation.0 < 256 ^ 8
  pub bump : c.counting.bump.0 < 256 ^ 8

pub record ListFits (l : OwnerList) : Type 0 where
  pub count : l.count < 256 ^ 1
  pub owner0 : (get_or l.owners 0 (owner 0)).0 < 256 ^ 8
  pub owner1 : (get_or l.owners 1 (owner 0)).0 < 256 ^ 8
  pub owner2 : (get_or l.owners 2 (owner 0)).0 < 256 ^ 8
  pub owner3 : (get_or l.owners 3 (owner 0)).0 < 256 ^ 8
  pub owner4 : (get_or l.owners 4 (owner 0)).0 < 256 ^ 8
  pub owner5 : (get_or l.owners 5 (owner 0)).0 < 256 ^ 8
  pub owner6 : (get_or l.owners 6 (owner 0)).0 < 256 ^ 8
  pub owner7 : (get_or l.owners 7 (owner 0)).0 < 256 ^ 8
  pub eight : length l.owners ≡ 8
