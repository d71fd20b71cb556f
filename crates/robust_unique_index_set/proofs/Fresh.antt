-- What an accepted setup leaves: the cells below the capacity have no owner, those beyond are as they were. Assumes nothing.
use Rattle.std.proofs.Common.{◌≡◌, ℕ, ◌≤◌, ◌<◌, length, get_or, refl, Ok}
use Rattle.unique_index_set_enums.specs.Kinds.{generation}
use Rattle.unique_index_set_enums.specs.Robust.{no_owner}
use Rattle.thread_records.specs.declared.Record.{Record}
use Rattle.thread_records.proofs.Filled.{filled-length, filled_below, filled_beyond}
use Rattle.robust_unique_index_set.specs.Steps.{Shared}
use Rattle.robust_unique_index_set.specs.Setups.{empty_cell, fresh, setup_judged, setup_of}
use Rattle.robust_unique_index_set.proofs.Accepted.{setup_roomy}

pub record Fresh (capacity : ℕ) (before after : Shared) : Type 0 where
  pub capacity_kept : after.set.capacity ≡ capacity
  pub generation_first : after.set.generation ≡ generation 0
  pub cells_length : length after.cells ≡ length before.cells
  pub cells : (i : ℕ) → i < capacity → get_or after.cells i 0 ≡ no_owner.0
  pub cells_beyond : (i : ℕ) → capacity ≤ i → get_or after.cells i 0 ≡ get_or before.cells i 0

set_fresh : (capacity : ℕ) (s : Shared) → capacity ≤ length s.cells → Fresh capacity s (fresh capacity s)
set_fresh capacity s l = record {
  capacity_kept = refl;
  generation_first = refl;
  cells_length = filled-length empty_cell capacity s.cells;
  cells = λ i h. filled_below empty_cell capacity i s.cells h l;
  cells_beyond = λ i h. filled_beyond empty_cell capacity i s.cells h;
}

pub setup_fresh : (records capacity : ℕ) (s : Shared) (t : Record) → setup_judged records capacity s ≡ Ok tt → Fresh capacity s (setup_of records capacity s t).shared
unfolding setup_of
setup_fresh records capacity s t e = rw e (set_fresh capacity s (setup_roomy records capacity (length s.cells) e))
