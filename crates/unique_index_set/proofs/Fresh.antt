-- What an accepted setup leaves: slot i holds i + 1 up to the capacity, custody is free below it, entries beyond are as they were.
-- Assumes nothing.
use Rattle.std.proofs.Common.{◌≡◌, ℕ, ◌+◌, ◌<◌, ◌≤◌, length, get_or, refl, arith}
use Rattle.std.specs.Prelude.{Ok}
use Rattle.thread_records.specs.declared.Record.{Record}
use Rattle.thread_records.proofs.Filled.{filled-length, filled_below, filled_beyond}
use Rattle.unique_index_set.specs.Steps.{Shared}
use Rattle.unique_index_set.specs.Setups.{next_index, free_entry, fresh, setup_judged, setup_of}
use Rattle.unique_index_set.proofs.Accepted.{setup_roomy}

pub record Fresh (capacity : ℕ) (before after : Shared) : Type 0 where
  pub capacity_kept : after.set.capacity ≡ capacity
  pub word : after.set.head ≡ 0
  pub slots_length : length after.slots ≡ length before.slots
  pub slots : (i : ℕ) → i ≤ capacity → get_or after.slots i 0 ≡ i + 1
  pub slots_beyond : (i : ℕ) → capacity < i → get_or after.slots i 0 ≡ get_or before.slots i 0
  pub custody_length : length after.custody ≡ length before.custody
  pub custody : (i : ℕ) → i < capacity → get_or after.custody i 0 ≡ 0
  pub custody_beyond : (i : ℕ) → capacity ≤ i → get_or after.custody i 0 ≡ get_or before.custody i 0

set_fresh : (capacity : ℕ) (s : Shared) → capacity < length s.slots → capacity ≤ length s.custody → Fresh capacity s (fresh capacity s)
set_fresh capacity s l k = record {
  capacity_kept = refl;
  word = refl;
  slots_length = filled-length next_index (capacity + 1) s.slots;
  slots = λ i h. filled_below next_index (capacity + 1) i s.slots (omega arith) (omega arith);
  slots_beyond = λ i h. filled_beyond next_index (capacity + 1) i s.slots (omega arith);
  custody_length = filled-length free_entry capacity s.custody;
  custody = λ i h. filled_below free_entry capacity i s.custody h k;
  custody_beyond = λ i h. filled_beyond free_entry capacity i s.custody h;
}

pub setup_fresh : (records capacity : ℕ) (s : Shared) (t : Record) → setup_judged records capacity s ≡ Ok tt → Fresh capacity s (setup_of records capacity s t).shared
unfolding setup_of
setup_fresh records capacity s t e =
    let r = setup_roomy records capacity (length s.slots) (length s.custody) e in
    rw e (set_fresh capacity s r.slots r.custody)
