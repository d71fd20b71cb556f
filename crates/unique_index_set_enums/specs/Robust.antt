-- The owners and generations of the robust set.
use Rattle.std.specs.Prelude.{ℕ, ◌+◌, Bool, cond, eqb, Result, Ok, Err}
use Rattle.unique_index_set_enums.specs.declared.OwnerId.{OwnerId}
use Rattle.unique_index_set_enums.specs.declared.OwnerIdNewError.{OwnerIdNewError}
use Rattle.unique_index_set_enums.specs.declared.OwnerIdNewError.TheVariants.{InvalidOwnerValue}
use Rattle.unique_index_set_enums.specs.declared.Generation.{Generation}
use Rattle.unique_index_set_enums.specs.Kinds.{owner, generation}
use Rattle.unique_index_set_enums.specs.Limits.{u64_max}

abbrev pub no_owner : OwnerId
no_owner = owner u64_max

abbrev pub locked_generation : Generation
locked_generation = generation u64_max

-- OwnerId::new, robust_unique_index_set.rs 148 to 155
unfoldable pub owner_read : ℕ → Result OwnerId OwnerIdNewError
owner_read o = cond (eqb o u64_max) (Err InvalidOwnerValue) (Ok (owner o))

unfoldable pub is_empty : OwnerId → Bool
is_empty o = eqb o.0 u64_max

unfoldable pub is_locked_at : Generation → Bool
is_locked_at g = eqb g.0 u64_max

-- one more; the lock mark never changes
unfoldable pub next_generation : Generation → Generation
next_generation g = cond (eqb g.0 u64_max) g (generation (g.0 + 1))
