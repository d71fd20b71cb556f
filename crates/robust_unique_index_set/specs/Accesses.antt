-- The robust set's shared accesses: what each shows, and what it leaves of the generation and the cells. Which access each place makes
-- is `access_at` of robust_calls, the local work after it `resumed_at`.
use Rattle.std.specs.Prelude.{ℕ, Bool, true, cond, List, get_or, set, ltb, eqb}
use Rattle.unique_index_set_enums.specs.declared.OwnerId.{OwnerId}
use Rattle.unique_index_set_enums.specs.declared.Generation.{Generation}
use Rattle.unique_index_set_enums.specs.Kinds.{owner, generation}
use Rattle.robust_moves.specs.declared.Access.{Access}
use Rattle.robust_moves.specs.declared.Access.TheVariants.{Look, Exchange, Load, ExchangeCell}
use Rattle.robust_moves.specs.declared.Saw.{Saw}

-- the access is within n cells (asked of `perform`; a sound place's always is)
abbrev pub within : ℕ → Access → Bool
within n Look = true
within n (Exchange old new) = true
within n (Load i) = ltb i.0 n
within n (ExchangeCell i old new) = ltb i.0 n

-- what an access shows: whether an exchange won, the generation or the owner that it found
abbrev pub saw_generation : Bool → Generation → Saw
saw_generation won found = record { won = won; generation = found; owner = owner 0 }

abbrev pub saw_owner : Bool → OwnerId → Saw
saw_owner won found = record { won = won; generation = generation 0; owner = found }

abbrev pub owner_in : List ℕ → ℕ → ℕ
owner_in cells i = get_or cells i 0

abbrev pub saw_of : Generation → Access → List ℕ → Saw
saw_of g Look cells = saw_generation true g
saw_of g (Exchange old new) cells = saw_generation (eqb old.0 g.0) g
saw_of g (Load i) cells = saw_owner true (owner (owner_in cells i.0))
saw_of g (ExchangeCell i old new) cells = saw_owner (eqb old.0 (owner_in cells i.0)) (owner (owner_in cells i.0))

-- and what it leaves of the generation and the cells
abbrev pub generation_after : Generation → Access → Generation
generation_after g Look = g
generation_after g (Exchange old new) = cond (eqb old.0 g.0) new g
generation_after g (Load i) = g
generation_after g (ExchangeCell i old new) = g

abbrev pub cells_after : Access → List ℕ → List ℕ
cells_after Look cells = cells
cells_after (Exchange old new) cells = cells
cells_after (Load i) cells = cells
cells_after (ExchangeCell i old new) cells = cond (eqb old.0 (owner_in cells i.0)) (set cells i.0 new.0) cells
