-- increment_generation_counter (robust_unique_index_set.rs 545 to 562), one shared access at a time.
use Rattle.std.specs.Prelude.{ℕ, Bool, true, cond, not, ◌==◌, Option, Some, None}
use Rattle.std.specs.declared.ops.ControlFlow.{ControlFlow}
use Rattle.std.specs.declared.ops.ControlFlow.TheVariants.{Continue, Break}
use Rattle.unique_index_set_enums.specs.declared.Generation.{Generation}
use Rattle.unique_index_set_enums.specs.Kinds.{generation}
use Rattle.unique_index_set_enums.specs.Robust.{is_locked_at, next_generation}
use Rattle.robust_moves.specs.declared.Access.{Access}
use Rattle.robust_moves.specs.declared.Access.TheVariants as access
use Rattle.robust_moves.specs.declared.Saw.{Saw}
use Rattle.robust_moves.specs.declared.bump.BumpPlace.{BumpPlace}
use Rattle.robust_moves.specs.declared.bump.BumpPlace.TheVariants.{Look, Exchange}
use Rattle.robust_moves.specs.declared.bump.BumpClosed.{BumpClosed}

-- what each place may remember: a generation that is not locked
abbrev pub bump_sound : BumpPlace → Bool
bump_sound Look = true
bump_sound (Exchange seen) = not (is_locked_at seen)

-- 546 and 552
abbrev pub bump_access : BumpPlace → Access
bump_access Look = access.Look
bump_access (Exchange seen) = access.Exchange seen (next_generation seen)

-- 548 to 550
unfoldable pub bump_looked : Generation → ControlFlow Generation BumpPlace
bump_looked found = cond (is_locked_at found) (Break found) (Continue (Exchange found))

-- a failed exchange is a look at the generation that it found (558, 559)
abbrev pub bump_resumed : BumpPlace → Saw → ControlFlow Generation BumpPlace
bump_resumed Look saw = bump_looked saw.generation
bump_resumed (Exchange seen) saw = cond saw.won (Break (next_generation seen)) (bump_looked saw.generation)

-- of a record: parts 0 and 1 of a place number, and the generation that is remembered
unfoldable pub bump_read : ℕ → Generation → Option BumpPlace
bump_read part seen = cond (part == 0) (Some Look) (cond (part == 1) (Some (Exchange seen)) None)

abbrev pub bump_closed : BumpPlace → BumpClosed
bump_closed Look = record { part = 0; seen = generation 0 }
bump_closed (Exchange seen) = record { part = 1; seen = seen }
