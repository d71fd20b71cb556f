use Rattle.std.proofs.Common.{refl, ◌∙◌, rules}
use Rattle.trace_turns.proofs.Turning.{starts, is_next, is_last, steps, ends}
use Rattle.trace_turns.proofs.runs.Running.make_turns.Goals as goal

pub loop-turn-init : goal.loop-turn-init
loop-turn-init c = record { along = starts _ _ _; loans = (refl, refl, refl) }

pub make_turn-written-requires : goal.make_turn-written-requires
make_turn-written-requires c = (is_next _ _ _ _ _ c.next_turn.ensures.turn c.in-Some-default.is-0).room

pub loop-turn-smaller : goal.loop-turn-smaller
loop-turn-smaller c = rw c.next_turn.ensures.rest (is_next _ _ _ _ _ c.next_turn.ensures.turn c.in-Some-default.is-0).smaller

pub loop-turn-preserved : goal.loop-turn-preserved
loop-turn-preserved c =
    let made = c.make_turn-written.ensures in
    let loans = c.loop-turn.invariant.loans in
    record {
      along = steps _ _ _ _ _ _ _ c.loop-turn.invariant.along _ _ _ _ _ (is_next _ _ _ _ _ c.next_turn.ensures.turn c.in-Some-default.is-0) made.laid made.upper_bound c.next_turn.ensures.rest made.scene;
      loans = (loans.0 ∙ made.loans.0, loans.1 ∙ made.loans.1, loans.2 ∙ made.loans.2);
    }

pub returns-clause-made : goal.returns-clause-made
returns-clause-made c = ends _ _ _ _ _ _ _ c.loop-turn.invariant.along _ (is_last _ _ _ _ c.next_turn.ensures.turn (search rules)) refl refl
