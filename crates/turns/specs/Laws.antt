-- Both sets keep the laws of one that is moved step by step: proved, so that there is nothing here to believe.
use Rattle.unique_index_set.proofs.Refused as plain
use Rattle.robust_unique_index_set.proofs.Refused as robust
use Rattle.turns.specs.Moves.{MovesLaws}
use Rattle.turns.specs.Plain.{plain_moves, plain_setup_same}
use Rattle.turns.specs.Robust.{robust_moves, robust_setup_same}

pub plain_laws : MovesLaws plain_moves
plain_laws = record {
  setup_same = plain_setup_same;
  start_untouched = λ n who q s t why p. ((plain.start_harmless n who q s t why p).shared, (plain.start_harmless n who q s t why p).thread);
  step_untouched = λ n who s t why p. ((plain.step_harmless n who s t why p).shared, (plain.step_harmless n who s t why p).thread);
  drain_untouched = λ n who b s t why p. (((plain.drain_unharmed n who b s t).harmless why p).shared, ((plain.drain_unharmed n who b s t).harmless why p).thread);
}

pub robust_laws : MovesLaws robust_moves
robust_laws = record {
  setup_same = robust_setup_same;
  start_untouched = λ n who q s t why p. ((robust.start_harmless n who q s t why p).shared, (robust.start_harmless n who q s t why p).thread);
  step_untouched = λ n who s t why p. ((robust.step_harmless n who s t why p).shared, (robust.step_harmless n who s t why p).thread);
  drain_untouched = λ n who b s t why p. (((robust.drain_unharmed n who b s t).harmless why p).shared, ((robust.drain_unharmed n who b s t).harmless why p).thread);
}
