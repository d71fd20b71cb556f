use Rattle.std.proofs.Common.{length}
use Rattle.trace_turns.specs.Scenes.{LendsSame, scene_in}
use Rattle.trace_turns.proofs.Turning.{Along}
use Rattle.trace_turns.proofs.runs.Running.make_turns.Given as goal

abbrev pub invariant-loop-turn : goal.invariant-loop-turn
invariant-loop-turn l = record {
  along : Along (scene_in l.initial.self l.initial.buffers) l.bytes l.initial.out (scene_in l.self l.buffers) l.out l.left l.written;
  loans : LendsSame l.initial.buffers l.buffers;
}

abbrev pub decreases-loop-turn : goal.decreases-loop-turn
decreases-loop-turn l = length l.left
