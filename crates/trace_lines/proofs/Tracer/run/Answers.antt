use Rattle.std.proofs.Common.{sym, ◌∙◌}
use Rattle.schedule.proofs.Laws.{tail_all}
use Rattle.trace_turns.proofs.Turning.{lacking}
use Rattle.trace_lines.proofs.Calls.{turns_lack, turns_close}
use Rattle.trace_lines.proofs.Tracer.run.Goals as goal

pub put_closing-written-requires : goal.put_closing-written-requires
put_closing-written-requires c = lacking _ _ (sym c.lacks_room.ensures ∙ c.if-lacks_room.false)

pub returns-then-lacks_room-clause-piece : goal.returns-then-lacks_room-clause-piece
returns-then-lacks_room-clause-piece c = turns_lack _ _ _ _ _ _ _ c.make_turns-made.ensures.made c.make_turns-made.auto.out _ c.requires (sym c.lacks_room.ensures ∙ c.if-lacks_room.true)

pub returns-clause-piece : goal.returns-clause-piece
returns-clause-piece c =
    turns_close _ _ _ _ _ _ _ c.make_turns-made.ensures.made c.make_turns-made.auto.out _ _ _ _ _ _ (sym c.lacks_room.ensures ∙ c.if-lacks_room.false)
    (tail_all c.make_turns-made.result.used c.args.bytes.now) (rw c.read_entry-entry.ensures.entry at c.of-closing.ensures) c.stage-self.ensures c.wants.ensures c.put_closing-written.ensures
