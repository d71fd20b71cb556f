use Rattle.std.proofs.Common.{arith, ap, sym, ◌∙◌}
use Rattle.std.specs.Prelude.{Result}
use Rattle.schedule.specs.declared.Entry.{Entry}
use Rattle.schedule.specs.declared.NoEntry.{NoEntry}
use Rattle.trace_turns.proofs.Turning.{lacking}
use Rattle.trace_lines.specs.Pieces.{opening_of}
use Rattle.trace_lines.proofs.Calls.{fresh_lacks, fresh_waits, fresh_begun}
use Rattle.trace_lines.proofs.Tracer.open.Goals as goal

pub returns-then-lacks_room-clause-piece : goal.returns-then-lacks_room-clause-piece
returns-then-lacks_room-clause-piece c = fresh_lacks _ _ _ _ _ _ c.requires (sym c.lacks_room.ensures ∙ c.if-lacks_room.true) c.none.ensures

pub begin-written-requires : goal.begin-written-requires
begin-written-requires c = omega (arith, lacking _ _ (sym c.lacks_room.ensures ∙ c.if-lacks_room.false))

pub end_with-requires : goal.end_with-requires
end_with-requires c = omega (arith, lacking _ _ (sym c.lacks_room.ensures ∙ c.if-lacks_room.false))

pub returns-in-Ok-clause-piece : goal.returns-in-Ok-clause-piece
returns-in-Ok-clause-piece c =
    fresh_begun _ _ _ _ (sym c.lacks_room.ensures ∙ c.if-lacks_room.false) _ _ _ _ _ _ _
    (sym (c.opening_of.ensures ∙ ap (λ (x : Result Entry NoEntry). opening_of x c.args.last) c.read_entry-entry.ensures.entry) ∙ c.in-Ok.is)
    c.begin-written.ensures.begun c.begin-written.ensures.laid c.read_entry-entry.ensures.rest c.wants.ensures

pub returns-in-Err-Cut-clause-piece : goal.returns-in-Err-Cut-clause-piece
returns-in-Err-Cut-clause-piece c =
    fresh_waits _ _ _ _ (sym c.lacks_room.ensures ∙ c.if-lacks_room.false) _ _ c.requires
    (rw c.in-Err-Cut.field-0-is at (sym (c.opening_of.ensures ∙ ap (λ (x : Result Entry NoEntry). opening_of x c.args.last) c.read_entry-entry.ensures.entry) ∙ c.in-Err-Cut.is)) c.none-in-Err-Cut.ensures
