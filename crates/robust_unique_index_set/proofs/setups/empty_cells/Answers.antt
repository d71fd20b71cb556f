use Rattle.std.proofs.Common.{rules}
use Rattle.unique_index_set_enums.specs.Robust.{no_owner}
use Rattle.thread_records.proofs.Filled.{filled_front}
use Rattle.robust_unique_index_set.proofs.setups.empty_cells.Goals as goal

pub returns : goal.returns
returns c = filled_front no_owner.0 c.args.n c.args.cells.now c.fill.new.self c.requires (search rules)
