use Rattle.std.proofs.Common.{rules}
use Rattle.thread_records.proofs.Filled.{filled_front}
use Rattle.unique_index_set.proofs.setups.free_custody.Goals as goal

pub returns : goal.returns
returns c = filled_front 0 c.args.n c.args.custody.now c.fill.new.self c.requires (search rules)
