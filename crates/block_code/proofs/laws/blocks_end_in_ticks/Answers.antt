use Rattle.block_code.proofs.Ticks.{law-of-ticks}
use Rattle.block_code.proofs.laws.blocks_end_in_ticks.Goals as goal

pub returns : goal.returns
returns c = law-of-ticks
