use Rattle.block_code.proofs.Structure.{law-of-top}
use Rattle.block_code.proofs.laws.blocks_end_from_the_top.Goals as goal

pub returns : goal.returns
returns c = law-of-top
