use Rattle.block_code.proofs.Structure.{law-of-effect}
use Rattle.block_code.proofs.laws.blocks_do_their_structure.Goals as goal

pub returns : goal.returns
returns c = law-of-effect
