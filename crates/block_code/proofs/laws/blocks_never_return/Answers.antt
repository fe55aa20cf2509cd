use Rattle.block_code.proofs.Structure.{law-of-no-return}
use Rattle.block_code.proofs.laws.blocks_never_return.Goals as goal

pub returns : goal.returns
returns c = law-of-no-return
