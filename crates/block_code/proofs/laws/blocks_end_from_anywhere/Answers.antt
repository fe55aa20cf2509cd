use Rattle.block_code.proofs.Structure.{law-of-entry}
use Rattle.block_code.proofs.laws.blocks_end_from_anywhere.Goals as goal

pub returns : goal.returns
returns c = law-of-entry
