use Rattle.block_code.proofs.Starts.{law-of-start}
use Rattle.block_code.proofs.laws.blocks_start_forward.Goals as goal

pub returns : goal.returns
returns c = law-of-start
