use Rattle.block_code.proofs.Home.{written-is-closed}
use Rattle.block_code.proofs.laws.written_blocks_are_closed.Goals as goal

pub returns : goal.returns
returns c = written-is-closed
