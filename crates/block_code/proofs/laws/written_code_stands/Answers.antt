use Rattle.block_code.proofs.Placed.{written-stands}
use Rattle.block_code.proofs.laws.written_code_stands.Goals as goal

pub returns : goal.returns
returns c = written-stands
