use Rattle.block_code.proofs.Nest.{law-of-nest}
use Rattle.block_code.proofs.laws.bounds_keep_step.Goals as goal

pub returns : goal.returns
returns c = law-of-nest
