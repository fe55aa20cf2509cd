use Rattle.block_code.proofs.After.{moments-are-runs}
use Rattle.block_code.proofs.laws.moments_are_runs.Goals as goal

pub returns : goal.returns
returns c = moments-are-runs
