use Rattle.block_code.proofs.Footprint.{touches-outside, touches-silent}
use Rattle.block_code.proofs.laws.footprints_bound_effects.Goals as goal

pub returns-clause-silent : goal.returns-clause-silent
returns-clause-silent c = touches-silent

pub returns-clause-outside : goal.returns-clause-outside
returns-clause-outside c = touches-outside
