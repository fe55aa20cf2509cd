use Rattle.state_space.proofs.Widening.{padded-differ}
use Rattle.state_space.proofs.law.padded_numbers_differ.Goals as goal

pub returns : goal.returns
returns c = padded-differ
