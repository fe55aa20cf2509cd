use Rattle.state_space.proofs.Fitting.{values-keep}
use Rattle.state_space.proofs.law.values_keep_states_fitting.Goals as goal

pub returns : goal.returns
returns c = values-keep
