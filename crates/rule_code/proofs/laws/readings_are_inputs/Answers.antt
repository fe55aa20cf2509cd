use Rattle.rule_code.proofs.Inputs.{ports-are-read, readings-are-inputs}
use Rattle.rule_code.proofs.laws.readings_are_inputs.Goals as goal

pub returns-clause-ports : goal.returns-clause-ports
returns-clause-ports c = ports-are-read

pub returns-clause-inputs : goal.returns-clause-inputs
returns-clause-inputs c = readings-are-inputs
