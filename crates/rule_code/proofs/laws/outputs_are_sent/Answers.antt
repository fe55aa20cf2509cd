use Rattle.rule_code.proofs.Outputs.{outputs-are-sent}
use Rattle.rule_code.proofs.laws.outputs_are_sent.Goals as goal

pub returns : goal.returns
returns c = outputs-are-sent
