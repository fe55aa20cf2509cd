use Rattle.rule_code.proofs.Stabilizing.{unrolled-stabilizes}
use Rattle.rule_code.proofs.laws.unrolled_stabilizes.Goals as goal

pub returns : goal.returns
returns c = unrolled-stabilizes
