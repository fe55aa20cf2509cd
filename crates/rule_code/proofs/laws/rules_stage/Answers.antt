use Rattle.rule_code.proofs.Rule.{rules-stage}
use Rattle.rule_code.proofs.laws.rules_stage.Goals as goal

pub returns : goal.returns
returns c = λ rom size program placement tables set state inputs reads flat. rules-stage rom size program placement tables set state inputs reads flat
