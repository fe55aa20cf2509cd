use Rattle.rule_code.proofs.Bodies.{body-leads}
use Rattle.rule_code.proofs.laws.bodies_make_rounds.Goals as goal

pub returns : goal.returns
returns c = λ rom size program placement tables flat writable set address s e. body-leads program placement tables flat writable rom size set address s e
