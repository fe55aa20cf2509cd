use Rattle.rule_code.proofs.Making.{made-images-stabilize}
use Rattle.rule_code.proofs.laws.made_images_stabilize.Goals as goal

pub returns : goal.returns
returns c = made-images-stabilize
