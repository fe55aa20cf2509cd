use Rattle.rule_code.proofs.Coded.{placed-maps-are-coded}
use Rattle.rule_code.proofs.laws.placed_maps_are_coded.Goals as goal

pub returns : goal.returns
returns c = placed-maps-are-coded
