use Rattle.std.proofs.Common.{◌∙◌}
use Rattle.fault_script.specs.Listing.{position_in}
use Rattle.fault_script.proofs.positions.Positions.find.Goals as goal

pub returns : goal.returns
unfolding position_in
returns c = c.copied.ensures ∙ c.get.ensures.value
