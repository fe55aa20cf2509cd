use Rattle.std.proofs.Common.{refl}
use Rattle.fault_script.specs.Listing.{position_in}
use Rattle.fault_script.proofs.positions.Positions.new.Goals as goal

pub returns : goal.returns
unfolding position_in
returns c = λ text. rw c.new.ensures.empty refl
