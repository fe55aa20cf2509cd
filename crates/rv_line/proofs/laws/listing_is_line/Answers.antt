use Rattle.rv_line.proofs.OneLine.{is_line}
use Rattle.rv_line.proofs.laws.listing_is_line.Goals as goal

pub returns : goal.returns
returns c = is_line
