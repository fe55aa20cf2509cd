use Rattle.block_code.proofs.Parts.{lines-lead-one-way}
use Rattle.block_code.proofs.laws.lines_lead_one_way.Goals as goal

pub returns : goal.returns
returns c = lines-lead-one-way
