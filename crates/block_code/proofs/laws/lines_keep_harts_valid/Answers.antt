use Rattle.block_code.proofs.Parts.{lines-keep-valid}
use Rattle.block_code.proofs.laws.lines_keep_harts_valid.Goals as goal

pub returns : goal.returns
returns c = lines-keep-valid
