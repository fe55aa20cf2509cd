use Rattle.block_code.proofs.Parts.{lines-append}
use Rattle.block_code.proofs.laws.lines_append.Goals as goal

pub returns : goal.returns
returns c = lines-append
