use Rattle.block_code.proofs.Storeless.{keeps-storeless}
use Rattle.block_code.proofs.laws.storeless_lines_keep.Goals as goal

pub returns : goal.returns
returns c = keeps-storeless
