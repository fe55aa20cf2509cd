use Rattle.block_code.proofs.Footprint.{lines-touch-as-done}
use Rattle.block_code.proofs.laws.lines_touch_as_done.Goals as goal

pub returns : goal.returns
returns c = lines-touch-as-done
