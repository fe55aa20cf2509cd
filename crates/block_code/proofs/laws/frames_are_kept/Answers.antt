use Rattle.block_code.proofs.Frame.{frames-kept}
use Rattle.block_code.proofs.laws.frames_are_kept.Goals as goal

pub returns : goal.returns
returns c = frames-kept
