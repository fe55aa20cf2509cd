use Rattle.block_code.proofs.Behind.{comes-out}
use Rattle.block_code.proofs.laws.entered_blocks_come_out.Goals as goal

pub returns : goal.returns
returns c = λ rom size address tree s s' e d. comes-out e d
