use Rattle.block_code.proofs.Silent.{keeps-regs}
use Rattle.block_code.proofs.laws.registers_are_kept.Goals as goal

pub returns : goal.returns
returns c = keeps-regs
