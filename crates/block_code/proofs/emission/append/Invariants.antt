use Rattle.std.proofs.Common.{take}
use Rattle.block_code.specs.Emit.{HasGrown}
use Rattle.block_code.proofs.emission.append.Given as goal

abbrev pub invariant-loop-instr : goal.invariant-loop-instr
invariant-loop-instr l = HasGrown (take l.instr-index l.code) l.fn.out l.out
