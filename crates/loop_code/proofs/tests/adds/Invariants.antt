use Rattle.std.proofs.Common.{◌≡◌, pos, replicate}
use Rattle.rv_isa.specs.declared.instr.Instr.TheVariants.{Addi}
use Rattle.loop_code.proofs.tests.adds.Given as goal

abbrev pub invariant-loop-index : goal.invariant-loop-index
invariant-loop-index l = l.instrs ≡ replicate l.index (Addi 5 5 (pos l.number))
