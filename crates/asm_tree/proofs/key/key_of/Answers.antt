use Rattle.std.proofs.Common.{ap, ◌∙◌, arith}
use Rattle.asm_tree.specs.Names.{key_bytes}
use Rattle.asm_tree.proofs.Keys.{place}
use Rattle.asm_tree.proofs.key.key_of.Goals as goal

pub returns : goal.returns
returns c = λ k e. let p = place k in c.loop-key.invariant p.at (omega (arith, p.below)) (ap key_bytes p.is ∙ e)
