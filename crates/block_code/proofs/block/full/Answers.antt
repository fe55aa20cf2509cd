use Rattle.std.proofs.Common.{subst}
use Rattle.block_code.specs.Law.{LawOfEffect, LawOfTop}
use Rattle.block_code.specs.Tree.{plan_of}
use Rattle.block_code.proofs.Structure.{law-of-effect, law-of-top}
use Rattle.block_code.proofs.block.full.Goals as goal

pub returns-clause-law : goal.returns-clause-law
returns-clause-law c = subst (λ t. LawOfTop (plan_of t)) c.block.view_is (law-of-top (plan_of c.block.inside.tree) c.block.invariant.block)

pub returns-clause-effect : goal.returns-clause-effect
returns-clause-effect c = subst (λ t. LawOfEffect (plan_of t)) c.block.view_is (law-of-effect (plan_of c.block.inside.tree) c.block.invariant.block)
