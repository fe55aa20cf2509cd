use Rattle.std.proofs.Common.{subst}
use Rattle.block_code.specs.Law.{LawOfEntry, LawOfNest, LawOfNoReturn, LawOfStart}
use Rattle.block_code.specs.Tree.{plan_of}
use Rattle.block_code.proofs.Structure.{law-of-entry, law-of-no-return}
use Rattle.block_code.proofs.Nest.{law-of-nest}
use Rattle.block_code.proofs.Starts.{law-of-start}
use Rattle.block_code.proofs.block.entry.Goals as goal

pub returns-clause-law : goal.returns-clause-law
returns-clause-law c = subst (λ t. LawOfEntry (plan_of t)) c.block.view_is (law-of-entry (plan_of c.block.inside.tree) c.block.invariant.block)

pub returns-clause-nest : goal.returns-clause-nest
returns-clause-nest c = subst (λ t. LawOfNest (plan_of t)) c.block.view_is (law-of-nest (plan_of c.block.inside.tree) c.block.invariant.block)

pub returns-clause-start : goal.returns-clause-start
returns-clause-start c = subst (λ t. LawOfStart (plan_of t)) c.block.view_is (law-of-start (plan_of c.block.inside.tree) c.block.invariant.block)

pub returns-clause-no_return : goal.returns-clause-no_return
returns-clause-no_return c = subst (λ t. LawOfNoReturn (plan_of t)) c.block.view_is (law-of-no-return (plan_of c.block.inside.tree) c.block.invariant.block)
