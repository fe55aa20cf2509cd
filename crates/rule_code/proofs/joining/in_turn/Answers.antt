use Rattle.std.proofs.Common.{◌∙◌}
use Rattle.rule_code.specs.Joining.{joined}
use Rattle.rule_code.proofs.Joints.{turned-more}
use Rattle.rule_code.proofs.joining.in_turn.Goals as goal

pub loop-before-preserved : goal.loop-before-preserved
loop-before-preserved c =
    turned-more (joined c.args.joint) c.loop-before.trees.items c.pop-in-loop-before.new.self.items c.in-Some-pop.before c.loop-before.tree c.in_ok-tree.tree
    c.in-Some-pop.ensures.items c.in_ok-tree.ensures ∙ c.loop-before.invariant
