use Rattle.std.proofs.Common.{◌≡◌, map}
use Rattle.block_code.specs.Tree.{plan_of}
use Rattle.rule_code.specs.Code.{deepest}
use Rattle.rule_code.specs.Joining as spec
use Rattle.rule_code.proofs.joining.halved.Given as goal

abbrev pub invariant-loop-left : goal.invariant-loop-left
invariant-loop-left l = spec.all_halved (spec.joined l.joint) l.left (map plan_of l.trees.items) ≡ spec.all_halved (spec.joined l.joint) deepest (map plan_of l.fn.trees.items)

abbrev pub decreases-loop-left : goal.decreases-loop-left
decreases-loop-left l = l.left
