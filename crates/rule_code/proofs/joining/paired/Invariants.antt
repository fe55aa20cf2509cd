use Rattle.std.proofs.Common.{◌≡◌, ◌++◌, map}
use Rattle.std.specs.Vec.Iter.{into_iter_items, into_iter_len}
use Rattle.block_code.specs.Tree.{plan_of}
use Rattle.rule_code.specs.Code as code
use Rattle.rule_code.specs.Joining as spec
use Rattle.rule_code.proofs.joining.paired.Given as goal

abbrev pub invariant-loop-first : goal.invariant-loop-first
invariant-loop-first l =
    map plan_of l.pairs.items ++ code.paired (spec.joined l.joint) (map plan_of (into_iter_items l.rest)) ≡ code.paired (spec.joined l.joint) (map plan_of l.fn.trees.items)

abbrev pub decreases-loop-first : goal.decreases-loop-first
decreases-loop-first l = into_iter_len l.rest
