use Rattle.std.proofs.Common.{◌≡◌, [], ◌∷◌, ◌++◌, map, vec_len}
use Rattle.block_code.specs.Tree.{plan_of}
use Rattle.rule_code.specs.Joining as spec
use Rattle.rule_code.proofs.joining.in_turn.Given as goal

abbrev pub invariant-loop-before : goal.invariant-loop-before
invariant-loop-before l = spec.all_in_turn (spec.joined l.joint) (map plan_of (l.trees.items ++ l.tree ∷ [])) ≡ spec.all_in_turn (spec.joined l.joint) (map plan_of l.fn.trees.items)

abbrev pub decreases-loop-before : goal.decreases-loop-before
decreases-loop-before l = vec_len l.trees
