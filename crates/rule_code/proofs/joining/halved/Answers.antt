use Rattle.std.proofs.Common.{◌≡◌, ◌≤◌, ◌-◌, ◌⊎◌, length, IfOk, map, option_map, inl, inr, ap, ◌∙◌, subst, arith}
use Rattle.std.proofs.lemmas.List.{length-map}
use Rattle.block_code.specs.Tree.{plan_of}
use Rattle.rule_code.specs.Joining.{all_halved, joined}
use Rattle.rule_code.proofs.Joints.{halved-last, halved-next}
use Rattle.rule_code.proofs.joining.halved.Goals as goal
use Rattle.rule_code.proofs.joining.halved.Goals.{then-loop-left-test+else-len-gt1, else-loop-left-test}

pub loop-left-preserved : goal.loop-left-preserved
loop-left-preserved c =
    ap (all_halved (joined c.args.joint) (c.loop-left.left - 1)) c.in_ok-trees.ensures
    ∙ halved-next (joined c.args.joint) c.loop-left.left (map plan_of c.loop-left.trees.items) (omega arith) ∙ c.loop-left.invariant

pub returns : goal.returns
returns c =
    let plans = map plan_of c.loop-left.trees.items in
    let last = elim c.loop-left-test.branch as (λ _. (c.loop-left.left ≡ 0) ⊎ (length plans ≤ 1)) [
      | then-loop-left-test+else-len-gt1 w ↦ inr (omega (arith, length-map c.loop-left.trees.items plan_of))
      | else-loop-left-test w ↦ inl (omega arith)
    ] in
    subst (λ x. IfOk c.in_turn.result (λ tree. option_map plan_of tree ≡ x)) (halved-last (joined c.args.joint) c.loop-left.left plans last ∙ c.loop-left.invariant) c.in_turn.ensures
