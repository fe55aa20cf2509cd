use Rattle.std.proofs.Common.{◌≡◌, ap, ◌∙◌}
use Rattle.std.proofs.lemmas.Result.{IfOk-weaker}
use Rattle.block_code.specs.Plan.{Line, Seq}
use Rattle.block_code.specs.Tree.{plan_of}
use Rattle.staged_commit.specs.Code.{padded_at, stage_line}
use Rattle.staged_commit.proofs.updates.stage_tree.Goals as goal

pub returns : goal.returns
returns c =
    let m = c.args.map.now in
    let staged : plan_of c.in_ok-staged.staged ≡ Seq (plan_of c.args.value) (Line (stage_line m c.args.fun (padded_at m c.args.fun))) =
    c.in_ok-staged.ensures ∙ ap (λ l. Seq (plan_of c.args.value) (Line l)) (c.in_ok-line.ensures ∙ ap (stage_line m c.args.fun) c.padded_at-size.ensures.size) in
    IfOk-weaker c.in_turn-2.result _ _ (λ tree e. e ∙ ap (Seq (plan_of c.args.address)) staged) c.in_turn-2.ensures
