use Rattle.std.proofs.Common.{◌≡◌, sym, ap, ◌∙◌, subst, arith}
use Rattle.block_code.specs.declared.tree.Tree.{Tree}
use Rattle.block_code.specs.Tree.{plan_of}
use Rattle.block_code.specs.Block.{IsInRange}
use Rattle.block_code.specs.Plan.{len}
use Rattle.block_code.specs.Silent.{IsStorelessPlan}
use Rattle.staged_commit.specs.Code.{padded_at, stage_update}
use Rattle.staged_commit.specs.Law.{Stages, StagesOnly, StagesThrough}
use Rattle.staged_commit.proofs.Update.{update-in_range, update-stages, update-through, update-touches}
use Rattle.staged_commit.proofs.updates.stage_update.Goals as goal

pub of-requires : goal.of-requires
of-requires c =
    let m = c.args.map.now in
    let first : plan_of c.into_tree.result ≡ plan_of c.args.address = ap plan_of c.into_tree.ensures.value in
    let second : plan_of c.into_tree-2.result ≡ plan_of c.args.value = ap plan_of c.into_tree-2.ensures.value in
    subst IsInRange (sym (c.in_ok-tree.ensures))
    (update-in_range m c.requires.coded c.args.fun c.requires.state (plan_of c.into_tree.result) (plan_of c.into_tree-2.result) c.into_tree.ensures.in_range c.into_tree-2.ensures.in_range
    (subst IsStorelessPlan (sym first) c.requires.address) (subst IsStorelessPlan (sym second) c.requires.value) (omega (arith, ap len first, ap len second)))

pub returns-clause-plan : goal.returns-clause-plan
returns-clause-plan c =
    let m = c.args.map.now in
    ap plan_of c.of.ensures ∙ c.in_ok-tree.ensures
    ∙ ap (λ (t : Tree). stage_update m c.args.fun (padded_at m c.args.fun) (plan_of t) (plan_of c.into_tree-2.result)) c.into_tree.ensures.value
    ∙ ap (λ (t : Tree). stage_update m c.args.fun (padded_at m c.args.fun) (plan_of c.args.address) (plan_of t)) c.into_tree-2.ensures.value

pub returns-clause-stages : goal.returns-clause-stages
returns-clause-stages c =
    subst (Stages c.args.map.now c.args.fun (plan_of c.args.address) (plan_of c.args.value)) (sym (returns-clause-plan c))
    (update-stages c.args.map.now c.requires.coded c.args.fun c.requires.state (plan_of c.args.address) (plan_of c.args.value))

pub returns-clause-through : goal.returns-clause-through
returns-clause-through c =
    subst (StagesThrough c.args.map.now (plan_of c.args.address) (plan_of c.args.value)) (sym (returns-clause-plan c))
    (update-through c.args.map.now c.requires.coded c.args.fun c.requires.state (plan_of c.args.address) (plan_of c.args.value))

pub returns-clause-touches : goal.returns-clause-touches
returns-clause-touches c =
    subst (StagesOnly c.args.map.now c.args.fun (plan_of c.args.address) (plan_of c.args.value)) (sym (returns-clause-plan c))
    (update-touches c.args.map.now c.requires.coded c.args.fun c.requires.state (plan_of c.args.address) (plan_of c.args.value))
