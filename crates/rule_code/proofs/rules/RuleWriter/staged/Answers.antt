use Rattle.std.proofs.Common.{sym, ap, ◌∙◌}
use Rattle.block_code.specs.Tree.{plan_of}
use Rattle.state_layout.specs.Map.{args_of}
use Rattle.instr_select.specs.Terms.{arguments_plan, term_plan}
use Rattle.staged_commit.specs.Code.{first, padded_at, stage_update}
use Rattle.rule_code.proofs.rules.RuleWriter.staged.Goals as goal

pub returns : goal.returns
returns c =
    let program = c.args.self.checked.now in
    let placement = c.args.self.map.now in
    let tables = c.args.self.tables in
    let state = c.requires.state in
    ap plan_of c.into_tree.ensures.value ∙ c.in_ok-block.ensures.plan
    ∙ ap (λ p. stage_update placement c.args.fun (padded_at placement c.args.fun) p (plan_of c.in_ok-index.index))
    (c.in_ok-address.ensures.plan state.signature state.here ∙ ap (arguments_plan program placement tables state.signature.args c.args.args.now) c.first_register.ensures
    ∙ ap (λ s. arguments_plan program placement tables (args_of s) c.args.args.now first) (sym state.here))
    ∙ ap (stage_update placement c.args.fun (padded_at placement c.args.fun) _) (c.in_ok-index.ensures.plan ∙ ap (term_plan program placement tables c.args.value.now) c.second_register.ensures)
