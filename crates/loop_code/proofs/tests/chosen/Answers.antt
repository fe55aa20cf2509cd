use Rattle.std.proofs.Common.{rules, subst, sym, ◌∙◌}
use Rattle.block_code.specs.Tree.{plan_of}
use Rattle.block_code.specs.Block.{IsBlock, Spares}
use Rattle.loop_code.proofs.tests.chosen.Goals as goal

pub counted-requires-clause-kept : goal.counted-requires-clause-kept
counted-requires-clause-kept c =
    let then_part = subst (λ t. Spares 0 (plan_of t)) (sym (c.in_ok-then_part.ensures.ok ∙ c.into_tree.ensures.value)) (c.in_ok-adds.ensures.spared 0) in
    let else_part = subst (λ t. Spares 0 (plan_of t)) (sym (c.in_ok-else_part.ensures.ok ∙ c.into_tree-2.ensures.value)) (c.in_ok-adds-2.ensures.spared 0) in
    let block : IsBlock (plan_of c.of-body.result) = search rules in
    c.spared_words_are_kept.ensures 0 (search rules) _ block (subst (λ t. Spares 0 (plan_of t)) (sym c.of-body.ensures) (then_part, else_part))
