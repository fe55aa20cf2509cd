use Rattle.std.proofs.Common.{rules, subst, sym}
use Rattle.block_code.specs.Tree.{plan_of}
use Rattle.block_code.specs.Block.{IsBlock, Spares}
use Rattle.loop_code.proofs.tests.nested.Goals as goal

pub counted-requires-2-clause-kept : goal.counted-requires-2-clause-kept
counted-requires-2-clause-kept c =
    let block : IsBlock (plan_of c.in_ok-inner.inner) = search rules in
    let spared = subst (Spares 4) (sym c.in_ok-inner.ensures.value) (search rules, search rules, c.in_ok-adds.ensures.spared 4) in
    c.spared_words_are_kept.ensures 4 (search rules) _ block spared
