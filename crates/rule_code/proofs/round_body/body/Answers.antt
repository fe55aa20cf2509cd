use Rattle.std.proofs.Common.{sym, ap, ◌∙◌, subst}
use Rattle.block_code.specs.Block.{IsInRange}
use Rattle.rule_code.specs.Code.{around}
use Rattle.rule_code.proofs.Ranged.{body-in-range}
use Rattle.rule_code.proofs.round_body.body.Goals as goal

pub of-requires : goal.of-requires
of-requires c =
    subst IsInRange (sym (c.in_ok-tree.ensures ∙ ap (around c.args.map.now) c.in_ok-rule.ensures))
    (body-in-range c.args.checked.now c.args.map.now c.args.tables c.args.flat.now c.requires.prepared.coded c.requires.writable c.requires.weight)
