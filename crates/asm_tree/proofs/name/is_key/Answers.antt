use Rattle.std.proofs.Common.{◌∙◌}
use Rattle.asm_tree.proofs.Keys.{is_key-found}
use Rattle.asm_tree.proofs.name.is_key.Goals as goal

pub returns : goal.returns
returns c = c.is_some.ensures ∙ is_key-found c.args.text.now c.key_of.result c.key_of.ensures
