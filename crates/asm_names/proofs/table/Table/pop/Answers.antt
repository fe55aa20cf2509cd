use Rattle.asm_names.specs.Table.{scope}
use Rattle.asm_names.proofs.Tables.{popped}
use Rattle.asm_names.proofs.table.Table.pop.Goals as goal

pub returns : goal.returns
unfolding scope
returns c = popped c.args.self.now.entries.entries c.pop.new.self.entries c.pop.result c.pop.ensures.entries c.pop.ensures.found.1
