use Rattle.asm_names.proofs.Common.{refl}
use Rattle.asm_names.specs.Table.{scope}
use Rattle.asm_names.proofs.table.Table.new.Goals as goal

pub returns : goal.returns
unfolding scope
returns c = rw c.new.ensures.empty refl
