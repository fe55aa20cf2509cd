use Rattle.asm_names.proofs.Common.{ap, ◌∙◌, refl, option_map, known}
use Rattle.std.specs.Prelude.{bytes_eq}
use Rattle.asm_names.specs.Table.{scope}
use Rattle.asm_names.proofs.Tables.{found}
use Rattle.asm_names.proofs.table.Table.find.Goals as goal

pub returns : goal.returns
unfolding scope
returns c = ap (option_map known) c.get.ensures.value ∙ (found (bytes_eq c.bytes.result.now) c.args.self.now.entries.entries ∙ rw c.bytes.ensures.text refl)
