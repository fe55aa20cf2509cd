use Rattle.asm_names.proofs.WellFormedPrograms.{well_formed}
use Rattle.asm_names.proofs.law.resolved_programs_are_well_formed.Goals as goal

-- src/law.rt:29:1
pub returns : goal.returns
returns c = well_formed
