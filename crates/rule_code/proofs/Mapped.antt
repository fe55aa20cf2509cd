-- Code for terms can be written for checked programs.
use Rattle.std.proofs.Common.{ap, ◌∙◌}
use Rattle.state_space.specs.Sizes.{fits}
use Rattle.instr_select.proofs.Loops.{loops-there}
use Rattle.rule_code.specs.MappedLaw.{CheckedProgramsAreMapped}

pub checked-programs-are-mapped : CheckedProgramsAreMapped
checked-programs-are-mapped program placement checked same room = record {
  signatures = same;
  room = ap fits same ∙ room;
  domains = checked.well_formed.domains;
  funs = checked.well_formed.funs;
  loops = loops-there program checked.well_formed;
}
