use Rattle.rule_code.proofs.Mapped.{checked-programs-are-mapped}
use Rattle.rule_code.proofs.Short.{sized-signatures-are-short}
use Rattle.rule_code.proofs.laws.checked_programs_are_mapped.Goals as goal

pub returns-clause-mapped : goal.returns-clause-mapped
returns-clause-mapped c = checked-programs-are-mapped

pub returns-clause-short : goal.returns-clause-short
returns-clause-short c = sized-signatures-are-short
