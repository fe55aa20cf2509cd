use Rattle.rule_code.proofs.Tables.{placed-tables-are-held}
use Rattle.rule_code.proofs.laws.placed_tables_are_held.Goals as goal

pub returns : goal.returns
returns c = placed-tables-are-held
