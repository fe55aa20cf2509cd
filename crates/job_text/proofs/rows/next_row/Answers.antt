use Rattle.job_text.proofs.LeftBehind.{first_row}
use Rattle.job_text.proofs.rows.next_row.Goals as goal

pub returns-in-Some-clause-row : goal.returns-in-Some-clause-row
returns-in-Some-clause-row c = first_row _ _ _ c.in-Some.ensures.line c.in-Some.ensures.rest
