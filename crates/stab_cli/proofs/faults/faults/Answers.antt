use Rattle.std.proofs.lemmas.Result.{err_from_is_err_and}
use Rattle.job_text.specs.Jobs.{job_state}
use Rattle.stab_cli.proofs.TriedJobs.{faults_refused, faults_told}
use Rattle.stab_cli.proofs.faults.faults.Goals as goal

pub returns-in_err-read_script-clause-judged : goal.returns-in_err-read_script-clause-judged
returns-in_err-read_script-clause-judged c =
    let section = c.section_at-section.ensures in
    let given = err_from_is_err_and c.from_residual.result c.from_residual.ensures.1 in
    rw (given.1, given.2) (faults_refused c.args.bytes.now (job_state c.args.job.now) c.in_err-read_script.field-0.0 (rw (← section.text, ← section.line) c.in_err-read_script.ensures.bad))

pub returns-clause-judged : goal.returns-clause-judged
returns-clause-judged c =
    let section = c.section_at-section.ensures in
    faults_told c.args.bytes.now (job_state c.args.job.now) c.in_ok-read_script.field-0 (rw (← section.text, ← section.line) c.in_ok-read_script.ensures.script)
