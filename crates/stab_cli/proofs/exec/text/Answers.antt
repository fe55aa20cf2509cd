use Rattle.std.proofs.Common.{◌≡◌, ◌∙◌, Ok, ap, sym}
use Rattle.std.proofs.lemmas.Result.{err_from_is_err_and}
use Rattle.job_text.specs.Jobs.{job_state}
use Rattle.job_text.specs.declared.mode.Mode.TheVariants.{Exec}
use Rattle.stab_cli.specs.BuiltJob.{built_job, of_job}
use Rattle.stab_cli.specs.ExecJob.{Experiment, IsExecText, exec_found, experiment, job_experiment, with_faults}
use Rattle.stab_cli.specs.ImageJob.{rom_words}
use Rattle.stab_cli.specs.JobFaults.{job_faults}
use Rattle.stab_cli.proofs.Chains.{accepts, ends}
use Rattle.stab_cli.proofs.ReadJobs.{unjudged}
use Rattle.stab_cli.proofs.TriedJobs.{unfaulted}
use Rattle.stab_cli.proofs.exec.text.Goals as goal

pub returns-in_err-job : goal.returns-in_err-job
returns-in_err-job c =
    let bytes = c.args.bytes.now in
    let given = err_from_is_err_and c.from_residual.result c.from_residual.ensures.1 in
    rw (given.1, given.2)
    (ends (exec_found bytes) (IsExecText bytes) _ (unjudged Exec bytes (job_experiment bytes) c.in_err-job.field-0.0 c.in_err-job.ensures.judged))

pub returns-in_err-words : goal.returns-in_err-words
returns-in_err-words c =
    let bytes = c.args.bytes.now in
    let job = job_state c.in_ok-job.job in
    let read : built_job Exec bytes ≡ Ok job = sym c.in_ok-job.ensures.judged.0 in
    let given = err_from_is_err_and c.from_residual-in_err-words.result c.from_residual-in_err-words.ensures.1 in
    rw (given.1, given.2)
    (ends (exec_found bytes) (IsExecText bytes) _
    (λ some. ap (of_job (job_experiment bytes)) read
    ∙ ap (λ words. experiment words (job_faults bytes job)) (rw (c.section_at.ensures.text, c.section_at.ensures.line) at (c.in_err-words.ensures.err some))))

pub returns-in_err-told : goal.returns-in_err-told
returns-in_err-told c =
    let bytes = c.args.bytes.now in
    let job = job_state c.in_ok-job.job in
    let read : built_job Exec bytes ≡ Ok job = sym c.in_ok-job.ensures.judged.0 in
    let image : rom_words bytes job ≡ Ok c.in_ok-words.words = rw (c.section_at.ensures.text, c.section_at.ensures.line) at c.in_ok-words.ensures.ok in
    let given = err_from_is_err_and c.from_residual-in_err-told.result c.from_residual-in_err-told.ensures.1 in
    rw (given.1, given.2)
    (ends (exec_found bytes) (IsExecText bytes) _
    (λ some. ap (of_job (job_experiment bytes)) read
    ∙ (ap (λ words. experiment words (job_faults bytes job)) image ∙ unfaulted c.in_ok-words.words (job_faults bytes job) c.in_err-told.field-0.0 c.in_err-told.ensures.judged some)))

pub returns : goal.returns
returns c =
    let bytes = c.args.bytes.now in
    let job = job_state c.in_ok-job.job in
    let words = c.in_ok-words.words in
    let read : built_job Exec bytes ≡ Ok job = sym c.in_ok-job.ensures.judged.0 in
    let image : rom_words bytes job ≡ Ok words = rw (c.section_at.ensures.text, c.section_at.ensures.line) at c.in_ok-words.ensures.ok in
    let told : Experiment = record { words = words; faults = c.in_ok-told.told } in
    let found : job_experiment bytes job ≡ Ok told = ap (λ ws. experiment ws (job_faults bytes job)) image ∙ ap (with_faults words) (sym c.in_ok-told.ensures.judged.0) in (
      accepts (exec_found bytes) told (ap (of_job (job_experiment bytes)) read ∙ found),
      record { job = job; told = told; read = read; found = found; run = rw (c.list.ensures, c.as_slice.ensures) at c.in_ok-run_text.ensures },
    )
