use Rattle.std.proofs.Common.{◌≡◌, Result, Ok, Err, List, ℕ, refl, sym, subst}
use Rattle.std.proofs.lemmas.Result.{err_from_is_err_and}
use Rattle.asm_names.specs.declared.program.Resolved.{Resolved}
use Rattle.fault_script.specs.Standings.{started}
use Rattle.fault_script.specs.declared.event.Timed.{Timed}
use Rattle.round_spec.specs.Round.{Compiled}
use Rattle.stab_cli.specs.declared.job_end.JobEnd.{JobEnd}
use Rattle.job_text.specs.Jobs.{job_state}
use Rattle.job_text.specs.declared.mode.Mode.TheVariants as modes
use Rattle.stab_cli.specs.BuiltJob.{built_job}
use Rattle.stab_cli.specs.RunJob.{IsTried, IsTriedJob, Trial}
use Rattle.stab_cli.specs.RunText.{IsReportAndTrace, IsRightRun, IsRunText, Recovers, job_start}
use Rattle.stab_cli.specs.Stages.{Is, IsOne}
use Rattle.stab_cli.proofs.Chains.{goes, one_verdict, stage_ends, stops}
use Rattle.stab_cli.proofs.ModelJobs.{own_numbers}
use Rattle.stab_cli.proofs.TriedJobs.{trial_in, trial_of}
use Rattle.stab_cli.proofs.run.prepared.Goals as goal

pub returns-in_err-job : goal.returns-in_err-job
returns-in_err-job c =
    let bytes = c.args.bytes.now in
    let end = c.in_err-job.field-0.0 in
    let given = err_from_is_err_and c.from_residual.result c.from_residual.ensures.1 in
    rw (given.1, given.2)
    (stage_ends (IsTried bytes) trial_in (IsRightRun bytes) end (stops (Is (built_job modes.Run bytes)) (IsTriedJob bytes) job_state trial_in end c.in_err-job.ensures.judged))

pub returns-in_err-program : goal.returns-in_err-program
returns-in_err-program c =
    let bytes = c.args.bytes.now in
    let job = job_state c.in_ok-job.job in
    let end = c.in_err-program.field-0.0 in
    let given = err_from_is_err_and c.from_residual-in_err-program.result c.from_residual-in_err-program.ensures.1 in
    rw (given.1, given.2)
    (stage_ends (IsTried bytes) trial_in (IsRightRun bytes) end (goes (Is (built_job modes.Run bytes)) (IsTriedJob bytes) job c.in_ok-job.ensures.judged trial_in (Err end) c.in_err-program.ensures.judged))

pub returns-in_err-report : goal.returns-in_err-report
returns-in_err-report c =
    let given = err_from_is_err_and c.from_residual-in_err-report.result c.from_residual-in_err-report.ensures.1 in
    rw (given.1, given.2) tt

pub returns-in_err-hart : goal.returns-in_err-hart
returns-in_err-hart c =
    let given = err_from_is_err_and c.from_residual-in_err-hart.result c.from_residual-in_err-hart.ensures.1 in
    rw (given.1, given.2) tt

pub returns : goal.returns
returns c =
    let bytes = c.args.bytes.now in
    let job = job_state c.in_ok-job.job in
    let program = c.in_ok-program.program in
    let image = c.in_ok-program.image in
    let faults = c.in_ok-program.faults in
    let trial : Trial = trial_of program.source faults in
    let tried : IsOne (IsTriedJob bytes job) (Ok trial) = c.in_ok-program.ensures.judged in
    let found : Result (Resolved × Compiled × List Timed) JobEnd = Ok (program, image, faults) in
    let one : IsOne (IsTried bytes) (Ok trial) = goes (Is (built_job modes.Run bytes)) (IsTriedJob bytes) job c.in_ok-job.ensures.judged trial_in found tried in
    let same : started c.in_ok-hart.hart c.new-readings.result ≡ job_start job = rw (c.in_ok-hart.ensures, c.new-readings.ensures) refl in
    let told : (text : List ℕ) → IsReportAndTrace c.in_ok-report.report program image faults job.rounds (started c.in_ok-hart.hart c.new-readings.result) text → IsRunText bytes text = λ text is. record {
      job = job;
      read = sym c.in_ok-job.ensures.judged.0;
      trial = trial;
      tried = tried.0;
      numbers = program;
      resolves = own_numbers program;
      built = image;
      report = c.in_ok-report.report;
      image = c.in_ok-report.ensures;
      holds = c.in_ok-program.ensures.holds;
      recovers = subst (λ s. Recovers program image s) same c.recovers.ensures;
      says = subst (λ s. IsReportAndTrace c.in_ok-report.report program image faults job.rounds s text) same is;
    } in (
      one_verdict (IsTried bytes) (Ok trial) one,
      record { texts = told; ready = record { holds = c.in_ok-program.ensures.holds; faults = c.in_ok-program.ensures.faults; budget = c.in_ok-program.ensures.budget } },
    )
