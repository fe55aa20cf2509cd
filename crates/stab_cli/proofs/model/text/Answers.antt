use Rattle.std.proofs.Common.{Err, Ok, Result, sym}
use Rattle.std.proofs.lemmas.Result.{err_from_is_err_and}
use Rattle.asm_names.specs.declared.program.Resolved.{Resolved}
use Rattle.job_text.specs.Jobs.{job_state}
use Rattle.job_text.specs.declared.mode.Mode.TheVariants.{Model}
use Rattle.model_run.specs.declared.start.Start.{Start}
use Rattle.stab_cli.specs.BuiltJob.{built_job}
use Rattle.stab_cli.specs.ModelJob.{IsModelText, IsModelled, IsModelledJob}
use Rattle.stab_cli.specs.Stages.{Is}
use Rattle.stab_cli.specs.declared.job_end.JobEnd.{JobEnd}
use Rattle.stab_cli.proofs.Chains.{goes, one_verdict, stage_ends, stops}
use Rattle.stab_cli.proofs.ModelJobs.{beginning_in, own_numbers}
use Rattle.stab_cli.proofs.model.text.Goals as goal

pub returns-in_err-job : goal.returns-in_err-job
returns-in_err-job c =
    let bytes = c.args.bytes.now in
    let end = c.in_err-job.field-0.0 in
    let given = err_from_is_err_and c.from_residual.result c.from_residual.ensures.1 in
    rw (given.1, given.2)
    (stage_ends (IsModelled bytes) beginning_in (IsModelText bytes) end (stops (Is (built_job Model bytes)) (IsModelledJob bytes) job_state beginning_in end c.in_err-job.ensures.judged))

pub returns-in_err-program : goal.returns-in_err-program
returns-in_err-program c =
    let bytes = c.args.bytes.now in
    let job = job_state c.in_ok-job.job in
    let end = c.in_err-program.field-0.0 in
    let given = err_from_is_err_and c.from_residual-in_err-program.result c.from_residual-in_err-program.ensures.1 in
    rw (given.1, given.2)
    (stage_ends (IsModelled bytes) beginning_in (IsModelText bytes) end
    (goes (Is (built_job Model bytes)) (IsModelledJob bytes) job c.in_ok-job.ensures.judged beginning_in (Err end) c.in_err-program.ensures.judged))

pub returns-in_err-model_text : goal.returns-in_err-model_text
returns-in_err-model_text c =
    let given = err_from_is_err_and c.from_residual-in_err-model_text.result c.from_residual-in_err-model_text.ensures.1 in
    rw (given.1, given.2) tt

pub returns : goal.returns
returns c =
    let bytes = c.args.bytes.now in
    let job = job_state c.in_ok-job.job in
    let program : Resolved = c.in_ok-program.program in
    let start = c.in_ok-program.start in
    let found : Result (Resolved × Start) JobEnd = Ok (program, start) in
    let judged = c.in_ok-program.ensures.judged in
    let text : IsModelText bytes c.in_ok-model_text.field-0 = record {
      job = job;
      read = sym c.in_ok-job.ensures.judged.0;
      beginning = beginning_in (program, start);
      judged = judged.0;
      numbers = program;
      resolves = own_numbers program;
      says = rw c.list-readings.ensures at c.in_ok-model_text.ensures;
    } in
    (one_verdict (IsModelled bytes) (Ok (beginning_in (program, start))) (goes (Is (built_job Model bytes)) (IsModelledJob bytes) job c.in_ok-job.ensures.judged beginning_in found judged), text)
