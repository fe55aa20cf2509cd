use Rattle.std.proofs.Common.{Result, Ok, Err, List, subst}
use Rattle.std.proofs.lemmas.Result.{err_from_is_err_and}
use Rattle.asm_names.specs.declared.program.Resolved.{Resolved}
use Rattle.round_spec.specs.Round.{Compiled}
use Rattle.stab_cli.specs.declared.job_end.JobEnd.{JobEnd}
use Rattle.fault_script.specs.declared.event.Timed.{Timed}
use Rattle.job_text.specs.Jobs.{job_state}
use Rattle.stab_cli.specs.CompileVerdict.{IsBuiltSource}
use Rattle.stab_cli.specs.JobFaults.{job_faults}
use Rattle.stab_cli.specs.RunJob.{IsPlayOf, IsTrialOf}
use Rattle.stab_cli.specs.Stages.{Is, IsOne, SettlesAs}
use Rattle.stab_cli.proofs.Chains.{goes, seen_as, stops}
use Rattle.stab_cli.proofs.Needs.{source_in}
use Rattle.stab_cli.proofs.TriedJobs.{trial_in, trial_of}
use Rattle.stab_cli.proofs.run.tried.Goals as goal

-- what is found is seen as it is
abbrev told : List Timed → List Timed
told faults = faults

pub returns-in_err-program-clause-judged : goal.returns-in_err-program-clause-judged
returns-in_err-program-clause-judged c =
    let bytes = c.args.bytes.now in
    let job = job_state c.args.job.now in
    let given = err_from_is_err_and c.from_residual.result c.from_residual.ensures.1 in
    rw (given.1, given.2) (stops (IsBuiltSource bytes job) (IsPlayOf bytes job) source_in trial_in c.in_err-program.field-0.0 c.in_err-program.ensures.judged)

pub returns-in_err-faults-clause-judged : goal.returns-in_err-faults-clause-judged
returns-in_err-faults-clause-judged c =
    let bytes = c.args.bytes.now in
    let job = job_state c.args.job.now in
    let given = err_from_is_err_and c.from_residual-in_err-faults.result c.from_residual-in_err-faults.ensures.1 in
    let program = c.in_ok-program.program.source in
    let end = c.in_err-faults.field-0.0 in
    rw (given.1, given.2)
    (goes (IsBuiltSource bytes job) (IsPlayOf bytes job) program c.in_ok-program.ensures.judged trial_in (Err end)
    (stops (Is (job_faults bytes job)) (λ faults. IsTrialOf job.rounds faults program) told trial_in end c.in_err-faults.ensures.judged))

pub returns-in_err-within_budget-clause-judged : goal.returns-in_err-within_budget-clause-judged
returns-in_err-within_budget-clause-judged c =
    let bytes = c.args.bytes.now in
    let job = job_state c.args.job.now in
    let given = err_from_is_err_and c.from_residual-in_err-within_budget.result c.from_residual-in_err-within_budget.ensures.1 in
    let program = c.in_ok-program.program.source in
    let faults = c.in_ok-faults.faults in
    let end = c.in_err-within_budget.field-0.0 in
    let judged = subst (λ fs. SettlesAs (λ (u : Unit {0}). trial_of program fs) (IsTrialOf job.rounds fs program) (Err end)) c.as_slice.ensures c.in_err-within_budget.ensures.judged in
    rw (given.1, given.2)
    (goes (IsBuiltSource bytes job) (IsPlayOf bytes job) program c.in_ok-program.ensures.judged trial_in (Err end)
    (goes (Is (job_faults bytes job)) (λ faults. IsTrialOf job.rounds faults program) faults c.in_ok-faults.ensures.judged trial_in (Err end)
    (seen_as (IsTrialOf job.rounds faults program) (λ (u : Unit {0}). trial_of program faults) trial_in end judged)))

pub returns-clause-judged : goal.returns-clause-judged
returns-clause-judged c =
    let bytes = c.args.bytes.now in
    let job = job_state c.args.job.now in
    let program = c.in_ok-program.program.source in
    let faults = c.in_ok-faults.faults in
    let found : Result (Resolved × Compiled × List Timed) JobEnd = Ok (c.in_ok-program.program, c.in_ok-program.image, faults) in
    let judged = subst (λ fs. IsOne (IsTrialOf job.rounds fs program) (Ok (trial_of program fs))) c.as_slice.ensures c.in_ok-within_budget.ensures.judged in
    goes (IsBuiltSource bytes job) (IsPlayOf bytes job) program c.in_ok-program.ensures.judged trial_in found
    (goes (Is (job_faults bytes job)) (λ faults. IsTrialOf job.rounds faults program) faults c.in_ok-faults.ensures.judged trial_in found judged)
