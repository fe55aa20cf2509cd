use Rattle.std.proofs.Common.{Ok, Err}
use Rattle.std.proofs.lemmas.Result.{err_from_is_err_and}
use Rattle.job_text.specs.Jobs.{job_state}
use Rattle.round_spec.specs.Round.{Compiled}
use Rattle.stab_cli.specs.CheckJob.{IsCheckedSource}
use Rattle.stab_cli.specs.CompileVerdict.{IsBuildable}
use Rattle.stab_cli.specs.SourceStages.{source_of}
use Rattle.stab_cli.proofs.Chains.{goes, seen_as, stops}
use Rattle.stab_cli.proofs.Needs.{source_in}
use Rattle.stab_cli.proofs.Sources.{same_source}
use Rattle.stab_cli.proofs.compile.built_source.Goals as goal

pub returns-in_err-program-clause-judged : goal.returns-in_err-program-clause-judged
returns-in_err-program-clause-judged c =
    let given = err_from_is_err_and c.from_residual.result c.from_residual.ensures.1 in
    let First = IsCheckedSource c.args.bytes.now (job_state c.args.job.now) in
    rw (given.1, given.2) (stops First IsBuildable source_of source_in c.in_err-program.field-0.0 (same_source (Err c.in_err-program.field-0.0) _ _ _ _ c.section_at.ensures.line c.section_at.ensures.text c.in_err-program.ensures))

pub returns-in_err-built-clause-judged : goal.returns-in_err-built-clause-judged
returns-in_err-built-clause-judged c =
    let given = err_from_is_err_and c.from_residual-in_err-built.result c.from_residual-in_err-built.ensures.1 in
    let First = IsCheckedSource c.args.bytes.now (job_state c.args.job.now) in
    let program = c.in_ok-program.program.source in
    let end = c.in_err-built.field-0.0 in
    rw (given.1, given.2)
    (goes First IsBuildable program (same_source (Ok c.in_ok-program.program) _ _ _ _ c.section_at.ensures.line c.section_at.ensures.text c.in_ok-program.ensures) source_in (Err end)
    (seen_as (IsBuildable program) (λ (built : Compiled). program) source_in end c.in_err-built.ensures.judged))

pub returns-clause-judged : goal.returns-clause-judged
returns-clause-judged c =
    let First = IsCheckedSource c.args.bytes.now (job_state c.args.job.now) in
    goes First IsBuildable c.in_ok-program.program.source (same_source (Ok c.in_ok-program.program) _ _ _ _ c.section_at.ensures.line c.section_at.ensures.text c.in_ok-program.ensures)
    source_in (Ok (c.in_ok-program.program, c.in_ok-built.built)) c.in_ok-built.ensures.judged
