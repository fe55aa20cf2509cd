use Rattle.std.proofs.Common.{Ok, Err, Result}
use Rattle.std.proofs.lemmas.Result.{err_from_is_err_and}
use Rattle.asm_names.specs.declared.program.Resolved.{Resolved}
use Rattle.job_text.specs.Jobs.{job_state}
use Rattle.model_run.specs.declared.start.Start.{Start}
use Rattle.stab_cli.specs.BuiltJob.{text_of}
use Rattle.stab_cli.specs.ModelJob.{Beginning, IsBegun, IsModelledSource}
use Rattle.stab_cli.specs.SourceStages.{source_of}
use Rattle.stab_cli.specs.declared.job_end.JobEnd.{JobEnd}
use Rattle.stab_cli.proofs.Chains.{goes, seen_as, stops}
use Rattle.stab_cli.proofs.ModelJobs.{beginning_in, same_begun, same_modelled}
use Rattle.stab_cli.proofs.model.prepared.Goals as goal

pub returns-in_err-program-clause-judged : goal.returns-in_err-program-clause-judged
returns-in_err-program-clause-judged c =
    let bytes = c.args.bytes.now in
    let job = job_state c.args.job.now in
    let end = c.in_err-program.field-0.0 in
    let given = err_from_is_err_and c.from_residual.result c.from_residual.ensures.1 in
    let judged = same_modelled (Err end) _ _ _ _ c.section_at.ensures.line c.section_at.ensures.text c.in_err-program.ensures.judged in
    rw (given.1, given.2)
    (stops (IsModelledSource job.source.line (text_of bytes job.source)) (IsBegun job.script.line (text_of bytes job.script)) source_of beginning_in end judged)

pub returns-in_err-start-clause-judged : goal.returns-in_err-start-clause-judged
returns-in_err-start-clause-judged c =
    let bytes = c.args.bytes.now in
    let job = job_state c.args.job.now in
    let program : Resolved = c.in_ok-program.program in
    let end = c.in_err-start.field-0.0 in
    let given = err_from_is_err_and c.from_residual-in_err-start.result c.from_residual-in_err-start.ensures.1 in
    let view : Start → Beginning = λ start. record { program = program.source; state = start.state } in
    let source = same_modelled (Ok program) _ _ _ _ c.section_at.ensures.line c.section_at.ensures.text c.in_ok-program.ensures.judged in
    let judged = same_begun program.source (Err end) view _ _ _ _ c.section_at-2.ensures.line c.section_at-2.ensures.text c.in_err-start.ensures.judged in
    rw (given.1, given.2)
    (goes (IsModelledSource job.source.line (text_of bytes job.source)) (IsBegun job.script.line (text_of bytes job.script)) program.source source beginning_in (Err end)
    (seen_as (IsBegun job.script.line (text_of bytes job.script) program.source) view beginning_in end judged))

pub returns-clause-judged : goal.returns-clause-judged
returns-clause-judged c =
    let bytes = c.args.bytes.now in
    let job = job_state c.args.job.now in
    let program : Resolved = c.in_ok-program.program in
    let start = c.in_ok-start.start in
    let view : Start → Beginning = λ s. record { program = program.source; state = s.state } in
    let source = same_modelled (Ok program) _ _ _ _ c.section_at.ensures.line c.section_at.ensures.text c.in_ok-program.ensures.judged in
    let found : Result (Resolved × Start) JobEnd = Ok (program, start) in
    goes (IsModelledSource job.source.line (text_of bytes job.source)) (IsBegun job.script.line (text_of bytes job.script)) program.source source beginning_in found
    (same_begun program.source (Ok start) view _ _ _ _ c.section_at-2.ensures.line c.section_at-2.ensures.text c.in_ok-start.ensures.judged)
