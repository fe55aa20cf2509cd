use Rattle.std.proofs.Common.{Ok}
use Rattle.std.proofs.lemmas.Result.{err_from_is_err_and}
use Rattle.stab_cli.specs.CompileVerdict.{IsCompiled}
use Rattle.stab_cli.specs.ImageText.{IsImageText, IsReportOfStabilizing}
use Rattle.stab_cli.proofs.Chains.{one_verdict, stage_ends}
use Rattle.stab_cli.proofs.ModelJobs.{own_numbers}
use Rattle.stab_cli.proofs.Needs.{source_in}
use Rattle.stab_cli.proofs.compile.text.Goals as goal

pub returns-in_err-program : goal.returns-in_err-program
returns-in_err-program c =
    let bytes = c.args.bytes.now in
    let given = err_from_is_err_and c.from_residual.result c.from_residual.ensures.1 in
    rw (given.1, given.2) (stage_ends (IsCompiled bytes) source_in (IsImageText bytes) c.in_err-program.field-0.0 c.in_err-program.ensures.judged)

pub returns-in_err-image_report : goal.returns-in_err-image_report
returns-in_err-image_report c =
    let given = err_from_is_err_and c.from_residual-in_err-image_report.result c.from_residual-in_err-image_report.ensures.1 in
    rw (given.1, given.2) tt

pub returns : goal.returns
returns c =
    let bytes = c.args.bytes.now in
    let program = c.in_ok-program.program in
    let one = c.in_ok-program.ensures.judged in
    let report : IsReportOfStabilizing program c.in_ok-image_report.field-0 = record { built = c.in_ok-program.built; image = c.in_ok-image_report.ensures; holds = c.in_ok-program.ensures.holds } in (
      one_verdict (IsCompiled bytes) (Ok program.source) one,
      record { program = program.source; passed = one.0; numbers = program; resolves = own_numbers program; report = report },
    )
