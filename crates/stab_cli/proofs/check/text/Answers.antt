use Rattle.std.proofs.Common.{Ok}
use Rattle.std.proofs.lemmas.Result.{err_from_is_err_and}
use Rattle.stab_cli.specs.CheckJob.{IsCheckText, IsPassed}
use Rattle.stab_cli.specs.SourceStages.{source_of}
use Rattle.stab_cli.proofs.Chains.{one_verdict, stage_ends}
use Rattle.stab_cli.proofs.check.text.Goals as goal

pub returns-in_err-found : goal.returns-in_err-found
returns-in_err-found c =
    let bytes = c.args.bytes.now in
    let given = err_from_is_err_and c.from_residual.result c.from_residual.ensures.1 in
    rw (given.1, given.2) (stage_ends (IsPassed bytes) source_of (IsCheckText bytes) c.in_err-found.field-0.0 c.in_err-found.ensures)

pub returns : goal.returns
returns c =
    let program = c.in_ok-found.found.source in
    let one = c.in_ok-found.ensures in
    (one_verdict (IsPassed c.args.bytes.now) (Ok program) one, record { program = program; passed = one.0; says = rw (← c.resolved.ensures.program) c.in_ok-canonical_text.ensures })
