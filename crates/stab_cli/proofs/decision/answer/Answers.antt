use Rattle.std.proofs.lemmas.Result.{err_from_is_err_and}
use Rattle.stab_cli.proofs.Decided.{run_ends, run_right}
use Rattle.stab_cli.proofs.decision.answer.Goals as goal

pub returns-in_err-prepared-in-Run : goal.returns-in_err-prepared-in-Run
returns-in_err-prepared-in-Run c =
    let given = err_from_is_err_and c.from_residual.result c.from_residual.ensures.1 in
    rw (c.in-Run.is, given.1, given.2) (run_ends c.args.bytes.now c.in_err-prepared-in-Run.field-0.0 c.in_err-prepared-in-Run.ensures)

pub returns-in_ok-prepared-in-Run : goal.returns-in_ok-prepared-in-Run
returns-in_ok-prepared-in-Run c = rw c.in-Run.is (run_right c.args.bytes.now c.in_ok-prepared-in-Run.field-0 c.in_ok-prepared-in-Run.ensures)
