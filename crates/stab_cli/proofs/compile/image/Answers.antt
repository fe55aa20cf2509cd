use Rattle.stab_cli.proofs.ModelJobs.{own_numbers}
use Rattle.stab_cli.proofs.Needs.{built_is_buildable, needs-are, needs_refuse}
use Rattle.stab_cli.proofs.compile.image.Goals as goal

pub returns-in-Ok-clause-judged : goal.returns-in-Ok-clause-judged
returns-in-Ok-clause-judged c =
    let numbers = c.args.program.now in built_is_buildable numbers (own_numbers numbers) _ (needs-are numbers) c.in-Ok.built c.in-Ok.ensures.needs

pub returns-in-Err-Needs-clause-judged : goal.returns-in-Err-Needs-clause-judged
returns-in-Err-Needs-clause-judged c =
    let numbers = c.args.program.now in
    needs_refuse numbers (own_numbers numbers) _ (needs-are numbers) c.in-Err-Needs.field-0 c.in-Err-Needs.need c.in-Err-Needs.field-0-is c.in-Err-Needs.ensures.needs
