use Rattle.asm_names.specs.declared.program.Resolved.{Resolved}
use Rattle.model_run.specs.declared.start.Start.{Start}
use Rattle.stab_cli.specs.ModelJob.{Beginning}
use Rattle.stab_cli.proofs.ModelJobs.{begins, begins_badly}
use Rattle.stab_cli.proofs.model.begun.Goals as goal

pub returns-in-Ok-clause-judged : goal.returns-in-Ok-clause-judged
returns-in-Ok-clause-judged c = begins c.args.program.now c.args.script.first_line c.args.script.text.now c.in-Ok.start.state c.in-Ok.ensures.ok

pub returns-in-Err-clause-judged : goal.returns-in-Err-clause-judged
returns-in-Err-clause-judged c =
    let numbers : Resolved = c.args.program.now in
    let view : Start → Beginning = λ start. record { program = numbers.source; state = start.state } in
    rw c.from.ensures (begins_badly numbers c.args.script.first_line c.args.script.text.now view c.in-Err.end c.in-Err.ensures.bad)
