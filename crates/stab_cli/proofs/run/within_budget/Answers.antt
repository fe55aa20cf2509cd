use Rattle.std.proofs.Common.{◌≡◌, ◌∙◌, ◌≤◌}
use Rattle.bound_count.specs.Numbers.{numbers_of}
use Rattle.bound_count.specs.declared.shape.Shape.TheVariants.{Unrolled}
use Rattle.state_layout.specs.declared.layout.Layout.TheVariants.{Words}
use Rattle.trace_decode.specs.Budget.{budget_of, most}
use Rattle.stab_cli.proofs.ModelJobs.{own_numbers}
use Rattle.stab_cli.proofs.TriedJobs.{is_within, takes_too_long}
use Rattle.stab_cli.proofs.run.within_budget.Goals as goal

pub returns-in-Ok-clause-judged : goal.returns-in-Ok-clause-judged
returns-in-Ok-clause-judged c =
    let numbers = c.args.program.now in
    let few : budget_of c.needs.result c.args.faults.now c.args.rounds ≤ most = rw c.in-Ok.ensures.ticks at c.in-Ok.ensures.few in
    is_within numbers (own_numbers numbers) c.args.faults.now c.args.rounds (rw (c.needs.ensures, c.requires.stabilizes.needs) at few)

pub returns-in-Err-clause-judged : goal.returns-in-Err-clause-judged
returns-in-Err-clause-judged c =
    let numbers = c.args.program.now in
    let has : c.needs.result ≡ numbers_of Unrolled Words numbers = c.needs.ensures ∙ c.requires.stabilizes.needs in
    rw (c.in-Err.ensures.number, has)
    (takes_too_long numbers (own_numbers numbers) c.args.faults.now c.args.rounds (rw has at c.in-Err.ensures.many))
