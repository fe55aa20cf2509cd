use Rattle.std.proofs.Common.{ap, ◌∙◌, arith}
use Rattle.asm_names.specs.declared.program.Resolved.{Resolved}
use Rattle.state_space.specs.Locations.{is_input, signatures_of}
use Rattle.bound_count.specs.Amounts.{kept}
use Rattle.bound_count.specs.Counts.{is_output, location_count}
use Rattle.bound_count.specs.Numbers.{numbers_of}
use Rattle.bound_count.proofs.Machines.{fits-machine, fits-space}
use Rattle.bound_count.proofs.limits.needs.Goals as goal

pub returns-clause-fits : goal.returns-clause-fits
returns-clause-fits c s =
    let program = s.resolved-program.ensures.program in
    fits-machine c.row.ROM c.row.RAM (omega (arith, c.ROM.fits)) (omega (arith, c.RAM.fits)) s.args.shape s.args.layout s.args.checked.now
    s.numbers.result (s.numbers.ensures ∙ ap (numbers_of s.args.shape s.args.layout) program)
    s.location_total-inputs.result s.location_total-outputs.result
    (s.location_total-inputs.ensures ∙ ap (λ (p : Resolved). kept (location_count is_input (signatures_of p))) program)
    (s.location_total-outputs.ensures ∙ ap (λ (p : Resolved). kept (location_count is_output (signatures_of p))) program)
    s.within.result s.within.ensures.same s.within.ensures.limits

pub returns-clause-small : goal.returns-clause-small
returns-clause-small c s little =
    fits-space c.row.ROM c.row.RAM (omega (arith, c.ROM.fits)) (omega (arith, c.RAM.fits)) s.args.shape s.args.layout s.args.checked.now s.within.result
    (returns-clause-fits c s) little
