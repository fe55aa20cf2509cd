use Rattle.std.proofs.Common.{◌≡◌, ap, ◌∙◌, arith}
use Rattle.asm_ranges.specs.{Ranges.{range}, Rows.{known, program_intervals}}
use Rattle.state_space.specs.Locations.{signatures_of}
use Rattle.asm_ranges.proofs.{Agreement.{wider}, Legible.{sorted-small}, Outermost.{fits-row, scope-row}, Standing.{term-sound}, Stands.{stands-term}, Written.{found}}
use Rattle.asm_ranges.proofs.bounds.interval.Goals as goal

pub plain-requires-clause-fits : goal.plain-requires-clause-fits
plain-requires-clause-fits c = fits-row _ (rw (c.as_slice-3.ensures, c.resolved-resolved.ensures.program) c.resolved-resolved.ensures.checked.words)

pub plain-requires-clause-small : goal.plain-requires-clause-small
plain-requires-clause-small c =
    let program = c.args.checked.now in
    let sound = stands-term program c.resolved-resolved.ensures.checked c.args.term.now c.requires.0 c.requires.1 in
    sorted-small program.funs sound.bound c.args.term.now sound.sorted

pub plain-requires-clause-room : goal.plain-requires-clause-room
plain-requires-clause-room c =
    let few = (found c.args.checked.now c.resolved-resolved.ensures.checked c.args.term.now c.requires.0 c.requires.1).few in
    omega (arith, few)

in_row : (c : goal.After-plain) → c.plain.result ≡ range (signatures_of c.args.checked.now) (known (program_intervals c.args.checked.now)) c.args.term.now
in_row c =
    let is = rw (c.as_slice.ensures, c.as_slice-2.ensures, c.resolved-resolved.ensures.program) at c.plain.ensures.is in
    is ∙ ap (λ scope. range (signatures_of c.args.checked.now) scope c.args.term.now) (scope-row _ ∙ ap known (c.as_slice-3.ensures ∙ rw c.resolved-resolved.ensures.program c.resolved-resolved.ensures.checked.intervals))

pub returns : goal.returns
returns c place stands =
    let program = c.args.checked.now in
    let checked = c.resolved-resolved.ensures.checked in
    let sums = (term-sound program c.args.term.now place (stands-term program checked c.args.term.now place stands)).0 in
    in_row c ∙ (wider (signatures_of program) place.scope (known (program_intervals program)) (found program checked c.args.term.now place stands).extends c.args.term.now sums).0
