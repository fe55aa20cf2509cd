use Rattle.std.proofs.Common.{◌≡◌, ◌%◌, ⊎_elim, arith}
use Rattle.bound_count.specs.declared.shape.Shape.TheVariants as forms
use Rattle.round_spec.proofs.Forever.{rounds-forever}
use Rattle.rule_code.proofs.Making.{made-images-stabilize}
use Rattle.rule_code.proofs.compiling.compile.Goals as goal

pub returns-clause-stabilizes : goal.returns-clause-stabilizes
returns-clause-stabilizes g c =
    let made = c.in_ok-image.ensures.made in
    (made-images-stabilize g.row.ROM g.row.RAM c.args.layout c.args.checked.now c.in_ok-image.field-0 made.0 made.1).0

pub returns-clause-goes_on : goal.returns-clause-goes_on
returns-clause-goes_on g c =
    let made = c.in_ok-image.ensures.made in
    let aligned : g.row.RAM % 4 ≡ 0 = ⊎_elim (λ e. omega arith) (λ e. omega arith) c.requires.ram in
    λ m readings valid head n.
    rounds-forever g.row.RAM aligned g.row.ROM c.args.checked.now c.in_ok-image.field-0
    (record { shape = forms.Unrolled; layout = c.args.layout; stabilizes = (made-images-stabilize g.row.ROM g.row.RAM c.args.layout c.args.checked.now c.in_ok-image.field-0 made.0 made.1).0 })
    n readings m valid head

pub returns-clause-least : goal.returns-clause-least
returns-clause-least g c =
    let made = c.in_ok-image.ensures.made in
    (made-images-stabilize g.row.ROM g.row.RAM c.args.layout c.args.checked.now c.in_ok-image.field-0 made.0 made.1).1
