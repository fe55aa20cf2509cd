use Rattle.std.proofs.Common.{ap, ◌∙◌, arith, rules, Some, w64}
use Rattle.std.proofs.lemmas.Int.{to_z-of_z}
use Rattle.state_space.proofs.Widening.{digits, argument-first, argument-later}
use Rattle.state_space.proofs.number.+argument_of.Goals as goal

pub count-each-requires : goal.count-each-requires
count-each-requires t c = (digits _ _ _ _ c.in_ok-range.ensures.cases.0 c.requires.few c.requires.domains c.requires.within).total

pub nonzero_div-tuple : goal.nonzero_div-tuple
nonzero_div-tuple t c = omega (arith, (digits _ _ _ _ c.in_ok-range.ensures.cases.0 c.requires.few c.requires.domains c.requires.within).some, c.count-each.ensures)

pub overflow_cast-tuple : goal.overflow_cast-tuple
overflow_cast-tuple t c =
    let d = digits _ _ _ _ c.in_ok-range.ensures.cases.0 c.requires.few c.requires.domains c.requires.within in
    rw c.count-each.ensures (omega (arith, d.outer, d.narrow))

pub returns-then-argument-eq0 : goal.returns-then-argument-eq0
returns-then-argument-eq0 t c =
    let d = digits _ _ _ _ c.in_ok-range.ensures.cases.0 c.requires.few c.requires.domains c.requires.within in
    ap Some (to_z-of_z w64 c.value.result (search rules)) ∙ argument-first d c.args.argument c.if-argument-eq0.true (rw c.count-each.ensures at c.value.ensures)

pub nonzero_rem-tuple : goal.nonzero_rem-tuple
nonzero_rem-tuple t c = omega (arith, (digits _ _ _ _ c.in_ok-range.ensures.cases.0 c.requires.few c.requires.domains c.requires.within).some, c.count-each.ensures)

pub argument_of-requires : goal.argument_of-requires
argument_of-requires t c =
    let d = digits _ _ _ _ c.in_ok-range.ensures.cases.0 c.requires.few c.requires.domains c.requires.within in
    (omega arith, (d.few, (d.domains, rw c.count-each.ensures d.inner)))

pub returns : goal.returns
returns t c =
    let d = digits _ _ _ _ c.in_ok-range.ensures.cases.0 c.requires.few c.requires.domains c.requires.within in
    (rw c.count-each.ensures at c.argument_of.ensures) ∙ argument-later d c.args.argument c.if-argument-eq0.false
