use Rattle.std.proofs.Common.{◌≡◌, subst, arith}
use Rattle.std.specs.List.{AllByRecursion}
use Rattle.asm_names.specs.declared.program.Resolved.{Resolved}
use Rattle.state_space.specs.Locations.{signatures_of}
use Rattle.state_space.specs.Sizes.{IsSized}
use Rattle.trace_decode.specs.Play.{started}
use Rattle.trace_decode.proofs.Held.{mapped-of}
use Rattle.trace_decode.proofs.Whole.{become-legal, keeps-bounds}
use Rattle.trace_decode.proofs.tracing.run_trace.Goals as goal

sized_as : (resolved program : Resolved) → resolved ≡ program → AllByRecursion IsSized (signatures_of resolved) → AllByRecursion IsSized (signatures_of program)
sized_as resolved program same sized = subst (λ p. AllByRecursion IsSized (signatures_of p)) same sized

pub trace-requires : goal.trace-requires
trace-requires g c =
    let sized = sized_as c.resolved.result.now c.args.checked.now c.resolved.ensures.program c.resolved_functions_are_sized.ensures in
    let mapped = mapped-of g.row.ROM g.row.RAM c.args.checked.now c.args.built.now c.requires.stable sized in
    (omega arith, (omega arith, (c.requires.size, (mapped, (c.in-Ok.ensures, (c.requires.stable, (c.requires.script, c.requires.budget)))))))

pub returns-in-Ok-clause-bounds : goal.returns-in-Ok-clause-bounds
returns-in-Ok-clause-bounds g c =
    keeps-bounds g.row.ROM g.row.RAM c.args.checked.now c.args.built.now (started c.args.hart.now c.args.feed.now) c.requires.size c.requires.stable c.pc.ensures.valid

pub returns-in-Ok-clause-legal : goal.returns-in-Ok-clause-legal
returns-in-Ok-clause-legal g c =
    become-legal g.row.ROM g.row.RAM c.args.checked.now c.args.built.now (started c.args.hart.now c.args.feed.now) c.requires.size c.requires.stable c.pc.ensures.valid
    (sized_as c.resolved.result.now c.args.checked.now c.resolved.ensures.program c.resolved_functions_are_sized.ensures)

pub returns-in-Err-clause-bounds : goal.returns-in-Err-clause-bounds
returns-in-Err-clause-bounds g c =
    keeps-bounds g.row.ROM g.row.RAM c.args.checked.now c.args.built.now (started c.args.hart.now c.args.feed.now) c.requires.size c.requires.stable c.pc.ensures.valid

pub returns-in-Err-clause-legal : goal.returns-in-Err-clause-legal
returns-in-Err-clause-legal g c =
    become-legal g.row.ROM g.row.RAM c.args.checked.now c.args.built.now (started c.args.hart.now c.args.feed.now) c.requires.size c.requires.stable c.pc.ensures.valid
    (sized_as c.resolved.result.now c.args.checked.now c.resolved.ensures.program c.resolved_functions_are_sized.ensures)
