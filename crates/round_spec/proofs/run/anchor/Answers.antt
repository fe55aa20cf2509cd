use Rattle.round_spec.specs.Heads.{IsAway}
use Rattle.round_spec.proofs.Running.{anchor-not_late}
use Rattle.round_spec.proofs.run.anchor.Goals as goal

pub unreachable-requires : goal.unreachable-requires
unreachable-requires g c =
    let away : IsAway c.rom.result.now c.args.feed.now.left c.args.hart.now c.needs.result.anchor = c.in-Err.ensures.late in
    let away' = rw (c.rom.ensures, c.needs.ensures) at away in
    anchor-not_late g.row.ROM g.row.RAM c.args.checked.now c.args.built.now c.requires c.args.feed.now.left c.args.hart.now c.pc.ensures.valid away'
