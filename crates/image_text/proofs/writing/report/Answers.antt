use Rattle.std.proofs.Common.{subst, arith}
use Rattle.state_layout.specs.MapLaw.{IsPlaced}
use Rattle.image_text.specs.Report.{AreNamed}
use Rattle.image_text.proofs.Readable.{readable}
use Rattle.image_text.proofs.Written.{report-written}
use Rattle.image_text.proofs.writing.report.Goals as goal

pub returns-clause-text : goal.returns-clause-text
returns-clause-text g c =
    rw c.from_vec.ensures
    (report-written c.args.shape c.args.layout c.args.revision c.args.checked.now c.args.built.now c.resolved-program.result.now c.map-map.result.now c.needs.result c.written.result.now
    c.resolved-program.ensures.program c.map-map.ensures c.needs.ensures c.written.ensures _ _ _ _ _ _ c.new-out.ensures.items c.in_ok-put_head.ensures.ok c.in_ok-put_side.ensures.ok c.in_ok-put_side-2.ensures.ok
    c.in_ok-put_side-3.ensures.ok c.in_ok-put_image.ensures.ok)

pub returns-clause-reportable : goal.returns-clause-reportable
returns-clause-reportable g c =
    readable g.row.ROM g.row.RAM c.args.shape c.args.layout c.args.checked.now c.args.built.now c.args.revision c.requires (subst AreNamed c.resolved-program.ensures.program c.program_is_named.ensures)
    (subst IsPlaced c.map-map.ensures c.is_placed.ensures) (omega (arith, c.ranges.revision.fits))
