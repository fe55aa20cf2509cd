use Rattle.std.proofs.Common.{◌≡◌, ◌++◌, true, false, length, arith, List, Some, ap, sym, ◌∙◌}
use Rattle.std.specs.Prelude.{slice_get}
use Rattle.state_space.specs.Kinds.{of_side}
use Rattle.state_space.specs.Locations.{located}
use Rattle.state_space.proofs.Padding.{read_at}
use Rattle.text_core.specs.WrittenLines.{lines_text}
use Rattle.text_core.proofs.Begun.{begun_more}
use Rattle.image_text.specs.Report.{numbered, side_line}
use Rattle.image_text.proofs.Listing.{before-next, function-more, function-other, own-held}
use Rattle.image_text.proofs.locations.put_side.Goals.{then-holds+in_ok-first, else-holds}
use Rattle.image_text.proofs.locations.put_side.Goals as goal

pub loop-fun-preserved : goal.loop-fun-preserved
loop-fun-preserved c =
    let held = of_side c.args.side in
    let signatures = c.args.map.now.signatures in
    let line = side_line c.args.side c.args.program.now c.args.map.now in
    let fun = c.loop-fun.fun in
    let l = c.loop-fun in
    let s = c.index-signatures-fun.result in
    let whole : List _ = c.args.out.now.items ++ lines_text (numbered line 0 (located held 0 signatures)) in
    let all : c.signatures-signatures.result.now ≡ signatures = c.signatures-signatures.ensures.signatures ∙ c.space.ensures in
    let here : slice_get signatures fun ≡ Some s = read_at c.signatures-signatures.result.now signatures fun s all c.index-signatures-fun.is (omega (arith, c.loop-fun-test.true, ap length all)) in
    elim c.if-holds.branch [
      | then-holds+in_ok-first w ↦
          let is_held = sym c.holds.ensures ∙ w.if-holds.true in (
            rw (w.out-is, w.first-is) (function-more line held signatures fun s here l.out.items _ whole l.first _ is_held w.in_ok-first.ensures.next w.in_ok-first.ensures.ok l.invariant.0),
            rw w.first-is (omega (arith, w.in_ok-first.ensures.next, l.invariant.1, before-next held signatures fun s here, own-held held s true is_held)),
            rw (w.out-is, w.in_ok-first.ensures.ok) (begun_more _ _ _ l.invariant.2),
          )
      | else-holds w ↦
          let is_other = sym c.holds.ensures ∙ w.if-holds.false in (
            rw (w.out-is, w.first-is) (function-other line held signatures fun s here l.out.items whole l.first is_other l.invariant.0),
            rw w.first-is (omega (arith, l.invariant.1, before-next held signatures fun s here, own-held held s false is_other)),
            rw w.out-is l.invariant.2,
          )
    ]
