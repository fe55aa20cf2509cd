use Rattle.std.proofs.Common.{length, arith}
use Rattle.std.proofs.lemmas.List.{take_all}
use Rattle.text_core.proofs.Begun.{begun_more}
use Rattle.exec_run.proofs.Counting.{none-made, running-took, running-trapped, running-sent, running-quiet}
use Rattle.exec_run.proofs.run.run.Goals.{then-ticked, else-ticked+then-ticked-2, else-ticked+else-ticked-2+in-Some+in_ok-put_send, else-ticked+else-ticked-2+in_default}
use Rattle.exec_run.proofs.run.run.Goals as goal

pub loop-number-init : goal.loop-number-init
loop-number-init g c = (
  take_all (length c.args.out.now.items) c.args.out.now.items (omega arith),
  none-made g.row.RAM c.args.rom.now c.args.ticks c.args.script.now c.args.feed.now.left c.args.hart.now c.args.out.now.items c.peek-reading.result c.peek-reading.ensures c.requires,
)

pub loop-number-preserved : goal.loop-number-preserved
loop-number-preserved g c =
    let below = c.loop-number-test.true in
    let before = c.loop-number.invariant.1 in
    let begun = c.loop-number.invariant.0 in
    let m = c.tick-ticked.new.self in
    let ticked = c.tick-ticked.result in
    let e = c.tick-ticked.ensures in
    let f = c.strike_due-left.ensures in
    let faults = c.strike_due-left.result.now in
    let hit = c.strike_due-left.new.hart in
    elim c.if-ticked.branch [
      | then-ticked w ↦ (
        rw w.out-is begun,
        rw (w.out-is, w.feed-is, w.traps-is, w.readings-is, w.reading-is)
            (running-took below before faults f.later f.faults hit m f.struck ticked e.hart e.event w.if-ticked.true w.advance.new.self.left w.peek-reading-then-ticked.result w.advance.ensures.left w.peek-reading-then-ticked.ensures),
      )
      | else-ticked+then-ticked-2 w ↦
          (rw w.out-is begun, rw (w.out-is, w.feed-is, w.traps-is, w.readings-is, w.reading-is) (running-trapped below before faults f.later f.faults hit m f.struck ticked e.hart e.event w.if-ticked-2.true))
      | else-ticked+else-ticked-2+in-Some+in_ok-put_send w ↦ (
        rw (w.out-is, w.in_ok-put_send.ensures.ok) (begun_more _ _ _ begun),
        rw (w.out-is, w.feed-is, w.traps-is, w.readings-is, w.reading-is, w.in_ok-put_send.ensures.ok)
            (running-sent below before faults f.later f.faults hit m f.struck ticked e.hart e.event w.in-Some.port w.in-Some.word w.in-Some.is),
      )
      | else-ticked+else-ticked-2+in_default w ↦
          (rw w.out-is begun, rw (w.out-is, w.feed-is, w.traps-is, w.readings-is, w.reading-is) (running-quiet below before faults f.later f.faults hit m f.struck ticked e.hart e.event w.if-ticked.false w.if-ticked-2.false w.in_default.is))
    ]
