use Rattle.std.proofs.Common.{◌∙◌, refl, arith}
use Rattle.trace_decode.specs.Ready.{standing}
use Rattle.trace_decode.proofs.Stepping.{few-next, late-end, on_err, out-cut, out-tick, time-next}
use Rattle.trace_decode.proofs.play.to_end.Goals as goal

pub loop-made-init : goal.loop-made-init
loop-made-init g c = record { ready = c.requires.ready; time = omega arith; few = c.requires.few; going = λ job rounds start. start; no_fault = refl }

pub tick-requires : goal.tick-requires
tick-requires g c =
    let i = c.loop-made.invariant in
    let at = i.time in
    let below = c.loop-made-test.true in
    let early = c.requires.early in
    (omega arith, (omega arith, (c.requires.mapped, (i.ready, (omega arith, i.few)))))

pub loop-made-preserved : goal.loop-made-preserved
loop-made-preserved g c =
    let i = c.loop-made.invariant in
    let at = i.time in
    let e = c.in_ok-tick.ensures in
    let s0 = standing c.args.hart.now c.args.feed.now c.args.progress.now in
    let s = standing c.loop-made.hart c.loop-made.feed c.loop-made.progress in
    let s' = standing c.tick.new.hart c.tick.new.feed c.tick.new.progress in
    let held = g.K.Sink.held in
    let t = time-next c.args.checked.now c.args.built.now s0 s s' (held c.args.sink.now) (held c.loop-made.sink) (held c.tick.new.sink) e.standing in
    record {
      ready = e.ready;
      time = omega arith;
      few = few-next c.args.checked.now c.args.built.now s0 s s' (held c.args.sink.now) (held c.loop-made.sink) (held c.tick.new.sink) e.standing i.few;
      going = λ job rounds start.
          out-tick c.args.checked.now c.args.built.now s0 s s' (held c.args.sink.now) (held c.loop-made.sink) (held c.tick.new.sink) e.standing job (omega arith) (i.going job rounds start) e.whole;
      no_fault = e.cause.kept ∙ i.no_fault;
    }

pub returns-in_err-tick-clause-cut : goal.returns-in_err-tick-clause-cut
returns-in_err-tick-clause-cut g c =
    let i = c.loop-made.invariant in
    let e = c.in_err-tick.ensures in
    let s0 = standing c.args.hart.now c.args.feed.now c.args.progress.now in
    let s = standing c.loop-made.hart c.loop-made.feed c.loop-made.progress in
    let s' = standing c.tick.new.hart c.tick.new.feed c.tick.new.progress in
    let held = g.K.Sink.held in
    on_err c.from_residual.result (λ job rounds latest start.
    out-cut c.args.checked.now c.args.built.now s0 s s' (held c.args.sink.now) (held c.loop-made.sink) (held c.tick.new.sink) e.standing job (omega arith) (i.going job rounds start) e.part)

pub returns-clause-going : goal.returns-clause-going
returns-clause-going g c = λ job rounds latest start.
    let i = c.loop-made.invariant in
    let at = i.time in
    let past = c.loop-made-test.false in
    let auto = c.loop-made.auto._made-end in
    let s = standing c.loop-made.hart c.loop-made.feed c.loop-made.progress in
    let now = i.going job rounds start in
    let over = late-end c.args.checked.now c.args.built.now job s (g.K.Sink.held c.loop-made.sink) now (omega arith) in
    (now, omega arith)
