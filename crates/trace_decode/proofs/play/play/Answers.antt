use Rattle.std.proofs.Common.{◌≡◌, ◌≤◌, ◌+◌, [], ◌∷◌, ◌∙◌, refl, sym, ap, subst, arith}
use Rattle.fault_script.specs.Faults.{AreFaultsFrom, IsFault, last_time}
use Rattle.trace_decode.specs.Going.{IsCut, IsGoing, job_from}
use Rattle.std.specs.Io.KnownBytes.{Appends}
use Rattle.trace_decode.specs.Play.{Faulted, Standing}
use Rattle.trace_decode.specs.TraceText.{text_of}
use Rattle.trace_decode.specs.Ready.{standing}
use Rattle.trace_decode.specs.Tracing.{IsPartly}
use Rattle.trace_decode.proofs.Standings.{counted-most}
use Rattle.trace_decode.proofs.Stepping.{cut-end, cut-fault, cut-first, done-end, going-fault, going-first, nil_of, on_err}
use Rattle.trace_decode.proofs.Whole.{plays-stable}
use Rattle.trace_decode.proofs.play.play.Goals as goal

pub returns-in_err-progress-clause-cut : goal.returns-in_err-progress-clause-cut
returns-in_err-progress-clause-cut g c =
    let held = g.K.Sink.held in
    let job = job_from c.args.script.now c.args.rounds c.args.hart.now c.args.feed.now (held c.args.sink.now) c.args.limit in
    let plays = plays-stable g.row.ROM g.row.RAM c.requires.size c.args.checked.now c.args.built.now c.requires.stable c.args.script.now c.args.rounds c.args.limit c.requires.limit c.args.hart.now c.args.feed.now c.pc.ensures.valid c.requires.script in
    on_err c.from_residual.result (cut-first c.args.checked.now c.args.built.now job (held c.start.new.sink) plays c.in_err-progress.ensures.part)

pub striking-init : goal.striking-init
striking-init g c =
    let held = g.K.Sink.held in
    let job = job_from c.args.script.now c.args.rounds c.args.hart.now c.args.feed.now (held c.args.sink.now) c.args.limit in
    let plays = plays-stable g.row.ROM g.row.RAM c.requires.size c.args.checked.now c.args.built.now c.requires.stable c.args.script.now c.args.rounds c.args.limit c.requires.limit c.args.hart.now c.args.feed.now c.pc.ensures.valid c.requires.script in
    let e = c.in_ok-progress.ensures in
    let at = e.standing in
    let time : c.in_ok-progress.progress.time ≡ 0 = ap (λ (x : Standing). x.time) at in
    let heads = ap (λ (x : Standing). x.heads) at in
    let most = counted-most c.args.hart.now 0 in
    record {
      ready = e.ready;
      early = omega arith;
      few = omega arith;
      faults = subst (λ t. AreFaultsFrom g.row.RAM t c.args.script.now) (sym time) c.requires.script;
      last = ap (λ t. last_time t c.args.script.now) time;
      going = subst (λ (x : Standing). IsGoing c.args.checked.now c.args.built.now job c.args.script.now x (held c.start.new.sink)) (sym at)
          (going-first c.args.checked.now c.args.built.now job (held c.start.new.sink) plays e.whole);
      no_fault = e.cause.kept;
    }

pub returns-in_err-up_to-clause-cut : goal.returns-in_err-up_to-clause-cut
returns-in_err-up_to-clause-cut g c =
    let held = g.K.Sink.held in
    let job = job_from c.args.script.now c.args.rounds c.args.hart.now c.args.feed.now (held c.args.sink.now) c.args.limit in
    let i = c.striking.invariant in
    let s = standing c.striking.hart c.striking.feed c.striking.progress in
    let fault = c.in-Some.fault.now in
    let rest = c.in-Some.rest.now in
    let same = c.in-Some.ensures.cases.0 in
    let going = subst (λ l. IsGoing c.args.checked.now c.args.built.now job l s (held c.striking.sink)) same i.going in
    on_err c.from_residual-in_err-up_to.result (c.in_err-up_to.ensures.cut job fault rest (sym c.from-time.ensures) going)

pub returns-in_err-strike-clause-cut : goal.returns-in_err-strike-clause-cut
returns-in_err-strike-clause-cut g c =
    let held = g.K.Sink.held in
    let job = job_from c.args.script.now c.args.rounds c.args.hart.now c.args.feed.now (held c.args.sink.now) c.args.limit in
    let i = c.striking.invariant in
    let s = standing c.striking.hart c.striking.feed c.striking.progress in
    let fault = c.in-Some.fault.now in
    let rest = c.in-Some.rest.now in
    let same = c.in-Some.ensures.cases.0 in
    let going = subst (λ l. IsGoing c.args.checked.now c.args.built.now job l s (held c.striking.sink)) same i.going in
    let u = c.in_ok-up_to.ensures in
    let f : (c.striking.progress.time ≤ fault.time) × IsFault g.row.RAM fault.event × AreFaultsFrom g.row.RAM fault.time rest = subst (AreFaultsFrom g.row.RAM c.striking.progress.time) same i.faults in
    let s1 = standing c.up_to.new.hart c.up_to.new.feed c.up_to.new.progress in
    let there : s1.time ≡ fault.time = u.there ∙ c.from-time.ensures in
    let up = u.going job fault rest (sym c.from-time.ensures) going in
    let w = c.in_err-strike.ensures in
    let s2 = standing c.strike.new.hart c.up_to.new.feed c.strike.new.progress in
    let partly = subst (λ (x : Standing). IsPartly c.args.checked.now c.args.built.now (record { cause = Faulted fault.event; at = x } ∷ []) (held c.up_to.new.sink) (held c.strike.new.sink)) w.standing w.part in
    on_err c.from_residual-in_err-strike.result
    (subst (λ (x : Standing). IsCut c.args.checked.now c.args.built.now job x.hart x.feed (held c.strike.new.sink)) (sym w.standing)
    (cut-fault c.args.checked.now c.args.built.now job g.row.RAM fault rest s1 (held c.up_to.new.sink) (held c.strike.new.sink) f.1 up (sym there) partly))

pub striking-preserved : goal.striking-preserved
striking-preserved g c =
    let held = g.K.Sink.held in
    let job = job_from c.args.script.now c.args.rounds c.args.hart.now c.args.feed.now (held c.args.sink.now) c.args.limit in
    let i = c.striking.invariant in
    let s = standing c.striking.hart c.striking.feed c.striking.progress in
    let fault = c.in-Some.fault.now in
    let rest = c.in-Some.rest.now in
    let same = c.in-Some.ensures.cases.0 in
    let going = subst (λ l. IsGoing c.args.checked.now c.args.built.now job l s (held c.striking.sink)) same i.going in
    let u = c.in_ok-up_to.ensures in
    let f : (c.striking.progress.time ≤ fault.time) × IsFault g.row.RAM fault.event × AreFaultsFrom g.row.RAM fault.time rest = subst (AreFaultsFrom g.row.RAM c.striking.progress.time) same i.faults in
    let s1 = standing c.up_to.new.hart c.up_to.new.feed c.up_to.new.progress in
    let there : s1.time ≡ fault.time = u.there ∙ c.from-time.ensures in
    let up = u.going job fault rest (sym c.from-time.ensures) going in
    let w = c.in_ok-strike.ensures in
    let s2 = standing c.strike.new.hart c.up_to.new.feed c.strike.new.progress in
    let more = subst (λ (x : Standing). Appends (held c.up_to.new.sink) (held c.strike.new.sink) (text_of c.args.checked.now c.args.built.now (record { cause = Faulted fault.event; at = x } ∷ []))) w.standing w.whole in
    let time : c.strike.new.progress.time ≡ fault.time = ap (λ (x : Standing). x.time) w.standing ∙ there in
    let heads : c.strike.new.progress.heads ≡ 0 = ap (λ (x : Standing). x.heads) w.standing in
    record {
      ready = w.ready;
      early = omega arith;
      few = omega arith;
      faults = subst (λ t. AreFaultsFrom g.row.RAM t rest) (sym time) f.2;
      last = ap (λ t. last_time t rest) time ∙ ap (last_time c.striking.progress.time) (sym same) ∙ i.last;
      going = subst (λ (x : Standing). IsGoing c.args.checked.now c.args.built.now job rest x (held c.strike.new.sink)) (sym w.standing)
          (going-fault c.args.checked.now c.args.built.now job g.row.RAM fault rest s1 (held c.up_to.new.sink) (held c.strike.new.sink) f.1 up (sym there) more);
      no_fault = w.cause.kept ∙ u.cause.kept ∙ i.no_fault;
    }

pub returns-in_err-to_end-clause-cut : goal.returns-in_err-to_end-clause-cut
returns-in_err-to_end-clause-cut g c =
    let held = g.K.Sink.held in
    let job = job_from c.args.script.now c.args.rounds c.args.hart.now c.args.feed.now (held c.args.sink.now) c.args.limit in
    let i = c.striking.invariant in
    let s = standing c.striking.hart c.striking.feed c.striking.progress in
    let empty = nil_of c.striking.left.now c.in_default.ensures.cases in
    let going = subst (λ l. IsGoing c.args.checked.now c.args.built.now job l s (held c.striking.sink)) empty i.going in
    let last : c.striking.progress.time ≡ last_time 0 c.args.script.now = ap (last_time c.striking.progress.time) (sym empty) ∙ i.last in
    on_err c.from_residual-in_err-to_end.result (c.in_err-to_end.ensures.cut job refl (omega arith) going)

pub returns-in_err-show_end-clause-cut : goal.returns-in_err-show_end-clause-cut
returns-in_err-show_end-clause-cut g c =
    let held = g.K.Sink.held in
    let job = job_from c.args.script.now c.args.rounds c.args.hart.now c.args.feed.now (held c.args.sink.now) c.args.limit in
    let i = c.striking.invariant in
    let s = standing c.striking.hart c.striking.feed c.striking.progress in
    let empty = nil_of c.striking.left.now c.in_default.ensures.cases in
    let going = subst (λ l. IsGoing c.args.checked.now c.args.built.now job l s (held c.striking.sink)) empty i.going in
    let last : c.striking.progress.time ≡ last_time 0 c.args.script.now = ap (last_time c.striking.progress.time) (sym empty) ∙ i.last in
    let over = c.in_ok-to_end.ensures.going job refl (omega arith) going in
    let s3 = standing c.to_end.new.hart c.to_end.new.feed c.to_end.new.progress in
    on_err c.from_residual-in_err-show_end.result
    (cut-end c.args.checked.now c.args.built.now job s3 (held c.to_end.new.sink) (held c.show_end.new.sink) over.0 over.1 c.in_err-show_end.ensures.part)

pub returns-clause-whole : goal.returns-clause-whole
returns-clause-whole g c =
    let held = g.K.Sink.held in
    let job = job_from c.args.script.now c.args.rounds c.args.hart.now c.args.feed.now (held c.args.sink.now) c.args.limit in
    let i = c.striking.invariant in
    let s = standing c.striking.hart c.striking.feed c.striking.progress in
    let empty = nil_of c.striking.left.now c.in_default.ensures.cases in
    let going = subst (λ l. IsGoing c.args.checked.now c.args.built.now job l s (held c.striking.sink)) empty i.going in
    let last : c.striking.progress.time ≡ last_time 0 c.args.script.now = ap (last_time c.striking.progress.time) (sym empty) ∙ i.last in
    let over = c.in_ok-to_end.ensures.going job refl (omega arith) going in
    let s3 = standing c.to_end.new.hart c.to_end.new.feed c.to_end.new.progress in
    done-end c.args.checked.now c.args.built.now job s3 (held c.to_end.new.sink) (held c.show_end.new.sink) over.0 over.1 c.in_ok-show_end.ensures.whole
