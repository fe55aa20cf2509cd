use Rattle.std.proofs.Common.{ap, ◌∙◌, arith}
use Rattle.state_layout.specs.Map.{Placement}
use Rattle.state_layout.specs.Tables.{ends_behind}
use Rattle.state_layout.proofs.Tabling.{ended-low, ended-more}
use Rattle.state_layout.proofs.ends.ends_of.Goals as goal

pub behind-end-requires-clause-values : goal.behind-end-requires-clause-values
behind-end-requires-clause-values c =
    let placement : Placement = record { layout = c.args.layout; signatures = c.args.signatures.now } in
    omega (arith, (ended-low placement c.loop-signature.signature-index c.loop-signature.ends c.loop-signature.end c.signature-item.result c.loop-signature.invariant c.loop-signature-test.true c.signature-item.is c.requires.room).values)

pub loop-signature-preserved : goal.loop-signature-preserved
loop-signature-preserved c =
    let placement : Placement = record { layout = c.args.layout; signatures = c.args.signatures.now } in
    rw c.in_ok-push-2.ensures.ok
    (ended-more placement c.loop-signature.signature-index c.loop-signature.ends c.loop-signature.end c.behind-end.result c.signature-item.result c.loop-signature.invariant c.loop-signature-test.true
    (c.behind-end.ensures ∙ ap (ends_behind c.args.layout c.loop-signature.end) c.signature-item.is))
