use Rattle.std.proofs.Common.{refl}
use Rattle.fault_script.proofs.Tables.{item-read, one-table-more}
use Rattle.fault_script.proofs.glossary.enumerators_of.Goals as goal

pub loop-domain-preserved : goal.loop-domain-preserved
loop-domain-preserved c =
    let domains = c.args.domains.now in
    let l = c.loop-domain in
    let d = c.domain-item.result in
    rw c.in_ok-push.ensures.items
    (one-table-more l.tables.items domains l.domain-index c.in_ok-positions_of.field-0 d l.invariant
    (item-read domains domains l.domain-index d refl c.loop-domain-test.true c.domain-item.is) (rw c.as_slice.ensures at c.in_ok-positions_of.ensures))
