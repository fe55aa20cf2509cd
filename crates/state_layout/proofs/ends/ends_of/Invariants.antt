use Rattle.state_layout.proofs.Tabling.{Ended}
use Rattle.state_layout.proofs.ends.ends_of.Given as goal

abbrev pub invariant-loop-signature : goal.invariant-loop-signature
invariant-loop-signature l = Ended (record { layout = l.layout; signatures = l.signatures }) l.signature-index l.ends l.end
