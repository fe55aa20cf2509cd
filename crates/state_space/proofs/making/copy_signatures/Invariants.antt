use Rattle.std.proofs.Common.{◌≡◌, take}
use Rattle.state_space.proofs.making.copy_signatures.Given as goal

abbrev pub invariant-loop-signature : goal.invariant-loop-signature
invariant-loop-signature l = l.copies ≡ take l.signature-index l.signatures
