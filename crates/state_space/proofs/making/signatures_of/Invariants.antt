use Rattle.std.proofs.Common.{◌≡◌, map, take}
use Rattle.state_space.specs.Locations.{signature_of}
use Rattle.state_space.proofs.making.signatures_of.Given as goal

abbrev pub invariant-loop-function : goal.invariant-loop-function
invariant-loop-function l = l.signatures ≡ map (signature_of l.domains) (take l.function-index l.functions)
