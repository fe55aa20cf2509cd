use Rattle.std.proofs.Common.{◌≡◌, ◌≤◌, drop}
use Rattle.fault_script.specs.Widths.{widest}
use Rattle.fault_script.proofs.state_room.widest_value.Given as goal

abbrev pub invariant-loop-domain : goal.invariant-loop-domain
invariant-loop-domain l = (widest l.widest (drop l.domain-index l.domains) ≡ widest 8 l.domains) × (l.widest ≤ 32)
