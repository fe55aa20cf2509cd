use Rattle.std.proofs.Common.{◌≡◌, ◌≤◌, drop}
use Rattle.fault_script.specs.Widths.{longest}
use Rattle.fault_script.proofs.state_room.longest_name.Given as goal

abbrev pub invariant-loop-name : goal.invariant-loop-name
invariant-loop-name l = (longest l.longest (drop l.name-index l.names) ≡ longest l.least l.names) × (l.longest ≤ 32)
