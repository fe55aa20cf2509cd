use Rattle.std.proofs.Common.{◌≡◌, length}
use Rattle.state_space.specs.Codomains.{LocationsFit}
use Rattle.state_space.specs.Locations.{state_locations}
use Rattle.text_core.specs.Lines.{lines}
use Rattle.fault_script.specs.StartValues.{values_from}
use Rattle.fault_script.proofs.value_reading.read_values.Given as goal

abbrev pub decreases-reading : goal.decreases-reading
decreases-reading l = length l.left.left

abbrev pub invariant-reading : goal.invariant-reading
invariant-reading l =
    (values_from l.resolved l.first_line (lines l.text) l.initial.state ≡ values_from l.resolved l.left.number (lines l.left.left) l.state)
    × (length l.state ≡ length (state_locations l.space))
    × (LocationsFit l.space (state_locations l.space) l.initial.state → LocationsFit l.space (state_locations l.space) l.state)
