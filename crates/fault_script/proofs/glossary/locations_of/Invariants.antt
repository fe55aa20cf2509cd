use Rattle.std.proofs.Common.{◌≤◌, drop, length, map}
use Rattle.state_space.specs.Locations.{signatures_of, state_locations}
use Rattle.fault_script.specs.Listing.{ListsFrom}
use Rattle.fault_script.specs.StateText.{location_name}
use Rattle.fault_script.proofs.glossary.locations_of.Given as goal

abbrev pub invariant-listing : goal.invariant-listing
invariant-listing l =
    (l.left ≤ length (state_locations l.space))
    × ListsFrom l.table l.left (drop l.left (map (location_name l.resolved) (state_locations (signatures_of l.resolved))))

abbrev pub decreases-listing : goal.decreases-listing
decreases-listing l = l.left
