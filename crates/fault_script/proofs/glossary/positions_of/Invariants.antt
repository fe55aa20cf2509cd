use Rattle.std.proofs.Common.{◌≤◌, drop, length}
use Rattle.fault_script.specs.Listing.{ListsFrom}
use Rattle.fault_script.proofs.glossary.positions_of.Given as goal

abbrev pub invariant-listing : goal.invariant-listing
invariant-listing l = (l.left ≤ length l.names) × ListsFrom l.table l.left (drop l.left l.names)

abbrev pub decreases-listing : goal.decreases-listing
decreases-listing l = l.left
