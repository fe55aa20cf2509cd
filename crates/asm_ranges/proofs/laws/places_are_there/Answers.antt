use Rattle.asm_ranges.proofs.HaveLocations.{reads-have-locations, updates-have-locations}
use Rattle.asm_ranges.proofs.laws.places_are_there.Goals as goal

pub returns-clause-reads : goal.returns-clause-reads
returns-clause-reads c = reads-have-locations

pub returns-clause-updates : goal.returns-clause-updates
returns-clause-updates c = updates-have-locations
