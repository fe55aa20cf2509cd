-- What the words of lines with first values stand for.
use Rattle.std.specs.Prelude.{List, map}
use Rattle.std.specs.List.{AllZip}
use Rattle.asm_names.specs.declared.program.Domain.{Domain}
use Rattle.asm_names.specs.declared.program.Resolved.{Resolved}
use Rattle.state_space.specs.Locations.{signatures_of, state_locations}
use Rattle.fault_script.specs.Listing.{Lists}
use Rattle.fault_script.specs.StateText.{location_name}
use Rattle.fault_script.specs.declared.glossary.Glossary.{Glossary}
use Rattle.fault_script.specs.declared.positions.Positions.{Positions}

-- the tables have the enumerators of the domains
abbrev pub AreEnumerators : List Positions → List Domain → Type 0
AreEnumerators tables domains = AllZip (λ table (domain : Domain). Lists table domain.items) tables domains

-- it has a program's state locations by their texts, and the enumerators of its domains by their names
pub record Explains (program : Resolved) (glossary : Glossary) : Type 0 where
  pub locations : Lists glossary.locations (map (location_name program) (state_locations (signatures_of program)))
  pub enumerators : AreEnumerators glossary.enumerators.items program.domains
