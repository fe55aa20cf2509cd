-- The lines of locations in the parts in which they are written.
use Rattle.std.specs.Prelude.{ℕ, ℤ, List, map, slice_index_or}
use Rattle.state_space.specs.declared.signature.Side.{Side}
use Rattle.state_space.specs.declared.signature.Signature.{Signature}
use Rattle.state_space.specs.Kinds.{of_side}
use Rattle.state_space.specs.Locations.{Location, located, no_location}

-- the location on a side with a number
abbrev pub location_on : Side → List Signature → ℕ → Location
location_on side signatures number = slice_index_or (located (of_side side) 0 signatures) number no_location

-- the locations of a function at these arguments
abbrev pub own_locations : ℕ → List (List ℤ) → List Location
own_locations fun tuples = map (λ args. record { fun = fun; args = args }) tuples
