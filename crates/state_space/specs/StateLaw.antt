-- What holds of states.
use Rattle.std.specs.Prelude.{◌≡◌, ℕ, ℤ, List, Some, slice_get, slice_set}
use Rattle.state_space.specs.declared.signature.Signature.{Signature}
use Rattle.state_space.specs.Codomains.{In, LocationsFit, codomain_range}
use Rattle.state_space.specs.Locations.{Location}

-- values that fit still fit where the value of one location is another one of its codomain
abbrev pub ValuesKeepStatesFitting : Type 0
ValuesKeepStatesFitting = (signatures : List Signature) (locations : List Location) (values : List ℤ) (place : ℕ) (location : Location) (value : ℤ)
    → LocationsFit signatures locations values → slice_get locations place ≡ Some location → In (codomain_range (slice_get signatures location.fun)) value
    → LocationsFit signatures locations (slice_set values place value)
