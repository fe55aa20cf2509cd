-- What holds of padded numbers.
use Rattle.std.specs.Prelude.{◌≡◌, ℕ, ◌<◌, ◌≤◌, List, length}
use Rattle.std.specs.List.{AllByRecursion}
use Rattle.state_space.specs.declared.signature.Range.{Range}
use Rattle.state_space.specs.Arrays.{padded_number}
use Rattle.state_space.specs.Locations.{tuples}
use Rattle.state_space.specs.Sizes.{IsRange}

-- no two tuples have one padded number
abbrev pub PaddedNumbersDiffer : Type 0
PaddedNumbersDiffer = (ranges : List Range) (i j : ℕ) → length ranges ≤ 3 → AllByRecursion IsRange ranges
    → i < length (tuples ranges) → j < length (tuples ranges) → padded_number ranges i ≡ padded_number ranges j → i ≡ j
