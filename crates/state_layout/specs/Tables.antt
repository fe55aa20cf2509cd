-- What a map keeps, so that each place is found in constant time.
use Rattle.std.specs.Prelude.{◌≡◌, ℕ, ◌+◌, ◌%◌, ◌≤◌, ◌^◌, ℤ, true, List, take, length, slice_index_or}
use Rattle.std.specs.List.{AllByRecursion}
use Rattle.state_space.specs.declared.signature.Range.{Range}
use Rattle.state_space.specs.declared.signature.Signature.{Signature}
use Rattle.state_space.specs.Locations.{is_input, is_state, is_static}
use Rattle.state_space.specs.Sizes.{IsSized, fits, padded_own}
use Rattle.state_layout.specs.declared.cell.Cell.{Cell}
use Rattle.state_layout.specs.declared.ends.Ends.{Ends}
use Rattle.state_layout.specs.declared.layout.Layout.{Layout}
use Rattle.state_layout.specs.Map.{Placement, array_behind, arrays_end, cells, padded_before, padded_index}

-- where the arrays end with those of one more function
abbrev pub ends_behind : Layout → Ends → Signature → Ends
ends_behind layout ends signature = record {
  values = array_behind layout ends.values signature;
  flags = ends.flags + padded_own is_state signature;
  kept = ends.kept + padded_own is_input signature;
  tables = (ends.tables + padded_own is_static signature) % 2 ^ 32;
}

-- where the arrays of the functions before the one with this number end
abbrev pub ends_at : Placement → ℕ → Ends
ends_at placement fun = record {
  values = arrays_end placement.layout (take fun placement.signatures);
  flags = padded_before is_state placement fun;
  kept = padded_before is_input placement fun;
  tables = padded_before is_static placement fun % 2 ^ 32;
}

abbrev pub no_ends : Ends
no_ends = record { values = 0; flags = 0; kept = 0; tables = 0 }

-- each number of RAM is small
pub record AreLow (ends : Ends) : Type 0 where
  pub values : ends.values ≤ 2 ^ 22
  pub flags : ends.flags ≤ 2 ^ 19
  pub kept : ends.kept ≤ 2 ^ 19

-- these are the ends before each function, and of all
pub record AreEnds (placement : Placement) (ends : List Ends) : Type 0 where
  pub long : length ends ≡ length placement.signatures + 1
  pub each : (fun : ℕ) → fun ≤ length placement.signatures → slice_index_or ends fun no_ends ≡ ends_at placement fun

-- the cell of an argument tuple of a function with these arguments
abbrev pub cell_in : ℕ → List Range → List ℤ → Cell
cell_in fun ranges args = record { fun = fun; index = padded_index ranges args }

-- a map keeps the ends of arrays, and the cells of the state and of the inputs
pub record IsLaidOut (placement : Placement) (ends : List Ends) (states inputs : List Cell) : Type 0 where
  pub sized : AllByRecursion IsSized placement.signatures
  pub room : fits placement.signatures ≡ true
  pub of_ends : AreEnds placement ends
  pub of_states : states ≡ cells is_state placement.signatures
  pub of_inputs : inputs ≡ cells is_input placement.signatures
