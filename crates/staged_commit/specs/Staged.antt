-- What RAM holds of updates that are staged.
use Rattle.std.specs.Prelude.{◌≡◌, ◌≢◌, ℕ, ◌<◌, ◌↔◌, ℤ, pos, ◌+ℤ◌, List, slice_get, true, Option, Some, None}
use Rattle.state_space.specs.declared.signature.Range.{Range}
use Rattle.state_space.specs.declared.update.Update.{Update}
use Rattle.state_space.specs.Firing.{all_agree}
use Rattle.state_space.specs.Pending.{first_value}
use Rattle.state_layout.specs.declared.cell.Cell.{Cell}
use Rattle.state_layout.specs.Map.{Placement, range_at, state_cells}
use Rattle.staged_commit.specs.Spots.{Flag, Mark, Picture, Waiting, seen}

-- the number is the index of the value in the range
pub record IsIndexOf (range : Range) (index : ℕ) (value : ℤ) : Type 0 where
  pub below : index < range.size
  pub counts : value ≡ range.lo +ℤ pos index

-- a flag that is not 0 says that the value is staged, by its index
abbrev pub IsHeld : Range → (flag waiting : ℕ) → Option ℤ → Type 0
IsHeld range flag waiting None = flag ≡ 0
IsHeld range flag waiting (Some value) = (flag ≢ 0) × IsIndexOf range waiting value

-- what RAM holds, as a picture, is these updates staged: the clash mark is 0 exactly where they give no location two values,
-- and then each location has its value staged, or its flag is 0
pub record IsStaged (placement : Placement) (now : Picture) (updates : List Update) : Type 0 where
  pub mark : (now Mark ≡ 0) ↔ (all_agree updates ≡ true)
  pub cells : now Mark ≡ 0 → (place : ℕ) (cell : Cell) → slice_get (state_cells placement) place ≡ Some cell
      → IsHeld (range_at placement cell.fun) (now (Flag cell)) (now (Waiting cell)) (first_value place updates)

-- RAM holds these updates staged
abbrev pub Staged : Placement → List ℕ → List Update → Type 0
Staged placement ram updates = IsStaged placement (seen placement ram) updates

-- an update is that of a cell, to the value with an index in its range
pub record IsUpdateOf (placement : Placement) (cell : Cell) (index : ℕ) (update : Update) : Type 0 where
  pub here : slice_get (state_cells placement) update.place ≡ Some cell
  pub value : IsIndexOf (range_at placement cell.fun) index update.value
