-- What RAM holds where staging reads and writes, as numbers by name and not as bytes.
use Rattle.std.specs.Prelude.{◌≡◌, ◌≢◌, ℕ, List}
use Rattle.rv_machine.specs.Memory.{number_at}
use Rattle.trap_model.specs.Width.{bytes_of}
use Rattle.trap_model.specs.declared.width.Width.{Width}
use Rattle.trap_model.specs.declared.width.Width.TheVariants.{Word}
use Rattle.state_space.specs.Locations.{is_input, is_state}
use Rattle.state_layout.specs.declared.cell.Cell.{Cell}
use Rattle.state_layout.specs.Map.{IsCell, Placement, access_at, clash, counter, flag_access, flag_offset, kept_offset, staged_offset, value_offset}

-- a spot of RAM: the value of a cell, its staged value or its flag, the kept word of an input's cell, the clash mark or the counter word
pub data Spot : Type 0 where
  Value : (cell : Cell) → Spot
  Waiting : (cell : Cell) → Spot
  Flag : (cell : Cell) → Spot
  Kept : (cell : Cell) → Spot
  Mark : Spot
  Counter : Spot

-- the access by which a spot is read and written
abbrev pub access : Placement → Spot → Width
access placement (Value cell) = access_at placement cell.fun
access placement (Waiting cell) = access_at placement cell.fun
access placement (Flag cell) = flag_access placement.layout
access placement (Kept cell) = Word
access placement Mark = Word
access placement Counter = Word

-- where the spot stands
abbrev pub offset : Placement → Spot → ℕ
offset placement (Value cell) = value_offset placement cell
offset placement (Waiting cell) = staged_offset placement cell
offset placement (Flag cell) = flag_offset placement cell
offset placement (Kept cell) = kept_offset placement cell
offset placement Mark = clash placement
offset placement Counter = counter placement

-- the map has the spot
abbrev pub IsSpot : Placement → Spot → Type 0
IsSpot placement (Value cell) = IsCell is_state placement.signatures cell
IsSpot placement (Waiting cell) = IsCell is_state placement.signatures cell
IsSpot placement (Flag cell) = IsCell is_state placement.signatures cell
IsSpot placement (Kept cell) = IsCell is_input placement.signatures cell
IsSpot placement Mark = Unit {0}
IsSpot placement Counter = Unit {0}

-- what RAM holds, spot by spot
abbrev pub Picture : Type 0
Picture = Spot → ℕ

abbrev pub seen : Placement → List ℕ → Picture
seen placement ram spot = number_at (bytes_of (access placement spot)) (offset placement spot) ram

-- all spots of the map but one are as they were
abbrev pub OnlyChanges : Placement → Spot → (before after : Picture) → Type 0
OnlyChanges placement spot before after = (other : Spot) → IsSpot placement other → other ≢ spot → after other ≡ before other
