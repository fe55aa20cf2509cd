-- What holds of every map.
use Rattle.std.specs.Prelude.{◌≡◌, ◌≢◌, ℕ, ◌+◌, ◌*◌, ◌%◌, ◌^◌, ◌<◌, ◌≤◌, ◌⊎◌, ℤ, pos, ◌+ℤ◌, Bool, true, false, List, [], ◌∷◌, length, slice_get, slice_index, slice_index_or, slice_set, Some}
use Rattle.std.specs.List.{AllByRecursion}
use Rattle.asm_tree.specs.declared.decl.Kind.{Kind}
use Rattle.rv_machine.specs.Hart.{AreBytes}
use Rattle.rv_machine.specs.Memory.{stored}
use Rattle.trap_model.specs.Width.{bytes_of}
use Rattle.trap_model.specs.declared.width.Width.{Width}
use Rattle.trap_model.specs.declared.width.Width.TheVariants.{Word}
use Rattle.state_space.specs.declared.signature.Range.{Range}
use Rattle.state_space.specs.declared.signature.Signature.{Signature}
use Rattle.state_space.specs.Codomains.{LocationsFit}
use Rattle.state_space.specs.Decoding.{exponent}
use Rattle.state_space.specs.Locations.{Location, is_input, is_state, located, place_among, state_locations, tuple_number, tuples}
use Rattle.state_space.specs.Sizes.{IsRange, IsSized, fits, padded_count, padded_sum}
use Rattle.state_layout.specs.declared.cell.Cell.{Cell}
use Rattle.state_layout.specs.declared.entry.Entry.{Entry}
use Rattle.state_layout.specs.declared.layout.Layout.TheVariants.{Packed, Words}
use Rattle.state_layout.specs.Map.{IsCell, Placement, access_at, array_start, arrays_end, cell_of, cells, decoded, entries, entry_at, flag_access, flags_end, flags_start, in_state, kept_end, kept_start}
use Rattle.state_layout.specs.Map.{lies_between, map_end, padded_index, raised, range_at, slot, staged_end, staged_start, state_cells, state_end, value_at, value_of, value_offset, width_at}

-- functions with 1 to 65,536 values and at most 3 arguments each, which take no more room than there may be
pub record IsPlaced (placement : Placement) : Type 0 where
  pub sized : AllByRecursion IsSized placement.signatures
  pub room : fits placement.signatures ≡ true

-- ---- arrays

-- The arrays of such functions, one for each, from the starts on: aligned to their width, one behind the other, from low up to high.
pub record AreArrays (is_kind : Kind → Bool) (signatures : List Signature) (access : ℕ → Width) (start : ℕ → ℕ) (low high : ℕ) : Type 0 where
  pub aligned : (fun : ℕ) → start fun % bytes_of (access fun) ≡ 0
  pub from : (fun : ℕ) → low ≤ start fun
  pub below : (fun : ℕ) (signature : Signature) → slice_get signatures fun ≡ Some signature → is_kind signature.kind ≡ true → start fun + bytes_of (access fun) * padded_count signature.args ≤ high
  pub ordered : (fun later : ℕ) (signature : Signature) → fun < later → slice_get signatures fun ≡ Some signature → is_kind signature.kind ≡ true
      → start fun + bytes_of (access fun) * padded_count signature.args ≤ start later

-- state, staged values, flags and kept words are such arrays, each in its own part of RAM
abbrev pub ValuesAreArrays : Type 0
ValuesAreArrays = (placement : Placement) → AreArrays is_state placement.signatures (access_at placement) (array_start placement) 0 (state_end placement)

abbrev pub StagedAreArrays : Type 0
StagedAreArrays = (placement : Placement) → AreArrays is_state placement.signatures (access_at placement) (staged_start placement) (state_end placement) (staged_end placement)

abbrev pub FlagsAreArrays : Type 0
FlagsAreArrays = (placement : Placement) → AreArrays is_state placement.signatures (λ fun. flag_access placement.layout) (flags_start placement) (staged_end placement) (flags_end placement)

abbrev pub KeptAreArrays : Type 0
KeptAreArrays = (placement : Placement) → AreArrays is_input placement.signatures (λ fun. Word) (kept_start placement) (flags_end placement) (kept_end placement)

-- an access of so many bytes at the offset is aligned, and from low up to high
pub record LiesIn (low high width offset : ℕ) : Type 0 where
  pub aligned : offset % width ≡ 0
  pub from : low ≤ offset
  pub below : offset + width ≤ high

-- where a cell of such arrays stands
abbrev pub cell_in : (ℕ → Width) → (ℕ → ℕ) → Cell → ℕ
cell_in access start cell = start cell.fun + bytes_of (access cell.fun) * cell.index

-- a cell lies inside, whatever number below the padded size stands for its index
abbrev pub CellsLieInside : Type 0
CellsLieInside =
    (is_kind : Kind → Bool) (signatures : List Signature) (access : ℕ → Width) (start : ℕ → ℕ) (low high : ℕ) (cell : Cell) → AreArrays is_kind signatures access start low high
    → IsCell is_kind signatures cell → LiesIn low high (bytes_of (access cell.fun)) (cell_in access start cell)

-- two accesses have no byte in common
abbrev pub AreApart : (offset width offset' width' : ℕ) → Type 0
AreApart offset width offset' width' = (offset + width ≤ offset') ⊎ (offset' + width' ≤ offset)

-- two cells have no byte in common
abbrev pub CellsAreApart : Type 0
CellsAreApart =
    (is_kind : Kind → Bool) (signatures : List Signature) (access : ℕ → Width) (start : ℕ → ℕ) (low high : ℕ) (cell other : Cell) → AreArrays is_kind signatures access start low high
    → IsCell is_kind signatures cell → IsCell is_kind signatures other → cell ≢ other
    → AreApart (cell_in access start cell) (bytes_of (access cell.fun)) (cell_in access start other) (bytes_of (access other.fun))

-- the locations of such functions have cells of them, no two the same
abbrev pub LocationsHaveCells : Type 0
LocationsHaveCells =
    (is_kind : Kind → Bool) (signatures : List Signature) (i : ℕ) (cell : Cell) → slice_get (cells is_kind signatures) i ≡ Some cell
    → IsCell is_kind signatures cell × ((j : ℕ) → slice_get (cells is_kind signatures) j ≡ Some cell → i ≡ j)

-- the cell of the location with a number is that of its function and its padded index
abbrev pub PlacesHaveCells : Type 0
PlacesHaveCells =
    (is_kind : Kind → Bool) (signatures : List Signature) (location : Location) (i : ℕ) → place_among (located is_kind 0 signatures) location ≡ Some i
    → slice_get (cells is_kind signatures) i ≡ Some (cell_of signatures location)

-- the first location of a function has the first cell
abbrev pub FirstTuplesComeFirst : Type 0
FirstTuplesComeFirst = (ranges : List Range) → AllByRecursion IsRange ranges → padded_index ranges (slice_index_or (tuples ranges) 0 []) ≡ 0

-- the padded index of a tuple: the index of its first argument, and behind it that of the others
abbrev pub PaddedIndexByParts : Type 0
PaddedIndexByParts =
    (range : Range) (ranges : List Range) (k j : ℕ) (args : List ℤ) → k < range.size → tuple_number ranges args ≡ Some j
    → padded_index (range ∷ ranges) ((range.lo +ℤ pos k) ∷ args) ≡ k * padded_count ranges + padded_index ranges args

-- the padded index of a tuple is below the padded size
abbrev pub PaddedIndexIsBelow : Type 0
PaddedIndexIsBelow = (ranges : List Range) (j : ℕ) (args : List ℤ) → tuple_number ranges args ≡ Some j → padded_index ranges args < padded_count ranges

-- ---- parts of RAM

-- the parts stand one behind the other, and no two have a byte in common
pub record PartsFollow (placement : Placement) (binders : ℕ) : Type 0 where
  pub staged : state_end placement ≤ staged_end placement
  pub flags : staged_end placement ≤ flags_end placement
  pub kept : flags_end placement ≤ kept_end placement
  pub marks : kept_end placement + 8 ≡ slot placement 0
  pub slots : slot placement 0 ≤ map_end placement binders

abbrev pub AllPartsFollow : Type 0
AllPartsFollow = (placement : Placement) (binders : ℕ) → PartsFollow placement binders

-- what lies in one part lies in no part behind it, and not the other way round
abbrev pub PartsAreApart : Type 0
PartsAreApart =
    (low high low' high' o : ℕ) → high ≤ low'
    → (lies_between low high o ≡ true → lies_between low' high' o ≡ false) × (lies_between low' high' o ≡ true → lies_between low high o ≡ false)

-- the bytes of an access inside a part lie in it
abbrev pub BytesLieInside : Type 0
BytesLieInside = (low high width offset o : ℕ) → LiesIn low high width offset → offset ≤ o → o < offset + width → lies_between low high o ≡ true

-- ---- entries

-- an entry is aligned to its width and lies in the state, and its bytes hold each index
abbrev pub EntriesLieInside : Type 0
EntriesLieInside =
    (placement : Placement) (i : ℕ) (e : Entry) → AllByRecursion IsSized placement.signatures → slice_get (entries placement) i ≡ Some e
    → LiesIn 0 (state_end placement) e.width e.offset × (exponent e.size ≤ 8 * e.width)

-- no two entries have a byte in common
abbrev pub EntriesAreApart : Type 0
EntriesAreApart =
    (placement : Placement) (i j : ℕ) (e f : Entry) → slice_get (entries placement) i ≡ Some e → slice_get (entries placement) j ≡ Some f → i ≢ j
    → AreApart e.offset e.width f.offset f.width

-- the bytes of a value hold each index of its codomain
abbrev pub IndicesFit : Type 0
IndicesFit =
    (placement : Placement) (cell : Cell) → AllByRecursion IsSized placement.signatures → IsCell is_state placement.signatures cell
    → (exponent (range_at placement cell.fun).size ≤ 8 * width_at placement cell.fun) × ((range_at placement cell.fun).size ≤ 256 ^ width_at placement cell.fun)

-- ---- the state and its cells

-- the state has a value for each location: that at its cell
abbrev pub ValuesStandAtCells : Type 0
ValuesStandAtCells =
    (placement : Placement) (ram : List ℕ) (place : ℕ) (cell : Cell) → slice_get (state_cells placement) place ≡ Some cell
    → slice_get (decoded placement ram) place ≡ Some (value_at ram (entry_at placement cell))

abbrev pub EachLocationHasAValue : Type 0
EachLocationHasAValue = (placement : Placement) (ram : List ℕ) → length (decoded placement ram) ≡ length (state_locations placement.signatures)

-- ---- what a store does to the state

-- a number that is stored in a cell is what that cell has then, and no other cell changes
abbrev pub StoresOneCell : Type 0
StoresOneCell =
    (placement : Placement) (ram : List ℕ) (cell other : Cell) (x : ℕ) → IsCell is_state placement.signatures cell → IsCell is_state placement.signatures other
    → state_end placement ≤ length ram → x < 256 ^ width_at placement cell.fun
    → (value_at (stored (width_at placement cell.fun) (value_offset placement cell) x ram) (entry_at placement cell) ≡ value_of (entry_at placement cell) x)
    × (cell ≢ other → value_at (stored (width_at placement cell.fun) (value_offset placement cell) x ram) (entry_at placement other) ≡ value_at ram (entry_at placement other))

-- the state after a store at the cell of a location: that location has the value of the number, each other its own
abbrev pub StoresOneLocation : Type 0
StoresOneLocation =
    (placement : Placement) (ram : List ℕ) (place : ℕ) (cell : Cell) (x : ℕ) → slice_get (state_cells placement) place ≡ Some cell
    → state_end placement ≤ length ram → x < 256 ^ width_at placement cell.fun
    → decoded placement (stored (width_at placement cell.fun) (value_offset placement cell) x ram) ≡ slice_set (decoded placement ram) place (value_of (entry_at placement cell) x)

-- an index stands for the value that it counts
abbrev pub IndicesStandForValues : Type 0
IndicesStandForValues =
    (placement : Placement) (cell : Cell) (x : ℕ) → x < (range_at placement cell.fun).size → value_of (entry_at placement cell) x ≡ ((range_at placement cell.fun).lo +ℤ pos x)

-- RAM that differs only outside the state holds the same state
abbrev pub StateIsInItsRegion : Type 0
StateIsInItsRegion =
    (placement : Placement) (ram other : List ℕ)
    → ((o : ℕ) → in_state placement o ≡ true → slice_index other o ≡ slice_index ram o) → decoded placement other ≡ decoded placement ram

-- a store behind the state leaves it
abbrev pub StoresBehindLeaveState : Type 0
StoresBehindLeaveState =
    (placement : Placement) (ram : List ℕ) (width offset x : ℕ) → state_end placement ≤ offset → offset + width ≤ length ram
    → decoded placement (stored width offset x ram) ≡ decoded placement ram

-- each state is what some RAM holds
abbrev pub EveryStateIsHeld : Type 0
EveryStateIsHeld =
    (placement : Placement) (size : ℕ) (state : List ℤ) → AllByRecursion IsSized placement.signatures → LocationsFit placement.signatures (state_locations placement.signatures) state
    → state_end placement ≤ size → (ram : List ℕ) × AreBytes size ram × (decoded placement ram ≡ state)

-- ---- where the map ends

-- in the word layout each value, staged value, flag and kept word takes a word
abbrev pub WordsEnd : Type 0
WordsEnd =
    (placement : Placement) (binders : ℕ) → placement.layout ≡ Words
    → map_end placement binders + 8 ≡ 12 * padded_sum is_state placement.signatures + 4 * (padded_sum is_input placement.signatures + (binders + 4))

-- in the packed layout a flag takes a byte, and values are as wide as they must be
abbrev pub PackedEnd : Type 0
PackedEnd =
    (placement : Placement) (binders : ℕ) → placement.layout ≡ Packed
    → map_end placement binders + 8
    ≡ 2 * raised 4 (arrays_end placement.layout placement.signatures) + raised 4 (padded_sum is_state placement.signatures) + 4 * (padded_sum is_input placement.signatures + (binders + 4))
