-- Where RAM holds the state, and the words that the code keeps for itself.
use Rattle.std.specs.Prelude.{◌≡◌, ℕ, ◌+◌, ◌-◌, ◌*◌, ◌/◌, ◌<◌, ℤ, pos, ◌+ℤ◌, Bool, true, ◌&&◌, nat_le, nat_lt, List, [], map, take, slice_get, if◌then◌else◌, Option, Some, None, unwrap_or}
use Rattle.std.specs.List.{fold}
use Rattle.asm_tree.specs.declared.decl.Kind.{Kind}
use Rattle.rv_machine.specs.Memory.{number_at}
use Rattle.trap_model.specs.Width.{bytes_of}
use Rattle.trap_model.specs.declared.width.Width.{Width}
use Rattle.trap_model.specs.declared.width.Width.TheVariants.{Byte, Half, Word}
use Rattle.state_space.specs.declared.signature.Range.{Range}
use Rattle.state_space.specs.declared.signature.Signature.{Signature}
use Rattle.state_space.specs.Arrays.{widened}
use Rattle.state_space.specs.Codomains.{codomain_of}
use Rattle.state_space.specs.Decoding.{index_of}
use Rattle.state_space.specs.Locations.{Location, is_input, is_state, located, tuple_number}
use Rattle.state_space.specs.Sizes.{padded_count, padded_sum}
use Rattle.state_layout.specs.declared.cell.Cell.{Cell}
use Rattle.state_layout.specs.declared.entry.Entry.{Entry}
use Rattle.state_layout.specs.declared.layout.Layout.{Layout}
use Rattle.state_layout.specs.declared.layout.Layout.TheVariants.{Packed, Words}

-- functions with their domains, and how RAM holds their values
pub record Placement : Type 0 where
  pub layout : Layout
  pub signatures : List Signature

-- ---- widths

-- the access by which a value's index is read and written
abbrev pub value_access : Layout → Range → Width
value_access Words range = Word
value_access Packed range = if nat_le range.size 256 then Byte else Half

-- the access of a flag, which says whether a value is staged
abbrev pub flag_access : Layout → Width
flag_access Words = Word
flag_access Packed = Byte

-- how many bytes the index of a value takes
abbrev pub value_width : Layout → Range → ℕ
value_width layout range = bytes_of (value_access layout range)

-- how many bytes a flag takes
abbrev pub flag_width : Layout → ℕ
flag_width layout = bytes_of (flag_access layout)

-- ---- arrays

-- the next multiple of the width from an offset on
abbrev pub raised : ℕ → ℕ → ℕ
raised width offset = (offset + (width - 1)) / width * width

-- how many bytes an array of this function's values takes, a padded size of them
abbrev pub array_size : Layout → Signature → ℕ
array_size layout signature = value_width layout signature.codomain * padded_count signature.args

-- where an array of this function's values begins, if it may from the offset on
abbrev pub raised_for : Layout → ℕ → Signature → ℕ
raised_for layout offset signature = raised (value_width layout signature.codomain) offset

-- where the arrays end after that of one more function; input and static functions have none in the state
abbrev pub array_behind : Layout → ℕ → Signature → ℕ
array_behind layout offset signature = if is_state signature.kind then raised_for layout offset signature + array_size layout signature else offset

-- where the state arrays of these functions end, which stand in order from 0 on
abbrev pub arrays_end : Layout → List Signature → ℕ
arrays_end layout signatures = fold (array_behind layout) 0 signatures

-- the domain of the values of the function with a number
abbrev pub range_at : Placement → ℕ → Range
range_at placement fun = codomain_of (slice_get placement.signatures fun)

-- the access of a function's values
abbrev pub access_at : Placement → ℕ → Width
access_at placement fun = value_access placement.layout (range_at placement fun)

-- the width of a function's values
abbrev pub width_at : Placement → ℕ → ℕ
width_at placement fun = value_width placement.layout (range_at placement fun)

-- the padded sizes of the functions of such kinds before the one with this number, in all
abbrev pub padded_before : (Kind → Bool) → Placement → ℕ → ℕ
padded_before is_kind placement fun = padded_sum is_kind (take fun placement.signatures)

-- ---- the parts of RAM, in their order

-- where the state ends, and the staged values begin
abbrev pub state_end : Placement → ℕ
state_end placement = raised 4 (arrays_end placement.layout placement.signatures)

-- where the staged values end, and the flags begin
abbrev pub staged_end : Placement → ℕ
staged_end placement = 2 * state_end placement

-- where the flags end, and the kept words of the inputs begin
abbrev pub flags_end : Placement → ℕ
flags_end placement = staged_end placement + raised 4 (flag_width placement.layout * padded_sum is_state placement.signatures)

-- where the kept words end; there stands the clash mark, and behind it the counter word
abbrev pub kept_end : Placement → ℕ
kept_end placement = flags_end placement + 4 * padded_sum is_input placement.signatures

-- the mark that a location was given two values
abbrev pub clash : Placement → ℕ
clash placement = kept_end placement

-- the word in which the code's own loops count
abbrev pub counter : Placement → ℕ
counter placement = kept_end placement + 4

-- the word of the binder with a number
abbrev pub slot : Placement → ℕ → ℕ
slot placement binder = kept_end placement + 8 + 4 * binder

-- where the map ends, with so many binders
abbrev pub map_end : Placement → ℕ → ℕ
map_end placement binders = slot placement binders

-- ---- the arrays of the function with a number

abbrev pub array_start : Placement → ℕ → ℕ
array_start placement fun = raised (width_at placement fun) (arrays_end placement.layout (take fun placement.signatures))

-- its staged values, of the same widths
abbrev pub staged_start : Placement → ℕ → ℕ
staged_start placement fun = state_end placement + array_start placement fun

abbrev pub flags_start : Placement → ℕ → ℕ
flags_start placement fun = staged_end placement + flag_width placement.layout * padded_before is_state placement fun

-- its kept words, where it is an input
abbrev pub kept_start : Placement → ℕ → ℕ
kept_start placement fun = flags_end placement + 4 * padded_before is_input placement fun

-- ---- cells: each location has one in its function's arrays

abbrev pub args_of : Option Signature → List Range
args_of None = []
args_of (Some signature) = signature.args

-- the padded index of an argument tuple: each argument's index in as many bits as its power of two has, the first argument highest
abbrev pub padded_index : List Range → List ℤ → ℕ
padded_index ranges args = unwrap_or (tuple_number (map widened ranges) args) 0

-- a location's function, and its padded index there
abbrev pub cell_of : List Signature → Location → Cell
cell_of signatures location = record { fun = location.fun; index = padded_index (args_of (slice_get signatures location.fun)) location.args }

-- the cells of the locations of such functions, in order
abbrev pub cells : (Kind → Bool) → List Signature → List Cell
cells is_kind signatures = map (cell_of signatures) (located is_kind 0 signatures)

-- the cell is one of a function of such a kind: its number is below the padded size
pub record IsCell (is_kind : Kind → Bool) (signatures : List Signature) (cell : Cell) : Type 0 where
  pub signature : Signature
  pub here : slice_get signatures cell.fun ≡ Some signature
  pub held : is_kind signature.kind ≡ true
  pub below : cell.index < padded_count signature.args

-- where RAM holds the index of the value
abbrev pub value_offset : Placement → Cell → ℕ
value_offset placement cell = array_start placement cell.fun + width_at placement cell.fun * cell.index

-- where RAM holds the index of the staged value
abbrev pub staged_offset : Placement → Cell → ℕ
staged_offset placement cell = staged_start placement cell.fun + width_at placement cell.fun * cell.index

-- where its flag stands
abbrev pub flag_offset : Placement → Cell → ℕ
flag_offset placement cell = flags_start placement cell.fun + flag_width placement.layout * cell.index

-- where its kept word stands, if it is one of an input
abbrev pub kept_offset : Placement → Cell → ℕ
kept_offset placement cell = kept_start placement cell.fun + 4 * cell.index

-- ---- the map: one entry for each state location, in order

abbrev pub entry_at : Placement → Cell → Entry
entry_at placement cell = record {
  offset = value_offset placement cell;
  width = width_at placement cell.fun;
  size = (range_at placement cell.fun).size;
  lo = (range_at placement cell.fun).lo;
}

abbrev pub state_cells : Placement → List Cell
state_cells placement = cells is_state placement.signatures

abbrev pub input_cells : Placement → List Cell
input_cells placement = cells is_input placement.signatures

abbrev pub entries : Placement → List Entry
entries placement = map (entry_at placement) (state_cells placement)

-- the staged value of each state location
abbrev pub staged_offsets : Placement → List ℕ
staged_offsets placement = map (staged_offset placement) (state_cells placement)

-- the flag of each state location
abbrev pub flag_offsets : Placement → List ℕ
flag_offsets placement = map (flag_offset placement) (state_cells placement)

-- the kept word of each input location
abbrev pub kept_offsets : Placement → List ℕ
kept_offsets placement = map (kept_offset placement) (input_cells placement)

-- ---- the state that RAM holds: every RAM holds some state

-- the value that a number stands for in the domain of an entry
abbrev pub value_of : Entry → ℕ → ℤ
value_of e number = e.lo +ℤ pos (index_of e.size number)

-- the value at an entry: the least value plus the index of the bytes there, the lowest byte first
abbrev pub value_at : List ℕ → Entry → ℤ
value_at ram e = value_of e (number_at e.width e.offset ram)

-- the values at all entries, in order
abbrev pub decoded : Placement → List ℕ → List ℤ
decoded placement ram = map (value_at ram) (entries placement)

-- ---- regions of RAM

-- an offset from low up to high
abbrev pub lies_between : ℕ → ℕ → ℕ → Bool
lies_between low high o = nat_le low o && nat_lt o high

abbrev pub in_state : Placement → ℕ → Bool
in_state placement = lies_between 0 (state_end placement)

abbrev pub in_staged : Placement → ℕ → Bool
in_staged placement = lies_between (state_end placement) (staged_end placement)

abbrev pub in_flags : Placement → ℕ → Bool
in_flags placement = lies_between (staged_end placement) (flags_end placement)

abbrev pub in_kept : Placement → ℕ → Bool
in_kept placement = lies_between (flags_end placement) (kept_end placement)

abbrev pub in_clash : Placement → ℕ → Bool
in_clash placement = lies_between (clash placement) (clash placement + 4)

abbrev pub in_counter : Placement → ℕ → Bool
in_counter placement = lies_between (counter placement) (counter placement + 4)

-- the words of so many binders
abbrev pub in_slots : Placement → ℕ → ℕ → Bool
in_slots placement binders = lies_between (slot placement 0) (map_end placement binders)
