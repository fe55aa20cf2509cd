-- What RAM and ROM hold while a round runs: the values of binders and the tables of static functions.
use Rattle.std.specs.Prelude.{◌≡◌, ◌<◌, ◌≤◌, ℕ, ◌+◌, ◌*◌, ◌/◌, ◌%◌, ℤ, pos, ◌+ℤ◌, List, length, map, take, true, slice_index, slice_index_or, slice_get, is_some, Option, Some, None}
use Rattle.asm_names.specs.declared.program.Resolved.{Resolved}
use Rattle.state_space.specs.{declared.signature.{Range.{Range}, Signature.{Signature}}, Decoding.{value_of_word}, Locations.{range_of, tuple_number}, Sizes.{padded_sum}}
use Rattle.asm_ranges.specs.{Ranges.{Scope}, Values.{fun_of, lie_in, numbered}}
use Rattle.rv_encode.specs.Table.{Row}
use Rattle.rv_isa.specs.declared.instr.Instr.TheVariants.{Lui}
use Rattle.rv_machine.specs.Memory.{number_at}
use Rattle.state_layout.specs.Map.{Placement, padded_index, slot}
use Rattle.mask_guard.specs.Mask.{word_of}
use Rattle.instr_select.specs.{Binders.{binder_range}, Terms.{is_static}}

-- a word is that of a binder's value, or, of a loop's binder, decodes to it
abbrev pub IsHeld : Option Range → (word : ℕ) → (value : ℤ) → Type 0
IsHeld None word value = word ≡ word_of value
IsHeld (Some range) word value = value_of_word range word ≡ value

-- the slot of each binder in scope holds its value
abbrev pub HoldsBinders : Resolved → Placement → (ram : List ℕ) → Scope → (env : List ℤ) → Type 0
HoldsBinders program placement ram scope env =
    (binder : ℕ) → is_some (scope binder) ≡ true
    → IsHeld (binder_range program binder) (number_at 4 (slot placement binder) ram) (slice_index_or env binder (pos 0))

-- ---- tables

-- the value of a static function at arguments
abbrev pub table_value : Resolved → ℕ → List ℤ → ℤ
table_value program fun vs = numbered (fun_of program fun).table (tuple_number (map (range_of program.domains) (fun_of program fun).args) vs)

-- the number of the word of a function's table that stands for arguments
abbrev pub table_word : Placement → (tables fun : ℕ) → Signature → List ℤ → ℕ
table_word placement tables fun signature vs = tables / 4 + (padded_sum is_static (take fun placement.signatures) + padded_index signature.args vs)

-- the word of ROM is that of `lui x0, i`, where i counts the value from the least of its domain
pub record CountsValue (range : Range) (word : ℕ) (value : ℤ) : Type 0 where
  pub index : ℕ
  pub below : index < range.size
  pub counts : (range.lo +ℤ pos index) ≡ value
  pub row : Row word (Lui 0 index)

-- the tables stand in ROM from this address on: at each padded index of arguments in their domains the value there
pub record HoldsTables (rom : List ℕ) (program : Resolved) (placement : Placement) (tables : ℕ) : Type 0 where
  pub aligned : tables % 4 ≡ 0
  pub room : tables + 4 * padded_sum is_static placement.signatures ≤ 4 * length rom
  pub values : (fun : ℕ) (signature : Signature) (vs : List ℤ) → slice_get placement.signatures fun ≡ Some signature → is_static signature.kind ≡ true → lie_in signature.args vs ≡ true
      → CountsValue signature.codomain (slice_index rom (table_word placement tables fun signature vs)) (table_value program fun vs)
