-- Where the values of static functions stand.
use Rattle.std.specs.Prelude.{◌≡◌, ℕ, ◌+◌, ◌<◌, pos, List, length, map, take, slice_get, slice_index, slice_index_or, Some}
use Rattle.std.specs.List.{AllByRecursion}
use Rattle.asm_names.specs.declared.program.Domain.{Domain}
use Rattle.asm_names.specs.declared.program.Fun.{Fun}
use Rattle.asm_names.specs.declared.program.Resolved.{Resolved}
use Rattle.asm_tree.specs.declared.decl.Kind.TheVariants as kinds
use Rattle.rv_encode.specs.Table.{AreRows}
use Rattle.asm_ranges.specs.Ranges.{TablesFit}
use Rattle.state_space.specs.Arrays.{padded_number}
use Rattle.state_space.specs.Locations.{range_of, signature_of, signatures_of, tuples}
use Rattle.state_space.specs.Sizes.{IsSized, padded_sum}
use Rattle.rom_tables.specs.Tables.{index_in, table_entry, table_indices, table_number}
pub use Rattle.state_space.specs.Locations.{is_static}

-- how many words stand before the table of the function with this number
abbrev pub table_start : List Domain → List Fun → ℕ → ℕ
table_start domains funs number = padded_sum is_static (map (signature_of domains) (take number funs))

-- at the padded index of a location of a static function stands the index of its value
abbrev pub TableHoldsValue : Type 0
TableHoldsValue =
    (program : Resolved) → AllByRecursion IsSized (signatures_of program) → (number : ℕ) (fun : Fun) → slice_get program.funs number ≡ Some fun → fun.kind ≡ kinds.Static
    → (tuple place : ℕ) → tuple < length (tuples (map (range_of program.domains) fun.args)) → Some place ≡ padded_number (map (range_of program.domains) fun.args) tuple
    → slice_index (table_indices program) (table_start program.domains program.funs number + place) ≡ index_in (range_of program.domains fun.codomain) (slice_index_or fun.table tuple (pos 0))

-- there are as many words as the padded sizes of the static functions are in all
abbrev pub TablesAreLong : Type 0
TablesAreLong = (program : Resolved) → length (table_indices program) ≡ padded_sum is_static (signatures_of program)

-- each word of the tables is that of an instruction which writes to no register but x0
abbrev pub AreTableWords : Type 0
AreTableWords =
    (program : Resolved) → AllByRecursion IsSized (signatures_of program) → TablesFit program → AreRows (map table_number (table_indices program)) (map table_entry (table_indices program))
