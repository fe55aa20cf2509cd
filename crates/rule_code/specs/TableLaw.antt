-- The tables of static functions stand in ROM as the code of terms wants them.
use Rattle.std.specs.Prelude.{◌≡◌, ℕ, ◌+◌, ◌*◌, ◌≤◌, List, length, map}
use Rattle.std.specs.List.{AllByRecursion}
use Rattle.asm_names.specs.declared.program.Resolved.{Resolved}
use Rattle.asm_ranges.specs.Ranges.{TablesFit}
use Rattle.rv_machine.specs.Image.{IsImage}
use Rattle.state_space.specs.{Locations.{signatures_of}, Sizes.{IsSized}}
use Rattle.state_layout.specs.Map.{Placement}
use Rattle.rom_anchor.specs.Placed.{IsPlaced}
use Rattle.rom_tables.specs.Tables.{table_indices, table_number}
use Rattle.instr_select.specs.Held.{HoldsTables}

-- a ROM in which a body was placed with the program's tables, from the word `at` on, holds them from that word's address on
abbrev pub PlacedTablesAreHeld : Type 0
PlacedTablesAreHeld =
    (rom written body : List ℕ) (at : ℕ) (program : Resolved) (placement : Placement) → placement.signatures ≡ signatures_of program
    → AllByRecursion IsSized (signatures_of program) → TablesFit program → IsImage written rom
    → IsPlaced body at (map table_number (table_indices program)) written → length body ≤ at → at + length (table_indices program) ≤ length rom
    → HoldsTables rom program placement (4 * at)
