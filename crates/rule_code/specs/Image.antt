-- The image that is made of a program without loops: what it is made of, and that it stabilizes.
use Rattle.std.specs.Prelude.{◌≡◌, ℕ, ◌+◌, ◌*◌, ◌≤◌, true, List, length, map}
use Rattle.asm_names.specs.declared.program.Resolved.{Resolved}
use Rattle.asm_ranges.specs.{Keeping.{IsChecked}, Ranges.{unscoped}}
use Rattle.rv_machine.specs.{Image.{IsImage}, Memory.{IsMemorySize}}
use Rattle.state_space.specs.{Locations.{is_static, signatures_of}, Sizes.{padded_sum}}
use Rattle.state_layout.specs.{Map.{Placement}, declared.layout.Layout.{Layout}}
use Rattle.bound_count.specs.{declared.numbers.Numbers.{Numbers}, Numbers.{numbers_of}, Refusals.{FitsMachine}, RuleWeights.{rule_registers, rule_words}}
use Rattle.bound_count.specs.declared.shape.Shape.TheVariants as forms
use Rattle.rule_expand.specs.declared.flat.Flat.{Flat}
use Rattle.rule_expand.specs.{FlatDefined.{MeetsDefined}, FlatNew.{flat_new}, FlatSums.{flat_sums_fit}, FlatUpdates.{HasLeastUpdates, HasPermittedUpdates}, FlatWeights.{flat_registers, flat_weight}}
use Rattle.rom_anchor.specs.Placed.{IsBody, IsPlaced}
use Rattle.rom_tables.specs.Tables.{table_indices, table_number}
use Rattle.round_spec.specs.{Round.{Compiled}, Stabilizes.{ChoosesLeast, Stabilizes, placed}}
use Rattle.rule_code.specs.Code.{body_plan}

-- the rule of a program, written out: it has the program's updates, its terms can be counted in words, and it weighs no more
pub record IsExpanded (program : Resolved) (flat : Flat) : Type 0 where
  pub least : HasLeastUpdates program flat
  pub permitted : HasPermittedUpdates program flat
  pub sums : flat_sums_fit program flat unscoped ≡ true
  pub fresh : flat_new program flat unscoped ≡ true
  pub met : MeetsDefined program flat
  pub light : flat_weight flat ≤ rule_words forms.Unrolled program.domains program.rule
  pub registers : flat_registers flat ≤ rule_registers program.rule

-- the words of a round: the code of a round for the rule, written out, and the jump to 0 behind it
pub record AreRoundWords (program : Resolved) (placement : Placement) (tables : ℕ) (words : List ℕ) : Type 0 where
  pub flat : Flat
  pub expanded : IsExpanded program flat
  pub rows : IsBody (body_plan program placement tables flat) words

-- a checked program whose numbers are within the limits of a machine with so many bytes of ROM and of RAM, and its map in the layout
pub record IsFitted (rom_size ram_size : ℕ) (layout : Layout) (program : Resolved) (placement : Placement) (needs : Numbers) : Type 0 where
  pub rom_bytes : IsMemorySize rom_size
  pub ram_bytes : IsMemorySize ram_size
  pub checked : IsChecked program
  pub laid_out : placement ≡ placed layout program
  pub within : FitsMachine rom_size ram_size forms.Unrolled layout program needs

-- What an image is made of: the words of a round for such a program from address 0, and its tables from the word `at` on, in the last
-- words that its number of words has room for.
pub record IsMade (rom_size ram_size : ℕ) (layout : Layout) (program : Resolved) (built : Compiled) (at : ℕ) : Type 0 where
  pub fitted : IsFitted rom_size ram_size layout program built.map built.needs
  pub counted : built.needs ≡ numbers_of forms.Unrolled layout program
  pub ends : at + padded_sum is_static (signatures_of program) ≡ built.needs.rom
  pub words : List ℕ
  pub round : AreRoundWords program built.map (4 * at) words
  pub written : IsPlaced words at (map table_number (table_indices program)) built.written
  pub image : IsImage built.written built.rom
  pub size : 4 * length built.rom ≡ rom_size

-- such an image stabilizes, and each of its rounds makes the step of the least choices
abbrev pub MadeImagesStabilize : Type 0
MadeImagesStabilize =
    (rom_size ram_size : ℕ) (layout : Layout) (program : Resolved) (built : Compiled) (at : ℕ) → IsMade rom_size ram_size layout program built at
    → Stabilizes rom_size ram_size forms.Unrolled layout program built × ChoosesLeast ram_size program built

-- it is made so with its tables from some word on
abbrev pub IsMadeWithin : (rom_size ram_size : ℕ) → Layout → Resolved → Compiled → Type 0
IsMadeWithin rom_size ram_size layout program built = (at : ℕ) × IsMade rom_size ram_size layout program built at
