-- The unrolled image of a program.
use Rattle.std.specs.Prelude.{◌≡◌, ℕ, ◌*◌, ◌≤◌, length}
use Rattle.asm_names.specs.declared.program.Resolved.{Resolved}
use Rattle.rv_machine.specs.Image.{IsImage}
use Rattle.state_space.specs.{Locations.{signatures_of}, Sizes.{padded_sum}, Locations.{is_static}}
use Rattle.block_code.specs.Home.{IsClosed}
use Rattle.state_layout.specs.declared.layout.Layout.{Layout}
use Rattle.bound_count.specs.{Numbers.{numbers_of}, Refusals.{FitsMachine}, RuleWeights.{rule_words}}
use Rattle.bound_count.specs.declared.shape.Shape.TheVariants as forms
use Rattle.rule_expand.specs.declared.flat.Flat.{Flat}
use Rattle.rule_expand.specs.{FlatUpdates.{HasPermittedUpdates}, FlatWeights.{flat_weight}}
use Rattle.round_spec.specs.{Round.{Compiled}, Stabilizes.{Stabilizes, placed}}
use Rattle.rule_code.specs.{Body.{IsWritable}, Code.{body_plan}, Within.{IsSetting}}

-- The code of a round for a rule without loops stands in ROM, and behind it the tables from the word `at` on, and jumps to 0. The map of
-- RAM and the bounds are the program's, and within the limits.
pub record IsUnrolled (rom_size ram_size : ℕ) (layout : Layout) (program : Resolved) (flat : Flat) (built : Compiled) (at : ℕ) : Type 0 where
  pub size : 4 * length built.rom ≡ rom_size
  pub image : IsImage built.written built.rom
  pub short : length built.written ≤ built.needs.rom
  pub map : built.map ≡ placed layout program
  pub needs : built.needs ≡ numbers_of forms.Unrolled layout program
  pub within : FitsMachine rom_size ram_size forms.Unrolled layout program built.needs
  pub setting : IsSetting built.rom ram_size program built.map (4 * at)
  pub closed : IsClosed built.rom ram_size (body_plan program built.map (4 * at) flat) at (padded_sum is_static (signatures_of program))
  -- what the rule that was written out keeps of the program's
  pub writable : IsWritable program built.map flat
  pub light : flat_weight flat ≤ rule_words forms.Unrolled program.domains program.rule
  pub permitted : HasPermittedUpdates program flat

-- it stabilizes
abbrev pub UnrolledStabilizes : Type 0
UnrolledStabilizes =
    (rom_size ram_size : ℕ) (layout : Layout) (program : Resolved) (flat : Flat) (built : Compiled) (at : ℕ) → IsUnrolled rom_size ram_size layout program flat built at
    → Stabilizes rom_size ram_size forms.Unrolled layout program built
