-- The maps that the pieces of a round can be written for.
use Rattle.std.specs.Prelude.{◌≤◌, ◌^◌}
use Rattle.asm_names.specs.declared.program.Resolved.{Resolved}
use Rattle.state_layout.specs.MapLaw.{IsPlaced}
use Rattle.state_layout.specs.declared.layout.Layout.{Layout}
use Rattle.bound_count.specs.Numbers.{ram_number}
use Rattle.staged_commit.specs.Law.{IsCoded}
use Rattle.round_spec.specs.Stabilizes.{placed}

-- where the program needs no more than 1,048,576 bytes of RAM, the pieces of a round can be written for its map
abbrev pub PlacedMapsAreCoded : Type 0
PlacedMapsAreCoded = (layout : Layout) (program : Resolved) → IsPlaced (placed layout program) → ram_number layout program ≤ 2 ^ 20 → IsCoded (placed layout program)
