-- What the numbers have to do with the map of RAM.
use Rattle.std.specs.Prelude.{◌≡◌, ◌+◌}
use Rattle.asm_names.specs.declared.program.Resolved.{Resolved}
use Rattle.state_space.specs.Locations.{signatures_of}
use Rattle.state_layout.specs.declared.layout.Layout.{Layout}
use Rattle.state_layout.specs.Map.{map_end}
use Rattle.bound_count.specs.Numbers.{ram_number}

-- in both layouts the map of a program's RAM ends two words before its number of bytes
abbrev pub MapsEndInside : Type 0
MapsEndInside = (layout : Layout) (program : Resolved) → map_end (record { layout = layout; signatures = signatures_of program }) program.binders + 8 ≡ ram_number layout program
