use Rattle.std.proofs.Common.{◌≡◌, map, take}
use Rattle.state_space.specs.Locations.{signature_of}
use Rattle.state_layout.specs.Map.{arrays_end}
use Rattle.state_layout.specs.declared.layout.Layout.TheVariants as layouts
use Rattle.bound_count.specs.Amounts.{kept}
use Rattle.bound_count.proofs.packing.arrays_end_in.Given as goal

abbrev pub invariant-loop-function : goal.invariant-loop-function
invariant-loop-function l = l.end ≡ kept (arrays_end layouts.Packed (map (signature_of l.domains) (take l.function-index l.functions)))
