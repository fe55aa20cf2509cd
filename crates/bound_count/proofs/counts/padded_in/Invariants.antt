use Rattle.std.proofs.Common.{◌≡◌, take}
use Rattle.std.specs.List.{sum_by}
use Rattle.state_space.specs.Locations.{signature_of}
use Rattle.state_space.specs.Sizes.{padded_own}
use Rattle.bound_count.specs.Amounts.{kept}
use Rattle.bound_count.specs.Groups.{of_group}
use Rattle.bound_count.proofs.counts.padded_in.Given as goal

abbrev pub invariant-loop-function : goal.invariant-loop-function
invariant-loop-function l = l.total ≡ kept (sum_by (λ function. padded_own (of_group l.group) (signature_of l.domains function)) (take l.function-index l.functions))
