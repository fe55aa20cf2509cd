use Rattle.std.proofs.Common.{◌≡◌}
use Rattle.state_space.specs.Kinds.{of_side}
use Rattle.state_layout.proofs.Tabling.{cells_first}
use Rattle.state_layout.proofs.cell.cells_of.Given as goal

abbrev pub invariant-loop-fun : goal.invariant-loop-fun
invariant-loop-fun l = l.cells ≡ cells_first (of_side l.side) l.signatures l.fun
