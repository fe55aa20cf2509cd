use Rattle.std.proofs.Common.{ap, ◌∙◌}
use Rattle.state_space.specs.Locations.{is_state}
use Rattle.state_layout.specs.declared.cell.Cell.{Cell}
use Rattle.state_layout.specs.Map.{Placement, cells}
use Rattle.state_layout.proofs.Located.{locations-have-cells}
use Rattle.state_layout.proofs.Tabling.{cell-there}
use Rattle.state_layout.proofs.map.Map.cell.Goals as goal

pub returns-clause-held : goal.returns-clause-held
returns-clause-held c =
    let none : Cell = record { fun = 0; index = 0 } in
    (locations-have-cells is_state c.args.self.now.signatures c.args.place _
    (cell-there is_state c.args.self.now.signatures c.as_slice.result.now c.args.place none
    (c.as_slice.ensures ∙ c.self.invariant.of_states ∙ ap (λ (p : Placement). cells is_state p.signatures) c.self.view_is) c.requires)).0
