use Rattle.std.proofs.Common.{◌++◌, [], List, map, sym, ap, ◌∙◌, append-nil}
use Rattle.std.specs.Prelude.{if◌then◌else◌}
use Rattle.state_space.specs.Kinds.{of_side}
use Rattle.state_space.specs.Locations.{tuples}
use Rattle.state_layout.specs.declared.cell.Cell.{Cell}
use Rattle.state_layout.specs.Tables.{cell_in}
use Rattle.state_layout.proofs.Tabling.{cells_first, functions-more}
use Rattle.state_layout.proofs.cell.cells_of.Goals as goal
use Rattle.state_layout.proofs.cell.cells_of.Goals.{then-holds+in_ok-add_cells, else-holds}

pub loop-fun-preserved : goal.loop-fun-preserved
loop-fun-preserved c =
    let signature = c.index-signatures-fun.result in
    let before : List Cell = cells_first (of_side c.args.side) c.args.signatures.now c.loop-fun.fun in
    let own : List Cell = map (cell_in c.loop-fun.fun signature.args) (tuples signature.args) in
    let more = functions-more (of_side c.args.side) c.args.signatures.now c.loop-fun.fun signature c.index-signatures-fun.is c.loop-fun-test.true in
    elim c.if-holds.branch [
      | then-holds+in_ok-add_cells w ↦
          w.cells-is ∙ w.in_ok-add_cells.ensures
          ∙ ap (λ ranges. c.loop-fun.cells ++ map (cell_in c.loop-fun.fun ranges) (tuples ranges)) w.as_slice.ensures
          ∙ ap (λ l. l ++ own) c.loop-fun.invariant
          ∙ sym (more ∙ ap (λ b. before ++ (if b then own else [])) (sym c.holds.ensures ∙ w.if-holds.true))
      | else-holds w ↦
          w.cells-is ∙ c.loop-fun.invariant ∙ sym (append-nil before)
          ∙ sym (more ∙ ap (λ b. before ++ (if b then own else [])) (sym c.holds.ensures ∙ w.if-holds.false))
    ]
