use Rattle.std.proofs.Common.{◌≡◌, ℕ, ◌<◌, List, ◌++◌, length, get_or, Some, sym, ap, ◌∙◌, arith}
use Rattle.std.specs.Prelude.{slice_get}
use Rattle.std.proofs.lemmas.Option.{slice_get-get_or}
use Rattle.state_space.specs.declared.signature.Signature.{Signature}
use Rattle.state_layout.specs.declared.cell.Cell.{Cell}
use Rattle.staged_commit.specs.Code as code
use Rattle.staged_commit.proofs.Emitted.{send-more}
use Rattle.staged_commit.proofs.Sending.{output-cell}
use Rattle.staged_commit.proofs.output.send_line.Goals as goal

abbrev no_cell : Cell
no_cell = record { fun = 0; index = 0 }

-- the cell that is read is that of the output
at_port : (signatures : List Signature) (list : List Cell) (i : ℕ) → list ≡ code.output_cells signatures → i < length list → slice_get (code.output_cells signatures) i ≡ Some (get_or list i no_cell)
at_port signatures list i same within = ap (λ l. slice_get l i) (sym same) ∙ slice_get-get_or list i no_cell within

pub send_cell-requires-clause-cell : goal.send_cell-requires-clause-cell
send_cell-requires-clause-cell c =
    let m = c.args.map.now in
    let same = c.as_slice.ensures ∙ c.in_ok-cells.ensures ∙ ap code.output_cells (c.signatures.ensures.signatures ∙ c.space.ensures) in
    output-cell m c.requires.coded c.loop-port.port _
    (at_port m.signatures c.as_slice.result.now c.loop-port.port same (omega (arith, c.loop-port-test.true, c.len-port-end.ensures, ap length c.as_slice.ensures)))

pub loop-port-preserved : goal.loop-port-preserved
loop-port-preserved c =
    let m = c.args.map.now in
    let cell : Cell = get_or c.as_slice.result.now c.loop-port.port no_cell in
    let same = c.as_slice.ensures ∙ c.in_ok-cells.ensures ∙ ap code.output_cells (c.signatures.ensures.signatures ∙ c.space.ensures) in
    c.in_ok-send_cell.ensures
    ∙ ap (λ l. l ++ code.send_cell m c.loop-port.port cell) c.loop-port.invariant
    ∙ send-more m c.loop-port.port cell
    (at_port m.signatures c.as_slice.result.now c.loop-port.port same (omega (arith, c.loop-port-test.true, c.len-port-end.ensures, ap length c.as_slice.ensures)))
