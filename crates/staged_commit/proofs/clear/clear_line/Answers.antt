use Rattle.std.proofs.Common.{◌++◌, take, ap, ◌∙◌, arith}
use Rattle.block_code.specs.Sequence.{store_fixed}
use Rattle.state_layout.specs.Map.{flag_access, state_cells}
use Rattle.staged_commit.specs.Code.{clear_cells, clear_mark}
use Rattle.staged_commit.proofs.Emitted.{clear-more, flag-low}
use Rattle.staged_commit.proofs.clear.clear_line.Goals as goal

pub store_fixed-requires-in-loop-place : goal.store_fixed-requires-in-loop-place
store_fixed-requires-in-loop-place c =
    let low = flag-low c.args.map.now c.requires c.cell.result c.cell.ensures.held in
    let is = c.flag_offset.ensures in omega arith

pub loop-place-preserved : goal.loop-place-preserved
loop-place-preserved c =
    let m = c.args.map.now in
    let o = c.flag_offset.result in
    c.in_ok-append-2.ensures.ok
    ∙ ap (λ l. l ++ c.store_fixed-in-loop-place.result) c.loop-place.invariant
    ∙ ap (λ k. (clear_mark m ++ clear_cells m (take c.loop-place.place (state_cells m))) ++ k)
    (c.store_fixed-in-loop-place.ensures
    ∙ ap (λ w. store_fixed w c.zero_register-in-loop-place.result o) (c.flag_access-flag.ensures ∙ ap flag_access c.layout.ensures)
    ∙ ap (λ r. store_fixed (flag_access m.layout) r o) c.zero_register-in-loop-place.ensures
    ∙ ap (λ n. store_fixed (flag_access m.layout) 0 n) c.flag_offset.ensures)
    ∙ clear-more m c.loop-place.place c.cell.result c.cell.ensures.cell
