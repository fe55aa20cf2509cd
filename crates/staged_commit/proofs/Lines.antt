-- The pieces' lines go straight on, and are so long.
use Rattle.std.proofs.Common.{◌≡◌, ℕ, ◌*◌, pos, List, [], ◌∷◌, ◌++◌, length, refl, arith}
use Rattle.rv_isa.specs.declared.instr.Instr.TheVariants.{Beq}
use Rattle.trap_model.specs.declared.width.Width.{Width}
use Rattle.trap_model.specs.declared.width.Width.TheVariants.{Byte, Half, Word}
use Rattle.block_code.specs.Plan.{IsLine, IsSkip, StaysIn}
use Rattle.block_code.specs.Sequence.{load_by, load_fixed, store_by, store_fixed}
use Rattle.block_code.proofs.Parts.{lines-append}
use Rattle.state_layout.specs.declared.cell.Cell.{Cell}
use Rattle.state_layout.specs.Map.{Placement, access_at, clash, flag_access, flag_offset, staged_offset, value_offset}
use Rattle.staged_commit.specs.Code.{clear_cells, commit_cell, commit_cells, stage_line, stage_mark, stage_stores, stage_value}

-- ---- loads and stores stay in
pub load-stays : (width : Width) (rd rs1 : ℕ) (left : ℕ) → StaysIn (load_by width rd rs1 (pos 0)) left
load-stays Byte rd rs1 left = tt
load-stays Half rd rs1 left = tt
load-stays Word rd rs1 left = tt

pub store-stays : (width : Width) (rs1 rs2 : ℕ) (left : ℕ) → StaysIn (store_by width rs1 rs2 (pos 0)) left
store-stays Byte rs1 rs2 left = tt
store-stays Half rs1 rs2 left = tt
store-stays Word rs1 rs2 left = tt

pub load-line : (width : Width) (register offset : ℕ) → IsLine (load_fixed width register offset)
load-line Byte register offset = (tt, (tt, tt))
load-line Half register offset = (tt, (tt, tt))
load-line Word register offset = (tt, (tt, tt))

pub store-line : (width : Width) (register offset : ℕ) → IsLine (store_fixed width register offset)
store-line Byte register offset = (tt, (tt, tt))
store-line Half register offset = (tt, (tt, tt))
store-line Word register offset = (tt, (tt, tt))

module _ (placement : Placement) where
  -- ---- clearing
  pub clear-line : (cells : List Cell) → IsLine (clear_cells placement cells)
  clear-line [] = tt
  clear-line (cell ∷ cells) = lines-append (store_fixed (flag_access placement.layout) 0 _) (clear_cells placement cells) (store-line (flag_access placement.layout) 0 _) (clear-line cells)

  pub clear-long : (cells : List Cell) → length (clear_cells placement cells) ≡ 2 * length cells
  clear-long [] = refl
  clear-long (cell ∷ cells) = let e = clear-long cells in omega arith

  -- ---- committing
  pub commit-cell-line : (cell : Cell) → IsLine (commit_cell placement cell)
  commit-cell-line cell =
      let va = access_at placement cell.fun in
      lines-append (load_fixed (flag_access placement.layout) 5 (flag_offset placement cell))
      (Beq 5 0 (pos 20) ∷ (load_fixed va 5 (staged_offset placement cell) ++ store_fixed va 5 (value_offset placement cell))) (load-line (flag_access placement.layout) 5 (flag_offset placement cell))
      (skips, lines-append (load_fixed va 5 (staged_offset placement cell)) (store_fixed va 5 (value_offset placement cell)) (load-line va 5 (staged_offset placement cell)) (store-line va 5 (value_offset placement cell)))
    where
      skips : IsSkip (pos 20) 5
      skips = (omega arith, omega arith)

  pub commit-line : (cells : List Cell) → IsLine (commit_cells placement cells)
  commit-line [] = tt
  commit-line (cell ∷ cells) = lines-append (commit_cell placement cell) (commit_cells placement cells) (commit-cell-line cell) (commit-line cells)

  pub commit-long : (cells : List Cell) → length (commit_cells placement cells) ≡ 7 * length cells
  commit-long [] = refl
  commit-long (cell ∷ cells) = let e = commit-long cells in omega arith

  -- ---- staging
  stage-mark-line : IsLine (stage_mark placement)
  stage-mark-line = ((omega arith, omega arith), ((omega arith, omega arith), store-line Word 10 (clash placement)))

  stage-stores-line : (fun : ℕ) → IsLine (stage_stores placement fun)
  stage-stores-line fun = (load-stays (flag_access placement.layout) 8 7 _, (load-stays (access_at placement fun) 9 5 _, (store-stays (access_at placement fun) 5 6 _, (tt, (store-stays (flag_access placement.layout) 7 10 _, tt)))))

  pub stage-value-line : (fun : ℕ) → IsLine (stage_value placement fun)
  stage-value-line fun =
      (tt, (tt, (tt, (tt, (tt, (tt, (tt, (tt, (tt, (tt, (tt, (tt, lines-append (stage_stores placement fun) (stage_mark placement) (stage-stores-line fun) stage-mark-line))))))))))))

  pub stage-line : (fun count : ℕ) → IsLine (stage_line placement fun count)
  stage-line fun count = (tt, (tt, (tt, (tt, ((omega arith, omega arith), (tt, stage-value-line fun))))))
