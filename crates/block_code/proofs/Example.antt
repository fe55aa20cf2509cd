-- A loop that meets what is asked of blocks.
use Rattle.std.proofs.Common.{◌≡◌, [], ◌∷◌, pos, refl, arith}
use Rattle.rv_isa.specs.declared.instr.Instr.TheVariants.{Addi}
use Rattle.block_code.specs.Block.{IsBlock}
use Rattle.block_code.specs.Law.{LawOfEntry}
use Rattle.block_code.specs.Plan.{Line, Loop, Plan, entry}
use Rattle.block_code.proofs.Structure.{law-of-entry}
use Rattle.block_code.proofs.Storeless.{keeps-storeless}

abbrev count_up : Plan
count_up = Line (Addi 5 5 (pos 1) ∷ [])

abbrev hundred_times : Plan
hundred_times = Loop 100 0 count_up

hundred-block : IsBlock hundred_times
hundred-block =
    (record { some = omega arith; few = omega arith }, record { aligned = refl; low = omega arith }, (tt, tt), keeps-storeless 0 (Addi 5 5 (pos 1) ∷ []) (tt, tt))

hundred-entry : entry hundred_times ≡ 1717
hundred-entry = refl

hundred-law : LawOfEntry hundred_times
hundred-law = law-of-entry hundred_times hundred-block
