-- Blocks of code as plain data.
use Rattle.std.specs.Prelude.{ℕ, suc, ◌+◌, ◌*◌, ◌<◌, ◌≤◌, max, ℤ, pos, negsuc, neg_ℤ, List, [], ◌∷◌, ◌++◌, length}
use Rattle.rv_isa.specs.declared.instr.Instr.{Instr}
use Rattle.rv_isa.specs.declared.instr.Instr.TheVariants.{Lui, Jal, Jalr, Beq, Bne, Blt, Bge, Bltu, Bgeu, Lw, Sb, Sh, Sw, Addi}
use Rattle.trap_model.specs.Map.{ram_base}
use Rattle.trap_model.specs.declared.width.Width.TheVariants.{Word}
use Rattle.block_code.specs.Sequence.{high_part, load_fixed, load_immediate, low_part, other_scratch, scratch, store_fixed}

-- code by its structure
pub data Plan : Type 0 where
  -- instructions one after another, with skips forward
  Line : (instrs : List Instr) → Plan
  -- the first part, then the second
  Seq : (first second : Plan) → Plan
  -- the then part where the test register is not 0, else the else part
  If : (test : ℕ) (then_part else_part : Plan) → Plan
  -- the body for each counter from 0 up to the count; the counter stands in RAM at the slot
  Loop : (count slot : ℕ) (body : Plan) → Plan
  -- `found` at the least counter whose guard leaves the test register not 0, else `none`
  Scan : (count slot : ℕ) (guard : Plan) (test : ℕ) (found none : Plan) → Plan

-- ---- the instructions of a block's own

-- a jump over so many words forward
abbrev pub forward : ℕ → Instr
forward words = Jal 0 (pos (4 * words))

-- a jump back over so many words
abbrev pub backward : ℕ → Instr
backward words = Jal 0 (neg_ℤ (pos (4 * words)))

-- the counter becomes 0
abbrev pub reset : ℕ → List Instr
reset slot = store_fixed Word 0 slot

-- the counter and the count are loaded
abbrev pub compared : ℕ → ℕ → List Instr
compared count slot = load_fixed Word scratch slot ++ load_immediate other_scratch count

-- a skip over the next word where the counter is below the count
abbrev pub skip_below : Instr
skip_below = Bltu scratch other_scratch (pos 8)

-- a skip of so many bytes where the test register is not 0
abbrev pub skip_if_set : (test offset : ℕ) → Instr
skip_if_set test offset = Bne test 0 (pos offset)

-- the counter becomes one more
abbrev pub raised : ℕ → List Instr
raised slot =
    Lui other_scratch (high_part (ram_base + slot)) ∷ Lw scratch other_scratch (low_part (ram_base + slot))
    ∷ Addi scratch scratch (pos 1) ∷ Sw other_scratch scratch (low_part (ram_base + slot)) ∷ []

-- ---- numbers

-- how many words the code has
abbrev pub len : Plan → ℕ
len (Line instrs) = length instrs
len (Seq first second) = len first + len second
len (If test then_part else_part) = 3 + len then_part + len else_part
len (Loop count slot body) = 13 + len body
len (Scan count slot guard test found none) = 15 + len guard + len found + len none

-- a bound on the ticks from the top
abbrev pub full : Plan → ℕ
full (Line instrs) = length instrs
full (Seq first second) = full first + full second
full (If test then_part else_part) = 3 + max (full then_part) (full else_part)
full (Loop count slot body) = 16 + count * (full body + 16)
full (Scan count slot guard test found none) = 24 + count * (full guard + 24) + max (full found) (full none)

-- a bound on the ticks from any place inside
abbrev pub entry : Plan → ℕ
entry (Line instrs) = length instrs
entry (Seq first second) = max (entry first + full second) (entry second)
entry (If test then_part else_part) = 3 + max (entry then_part) (entry else_part)
entry (Loop count slot body) = entry body + full (Loop count slot body)
entry (Scan count slot guard test found none) = max (max (entry guard) (entry found)) (entry none) + full (Scan count slot guard test found none)

-- ---- the code

-- the instructions of a plan; all displacements are relative, so that they are the same at each address
abbrev pub code : Plan → List Instr
code (Line instrs) = instrs
code (Seq first second) = code first ++ code second
code (If test then_part else_part) =
    skip_if_set test 8 ∷ forward (len then_part + 2) ∷ (code then_part ++ forward (len else_part + 1) ∷ code else_part)
code (Loop count slot body) =
    reset slot ++ (compared count slot ++ skip_below ∷ forward (len body + 6)
    ∷ (code body ++ (raised slot ++ backward (len body + 10) ∷ [])))
code (Scan count slot guard test found none) =
    reset slot ++ (compared count slot ++ skip_below ∷ forward (len guard + len found + 8)
    ∷ (code guard ++ (skip_if_set test 24 ∷ (raised slot ++ backward (len guard + 11)
    ∷ (code found ++ forward (len none + 1) ∷ code none)))))

-- ---- what a line may hold

-- a skip goes forward, over no more than the instructions that are left, itself among them
abbrev pub IsSkip : ℤ → ℕ → Type 0
IsSkip (pos offset) left = (0 < offset) × (offset ≤ 4 * left)
IsSkip (negsuc offset) left = ⊥

-- the instruction goes to no place outside a line that has so many instructions left, itself among them
abbrev pub StaysIn : Instr → ℕ → Type 0
StaysIn (Jal rd imm) left = ⊥
StaysIn (Jalr rd rs1 imm) left = ⊥
StaysIn (Beq rs1 rs2 imm) left = IsSkip imm left
StaysIn (Bne rs1 rs2 imm) left = IsSkip imm left
StaysIn (Blt rs1 rs2 imm) left = IsSkip imm left
StaysIn (Bge rs1 rs2 imm) left = IsSkip imm left
StaysIn (Bltu rs1 rs2 imm) left = IsSkip imm left
StaysIn (Bgeu rs1 rs2 imm) left = IsSkip imm left
StaysIn _ left = Unit {0}

-- a line has no jump, and no branch but forward inside itself or to its end
abbrev pub IsLine : List Instr → Type 0
IsLine [] = Unit {0}
IsLine (i ∷ is) = StaysIn i (suc (length is)) × IsLine is

-- how many loops and scans enclose one another
abbrev pub nest : Plan → ℕ
nest (Line instrs) = 0
nest (Seq first second) = max (nest first) (nest second)
nest (If test then_part else_part) = max (nest then_part) (nest else_part)
nest (Loop count slot body) = 1 + nest body
nest (Scan count slot guard test found none) = 1 + max (max (nest guard) (nest found)) (nest none)

-- ---- lines that store nothing

-- the instruction is no store
abbrev pub IsStoreless : Instr → Type 0
IsStoreless (Sb rs1 rs2 imm) = ⊥
IsStoreless (Sh rs1 rs2 imm) = ⊥
IsStoreless (Sw rs1 rs2 imm) = ⊥
IsStoreless _ = Unit {0}

-- instructions none of which is a store
abbrev pub AreStoreless : List Instr → Type 0
AreStoreless [] = Unit {0}
AreStoreless (i ∷ is) = IsStoreless i × AreStoreless is
