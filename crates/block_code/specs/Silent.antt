-- What blocks leave alone whatever the hart holds: ports, registers and RAM.
use Rattle.std.specs.Prelude.{ℕ, ◌<◌, ◌≤◌, ◌⊎◌, List, [], ◌∷◌}
use Rattle.rv_isa.specs.declared.instr.Instr.{Instr}
use Rattle.rv_isa.specs.declared.instr.Instr.TheVariants.{Lui, Auipc, Jal, Jalr, Lb, Lh, Lw, Lbu, Lhu, Sb, Sh, Sw, Addi, Slti, Sltiu, Xori, Ori, Andi, Slli, Srli, Srai, Add, Sub, Sll, Slt, Sltu, Xor, Srl, Sra, Or, And}
use Rattle.rv_machine.specs.Effect.{address}
use Rattle.rv_machine.specs.Hart.{HartState}
use Rattle.trap_model.specs.Map.{in_base}
use Rattle.block_code.specs.Effect.{Does, Stops}
use Rattle.block_code.specs.Leads.{IsEntered, IsStill, KeepsRegs}
use Rattle.block_code.specs.Moment.{Moment}
use Rattle.block_code.specs.Plan.{AreStoreless, If, Line, Loop, Plan, Scan, Seq}
use Rattle.block_code.specs.Sequence.{scratch}

-- entered at its top in a valid hart, whatever that holds, the block comes to no moment that is not the same in this sense, where it leaves and where it traps
pub record Respects (Same : Moment → Moment → Type 0) (tree : Plan) : Type 0 where
  pub does : (rom : List ℕ) (size at : ℕ) (s s' : Moment) → IsEntered rom size at tree s → Does rom at tree s s' → Same s s'
  pub stops : (rom : List ℕ) (size at : ℕ) (s s' : Moment) → IsEntered rom size at tree s → Stops rom at tree s s' → Same s s'

-- ---- ports

-- the block takes no reading and sends nothing until it leaves or traps
abbrev pub IsSilent : Plan → Type 0
IsSilent tree = Respects IsStill tree

-- the instruction loads and stores only at an address that is below those of the ports
abbrev pub IsBelowPorts : Instr → HartState → Type 0
IsBelowPorts (Lb rd rs1 imm) m = address m rs1 imm < in_base
IsBelowPorts (Lh rd rs1 imm) m = address m rs1 imm < in_base
IsBelowPorts (Lw rd rs1 imm) m = address m rs1 imm < in_base
IsBelowPorts (Lbu rd rs1 imm) m = address m rs1 imm < in_base
IsBelowPorts (Lhu rd rs1 imm) m = address m rs1 imm < in_base
IsBelowPorts (Sb rs1 rs2 imm) m = address m rs1 imm < in_base
IsBelowPorts (Sh rs1 rs2 imm) m = address m rs1 imm < in_base
IsBelowPorts (Sw rs1 rs2 imm) m = address m rs1 imm < in_base
IsBelowPorts _ m = Unit {0}

-- the instruction is no load and no store
abbrev pub IsPortless : Instr → Type 0
IsPortless (Lb rd rs1 imm) = ⊥
IsPortless (Lh rd rs1 imm) = ⊥
IsPortless (Lw rd rs1 imm) = ⊥
IsPortless (Lbu rd rs1 imm) = ⊥
IsPortless (Lhu rd rs1 imm) = ⊥
IsPortless (Sb rs1 rs2 imm) = ⊥
IsPortless (Sh rs1 rs2 imm) = ⊥
IsPortless (Sw rs1 rs2 imm) = ⊥
IsPortless _ = Unit {0}

-- instructions none of which is a load or a store
abbrev pub ArePortless : List Instr → Type 0
ArePortless [] = Unit {0}
ArePortless (i ∷ is) = IsPortless i × ArePortless is

-- ---- registers

-- the register is none of those from low below high
abbrev pub IsOutside : (low high r : ℕ) → Type 0
IsOutside low high r = (r < low) ⊎ (high ≤ r)

-- the instruction writes none of the registers from low below high
abbrev pub WritesOutside : (low high : ℕ) → Instr → Type 0
WritesOutside low high (Lui rd imm) = IsOutside low high rd
WritesOutside low high (Auipc rd imm) = IsOutside low high rd
WritesOutside low high (Jal rd imm) = IsOutside low high rd
WritesOutside low high (Jalr rd rs1 imm) = IsOutside low high rd
WritesOutside low high (Lb rd rs1 imm) = IsOutside low high rd
WritesOutside low high (Lh rd rs1 imm) = IsOutside low high rd
WritesOutside low high (Lw rd rs1 imm) = IsOutside low high rd
WritesOutside low high (Lbu rd rs1 imm) = IsOutside low high rd
WritesOutside low high (Lhu rd rs1 imm) = IsOutside low high rd
WritesOutside low high (Addi rd rs1 imm) = IsOutside low high rd
WritesOutside low high (Slti rd rs1 imm) = IsOutside low high rd
WritesOutside low high (Sltiu rd rs1 imm) = IsOutside low high rd
WritesOutside low high (Xori rd rs1 imm) = IsOutside low high rd
WritesOutside low high (Ori rd rs1 imm) = IsOutside low high rd
WritesOutside low high (Andi rd rs1 imm) = IsOutside low high rd
WritesOutside low high (Slli rd rs1 shift) = IsOutside low high rd
WritesOutside low high (Srli rd rs1 shift) = IsOutside low high rd
WritesOutside low high (Srai rd rs1 shift) = IsOutside low high rd
WritesOutside low high (Add rd rs1 rs2) = IsOutside low high rd
WritesOutside low high (Sub rd rs1 rs2) = IsOutside low high rd
WritesOutside low high (Sll rd rs1 rs2) = IsOutside low high rd
WritesOutside low high (Slt rd rs1 rs2) = IsOutside low high rd
WritesOutside low high (Sltu rd rs1 rs2) = IsOutside low high rd
WritesOutside low high (Xor rd rs1 rs2) = IsOutside low high rd
WritesOutside low high (Srl rd rs1 rs2) = IsOutside low high rd
WritesOutside low high (Sra rd rs1 rs2) = IsOutside low high rd
WritesOutside low high (Or rd rs1 rs2) = IsOutside low high rd
WritesOutside low high (And rd rs1 rs2) = IsOutside low high rd
WritesOutside low high _ = Unit {0}

-- instructions none of which writes a register from low below high
abbrev pub WriteOutside : (low high : ℕ) → List Instr → Type 0
WriteOutside low high [] = Unit {0}
WriteOutside low high (i ∷ is) = WritesOutside low high i × WriteOutside low high is

-- ---- plans whose lines are so

-- no line of the plan has a load or a store
abbrev pub IsPortlessPlan : Plan → Type 0
IsPortlessPlan (Line instrs) = ArePortless instrs
IsPortlessPlan (Seq first second) = IsPortlessPlan first × IsPortlessPlan second
IsPortlessPlan (If test then_part else_part) = IsPortlessPlan then_part × IsPortlessPlan else_part
IsPortlessPlan (Loop count slot body) = IsPortlessPlan body
IsPortlessPlan (Scan count slot guard test found none) = IsPortlessPlan guard × IsPortlessPlan found × IsPortlessPlan none

-- no line of the plan writes a register from low below high
abbrev pub WritesNone : (low high : ℕ) → Plan → Type 0
WritesNone low high (Line instrs) = WriteOutside low high instrs
WritesNone low high (Seq first second) = WritesNone low high first × WritesNone low high second
WritesNone low high (If test then_part else_part) = WritesNone low high then_part × WritesNone low high else_part
WritesNone low high (Loop count slot body) = WritesNone low high body
WritesNone low high (Scan count slot guard test found none) = WritesNone low high guard × WritesNone low high found × WritesNone low high none

-- the plan has no loop and no scan, and no line of it a store
abbrev pub IsStorelessPlan : Plan → Type 0
IsStorelessPlan (Line instrs) = AreStoreless instrs
IsStorelessPlan (Seq first second) = IsStorelessPlan first × IsStorelessPlan second
IsStorelessPlan (If test then_part else_part) = IsStorelessPlan then_part × IsStorelessPlan else_part
IsStorelessPlan (Loop count slot body) = ⊥
IsStorelessPlan (Scan count slot guard test found none) = ⊥

-- a block whose lines write none of the registers keeps them, if they lie below the scratch registers
abbrev pub RegistersAreKept : Type 0
RegistersAreKept = (low high : ℕ) → high ≤ scratch → (tree : Plan) → WritesNone low high tree → Respects (KeepsRegs low high) tree
