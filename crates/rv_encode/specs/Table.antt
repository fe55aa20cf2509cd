-- The words of the RV32I instructions, as the tables of the RISC-V Unprivileged manual have them: one line for each instruction.
use Rattle.std.specs.Prelude.{◌≡◌, ℕ, List, [], ◌∷◌}
use Rattle.rv_isa.specs.declared.instr.Instr.{Instr}
use Rattle.rv_isa.specs.declared.instr.Instr.TheVariants.{Lui, Auipc, Jal, Jalr, Beq, Bne, Blt, Bge, Bltu, Bgeu, Lb, Lh, Lw, Lbu, Lhu, Sb, Sh, Sw, Addi, Slti, Sltiu, Xori, Ori, Andi, Slli, Srli, Srai}
use Rattle.rv_isa.specs.declared.instr.Instr.TheVariants.{Add, Sub, Sll, Slt, Sltu, Xor, Srl, Sra, Or, And, Fence, Ecall, Ebreak}
use Rattle.rv_encode.specs.Format.{IsR, IsI, IsShiftI, IsS, IsB, IsU, IsJ}

-- the word is that of the instruction, whose operands are in range
unfoldable pub Row : ℕ → Instr → Type 0
Row word (Lui rd imm) = IsU word 0b0110111 rd imm
Row word (Auipc rd imm) = IsU word 0b0010111 rd imm
Row word (Jal rd imm) = IsJ word 0b1101111 rd imm
Row word (Jalr rd rs1 imm) = IsI word 0b1100111 0b000 rd rs1 imm
Row word (Beq rs1 rs2 imm) = IsB word 0b1100011 0b000 rs1 rs2 imm
Row word (Bne rs1 rs2 imm) = IsB word 0b1100011 0b001 rs1 rs2 imm
Row word (Blt rs1 rs2 imm) = IsB word 0b1100011 0b100 rs1 rs2 imm
Row word (Bge rs1 rs2 imm) = IsB word 0b1100011 0b101 rs1 rs2 imm
Row word (Bltu rs1 rs2 imm) = IsB word 0b1100011 0b110 rs1 rs2 imm
Row word (Bgeu rs1 rs2 imm) = IsB word 0b1100011 0b111 rs1 rs2 imm
Row word (Lb rd rs1 imm) = IsI word 0b0000011 0b000 rd rs1 imm
Row word (Lh rd rs1 imm) = IsI word 0b0000011 0b001 rd rs1 imm
Row word (Lw rd rs1 imm) = IsI word 0b0000011 0b010 rd rs1 imm
Row word (Lbu rd rs1 imm) = IsI word 0b0000011 0b100 rd rs1 imm
Row word (Lhu rd rs1 imm) = IsI word 0b0000011 0b101 rd rs1 imm
Row word (Sb rs1 rs2 imm) = IsS word 0b0100011 0b000 rs1 rs2 imm
Row word (Sh rs1 rs2 imm) = IsS word 0b0100011 0b001 rs1 rs2 imm
Row word (Sw rs1 rs2 imm) = IsS word 0b0100011 0b010 rs1 rs2 imm
Row word (Addi rd rs1 imm) = IsI word 0b0010011 0b000 rd rs1 imm
Row word (Slti rd rs1 imm) = IsI word 0b0010011 0b010 rd rs1 imm
Row word (Sltiu rd rs1 imm) = IsI word 0b0010011 0b011 rd rs1 imm
Row word (Xori rd rs1 imm) = IsI word 0b0010011 0b100 rd rs1 imm
Row word (Ori rd rs1 imm) = IsI word 0b0010011 0b110 rd rs1 imm
Row word (Andi rd rs1 imm) = IsI word 0b0010011 0b111 rd rs1 imm
Row word (Slli rd rs1 shift) = IsShiftI word 0b0010011 0b001 0b0000000 rd rs1 shift
Row word (Srli rd rs1 shift) = IsShiftI word 0b0010011 0b101 0b0000000 rd rs1 shift
Row word (Srai rd rs1 shift) = IsShiftI word 0b0010011 0b101 0b0100000 rd rs1 shift
Row word (Add rd rs1 rs2) = IsR word 0b0110011 0b000 0b0000000 rd rs1 rs2
Row word (Sub rd rs1 rs2) = IsR word 0b0110011 0b000 0b0100000 rd rs1 rs2
Row word (Sll rd rs1 rs2) = IsR word 0b0110011 0b001 0b0000000 rd rs1 rs2
Row word (Slt rd rs1 rs2) = IsR word 0b0110011 0b010 0b0000000 rd rs1 rs2
Row word (Sltu rd rs1 rs2) = IsR word 0b0110011 0b011 0b0000000 rd rs1 rs2
Row word (Xor rd rs1 rs2) = IsR word 0b0110011 0b100 0b0000000 rd rs1 rs2
Row word (Srl rd rs1 rs2) = IsR word 0b0110011 0b101 0b0000000 rd rs1 rs2
Row word (Sra rd rs1 rs2) = IsR word 0b0110011 0b101 0b0100000 rd rs1 rs2
Row word (Or rd rs1 rs2) = IsR word 0b0110011 0b110 0b0000000 rd rs1 rs2
Row word (And rd rs1 rs2) = IsR word 0b0110011 0b111 0b0000000 rd rs1 rs2
Row word (Fence rd rs1 imm) = IsI word 0b0001111 0b000 rd rs1 imm
Row word Ecall = word ≡ 0x00000073
Row word Ebreak = word ≡ 0x00100073

-- the words are those of the instructions, one for one
abbrev pub AreRows : List ℕ → List Instr → Type 0
AreRows [] [] = Unit {0}
AreRows [] (instr ∷ code) = ⊥
AreRows (word ∷ words) [] = ⊥
AreRows (word ∷ words) (instr ∷ code) = Row word instr × AreRows words code
