-- The instruction of a word, as a function: the table of the instructions, read by a word's opcode, funct3 and funct7.
use Rattle.std.specs.Prelude.{ℕ, suc, ◌+◌, ◌-◌, ◌*◌, ◌^◌, ℤ, pos, negsuc, nat_lt, ◌==◌, ◌&&◌, Option, Some, None, if◌then◌else◌}
use Rattle.rv_isa.specs.declared.instr.Instr.{Instr}
use Rattle.rv_isa.specs.declared.instr.Instr.TheVariants.{Lui, Auipc, Jal, Jalr, Beq, Bne, Blt, Bge, Bltu, Bgeu, Lb, Lh, Lw, Lbu, Lhu, Sb, Sh, Sw, Addi, Slti, Sltiu, Xori, Ori, Andi, Slli, Srli, Srai}
use Rattle.rv_isa.specs.declared.instr.Instr.TheVariants.{Add, Sub, Sll, Slt, Sltu, Xor, Srl, Sra, Or, And, Fence, Ecall, Ebreak}
use Rattle.rv_encode.specs.Format.{bits}

-- the signed number that so many bits stand for in two's complement
abbrev pub signed : ℕ → ℕ → ℤ
signed width n = if nat_lt n (2 ^ (width - 1)) then pos n else negsuc (2 ^ width - suc n)

-- the immediate that stands in a word of the I format
abbrev pub i_imm : ℕ → ℤ
i_imm w = signed 12 (bits w 31 20)

-- the immediate that stands in a word of the S format
abbrev pub s_imm : ℕ → ℤ
s_imm w = signed 12 (bits w 31 25 * 2 ^ 5 + bits w 11 7)

-- the immediate that stands in a word of the B format
abbrev pub b_imm : ℕ → ℤ
b_imm w = signed 13 (bits w 31 31 * 2 ^ 12 + bits w 7 7 * 2 ^ 11 + bits w 30 25 * 2 ^ 5 + bits w 11 8 * 2)

-- the immediate that stands in a word of the J format
abbrev pub j_imm : ℕ → ℤ
j_imm w = signed 21 (bits w 31 31 * 2 ^ 20 + bits w 19 12 * 2 ^ 12 + bits w 20 20 * 2 ^ 11 + bits w 30 21 * 2)

-- the instruction with this opcode, funct3 and funct7 and with the operands that stand in the word
unfoldable pub by_code : ℕ → ℕ → ℕ → ℕ → Option Instr
by_code opcode funct3 funct7 w =
    let rd = bits w 11 7 in
    let rs1 = bits w 19 15 in
    let rs2 = bits w 24 20 in
    if opcode == 0b0110111 then Some (Lui rd (bits w 31 12)) else (
    if opcode == 0b0010111 then Some (Auipc rd (bits w 31 12)) else (
    if opcode == 0b1101111 then Some (Jal rd (j_imm w)) else (
    if (opcode == 0b1100111) && (funct3 == 0b000) then Some (Jalr rd rs1 (i_imm w)) else (
    if (opcode == 0b1100011) && (funct3 == 0b000) then Some (Beq rs1 rs2 (b_imm w)) else (
    if (opcode == 0b1100011) && (funct3 == 0b001) then Some (Bne rs1 rs2 (b_imm w)) else (
    if (opcode == 0b1100011) && (funct3 == 0b100) then Some (Blt rs1 rs2 (b_imm w)) else (
    if (opcode == 0b1100011) && (funct3 == 0b101) then Some (Bge rs1 rs2 (b_imm w)) else (
    if (opcode == 0b1100011) && (funct3 == 0b110) then Some (Bltu rs1 rs2 (b_imm w)) else (
    if (opcode == 0b1100011) && (funct3 == 0b111) then Some (Bgeu rs1 rs2 (b_imm w)) else (
    if (opcode == 0b0000011) && (funct3 == 0b000) then Some (Lb rd rs1 (i_imm w)) else (
    if (opcode == 0b0000011) && (funct3 == 0b001) then Some (Lh rd rs1 (i_imm w)) else (
    if (opcode == 0b0000011) && (funct3 == 0b010) then Some (Lw rd rs1 (i_imm w)) else (
    if (opcode == 0b0000011) && (funct3 == 0b100) then Some (Lbu rd rs1 (i_imm w)) else (
    if (opcode == 0b0000011) && (funct3 == 0b101) then Some (Lhu rd rs1 (i_imm w)) else (
    if (opcode == 0b0100011) && (funct3 == 0b000) then Some (Sb rs1 rs2 (s_imm w)) else (
    if (opcode == 0b0100011) && (funct3 == 0b001) then Some (Sh rs1 rs2 (s_imm w)) else (
    if (opcode == 0b0100011) && (funct3 == 0b010) then Some (Sw rs1 rs2 (s_imm w)) else (
    if (opcode == 0b0010011) && (funct3 == 0b000) then Some (Addi rd rs1 (i_imm w)) else (
    if (opcode == 0b0010011) && (funct3 == 0b010) then Some (Slti rd rs1 (i_imm w)) else (
    if (opcode == 0b0010011) && (funct3 == 0b011) then Some (Sltiu rd rs1 (i_imm w)) else (
    if (opcode == 0b0010011) && (funct3 == 0b100) then Some (Xori rd rs1 (i_imm w)) else (
    if (opcode == 0b0010011) && (funct3 == 0b110) then Some (Ori rd rs1 (i_imm w)) else (
    if (opcode == 0b0010011) && (funct3 == 0b111) then Some (Andi rd rs1 (i_imm w)) else (
    if (opcode == 0b0010011) && (funct3 == 0b001) && (funct7 == 0b0000000) then Some (Slli rd rs1 rs2) else (
    if (opcode == 0b0010011) && (funct3 == 0b101) && (funct7 == 0b0000000) then Some (Srli rd rs1 rs2) else (
    if (opcode == 0b0010011) && (funct3 == 0b101) && (funct7 == 0b0100000) then Some (Srai rd rs1 rs2) else (
    if (opcode == 0b0110011) && (funct3 == 0b000) && (funct7 == 0b0000000) then Some (Add rd rs1 rs2) else (
    if (opcode == 0b0110011) && (funct3 == 0b000) && (funct7 == 0b0100000) then Some (Sub rd rs1 rs2) else (
    if (opcode == 0b0110011) && (funct3 == 0b001) && (funct7 == 0b0000000) then Some (Sll rd rs1 rs2) else (
    if (opcode == 0b0110011) && (funct3 == 0b010) && (funct7 == 0b0000000) then Some (Slt rd rs1 rs2) else (
    if (opcode == 0b0110011) && (funct3 == 0b011) && (funct7 == 0b0000000) then Some (Sltu rd rs1 rs2) else (
    if (opcode == 0b0110011) && (funct3 == 0b100) && (funct7 == 0b0000000) then Some (Xor rd rs1 rs2) else (
    if (opcode == 0b0110011) && (funct3 == 0b101) && (funct7 == 0b0000000) then Some (Srl rd rs1 rs2) else (
    if (opcode == 0b0110011) && (funct3 == 0b101) && (funct7 == 0b0100000) then Some (Sra rd rs1 rs2) else (
    if (opcode == 0b0110011) && (funct3 == 0b110) && (funct7 == 0b0000000) then Some (Or rd rs1 rs2) else (
    if (opcode == 0b0110011) && (funct3 == 0b111) && (funct7 == 0b0000000) then Some (And rd rs1 rs2) else (
    if (opcode == 0b0001111) && (funct3 == 0b000) then Some (Fence rd rs1 (i_imm w)) else (
    if w == 0x00000073 then Some Ecall else (
    if w == 0x00100073 then Some Ebreak else (
    None
    ))))))))))))))))))))))))))))))))))))))))

-- the instruction that a word stands for: none where no line of the table has the word
unfoldable pub decoded : ℕ → Option Instr
decoded w = by_code (bits w 6 0) (bits w 14 12) (bits w 31 25) w
