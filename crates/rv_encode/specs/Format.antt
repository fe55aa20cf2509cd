-- The formats of RV32I words, as the RISC-V Unprivileged manual draws them: which field stands where.
use Rattle.std.specs.Prelude.{◌≡◌, ℕ, suc, ◌+◌, ◌-◌, ◌*◌, ◌/◌, ◌%◌, ◌^◌, ℤ}
use Rattle.std.specs.Int.{w32, cast_unsigned}
use Rattle.rv_isa.specs.Operand.{IsReg, IsImm12, IsImmB, IsImmJ, IsImmU, IsShift}

-- n[high:low], the bits of n from high down to low, as a number
abbrev pub bits : ℕ → ℕ → ℕ → ℕ
bits n high low = n / 2 ^ low % 2 ^ (suc high - low)

-- the 32 bits of a signed number in two's complement
abbrev pub twos_complement : ℤ → ℕ
twos_complement z = cast_unsigned w32 z

-- funct7 31:25, rs2 24:20, rs1 19:15, funct3 14:12, rd 11:7, opcode 6:0
abbrev pub r_word : ℕ → ℕ → ℕ → ℕ → ℕ → ℕ → ℕ
r_word opcode funct3 funct7 rd rs1 rs2 =
    funct7 * 2 ^ 25 + rs2 * 2 ^ 20 + rs1 * 2 ^ 15 + funct3 * 2 ^ 12 + rd * 2 ^ 7 + opcode

-- imm[11:0] 31:20, rs1 19:15, funct3 14:12, rd 11:7, opcode 6:0
abbrev pub i_word : ℕ → ℕ → ℕ → ℕ → ℕ → ℕ
i_word opcode funct3 rd rs1 imm =
    bits imm 11 0 * 2 ^ 20 + rs1 * 2 ^ 15 + funct3 * 2 ^ 12 + rd * 2 ^ 7 + opcode

-- imm[11:5] 31:25, rs2 24:20, rs1 19:15, funct3 14:12, imm[4:0] 11:7, opcode 6:0
abbrev pub s_word : ℕ → ℕ → ℕ → ℕ → ℕ → ℕ
s_word opcode funct3 rs1 rs2 imm =
    bits imm 11 5 * 2 ^ 25 + rs2 * 2 ^ 20 + rs1 * 2 ^ 15 + funct3 * 2 ^ 12 + bits imm 4 0 * 2 ^ 7 + opcode

-- imm[12] 31, imm[10:5] 30:25, rs2 24:20, rs1 19:15, funct3 14:12, imm[4:1] 11:8, imm[11] 7, opcode 6:0
abbrev pub b_word : ℕ → ℕ → ℕ → ℕ → ℕ → ℕ
b_word opcode funct3 rs1 rs2 imm =
    bits imm 12 12 * 2 ^ 31 + bits imm 10 5 * 2 ^ 25 + rs2 * 2 ^ 20 + rs1 * 2 ^ 15 + funct3 * 2 ^ 12
    + bits imm 4 1 * 2 ^ 8 + bits imm 11 11 * 2 ^ 7 + opcode

-- imm[31:12] 31:12, rd 11:7, opcode 6:0, where upper is imm[31:12]
abbrev pub u_word : ℕ → ℕ → ℕ → ℕ
u_word opcode rd upper = upper * 2 ^ 12 + rd * 2 ^ 7 + opcode

-- imm[20] 31, imm[10:1] 30:21, imm[11] 20, imm[19:12] 19:12, rd 11:7, opcode 6:0
abbrev pub j_word : ℕ → ℕ → ℕ → ℕ
j_word opcode rd imm =
    bits imm 20 20 * 2 ^ 31 + bits imm 10 1 * 2 ^ 21 + bits imm 11 11 * 2 ^ 20 + bits imm 19 12 * 2 ^ 12
    + rd * 2 ^ 7 + opcode

-- the word of the R format with these fields
pub record IsR (word opcode funct3 funct7 rd rs1 rs2 : ℕ) : Type 0 where
  pub rd_in_range : IsReg rd
  pub rs1_in_range : IsReg rs1
  pub rs2_in_range : IsReg rs2
  pub word_is : word ≡ r_word opcode funct3 funct7 rd rs1 rs2

-- the word of the I format with these fields
pub record IsI (word opcode funct3 rd rs1 : ℕ) (imm : ℤ) : Type 0 where
  pub rd_in_range : IsReg rd
  pub rs1_in_range : IsReg rs1
  pub imm_in_range : IsImm12 imm
  pub word_is : word ≡ i_word opcode funct3 rd rs1 (twos_complement imm)

-- the word of the I format with these fields, where imm[11:5] is fixed and imm[4:0] is a shift
pub record IsShiftI (word opcode funct3 funct7 rd rs1 shift : ℕ) : Type 0 where
  pub rd_in_range : IsReg rd
  pub rs1_in_range : IsReg rs1
  pub shift_in_range : IsShift shift
  pub word_is : word ≡ i_word opcode funct3 rd rs1 (funct7 * 2 ^ 5 + shift)

-- the word of the S format with these fields
pub record IsS (word opcode funct3 rs1 rs2 : ℕ) (imm : ℤ) : Type 0 where
  pub rs1_in_range : IsReg rs1
  pub rs2_in_range : IsReg rs2
  pub imm_in_range : IsImm12 imm
  pub word_is : word ≡ s_word opcode funct3 rs1 rs2 (twos_complement imm)

-- the word of the B format with these fields
pub record IsB (word opcode funct3 rs1 rs2 : ℕ) (imm : ℤ) : Type 0 where
  pub rs1_in_range : IsReg rs1
  pub rs2_in_range : IsReg rs2
  pub imm_in_range : IsImmB imm
  pub word_is : word ≡ b_word opcode funct3 rs1 rs2 (twos_complement imm)

-- the word of the U format with these fields
pub record IsU (word opcode rd imm : ℕ) : Type 0 where
  pub rd_in_range : IsReg rd
  pub imm_in_range : IsImmU imm
  pub word_is : word ≡ u_word opcode rd imm

-- the word of the J format with these fields
pub record IsJ (word opcode rd : ℕ) (imm : ℤ) : Type 0 where
  pub rd_in_range : IsReg rd
  pub imm_in_range : IsImmJ imm
  pub word_is : word ≡ j_word opcode rd (twos_complement imm)
