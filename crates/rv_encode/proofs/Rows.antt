-- A word has one instruction at most: the one that its opcode, funct3 and funct7 name, with the operands
-- that stand in its other fields.
use Rattle.std.proofs.Common.{◌≡◌, ℕ, ◌+◌, ◌*◌, ◌<◌, ◌^◌, ◌%◌, refl, arith, lit<, sym, ◌∙◌}
use Rattle.std.proofs.lemmas.Int.{ints}
use Rattle.std.specs.Prelude.{ℤ, Option, Some}
use Rattle.rv_isa.specs.declared.instr.Instr.{Instr}
use Rattle.rv_isa.specs.declared.instr.Instr.TheVariants.{Lui, Auipc, Jal, Jalr, Beq, Bne, Blt, Bge, Bltu, Bgeu, Lb, Lh, Lw, Lbu, Lhu, Sb, Sh, Sw, Addi, Slti, Sltiu, Xori, Ori, Andi, Slli, Srli, Srai}
use Rattle.rv_isa.specs.declared.instr.Instr.TheVariants.{Add, Sub, Sll, Slt, Sltu, Xor, Srl, Sra, Or, And, Fence, Ecall, Ebreak}
use Rattle.rv_encode.specs.Format.{bits, twos_complement, IsR, IsI, IsShiftI, IsS, IsB, IsU, IsJ}
use Rattle.rv_encode.specs.Table.{Row}
use Rattle.rv_encode.specs.Decoded.{by_code, decoded, i_imm, s_imm, b_imm, j_imm}
use Rattle.rv_encode.proofs.Fields.{signed12, signed13, signed21, even}

abbrev instr_at : ℕ → Option Instr
instr_at w = by_code (bits w 6 0) (bits w 14 12) (bits w 31 25) w

-- one lemma for each format, at the instruction that it makes of its operands
module _ (w o f g : ℕ) (o_fits : o < 2 ^ 7) (f_fits : f < 2 ^ 3) (g_fits : g < 2 ^ 7) where
  r_at : (make : ℕ → ℕ → ℕ → Instr) (rd rs1 rs2 : ℕ) → ((v : ℕ) → by_code o f g v ≡ Some (make (bits v 11 7) (bits v 19 15) (bits v 24 20))) → IsR w o f g rd rs1 rs2 → instr_at w ≡ Some (make rd rs1 rs2)
  r_at make rd rs1 rs2 named h =
      let opcode : bits w 6 0 ≡ o = omega arith in
      let funct3 : bits w 14 12 ≡ f = omega arith in
      let funct7 : bits w 31 25 ≡ g = omega arith in
      let first : bits w 11 7 ≡ rd = omega arith in
      let second : bits w 19 15 ≡ rs1 = omega arith in
      let third : bits w 24 20 ≡ rs2 = omega arith in
      let row = named w in cc

  shift_at : (make : ℕ → ℕ → ℕ → Instr) (rd rs1 shift : ℕ) → ((v : ℕ) → by_code o f g v ≡ Some (make (bits v 11 7) (bits v 19 15) (bits v 24 20))) → IsShiftI w o f g rd rs1 shift → instr_at w ≡ Some (make rd rs1 shift)
  shift_at make rd rs1 shift named h =
      let opcode : bits w 6 0 ≡ o = omega arith in
      let funct3 : bits w 14 12 ≡ f = omega arith in
      let funct7 : bits w 31 25 ≡ g = omega arith in
      let first : bits w 11 7 ≡ rd = omega arith in
      let second : bits w 19 15 ≡ rs1 = omega arith in
      let third : bits w 24 20 ≡ shift = omega arith in
      let row = named w in cc

module _ (w o f : ℕ) (o_fits : o < 2 ^ 7) (f_fits : f < 2 ^ 3) where
  i_at : (make : ℕ → ℕ → ℤ → Instr) (rd rs1 : ℕ) (imm : ℤ) → ((g v : ℕ) → by_code o f g v ≡ Some (make (bits v 11 7) (bits v 19 15) (i_imm v))) → IsI w o f rd rs1 imm → instr_at w ≡ Some (make rd rs1 imm)
  i_at make rd rs1 imm named h =
      let opcode : bits w 6 0 ≡ o = omega arith in
      let funct3 : bits w 14 12 ≡ f = omega arith in
      let first : bits w 11 7 ≡ rd = omega arith in
      let second : bits w 19 15 ≡ rs1 = omega arith in
      let field : bits w 31 20 ≡ twos_complement imm % 2 ^ 12 = omega arith in
      let third = signed12 (bits w 31 20) imm h.imm_in_range field in
      let row = named (bits w 31 25) w in cc

  s_at : (make : ℕ → ℕ → ℤ → Instr) (rs1 rs2 : ℕ) (imm : ℤ) → ((g v : ℕ) → by_code o f g v ≡ Some (make (bits v 19 15) (bits v 24 20) (s_imm v))) → IsS w o f rs1 rs2 imm → instr_at w ≡ Some (make rs1 rs2 imm)
  s_at make rs1 rs2 imm named h =
      let opcode : bits w 6 0 ≡ o = omega arith in
      let funct3 : bits w 14 12 ≡ f = omega arith in
      let first : bits w 19 15 ≡ rs1 = omega arith in
      let second : bits w 24 20 ≡ rs2 = omega arith in
      let field : bits w 31 25 * 2 ^ 5 + bits w 11 7 ≡ twos_complement imm % 2 ^ 12 = omega arith in
      let third = signed12 (bits w 31 25 * 2 ^ 5 + bits w 11 7) imm h.imm_in_range field in
      let row = named (bits w 31 25) w in cc

  b_at : (make : ℕ → ℕ → ℤ → Instr) (rs1 rs2 : ℕ) (imm : ℤ) → ((g v : ℕ) → by_code o f g v ≡ Some (make (bits v 19 15) (bits v 24 20) (b_imm v))) → IsB w o f rs1 rs2 imm → instr_at w ≡ Some (make rs1 rs2 imm)
  b_at make rs1 rs2 imm named h =
      let opcode : bits w 6 0 ≡ o = omega arith in
      let funct3 : bits w 14 12 ≡ f = omega arith in
      let first : bits w 19 15 ≡ rs1 = omega arith in
      let second : bits w 24 20 ≡ rs2 = omega arith in
      let even_imm : twos_complement imm % 2 ≡ 0 = even imm h.imm_in_range.2 (omega (arith, ints)) in
      let field : bits w 31 31 * 2 ^ 12 + bits w 7 7 * 2 ^ 11 + bits w 30 25 * 2 ^ 5 + bits w 11 8 * 2 ≡ twos_complement imm % 2 ^ 13 = omega arith in
      let third = signed13 (bits w 31 31 * 2 ^ 12 + bits w 7 7 * 2 ^ 11 + bits w 30 25 * 2 ^ 5 + bits w 11 8 * 2) imm h.imm_in_range field in
      let row = named (bits w 31 25) w in cc

module _ (w o : ℕ) (o_fits : o < 2 ^ 7) where
  u_at : (make : ℕ → ℕ → Instr) (rd imm : ℕ) → ((f g v : ℕ) → by_code o f g v ≡ Some (make (bits v 11 7) (bits v 31 12))) → IsU w o rd imm → instr_at w ≡ Some (make rd imm)
  u_at make rd imm named h =
      let opcode : bits w 6 0 ≡ o = omega arith in
      let first : bits w 11 7 ≡ rd = omega arith in
      let second : bits w 31 12 ≡ imm = omega arith in
      let row = named (bits w 14 12) (bits w 31 25) w in cc

  j_at : (make : ℕ → ℤ → Instr) (rd : ℕ) (imm : ℤ) → ((f g v : ℕ) → by_code o f g v ≡ Some (make (bits v 11 7) (j_imm v))) → IsJ w o rd imm → instr_at w ≡ Some (make rd imm)
  j_at make rd imm named h =
      let opcode : bits w 6 0 ≡ o = omega arith in
      let first : bits w 11 7 ≡ rd = omega arith in
      let even_imm : twos_complement imm % 2 ≡ 0 = even imm h.imm_in_range.2 (omega (arith, ints)) in
      let field : bits w 31 31 * 2 ^ 20 + bits w 19 12 * 2 ^ 12 + bits w 20 20 * 2 ^ 11 + bits w 30 21 * 2 ≡ twos_complement imm % 2 ^ 21 = omega arith in
      let second = signed21 (bits w 31 31 * 2 ^ 20 + bits w 19 12 * 2 ^ 12 + bits w 20 20 * 2 ^ 11 + bits w 30 21 * 2) imm h.imm_in_range field in
      let row = named (bits w 14 12) (bits w 31 25) w in cc

-- the row of a word is what its code names
at_row : (w : ℕ) (instr : Instr) → Row w instr → instr_at w ≡ Some instr
unfolding by_code Row
at_row w (Lui rd imm) h = u_at w 0b0110111 (lit< tt) Lui rd imm (λ f g v. refl) h
at_row w (Auipc rd imm) h = u_at w 0b0010111 (lit< tt) Auipc rd imm (λ f g v. refl) h
at_row w (Jal rd imm) h = j_at w 0b1101111 (lit< tt) Jal rd imm (λ f g v. refl) h
at_row w (Jalr rd rs1 imm) h = i_at w 0b1100111 0b000 (lit< tt) (lit< tt) Jalr rd rs1 imm (λ g v. refl) h
at_row w (Beq rs1 rs2 imm) h = b_at w 0b1100011 0b000 (lit< tt) (lit< tt) Beq rs1 rs2 imm (λ g v. refl) h
at_row w (Bne rs1 rs2 imm) h = b_at w 0b1100011 0b001 (lit< tt) (lit< tt) Bne rs1 rs2 imm (λ g v. refl) h
at_row w (Blt rs1 rs2 imm) h = b_at w 0b1100011 0b100 (lit< tt) (lit< tt) Blt rs1 rs2 imm (λ g v. refl) h
at_row w (Bge rs1 rs2 imm) h = b_at w 0b1100011 0b101 (lit< tt) (lit< tt) Bge rs1 rs2 imm (λ g v. refl) h
at_row w (Bltu rs1 rs2 imm) h = b_at w 0b1100011 0b110 (lit< tt) (lit< tt) Bltu rs1 rs2 imm (λ g v. refl) h
at_row w (Bgeu rs1 rs2 imm) h = b_at w 0b1100011 0b111 (lit< tt) (lit< tt) Bgeu rs1 rs2 imm (λ g v. refl) h
at_row w (Lb rd rs1 imm) h = i_at w 0b0000011 0b000 (lit< tt) (lit< tt) Lb rd rs1 imm (λ g v. refl) h
at_row w (Lh rd rs1 imm) h = i_at w 0b0000011 0b001 (lit< tt) (lit< tt) Lh rd rs1 imm (λ g v. refl) h
at_row w (Lw rd rs1 imm) h = i_at w 0b0000011 0b010 (lit< tt) (lit< tt) Lw rd rs1 imm (λ g v. refl) h
at_row w (Lbu rd rs1 imm) h = i_at w 0b0000011 0b100 (lit< tt) (lit< tt) Lbu rd rs1 imm (λ g v. refl) h
at_row w (Lhu rd rs1 imm) h = i_at w 0b0000011 0b101 (lit< tt) (lit< tt) Lhu rd rs1 imm (λ g v. refl) h
at_row w (Sb rs1 rs2 imm) h = s_at w 0b0100011 0b000 (lit< tt) (lit< tt) Sb rs1 rs2 imm (λ g v. refl) h
at_row w (Sh rs1 rs2 imm) h = s_at w 0b0100011 0b001 (lit< tt) (lit< tt) Sh rs1 rs2 imm (λ g v. refl) h
at_row w (Sw rs1 rs2 imm) h = s_at w 0b0100011 0b010 (lit< tt) (lit< tt) Sw rs1 rs2 imm (λ g v. refl) h
at_row w (Addi rd rs1 imm) h = i_at w 0b0010011 0b000 (lit< tt) (lit< tt) Addi rd rs1 imm (λ g v. refl) h
at_row w (Slti rd rs1 imm) h = i_at w 0b0010011 0b010 (lit< tt) (lit< tt) Slti rd rs1 imm (λ g v. refl) h
at_row w (Sltiu rd rs1 imm) h = i_at w 0b0010011 0b011 (lit< tt) (lit< tt) Sltiu rd rs1 imm (λ g v. refl) h
at_row w (Xori rd rs1 imm) h = i_at w 0b0010011 0b100 (lit< tt) (lit< tt) Xori rd rs1 imm (λ g v. refl) h
at_row w (Ori rd rs1 imm) h = i_at w 0b0010011 0b110 (lit< tt) (lit< tt) Ori rd rs1 imm (λ g v. refl) h
at_row w (Andi rd rs1 imm) h = i_at w 0b0010011 0b111 (lit< tt) (lit< tt) Andi rd rs1 imm (λ g v. refl) h
at_row w (Slli rd rs1 shift) h = shift_at w 0b0010011 0b001 0b0000000 (lit< tt) (lit< tt) (lit< tt) Slli rd rs1 shift (λ v. refl) h
at_row w (Srli rd rs1 shift) h = shift_at w 0b0010011 0b101 0b0000000 (lit< tt) (lit< tt) (lit< tt) Srli rd rs1 shift (λ v. refl) h
at_row w (Srai rd rs1 shift) h = shift_at w 0b0010011 0b101 0b0100000 (lit< tt) (lit< tt) (lit< tt) Srai rd rs1 shift (λ v. refl) h
at_row w (Add rd rs1 rs2) h = r_at w 0b0110011 0b000 0b0000000 (lit< tt) (lit< tt) (lit< tt) Add rd rs1 rs2 (λ v. refl) h
at_row w (Sub rd rs1 rs2) h = r_at w 0b0110011 0b000 0b0100000 (lit< tt) (lit< tt) (lit< tt) Sub rd rs1 rs2 (λ v. refl) h
at_row w (Sll rd rs1 rs2) h = r_at w 0b0110011 0b001 0b0000000 (lit< tt) (lit< tt) (lit< tt) Sll rd rs1 rs2 (λ v. refl) h
at_row w (Slt rd rs1 rs2) h = r_at w 0b0110011 0b010 0b0000000 (lit< tt) (lit< tt) (lit< tt) Slt rd rs1 rs2 (λ v. refl) h
at_row w (Sltu rd rs1 rs2) h = r_at w 0b0110011 0b011 0b0000000 (lit< tt) (lit< tt) (lit< tt) Sltu rd rs1 rs2 (λ v. refl) h
at_row w (Xor rd rs1 rs2) h = r_at w 0b0110011 0b100 0b0000000 (lit< tt) (lit< tt) (lit< tt) Xor rd rs1 rs2 (λ v. refl) h
at_row w (Srl rd rs1 rs2) h = r_at w 0b0110011 0b101 0b0000000 (lit< tt) (lit< tt) (lit< tt) Srl rd rs1 rs2 (λ v. refl) h
at_row w (Sra rd rs1 rs2) h = r_at w 0b0110011 0b101 0b0100000 (lit< tt) (lit< tt) (lit< tt) Sra rd rs1 rs2 (λ v. refl) h
at_row w (Or rd rs1 rs2) h = r_at w 0b0110011 0b110 0b0000000 (lit< tt) (lit< tt) (lit< tt) Or rd rs1 rs2 (λ v. refl) h
at_row w (And rd rs1 rs2) h = r_at w 0b0110011 0b111 0b0000000 (lit< tt) (lit< tt) (lit< tt) And rd rs1 rs2 (λ v. refl) h
at_row w (Fence rd rs1 imm) h = i_at w 0b0001111 0b000 (lit< tt) (lit< tt) Fence rd rs1 imm (λ g v. refl) h
at_row w Ecall h = rw h refl
at_row w Ebreak h = rw h refl

pub same : (left right : Instr) → Some left ≡ Some right → left ≡ right
same left right e = cc

-- a word with a row is decoded to the row's instruction
pub row-decoded : (word : ℕ) (instr : Instr) → Row word instr → decoded word ≡ Some instr
unfolding decoded
row-decoded word instr h = at_row word instr h

pub one_instruction : (word : ℕ) (left right : Instr) → Row word left → Row word right → left ≡ right
one_instruction word left right h k = same left right (sym (at_row word left h) ∙ at_row word right k)
