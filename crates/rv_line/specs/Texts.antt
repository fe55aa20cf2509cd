-- The text of instructions and of words: what a listing writes.
use Rattle.std.specs.Prelude.{ℕ, suc, ◌*◌, ℤ, List, [], ◌∷◌, ◌++◌, codes, Option, None, Some}
use Rattle.std.specs.Fmt.{decimal, signed_decimal}
use Rattle.text_core.specs.Hexadecimal.{hex8}
use Rattle.rv_isa.specs.declared.instr.Instr.{Instr}
use Rattle.rv_isa.specs.declared.instr.Instr.TheVariants.{Lui, Auipc, Jal, Jalr, Beq, Bne, Blt, Bge, Bltu, Bgeu, Lb, Lh, Lw, Lbu, Lhu, Sb, Sh, Sw, Addi, Slti, Sltiu, Xori, Ori, Andi, Slli, Srli, Srai}
use Rattle.rv_isa.specs.declared.instr.Instr.TheVariants.{Add, Sub, Sll, Slt, Sltu, Xor, Srl, Sra, Or, And, Fence, Ecall, Ebreak}
use Rattle.rv_encode.specs.Decoded.{decoded}

-- `xR`
abbrev pub register_text : ℕ → List ℕ
register_text r = 120 ∷ decimal r

-- `, `
abbrev pub comma_text : List ℕ → List ℕ
comma_text rest = 44 ∷ 32 ∷ rest

-- the operands with the space before them, in the forms that assembly text has

-- ` xD, xA, xB`
unfoldable pub registers_text : ℕ → ℕ → ℕ → List ℕ
registers_text rd rs1 rs2 = 32 ∷ (register_text rd ++ comma_text (register_text rs1 ++ comma_text (register_text rs2)))

-- ` xD, xA, N`
unfoldable pub immediate_text : ℕ → ℕ → ℤ → List ℕ
immediate_text rd rs1 imm = 32 ∷ (register_text rd ++ comma_text (register_text rs1 ++ comma_text (signed_decimal imm)))

-- ` xD, xA, N`
unfoldable pub shift_text : ℕ → ℕ → ℕ → List ℕ
shift_text rd rs1 shift = 32 ∷ (register_text rd ++ comma_text (register_text rs1 ++ comma_text (decimal shift)))

-- ` xD, N(xA)`
unfoldable pub load_text : ℕ → ℕ → ℤ → List ℕ
load_text rd rs1 imm = 32 ∷ (register_text rd ++ comma_text (signed_decimal imm ++ 40 ∷ (register_text rs1 ++ 41 ∷ [])))

-- ` xB, N(xA)`
unfoldable pub store_text : ℕ → ℕ → ℤ → List ℕ
store_text rs1 rs2 imm = load_text rs2 rs1 imm

-- ` xA, xB, N`
unfoldable pub branch_text : ℕ → ℕ → ℤ → List ℕ
branch_text rs1 rs2 imm = immediate_text rs1 rs2 imm

-- ` xD, N`
unfoldable pub jump_text : ℕ → ℤ → List ℕ
jump_text rd imm = 32 ∷ (register_text rd ++ comma_text (signed_decimal imm))

-- ` xD, N`
unfoldable pub upper_text : ℕ → ℕ → List ℕ
upper_text rd imm = 32 ∷ (register_text rd ++ comma_text (decimal imm))

-- ` N, xA, xD`
unfoldable pub fence_text : ℕ → ℕ → ℤ → List ℕ
fence_text rd rs1 imm = 32 ∷ (signed_decimal imm ++ comma_text (register_text rs1 ++ comma_text (register_text rd)))

-- the text of an instruction: one line for each instruction
unfoldable pub instr_text : Instr → List ℕ
instr_text (Lui rd imm) = codes "lui" ++ upper_text rd imm
instr_text (Auipc rd imm) = codes "auipc" ++ upper_text rd imm
instr_text (Jal rd imm) = codes "jal" ++ jump_text rd imm
instr_text (Jalr rd rs1 imm) = codes "jalr" ++ load_text rd rs1 imm
instr_text (Beq rs1 rs2 imm) = codes "beq" ++ branch_text rs1 rs2 imm
instr_text (Bne rs1 rs2 imm) = codes "bne" ++ branch_text rs1 rs2 imm
instr_text (Blt rs1 rs2 imm) = codes "blt" ++ branch_text rs1 rs2 imm
instr_text (Bge rs1 rs2 imm) = codes "bge" ++ branch_text rs1 rs2 imm
instr_text (Bltu rs1 rs2 imm) = codes "bltu" ++ branch_text rs1 rs2 imm
instr_text (Bgeu rs1 rs2 imm) = codes "bgeu" ++ branch_text rs1 rs2 imm
instr_text (Lb rd rs1 imm) = codes "lb" ++ load_text rd rs1 imm
instr_text (Lh rd rs1 imm) = codes "lh" ++ load_text rd rs1 imm
instr_text (Lw rd rs1 imm) = codes "lw" ++ load_text rd rs1 imm
instr_text (Lbu rd rs1 imm) = codes "lbu" ++ load_text rd rs1 imm
instr_text (Lhu rd rs1 imm) = codes "lhu" ++ load_text rd rs1 imm
instr_text (Sb rs1 rs2 imm) = codes "sb" ++ store_text rs1 rs2 imm
instr_text (Sh rs1 rs2 imm) = codes "sh" ++ store_text rs1 rs2 imm
instr_text (Sw rs1 rs2 imm) = codes "sw" ++ store_text rs1 rs2 imm
instr_text (Addi rd rs1 imm) = codes "addi" ++ immediate_text rd rs1 imm
instr_text (Slti rd rs1 imm) = codes "slti" ++ immediate_text rd rs1 imm
instr_text (Sltiu rd rs1 imm) = codes "sltiu" ++ immediate_text rd rs1 imm
instr_text (Xori rd rs1 imm) = codes "xori" ++ immediate_text rd rs1 imm
instr_text (Ori rd rs1 imm) = codes "ori" ++ immediate_text rd rs1 imm
instr_text (Andi rd rs1 imm) = codes "andi" ++ immediate_text rd rs1 imm
instr_text (Slli rd rs1 shift) = codes "slli" ++ shift_text rd rs1 shift
instr_text (Srli rd rs1 shift) = codes "srli" ++ shift_text rd rs1 shift
instr_text (Srai rd rs1 shift) = codes "srai" ++ shift_text rd rs1 shift
instr_text (Add rd rs1 rs2) = codes "add" ++ registers_text rd rs1 rs2
instr_text (Sub rd rs1 rs2) = codes "sub" ++ registers_text rd rs1 rs2
instr_text (Sll rd rs1 rs2) = codes "sll" ++ registers_text rd rs1 rs2
instr_text (Slt rd rs1 rs2) = codes "slt" ++ registers_text rd rs1 rs2
instr_text (Sltu rd rs1 rs2) = codes "sltu" ++ registers_text rd rs1 rs2
instr_text (Xor rd rs1 rs2) = codes "xor" ++ registers_text rd rs1 rs2
instr_text (Srl rd rs1 rs2) = codes "srl" ++ registers_text rd rs1 rs2
instr_text (Sra rd rs1 rs2) = codes "sra" ++ registers_text rd rs1 rs2
instr_text (Or rd rs1 rs2) = codes "or" ++ registers_text rd rs1 rs2
instr_text (And rd rs1 rs2) = codes "and" ++ registers_text rd rs1 rs2
instr_text (Fence rd rs1 imm) = codes "fence" ++ fence_text rd rs1 imm
instr_text Ecall = codes "ecall"
instr_text Ebreak = codes "ebreak"

-- the text of a word: of its instruction, or of the number where it is no instruction's
abbrev pub said_text : ℕ → Option Instr → List ℕ
said_text w (Some instr) = instr_text instr
said_text w None = codes ".word 0x" ++ hex8 w

-- the line of a word at an address: what it says, and behind a number sign the address and the word
unfoldable pub line_text : ℕ → ℕ → List ℕ
line_text address w = said_text w (decoded w) ++ 32 ∷ 35 ∷ 32 ∷ (hex8 address ++ 32 ∷ hex8 w)

-- the lines of words, of which the first has the number `at`
abbrev pub listing_lines : ℕ → List ℕ → List (List ℕ)
listing_lines at [] = []
listing_lines at (w ∷ ws) = line_text (4 * at) w ∷ listing_lines (suc at) ws
