-- The line of a listing is one line.
use Rattle.std.proofs.Common.{◌≡◌, ℕ, suc, ◌<◌, ℤ, pos, negsuc, true, List, [], ◌∷◌, ◌++◌, Option, Some, None, codes, refl, arith, lit<}
use Rattle.std.specs.Fmt.{decimal, signed_decimal}
use Rattle.std.specs.List.{AllByRecursion}
use Rattle.rv_isa.specs.declared.instr.Instr.{Instr}
use Rattle.rv_isa.specs.declared.instr.Instr.TheVariants.{Lui, Auipc, Jal, Jalr, Beq, Bne, Blt, Bge, Bltu, Bgeu, Lb, Lh, Lw, Lbu, Lhu, Sb, Sh, Sw, Addi, Slti, Sltiu, Xori, Ori, Andi, Slli, Srli, Srai}
use Rattle.rv_isa.specs.declared.instr.Instr.TheVariants.{Add, Sub, Sll, Slt, Sltu, Xor, Srl, Sra, Or, And, Fence, Ecall, Ebreak}
use Rattle.rv_encode.specs.Decoded.{decoded}
use Rattle.text_core.specs.Hexadecimal.{hex8}
use Rattle.rv_line.specs.Laws.{ListingIsLine}
use Rattle.rv_line.specs.Texts.{branch_text, comma_text, fence_text, immediate_text, instr_text, jump_text, line_text, load_text, register_text, registers_text, said_text, shift_text, store_text, upper_text}
use Rattle.rv_line.proofs.WordPieces.{IsPlain, all_plain, digits_plain, hex8_plain, plain_bytes}

-- no byte is a line feed or a carriage return
abbrev IsLine : List ℕ → Type 0
IsLine = AllByRecursion (λ c. 13 < c)

append : (xs ys : List ℕ) → IsLine xs → IsLine ys → IsLine (xs ++ ys)
append [] ys p q = q
append (x ∷ xs) ys p q = (p.0, append xs ys p.1 q)

plain_line : (w : List ℕ) → AllByRecursion IsPlain w → IsLine w
plain_line [] p = tt
plain_line (c ∷ cs) p = let above = p.0.0 in (omega arith, plain_line cs p.1)

decimal_line : (n : ℕ) → IsLine (decimal n)
decimal_line n = plain_line (decimal n) (digits_plain n)

hex8_line : (n : ℕ) → IsLine (hex8 n)
hex8_line n = plain_line (hex8 n) (hex8_plain n)

register_line : (r : ℕ) → IsLine (register_text r)
register_line r = (lit< tt, decimal_line r)

signed_line : (z : ℤ) → IsLine (signed_decimal z)
signed_line (pos n) = decimal_line n
signed_line (negsuc n) = (lit< tt, decimal_line (suc n))

three : (a b c : List ℕ) → IsLine a → IsLine b → IsLine c → IsLine (32 ∷ (a ++ comma_text (b ++ comma_text c)))
three a b c p q r = (lit< tt, append a (comma_text (b ++ comma_text c)) p (lit< tt, (lit< tt, append b (comma_text c) q (lit< tt, (lit< tt, r)))))

two : (a b : List ℕ) → IsLine a → IsLine b → IsLine (32 ∷ (a ++ comma_text b))
two a b p q = (lit< tt, append a (comma_text b) p (lit< tt, (lit< tt, q)))

registers_line : (rd rs1 rs2 : ℕ) → IsLine (registers_text rd rs1 rs2)
unfolding registers_text
registers_line rd rs1 rs2 = three (register_text rd) (register_text rs1) (register_text rs2) (register_line rd) (register_line rs1) (register_line rs2)

immediate_line : (rd rs1 : ℕ) (imm : ℤ) → IsLine (immediate_text rd rs1 imm)
unfolding immediate_text
immediate_line rd rs1 imm = three (register_text rd) (register_text rs1) (signed_decimal imm) (register_line rd) (register_line rs1) (signed_line imm)

shift_line : (rd rs1 bits : ℕ) → IsLine (shift_text rd rs1 bits)
unfolding shift_text
shift_line rd rs1 bits = three (register_text rd) (register_text rs1) (decimal bits) (register_line rd) (register_line rs1) (decimal_line bits)

load_line : (rd rs1 : ℕ) (imm : ℤ) → IsLine (load_text rd rs1 imm)
unfolding load_text
load_line rd rs1 imm =
    let base = append (register_text rs1) (41 ∷ []) (register_line rs1) (lit< tt, tt) in
    two (register_text rd) (signed_decimal imm ++ 40 ∷ (register_text rs1 ++ 41 ∷ [])) (register_line rd) (append (signed_decimal imm) (40 ∷ (register_text rs1 ++ 41 ∷ [])) (signed_line imm) (lit< tt, base))

store_line : (rs1 rs2 : ℕ) (imm : ℤ) → IsLine (store_text rs1 rs2 imm)
unfolding store_text
store_line rs1 rs2 imm = load_line rs2 rs1 imm

branch_line : (rs1 rs2 : ℕ) (imm : ℤ) → IsLine (branch_text rs1 rs2 imm)
unfolding branch_text
branch_line rs1 rs2 imm = immediate_line rs1 rs2 imm

jump_line : (rd : ℕ) (imm : ℤ) → IsLine (jump_text rd imm)
unfolding jump_text
jump_line rd imm = two (register_text rd) (signed_decimal imm) (register_line rd) (signed_line imm)

upper_line : (rd imm : ℕ) → IsLine (upper_text rd imm)
unfolding upper_text
upper_line rd imm = two (register_text rd) (decimal imm) (register_line rd) (decimal_line imm)

fence_line : (rd rs1 : ℕ) (imm : ℤ) → IsLine (fence_text rd rs1 imm)
unfolding fence_text
fence_line rd rs1 imm = three (signed_decimal imm) (register_text rs1) (register_text rd) (signed_line imm) (register_line rs1) (register_line rd)

by_mnemonic : (mnemonic text : List ℕ) → all_plain mnemonic ≡ true → IsLine text → IsLine (mnemonic ++ text)
by_mnemonic mnemonic text t p = append mnemonic text (plain_line mnemonic (plain_bytes mnemonic t)) p

instr_is_line : (instr : Instr) → IsLine (instr_text instr)
unfolding instr_text
instr_is_line (Lui rd imm) = by_mnemonic (codes "lui") (upper_text rd imm) refl (upper_line rd imm)
instr_is_line (Auipc rd imm) = by_mnemonic (codes "auipc") (upper_text rd imm) refl (upper_line rd imm)
instr_is_line (Jal rd imm) = by_mnemonic (codes "jal") (jump_text rd imm) refl (jump_line rd imm)
instr_is_line (Jalr rd rs1 imm) = by_mnemonic (codes "jalr") (load_text rd rs1 imm) refl (load_line rd rs1 imm)
instr_is_line (Beq rs1 rs2 imm) = by_mnemonic (codes "beq") (branch_text rs1 rs2 imm) refl (branch_line rs1 rs2 imm)
instr_is_line (Bne rs1 rs2 imm) = by_mnemonic (codes "bne") (branch_text rs1 rs2 imm) refl (branch_line rs1 rs2 imm)
instr_is_line (Blt rs1 rs2 imm) = by_mnemonic (codes "blt") (branch_text rs1 rs2 imm) refl (branch_line rs1 rs2 imm)
instr_is_line (Bge rs1 rs2 imm) = by_mnemonic (codes "bge") (branch_text rs1 rs2 imm) refl (branch_line rs1 rs2 imm)
instr_is_line (Bltu rs1 rs2 imm) = by_mnemonic (codes "bltu") (branch_text rs1 rs2 imm) refl (branch_line rs1 rs2 imm)
instr_is_line (Bgeu rs1 rs2 imm) = by_mnemonic (codes "bgeu") (branch_text rs1 rs2 imm) refl (branch_line rs1 rs2 imm)
instr_is_line (Lb rd rs1 imm) = by_mnemonic (codes "lb") (load_text rd rs1 imm) refl (load_line rd rs1 imm)
instr_is_line (Lh rd rs1 imm) = by_mnemonic (codes "lh") (load_text rd rs1 imm) refl (load_line rd rs1 imm)
instr_is_line (Lw rd rs1 imm) = by_mnemonic (codes "lw") (load_text rd rs1 imm) refl (load_line rd rs1 imm)
instr_is_line (Lbu rd rs1 imm) = by_mnemonic (codes "lbu") (load_text rd rs1 imm) refl (load_line rd rs1 imm)
instr_is_line (Lhu rd rs1 imm) = by_mnemonic (codes "lhu") (load_text rd rs1 imm) refl (load_line rd rs1 imm)
instr_is_line (Sb rs1 rs2 imm) = by_mnemonic (codes "sb") (store_text rs1 rs2 imm) refl (store_line rs1 rs2 imm)
instr_is_line (Sh rs1 rs2 imm) = by_mnemonic (codes "sh") (store_text rs1 rs2 imm) refl (store_line rs1 rs2 imm)
instr_is_line (Sw rs1 rs2 imm) = by_mnemonic (codes "sw") (store_text rs1 rs2 imm) refl (store_line rs1 rs2 imm)
instr_is_line (Addi rd rs1 imm) = by_mnemonic (codes "addi") (immediate_text rd rs1 imm) refl (immediate_line rd rs1 imm)
instr_is_line (Slti rd rs1 imm) = by_mnemonic (codes "slti") (immediate_text rd rs1 imm) refl (immediate_line rd rs1 imm)
instr_is_line (Sltiu rd rs1 imm) = by_mnemonic (codes "sltiu") (immediate_text rd rs1 imm) refl (immediate_line rd rs1 imm)
instr_is_line (Xori rd rs1 imm) = by_mnemonic (codes "xori") (immediate_text rd rs1 imm) refl (immediate_line rd rs1 imm)
instr_is_line (Ori rd rs1 imm) = by_mnemonic (codes "ori") (immediate_text rd rs1 imm) refl (immediate_line rd rs1 imm)
instr_is_line (Andi rd rs1 imm) = by_mnemonic (codes "andi") (immediate_text rd rs1 imm) refl (immediate_line rd rs1 imm)
instr_is_line (Slli rd rs1 shift) = by_mnemonic (codes "slli") (shift_text rd rs1 shift) refl (shift_line rd rs1 shift)
instr_is_line (Srli rd rs1 shift) = by_mnemonic (codes "srli") (shift_text rd rs1 shift) refl (shift_line rd rs1 shift)
instr_is_line (Srai rd rs1 shift) = by_mnemonic (codes "srai") (shift_text rd rs1 shift) refl (shift_line rd rs1 shift)
instr_is_line (Add rd rs1 rs2) = by_mnemonic (codes "add") (registers_text rd rs1 rs2) refl (registers_line rd rs1 rs2)
instr_is_line (Sub rd rs1 rs2) = by_mnemonic (codes "sub") (registers_text rd rs1 rs2) refl (registers_line rd rs1 rs2)
instr_is_line (Sll rd rs1 rs2) = by_mnemonic (codes "sll") (registers_text rd rs1 rs2) refl (registers_line rd rs1 rs2)
instr_is_line (Slt rd rs1 rs2) = by_mnemonic (codes "slt") (registers_text rd rs1 rs2) refl (registers_line rd rs1 rs2)
instr_is_line (Sltu rd rs1 rs2) = by_mnemonic (codes "sltu") (registers_text rd rs1 rs2) refl (registers_line rd rs1 rs2)
instr_is_line (Xor rd rs1 rs2) = by_mnemonic (codes "xor") (registers_text rd rs1 rs2) refl (registers_line rd rs1 rs2)
instr_is_line (Srl rd rs1 rs2) = by_mnemonic (codes "srl") (registers_text rd rs1 rs2) refl (registers_line rd rs1 rs2)
instr_is_line (Sra rd rs1 rs2) = by_mnemonic (codes "sra") (registers_text rd rs1 rs2) refl (registers_line rd rs1 rs2)
instr_is_line (Or rd rs1 rs2) = by_mnemonic (codes "or") (registers_text rd rs1 rs2) refl (registers_line rd rs1 rs2)
instr_is_line (And rd rs1 rs2) = by_mnemonic (codes "and") (registers_text rd rs1 rs2) refl (registers_line rd rs1 rs2)
instr_is_line (Fence rd rs1 imm) = by_mnemonic (codes "fence") (fence_text rd rs1 imm) refl (fence_line rd rs1 imm)
instr_is_line Ecall = by_mnemonic (codes "ecall") [] refl tt
instr_is_line Ebreak = by_mnemonic (codes "ebreak") [] refl tt

pub is_line : ListingIsLine
unfolding line_text
is_line address w = append (said_text w (decoded w)) (32 ∷ 35 ∷ 32 ∷ (hex8 address ++ 32 ∷ hex8 w)) (said (decoded w)) (lit< tt, (lit< tt, (lit< tt, append (hex8 address) (32 ∷ hex8 w) (hex8_line address) (lit< tt, hex8_line w))))
  where
    said : (o : Option Instr) → IsLine (said_text w o)
    said None = by_mnemonic (codes ".word") (32 ∷ 48 ∷ 120 ∷ hex8 w) refl (lit< tt, (lit< tt, (lit< tt, hex8_line w)))
    said (Some instr) = instr_is_line instr
