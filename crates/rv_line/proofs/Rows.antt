-- The line of an instruction, read back: one line for each instruction.
use Rattle.std.proofs.Common.{◌≡◌, ℕ, ◌<◌, ◌^◌, true, List, [], ◌∷◌, ◌++◌, Option, Some, None, Ok, Result, codes, refl, ◌∙◌}
use Rattle.rv_isa.specs.declared.instr.Instr.{Instr}
use Rattle.rv_isa.specs.declared.instr.Instr.TheVariants.{Lui, Auipc, Jal, Jalr, Beq, Bne, Blt, Bge, Bltu, Bgeu, Lb, Lh, Lw, Lbu, Lhu, Sb, Sh, Sw, Addi, Slti, Sltiu, Xori, Ori, Andi, Slli, Srli, Srai}
use Rattle.rv_isa.specs.declared.instr.Instr.TheVariants.{Add, Sub, Sll, Slt, Sltu, Xor, Srl, Sra, Or, And, Fence, Ecall, Ebreak}
use Rattle.rv_encode.specs.Table.{Row}
use Rattle.text_core.specs.Hexadecimal.{hex8}
use Rattle.rv_line.specs.Forms.{branch, end, fence, immediate, jump, load, raw, registers, shift_by, store, upper}
use Rattle.rv_line.specs.Lines.{immediate_rows, instruction, item, label, label_word, memory_rows, or_next, other_rows, register_rows, said_by}
use Rattle.rv_line.specs.Pieces.{Piece}
use Rattle.rv_line.specs.Texts.{branch_text, fence_text, immediate_text, instr_text, jump_text, load_text, registers_text, shift_text, store_text, upper_text}
use Rattle.rv_line.specs.Words.{◌>>=◌}
use Rattle.rv_line.specs.declared.fault.LineFault.{LineFault}
use Rattle.rv_line.specs.declared.item.Item.{Item}
use Rattle.rv_line.specs.declared.item.Item.TheVariants.{Coded, Raw}
use Rattle.rv_line.proofs.Forms.{Says, with_comment, word_before, branch_says, fence_says, immediate_says, jump_says, load_says, nothing_says, raw_says, registers_says, shift_says, store_says, upper_says}
use Rattle.rv_line.proofs.WordPieces.{is_plain_word, plain_word}

module _ (labels : List (List ℕ × ℕ)) (here : Option ℕ) (comment : List ℕ) where
  -- the line of a text has no label and says an item
  abbrev pub LineSays : List ℕ → Item → Type 0
  LineSays text it = (label (with_comment text comment) ≡ None) × (item labels here (with_comment text comment) ≡ Ok (Some it))

  by_mnemonic : {A : Type 0} (read : List Piece → Result A LineFault) (mnemonic text : List ℕ) (operands : A) (make : A → Item)
      → is_plain_word mnemonic ≡ true → label_word mnemonic ≡ None → Says read text operands comment
      → ((ps : List Piece) (o : A) → read ps ≡ Ok o → instruction labels here mnemonic ps ≡ Ok (make o))
      → LineSays (mnemonic ++ text) (make operands)
  unfolding item label
  by_mnemonic read mnemonic text operands make p no_label says step =
      let ps = word_before comment mnemonic text (plain_word mnemonic p) says.ends in
      (rw (ps, no_label) refl, rw (ps, no_label, step _ _ says.value) refl)

  -- a row behind which others are looked at where it has another mnemonic
  by_row : {A : Type 0} (read : List Piece → Result A LineFault) (mnemonic text : List ℕ) (operands : A) (make : A → Item)
      → is_plain_word mnemonic ≡ true → label_word mnemonic ≡ None → Says read text operands comment
      → ((ps : List Piece) → (next : Result Item LineFault) × (instruction labels here mnemonic ps ≡ or_next (read ps >>= λ o. Ok (make o)) next))
      → LineSays (mnemonic ++ text) (make operands)
  by_row read mnemonic text operands make p no_label says step =
      by_mnemonic read mnemonic text operands make p no_label says (λ ps o e. (step ps).1 ∙ rw e refl)

  -- a row of the last ones
  by_last_row : {A : Type 0} (read : List Piece → Result A LineFault) (mnemonic text : List ℕ) (operands : A) (make : A → Item)
      → is_plain_word mnemonic ≡ true → label_word mnemonic ≡ None → Says read text operands comment
      → ((ps : List Piece) → instruction labels here mnemonic ps ≡ (read ps >>= λ o. Ok (make o)))
      → LineSays (mnemonic ++ text) (make operands)
  by_last_row read mnemonic text operands make p no_label says step =
      by_mnemonic read mnemonic text operands make p no_label says (λ ps o e. step ps ∙ rw e refl)

  pub instr_line : (instr : Instr) (word : ℕ) → Row word instr → LineSays (instr_text instr) (Coded instr)
  unfolding Row instr_text instruction said_by register_rows immediate_rows memory_rows other_rows label_word
  instr_line (Lui rd imm) word r = by_last_row upper (codes "lui") (upper_text rd imm) (rd, imm) (λ o. Coded (Lui o.0 o.1)) refl refl (upper_says comment rd imm r.rd_in_range r.imm_in_range) (λ ps. refl)
  instr_line (Auipc rd imm) word r = by_last_row upper (codes "auipc") (upper_text rd imm) (rd, imm) (λ o. Coded (Auipc o.0 o.1)) refl refl (upper_says comment rd imm r.rd_in_range r.imm_in_range) (λ ps. refl)
  instr_line (Jal rd imm) word r = by_last_row (jump labels here) (codes "jal") (jump_text rd imm) (rd, imm) (λ o. Coded (Jal o.0 o.1)) refl refl (jump_says comment labels here rd imm r.rd_in_range r.imm_in_range) (λ ps. refl)
  instr_line (Jalr rd rs1 imm) word r = by_row load (codes "jalr") (load_text rd rs1 imm) (rd, rs1, imm) (λ o. Coded (Jalr o.0 o.1 o.2)) refl refl (load_says comment rd rs1 imm r.rd_in_range r.rs1_in_range r.imm_in_range) (λ ps. (_, refl))
  instr_line (Beq rs1 rs2 imm) word r = by_last_row (branch labels here) (codes "beq") (branch_text rs1 rs2 imm) (rs1, rs2, imm) (λ o. Coded (Beq o.0 o.1 o.2)) refl refl (branch_says comment labels here rs1 rs2 imm r.rs1_in_range r.rs2_in_range r.imm_in_range) (λ ps. refl)
  instr_line (Bne rs1 rs2 imm) word r = by_last_row (branch labels here) (codes "bne") (branch_text rs1 rs2 imm) (rs1, rs2, imm) (λ o. Coded (Bne o.0 o.1 o.2)) refl refl (branch_says comment labels here rs1 rs2 imm r.rs1_in_range r.rs2_in_range r.imm_in_range) (λ ps. refl)
  instr_line (Blt rs1 rs2 imm) word r = by_last_row (branch labels here) (codes "blt") (branch_text rs1 rs2 imm) (rs1, rs2, imm) (λ o. Coded (Blt o.0 o.1 o.2)) refl refl (branch_says comment labels here rs1 rs2 imm r.rs1_in_range r.rs2_in_range r.imm_in_range) (λ ps. refl)
  instr_line (Bge rs1 rs2 imm) word r = by_last_row (branch labels here) (codes "bge") (branch_text rs1 rs2 imm) (rs1, rs2, imm) (λ o. Coded (Bge o.0 o.1 o.2)) refl refl (branch_says comment labels here rs1 rs2 imm r.rs1_in_range r.rs2_in_range r.imm_in_range) (λ ps. refl)
  instr_line (Bltu rs1 rs2 imm) word r = by_last_row (branch labels here) (codes "bltu") (branch_text rs1 rs2 imm) (rs1, rs2, imm) (λ o. Coded (Bltu o.0 o.1 o.2)) refl refl (branch_says comment labels here rs1 rs2 imm r.rs1_in_range r.rs2_in_range r.imm_in_range) (λ ps. refl)
  instr_line (Bgeu rs1 rs2 imm) word r = by_last_row (branch labels here) (codes "bgeu") (branch_text rs1 rs2 imm) (rs1, rs2, imm) (λ o. Coded (Bgeu o.0 o.1 o.2)) refl refl (branch_says comment labels here rs1 rs2 imm r.rs1_in_range r.rs2_in_range r.imm_in_range) (λ ps. refl)
  instr_line (Lb rd rs1 imm) word r = by_row load (codes "lb") (load_text rd rs1 imm) (rd, rs1, imm) (λ o. Coded (Lb o.0 o.1 o.2)) refl refl (load_says comment rd rs1 imm r.rd_in_range r.rs1_in_range r.imm_in_range) (λ ps. (_, refl))
  instr_line (Lh rd rs1 imm) word r = by_row load (codes "lh") (load_text rd rs1 imm) (rd, rs1, imm) (λ o. Coded (Lh o.0 o.1 o.2)) refl refl (load_says comment rd rs1 imm r.rd_in_range r.rs1_in_range r.imm_in_range) (λ ps. (_, refl))
  instr_line (Lw rd rs1 imm) word r = by_row load (codes "lw") (load_text rd rs1 imm) (rd, rs1, imm) (λ o. Coded (Lw o.0 o.1 o.2)) refl refl (load_says comment rd rs1 imm r.rd_in_range r.rs1_in_range r.imm_in_range) (λ ps. (_, refl))
  instr_line (Lbu rd rs1 imm) word r = by_row load (codes "lbu") (load_text rd rs1 imm) (rd, rs1, imm) (λ o. Coded (Lbu o.0 o.1 o.2)) refl refl (load_says comment rd rs1 imm r.rd_in_range r.rs1_in_range r.imm_in_range) (λ ps. (_, refl))
  instr_line (Lhu rd rs1 imm) word r = by_row load (codes "lhu") (load_text rd rs1 imm) (rd, rs1, imm) (λ o. Coded (Lhu o.0 o.1 o.2)) refl refl (load_says comment rd rs1 imm r.rd_in_range r.rs1_in_range r.imm_in_range) (λ ps. (_, refl))
  instr_line (Sb rs1 rs2 imm) word r = by_row store (codes "sb") (store_text rs1 rs2 imm) (rs1, rs2, imm) (λ o. Coded (Sb o.0 o.1 o.2)) refl refl (store_says comment rs1 rs2 imm r.rs1_in_range r.rs2_in_range r.imm_in_range) (λ ps. (_, refl))
  instr_line (Sh rs1 rs2 imm) word r = by_row store (codes "sh") (store_text rs1 rs2 imm) (rs1, rs2, imm) (λ o. Coded (Sh o.0 o.1 o.2)) refl refl (store_says comment rs1 rs2 imm r.rs1_in_range r.rs2_in_range r.imm_in_range) (λ ps. (_, refl))
  instr_line (Sw rs1 rs2 imm) word r = by_row store (codes "sw") (store_text rs1 rs2 imm) (rs1, rs2, imm) (λ o. Coded (Sw o.0 o.1 o.2)) refl refl (store_says comment rs1 rs2 imm r.rs1_in_range r.rs2_in_range r.imm_in_range) (λ ps. (_, refl))
  instr_line (Addi rd rs1 imm) word r = by_row immediate (codes "addi") (immediate_text rd rs1 imm) (rd, rs1, imm) (λ o. Coded (Addi o.0 o.1 o.2)) refl refl (immediate_says comment rd rs1 imm r.rd_in_range r.rs1_in_range r.imm_in_range) (λ ps. (_, refl))
  instr_line (Slti rd rs1 imm) word r = by_row immediate (codes "slti") (immediate_text rd rs1 imm) (rd, rs1, imm) (λ o. Coded (Slti o.0 o.1 o.2)) refl refl (immediate_says comment rd rs1 imm r.rd_in_range r.rs1_in_range r.imm_in_range) (λ ps. (_, refl))
  instr_line (Sltiu rd rs1 imm) word r = by_row immediate (codes "sltiu") (immediate_text rd rs1 imm) (rd, rs1, imm) (λ o. Coded (Sltiu o.0 o.1 o.2)) refl refl (immediate_says comment rd rs1 imm r.rd_in_range r.rs1_in_range r.imm_in_range) (λ ps. (_, refl))
  instr_line (Xori rd rs1 imm) word r = by_row immediate (codes "xori") (immediate_text rd rs1 imm) (rd, rs1, imm) (λ o. Coded (Xori o.0 o.1 o.2)) refl refl (immediate_says comment rd rs1 imm r.rd_in_range r.rs1_in_range r.imm_in_range) (λ ps. (_, refl))
  instr_line (Ori rd rs1 imm) word r = by_row immediate (codes "ori") (immediate_text rd rs1 imm) (rd, rs1, imm) (λ o. Coded (Ori o.0 o.1 o.2)) refl refl (immediate_says comment rd rs1 imm r.rd_in_range r.rs1_in_range r.imm_in_range) (λ ps. (_, refl))
  instr_line (Andi rd rs1 imm) word r = by_row immediate (codes "andi") (immediate_text rd rs1 imm) (rd, rs1, imm) (λ o. Coded (Andi o.0 o.1 o.2)) refl refl (immediate_says comment rd rs1 imm r.rd_in_range r.rs1_in_range r.imm_in_range) (λ ps. (_, refl))
  instr_line (Slli rd rs1 shift) word r = by_row shift_by (codes "slli") (shift_text rd rs1 shift) (rd, rs1, shift) (λ o. Coded (Slli o.0 o.1 o.2)) refl refl (shift_says comment rd rs1 shift r.rd_in_range r.rs1_in_range r.shift_in_range) (λ ps. (_, refl))
  instr_line (Srli rd rs1 shift) word r = by_row shift_by (codes "srli") (shift_text rd rs1 shift) (rd, rs1, shift) (λ o. Coded (Srli o.0 o.1 o.2)) refl refl (shift_says comment rd rs1 shift r.rd_in_range r.rs1_in_range r.shift_in_range) (λ ps. (_, refl))
  instr_line (Srai rd rs1 shift) word r = by_row shift_by (codes "srai") (shift_text rd rs1 shift) (rd, rs1, shift) (λ o. Coded (Srai o.0 o.1 o.2)) refl refl (shift_says comment rd rs1 shift r.rd_in_range r.rs1_in_range r.shift_in_range) (λ ps. (_, refl))
  instr_line (Add rd rs1 rs2) word r = by_row registers (codes "add") (registers_text rd rs1 rs2) (rd, rs1, rs2) (λ o. Coded (Add o.0 o.1 o.2)) refl refl (registers_says comment rd rs1 rs2 r.rd_in_range r.rs1_in_range r.rs2_in_range) (λ ps. (_, refl))
  instr_line (Sub rd rs1 rs2) word r = by_row registers (codes "sub") (registers_text rd rs1 rs2) (rd, rs1, rs2) (λ o. Coded (Sub o.0 o.1 o.2)) refl refl (registers_says comment rd rs1 rs2 r.rd_in_range r.rs1_in_range r.rs2_in_range) (λ ps. (_, refl))
  instr_line (Sll rd rs1 rs2) word r = by_row registers (codes "sll") (registers_text rd rs1 rs2) (rd, rs1, rs2) (λ o. Coded (Sll o.0 o.1 o.2)) refl refl (registers_says comment rd rs1 rs2 r.rd_in_range r.rs1_in_range r.rs2_in_range) (λ ps. (_, refl))
  instr_line (Slt rd rs1 rs2) word r = by_row registers (codes "slt") (registers_text rd rs1 rs2) (rd, rs1, rs2) (λ o. Coded (Slt o.0 o.1 o.2)) refl refl (registers_says comment rd rs1 rs2 r.rd_in_range r.rs1_in_range r.rs2_in_range) (λ ps. (_, refl))
  instr_line (Sltu rd rs1 rs2) word r = by_row registers (codes "sltu") (registers_text rd rs1 rs2) (rd, rs1, rs2) (λ o. Coded (Sltu o.0 o.1 o.2)) refl refl (registers_says comment rd rs1 rs2 r.rd_in_range r.rs1_in_range r.rs2_in_range) (λ ps. (_, refl))
  instr_line (Xor rd rs1 rs2) word r = by_row registers (codes "xor") (registers_text rd rs1 rs2) (rd, rs1, rs2) (λ o. Coded (Xor o.0 o.1 o.2)) refl refl (registers_says comment rd rs1 rs2 r.rd_in_range r.rs1_in_range r.rs2_in_range) (λ ps. (_, refl))
  instr_line (Srl rd rs1 rs2) word r = by_row registers (codes "srl") (registers_text rd rs1 rs2) (rd, rs1, rs2) (λ o. Coded (Srl o.0 o.1 o.2)) refl refl (registers_says comment rd rs1 rs2 r.rd_in_range r.rs1_in_range r.rs2_in_range) (λ ps. (_, refl))
  instr_line (Sra rd rs1 rs2) word r = by_row registers (codes "sra") (registers_text rd rs1 rs2) (rd, rs1, rs2) (λ o. Coded (Sra o.0 o.1 o.2)) refl refl (registers_says comment rd rs1 rs2 r.rd_in_range r.rs1_in_range r.rs2_in_range) (λ ps. (_, refl))
  instr_line (Or rd rs1 rs2) word r = by_row registers (codes "or") (registers_text rd rs1 rs2) (rd, rs1, rs2) (λ o. Coded (Or o.0 o.1 o.2)) refl refl (registers_says comment rd rs1 rs2 r.rd_in_range r.rs1_in_range r.rs2_in_range) (λ ps. (_, refl))
  instr_line (And rd rs1 rs2) word r = by_row registers (codes "and") (registers_text rd rs1 rs2) (rd, rs1, rs2) (λ o. Coded (And o.0 o.1 o.2)) refl refl (registers_says comment rd rs1 rs2 r.rd_in_range r.rs1_in_range r.rs2_in_range) (λ ps. (_, refl))
  instr_line (Fence rd rs1 imm) word r = by_last_row fence (codes "fence") (fence_text rd rs1 imm) (rd, rs1, imm) (λ o. Coded (Fence o.0 o.1 o.2)) refl refl (fence_says comment rd rs1 imm r.rd_in_range r.rs1_in_range r.imm_in_range) (λ ps. refl)
  instr_line Ecall word r = by_last_row end (codes "ecall") [] tt (λ _. Coded Ecall) refl refl (nothing_says comment) (λ ps. refl)
  instr_line Ebreak word r = by_last_row end (codes "ebreak") [] tt (λ _. Coded Ebreak) refl refl (nothing_says comment) (λ ps. refl)

  pub raw_line : (word : ℕ) → word < 2 ^ 32 → LineSays (codes ".word 0x" ++ hex8 word) (Raw word)
  unfolding instruction said_by register_rows immediate_rows memory_rows other_rows label_word
  raw_line word h = by_last_row raw (codes ".word") (32 ∷ 48 ∷ 120 ∷ hex8 word) word Raw refl refl (raw_says comment word h) (λ ps. refl)
