-- The operands' texts, read back: one lemma for each form.
use Rattle.std.proofs.Common.{◌≡◌, ℕ, ◌<◌, ◌^◌, ℤ, true, List, [], ◌∷◌, ◌++◌, Option, Ok, Result, append_assoc, refl, ap, ◌∙◌}
use Rattle.std.specs.Fmt.{decimal, signed_decimal}
use Rattle.rv_isa.specs.Operand.{IsReg, IsImm12, IsImmB, IsImmJ, IsImmU, IsShift}
use Rattle.text_core.specs.Hexadecimal.{hex8}
use Rattle.rv_line.specs.Forms.{branch, end, fence, immediate, jump, load, raw, registers, shift_by, store, three, two, based, one, upper}
use Rattle.rv_line.specs.Pieces.{Piece, Word, Sign, ends_word, without_comment}
use Rattle.rv_line.specs.Texts.{branch_text, comma_text, fence_text, immediate_text, jump_text, load_text, register_text, registers_text, shift_text, store_text, upper_text}
use Rattle.rv_line.specs.declared.fault.LineFault.{LineFault}
use Rattle.rv_line.proofs.WordPieces.{IsPlainWord, imm12_word, imm_b_word, imm_j_word, imm_u_word, line_pieces, raw_word_word, register_word, shift_word, word_piece}

-- what stands behind an instruction: a space and a comment
abbrev pub with_comment : List ℕ → List ℕ → List ℕ
with_comment text comment = text ++ 32 ∷ 35 ∷ comment

-- a text of operands ends the word before it, and is read as the operands
pub record Says {A : Type 0} (read : List Piece → Result A LineFault) (text : List ℕ) (operands : A) (comment : List ℕ) : Type 0 where
  pub ends : ends_word (without_comment (with_comment text comment)) ≡ true
  pub value : read (line_pieces (with_comment text comment)) ≡ Ok operands

module _ (comment : List ℕ) where
  -- a word with more of the text behind it
  pub word_before : (w rest : List ℕ) → IsPlainWord w → ends_word (without_comment (with_comment rest comment)) ≡ true → line_pieces (with_comment (w ++ rest) comment) ≡ Word w ∷ line_pieces (with_comment rest comment)
  word_before w rest p e = rw append_assoc (word_piece w (with_comment rest comment) p e)

  word_last : (w : List ℕ) → IsPlainWord w → line_pieces (with_comment w comment) ≡ Word w ∷ []
  word_last w p = word_piece w (32 ∷ 35 ∷ comment) p refl

  three_pieces : (a b c : List ℕ) → IsPlainWord a → IsPlainWord b → IsPlainWord c
      → line_pieces (with_comment (32 ∷ (a ++ comma_text (b ++ comma_text c))) comment) ≡ Word a ∷ Sign 44 ∷ Word b ∷ Sign 44 ∷ Word c ∷ []
  three_pieces a b c p q r =
      word_before a (comma_text (b ++ comma_text c)) p refl
      ∙ ap (λ ps. Word a ∷ Sign 44 ∷ ps) (word_before b (comma_text c) q refl ∙ ap (λ ps. Word b ∷ Sign 44 ∷ ps) (word_last c r))

  two_pieces : (a b : List ℕ) → IsPlainWord a → IsPlainWord b
      → line_pieces (with_comment (32 ∷ (a ++ comma_text b)) comment) ≡ Word a ∷ Sign 44 ∷ Word b ∷ []
  two_pieces a b p q = word_before a (comma_text b) p refl ∙ ap (λ ps. Word a ∷ Sign 44 ∷ ps) (word_last b q)

  based_pieces : (a b c : List ℕ) → IsPlainWord a → IsPlainWord b → IsPlainWord c
      → line_pieces (with_comment (32 ∷ (a ++ comma_text (b ++ 40 ∷ (c ++ 41 ∷ [])))) comment) ≡ Word a ∷ Sign 44 ∷ Word b ∷ Sign 40 ∷ Word c ∷ Sign 41 ∷ []
  based_pieces a b c p q r =
      word_before a (comma_text (b ++ 40 ∷ (c ++ 41 ∷ []))) p refl
      ∙ ap (λ ps. Word a ∷ Sign 44 ∷ ps) (word_before b (40 ∷ (c ++ 41 ∷ [])) q refl ∙ ap (λ ps. Word b ∷ Sign 40 ∷ ps) (word_before c (41 ∷ []) r refl))

  pub registers_says : (rd rs1 rs2 : ℕ) → IsReg rd → IsReg rs1 → IsReg rs2 → Says registers (registers_text rd rs1 rs2) (rd, rs1, rs2) comment
  unfolding registers three registers_text
  registers_says rd rs1 rs2 h i j =
      let a = register_word rd h in
      let b = register_word rs1 i in
      let c = register_word rs2 j in
      record { ends = refl; value = rw (three_pieces (register_text rd) (register_text rs1) (register_text rs2) a.plain b.plain c.plain, a.formed, b.formed, c.formed, a.value, b.value, c.value) refl }

  pub immediate_says : (rd rs1 : ℕ) (imm : ℤ) → IsReg rd → IsReg rs1 → IsImm12 imm → Says immediate (immediate_text rd rs1 imm) (rd, rs1, imm) comment
  unfolding immediate three immediate_text
  immediate_says rd rs1 imm h i j =
      let a = register_word rd h in
      let b = register_word rs1 i in
      let c = imm12_word imm j in
      record { ends = refl; value = rw (three_pieces (register_text rd) (register_text rs1) (signed_decimal imm) a.plain b.plain c.plain, a.formed, b.formed, c.formed, a.value, b.value, c.value) refl }

  pub shift_says : (rd rs1 bits : ℕ) → IsReg rd → IsReg rs1 → IsShift bits → Says shift_by (shift_text rd rs1 bits) (rd, rs1, bits) comment
  unfolding shift_by three shift_text
  shift_says rd rs1 bits h i j =
      let a = register_word rd h in
      let b = register_word rs1 i in
      let c = shift_word bits j in
      record { ends = refl; value = rw (three_pieces (register_text rd) (register_text rs1) (decimal bits) a.plain b.plain c.plain, a.formed, b.formed, c.formed, a.value, b.value, c.value) refl }

  pub load_says : (rd rs1 : ℕ) (imm : ℤ) → IsReg rd → IsReg rs1 → IsImm12 imm → Says load (load_text rd rs1 imm) (rd, rs1, imm) comment
  unfolding load based load_text
  load_says rd rs1 imm h i j =
      let a = register_word rd h in
      let b = imm12_word imm j in
      let c = register_word rs1 i in
      record { ends = refl; value = rw (based_pieces (register_text rd) (signed_decimal imm) (register_text rs1) a.plain b.plain c.plain, a.formed, b.formed, c.formed, a.value, b.value, c.value) refl }

  pub store_says : (rs1 rs2 : ℕ) (imm : ℤ) → IsReg rs1 → IsReg rs2 → IsImm12 imm → Says store (store_text rs1 rs2 imm) (rs1, rs2, imm) comment
  unfolding store based store_text load_text
  store_says rs1 rs2 imm h i j =
      let a = register_word rs2 i in
      let b = imm12_word imm j in
      let c = register_word rs1 h in
      record { ends = refl; value = rw (based_pieces (register_text rs2) (signed_decimal imm) (register_text rs1) a.plain b.plain c.plain, a.formed, b.formed, c.formed, a.value, b.value, c.value) refl }

  pub fence_says : (rd rs1 : ℕ) (imm : ℤ) → IsReg rd → IsReg rs1 → IsImm12 imm → Says fence (fence_text rd rs1 imm) (rd, rs1, imm) comment
  unfolding fence three fence_text
  fence_says rd rs1 imm h i j =
      let a = imm12_word imm j in
      let b = register_word rs1 i in
      let c = register_word rd h in
      record { ends = refl; value = rw (three_pieces (signed_decimal imm) (register_text rs1) (register_text rd) a.plain b.plain c.plain, a.formed, b.formed, c.formed, a.value, b.value, c.value) refl }

  pub upper_says : (rd imm : ℕ) → IsReg rd → IsImmU imm → Says upper (upper_text rd imm) (rd, imm) comment
  unfolding upper two upper_text
  upper_says rd imm h i =
      let a = register_word rd h in
      let b = imm_u_word imm i in
      record { ends = refl; value = rw (two_pieces (register_text rd) (decimal imm) a.plain b.plain, a.formed, b.formed, a.value, b.value) refl }

  pub raw_says : (w : ℕ) → w < 2 ^ 32 → Says raw (32 ∷ 48 ∷ 120 ∷ hex8 w) w comment
  unfolding raw one
  raw_says w h = let a = raw_word_word w h in record { ends = refl; value = rw (word_last (48 ∷ 120 ∷ hex8 w) a.plain, a.value) refl }

  pub nothing_says : Says end [] tt comment
  nothing_says = record { ends = refl; value = refl }

  module _ (labels : List (List ℕ × ℕ)) (here : Option ℕ) where
    pub branch_says : (rs1 rs2 : ℕ) (imm : ℤ) → IsReg rs1 → IsReg rs2 → IsImmB imm → Says (branch labels here) (branch_text rs1 rs2 imm) (rs1, rs2, imm) comment
    unfolding branch three branch_text immediate_text
    branch_says rs1 rs2 imm h i j =
        let a = register_word rs1 h in
        let b = register_word rs2 i in
        let c = imm_b_word labels here imm j in
        record { ends = refl; value = rw (three_pieces (register_text rs1) (register_text rs2) (signed_decimal imm) a.plain b.plain c.plain, a.formed, b.formed, c.formed, a.value, b.value, c.value) refl }

    pub jump_says : (rd : ℕ) (imm : ℤ) → IsReg rd → IsImmJ imm → Says (jump labels here) (jump_text rd imm) (rd, imm) comment
    unfolding jump two jump_text
    jump_says rd imm h i =
        let a = register_word rd h in
        let b = imm_j_word labels here imm i in
        record { ends = refl; value = rw (two_pieces (register_text rd) (signed_decimal imm) a.plain b.plain, a.formed, b.formed, a.value, b.value) refl }
