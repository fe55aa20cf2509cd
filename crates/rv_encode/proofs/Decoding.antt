-- What is decoded from a word is the instruction of a row.
use Rattle.std.proofs.Common.{◌≡◌, ℕ, ◌+◌, ◌*◌, ◌<◌, ◌^◌, ◌%◌, Bool, true, false, cond, refl, arith, subst, sym}
use Rattle.std.proofs.lemmas.Int.{ints}
use Rattle.std.proofs.lemmas.Bool.{eqb-true}
use Rattle.std.proofs.lemmas.Bool.Decides.{nat_tests}
use Rattle.std.specs.Prelude.{Option, Some, None, ◌==◌, ◌&&◌}
use Rattle.rv_isa.specs.Operand.{IsImm12, IsImmB, IsImmJ}
use Rattle.rv_isa.specs.declared.instr.Instr.{Instr}
use Rattle.rv_isa.specs.declared.instr.Instr.TheVariants.{Ecall, Ebreak}
use Rattle.rv_encode.specs.Decoded.{by_code, decoded, signed, i_imm, s_imm, b_imm, j_imm}
use Rattle.rv_encode.specs.Format.{bits, twos_complement, IsR, IsI, IsShiftI, IsS, IsB, IsU, IsJ}
use Rattle.rv_encode.specs.Table.{Row}
use Rattle.rv_encode.proofs.Rows.{row-decoded, same}

-- a number of so many bits is in range, and its bits are the ones that it was made of
signed12 : (n : ℕ) → n < 2 ^ 12 → IsImm12 (signed 12 n) × (twos_complement (signed 12 n) % 2 ^ 12 ≡ n)
signed12 n h = grind (arith, nat_tests, ints)

signed13 : (n : ℕ) → n < 2 ^ 13 → n % 2 ≡ 0 → IsImmB (signed 13 n) × (twos_complement (signed 13 n) % 2 ^ 13 ≡ n)
signed13 n h e = grind (arith, nat_tests, ints)

signed21 : (n : ℕ) → n < 2 ^ 21 → n % 2 ≡ 0 → IsImmJ (signed 21 n) × (twos_complement (signed 21 n) % 2 ^ 21 ≡ n)
signed21 n h e = grind (arith, nat_tests, ints)

-- the codes of a word
two : (o f : ℕ) (w : ℕ) → ((bits w 6 0 == o) && (bits w 14 12 == f)) ≡ true → (bits w 6 0 ≡ o) × (bits w 14 12 ≡ f)
two o f w t = grind (arith, nat_tests)

three : (o f g : ℕ) (w : ℕ) → ((bits w 6 0 == o) && (bits w 14 12 == f) && (bits w 31 25 == g)) ≡ true → (bits w 6 0 ≡ o) × (bits w 14 12 ≡ f) × (bits w 31 25 ≡ g)
three o f g w t = grind (arith, nat_tests)

-- one lemma for each format
module _ (w : ℕ) (below : w < 2 ^ 32) (o : ℕ) where
  u_row : (bits w 6 0 == o) ≡ true → IsU w o (bits w 11 7) (bits w 31 12)
  u_row t = let c = eqb-true (bits w 6 0) o t in record { rd_in_range = omega arith; imm_in_range = omega arith; word_is = omega arith }

  j_row : (bits w 6 0 == o) ≡ true → IsJ w o (bits w 11 7) (j_imm w)
  j_row t =
      let c = eqb-true (bits w 6 0) o t in
      let s = signed21 (bits w 31 31 * 2 ^ 20 + bits w 19 12 * 2 ^ 12 + bits w 20 20 * 2 ^ 11 + bits w 30 21 * 2) (omega arith) (omega arith) in
      let e = s.1 in
      record { rd_in_range = omega arith; imm_in_range = s.0; word_is = omega arith }

  module _ (f : ℕ) where
    i_row : ((bits w 6 0 == o) && (bits w 14 12 == f)) ≡ true → IsI w o f (bits w 11 7) (bits w 19 15) (i_imm w)
    i_row t =
        let c = two o f w t in
        let o' = c.0 in
        let f' = c.1 in
        let s = signed12 (bits w 31 20) (omega arith) in
        let e = s.1 in
        record { rd_in_range = omega arith; rs1_in_range = omega arith; imm_in_range = s.0; word_is = omega arith }

    s_row : ((bits w 6 0 == o) && (bits w 14 12 == f)) ≡ true → IsS w o f (bits w 19 15) (bits w 24 20) (s_imm w)
    s_row t =
        let c = two o f w t in
        let o' = c.0 in
        let f' = c.1 in
        let s = signed12 (bits w 31 25 * 2 ^ 5 + bits w 11 7) (omega arith) in
        let e = s.1 in
        record { rs1_in_range = omega arith; rs2_in_range = omega arith; imm_in_range = s.0; word_is = omega arith }

    b_row : ((bits w 6 0 == o) && (bits w 14 12 == f)) ≡ true → IsB w o f (bits w 19 15) (bits w 24 20) (b_imm w)
    b_row t =
        let c = two o f w t in
        let o' = c.0 in
        let f' = c.1 in
        let s = signed13 (bits w 31 31 * 2 ^ 12 + bits w 7 7 * 2 ^ 11 + bits w 30 25 * 2 ^ 5 + bits w 11 8 * 2) (omega arith) (omega arith) in
        let e = s.1 in
        record { rs1_in_range = omega arith; rs2_in_range = omega arith; imm_in_range = s.0; word_is = omega arith }

    module _ (g : ℕ) where
      r_row : ((bits w 6 0 == o) && (bits w 14 12 == f) && (bits w 31 25 == g)) ≡ true → IsR w o f g (bits w 11 7) (bits w 19 15) (bits w 24 20)
      r_row t =
          let c = three o f g w t in
          let o' = c.0 in
          let f' = c.1 in
          let g' = c.2 in
          record { rd_in_range = omega arith; rs1_in_range = omega arith; rs2_in_range = omega arith; word_is = omega arith }

      shift_row : ((bits w 6 0 == o) && (bits w 14 12 == f) && (bits w 31 25 == g)) ≡ true → IsShiftI w o f g (bits w 11 7) (bits w 19 15) (bits w 24 20)
      shift_row t =
          let c = three o f g w t in
          let o' = c.0 in
          let f' = c.1 in
          let g' = c.2 in
          record { rd_in_range = omega arith; rs1_in_range = omega arith; shift_in_range = omega arith; word_is = omega arith }

by_row : (w : ℕ) (b : Bool) (i : Instr) (rest : Option Instr) → (b ≡ true → Row w i) → ((j : Instr) → rest ≡ Some j → Row w j) → (j : Instr) → cond b (Some i) rest ≡ Some j → Row w j
by_row w true i rest f g j e = subst (Row w) (same i j e) (f refl)
by_row w false i rest f g j e = g j e

by_codes : (w : ℕ) → w < 2 ^ 32 → (j : Instr) → by_code (bits w 6 0) (bits w 14 12) (bits w 31 25) w ≡ Some j → Row w j
unfolding by_code Row
by_codes w below =
    by_row w _ _ _ (u_row w below 0b0110111) (
    by_row w _ _ _ (u_row w below 0b0010111) (
    by_row w _ _ _ (j_row w below 0b1101111) (
    by_row w _ _ _ (i_row w below 0b1100111 0b000) (
    by_row w _ _ _ (b_row w below 0b1100011 0b000) (
    by_row w _ _ _ (b_row w below 0b1100011 0b001) (
    by_row w _ _ _ (b_row w below 0b1100011 0b100) (
    by_row w _ _ _ (b_row w below 0b1100011 0b101) (
    by_row w _ _ _ (b_row w below 0b1100011 0b110) (
    by_row w _ _ _ (b_row w below 0b1100011 0b111) (
    by_row w _ _ _ (i_row w below 0b0000011 0b000) (
    by_row w _ _ _ (i_row w below 0b0000011 0b001) (
    by_row w _ _ _ (i_row w below 0b0000011 0b010) (
    by_row w _ _ _ (i_row w below 0b0000011 0b100) (
    by_row w _ _ _ (i_row w below 0b0000011 0b101) (
    by_row w _ _ _ (s_row w below 0b0100011 0b000) (
    by_row w _ _ _ (s_row w below 0b0100011 0b001) (
    by_row w _ _ _ (s_row w below 0b0100011 0b010) (
    by_row w _ _ _ (i_row w below 0b0010011 0b000) (
    by_row w _ _ _ (i_row w below 0b0010011 0b010) (
    by_row w _ _ _ (i_row w below 0b0010011 0b011) (
    by_row w _ _ _ (i_row w below 0b0010011 0b100) (
    by_row w _ _ _ (i_row w below 0b0010011 0b110) (
    by_row w _ _ _ (i_row w below 0b0010011 0b111) (
    by_row w _ _ _ (shift_row w below 0b0010011 0b001 0b0000000) (
    by_row w _ _ _ (shift_row w below 0b0010011 0b101 0b0000000) (
    by_row w _ _ _ (shift_row w below 0b0010011 0b101 0b0100000) (
    by_row w _ _ _ (r_row w below 0b0110011 0b000 0b0000000) (
    by_row w _ _ _ (r_row w below 0b0110011 0b000 0b0100000) (
    by_row w _ _ _ (r_row w below 0b0110011 0b001 0b0000000) (
    by_row w _ _ _ (r_row w below 0b0110011 0b010 0b0000000) (
    by_row w _ _ _ (r_row w below 0b0110011 0b011 0b0000000) (
    by_row w _ _ _ (r_row w below 0b0110011 0b100 0b0000000) (
    by_row w _ _ _ (r_row w below 0b0110011 0b101 0b0000000) (
    by_row w _ _ _ (r_row w below 0b0110011 0b101 0b0100000) (
    by_row w _ _ _ (r_row w below 0b0110011 0b110 0b0000000) (
    by_row w _ _ _ (r_row w below 0b0110011 0b111 0b0000000) (
    by_row w _ _ _ (i_row w below 0b0001111 0b000) (
    by_row w _ Ecall _ (λ t. eqb-true w 0x00000073 t) (
    by_row w _ Ebreak _ (λ t. eqb-true w 0x00100073 t) (
    λ j e. absurd (cc)
    ))))))))))))))))))))))))))))))))))))))))

pub decoded-row : (word : ℕ) (instr : Instr) → word < 2 ^ 32 → decoded word ≡ Some instr → Row word instr
unfolding decoded
decoded-row word instr below h = by_codes word below instr h

-- what is found is what is decoded
pub found : (word : ℕ) (instr : Instr) → Row word instr → Some instr ≡ decoded word
found word instr h = sym (row-decoded word instr h)

pub not_found : (word : ℕ) → word < 2 ^ 32 → ((instr : Instr) → ¬ Row word instr) → None ≡ decoded word
not_found word below none = by_decoded (decoded word) refl
  where
    by_decoded : (o : Option Instr) → decoded word ≡ o → None ≡ decoded word
    by_decoded None e = sym e
    by_decoded (Some instr) e = absurd (none instr (decoded-row word instr below e))
