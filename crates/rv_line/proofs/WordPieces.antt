-- The words of the operands' texts: what pieces they are, and what they are read as.
use Rattle.std.proofs.Common.{◌≡◌, ◌≢◌, ℕ, suc, ◌%◌, ◌^◌, ◌<◌, ◌≤ℤ◌, ℤ, pos, negsuc, Bool, true, false, ◌&&◌, List, [], ◌∷◌, ◌++◌, length, Option, Some, None, Ok, Result, ◌≤◌, if◌then◌else◌, refl, arith, ◌==◌, nat_lt, not, rules, lit<}
use Rattle.std.specs.Fmt.{decimal, signed_decimal}
use Rattle.std.specs.List.{AllByRecursion}
use Rattle.std.proofs.lemmas.Bool.{and_parts, ne_eqb, eq-eqb}
use Rattle.std.proofs.lemmas.Bool.Decides.{nat_tests}
use Rattle.std.proofs.lemmas.Int.{ints}
use Rattle.rv_isa.specs.Operand.{IsReg, IsImm12, IsImmB, IsImmJ, IsImmU, IsShift, IsEven}
use Rattle.text_core.specs.Hexadecimal.{glyph, hex8}
use Rattle.text_core.specs.Numbers.{number_of}
use Rattle.rv_line.specs.Pieces.{Piece, Word, ends_word, grown, pieces, without_comment}
use Rattle.rv_line.specs.Words.{imm12, imm_b, imm_j, imm_u, is_between, is_even, is_number, is_register, is_target, number, raw_word, register, shift, target}
use Rattle.rv_line.specs.Texts.{register_text}
use Rattle.rv_line.specs.declared.fault.LineFault.{LineFault}
use Rattle.std.proofs.lemmas.Fmt.{decimal_nonempty}
use Rattle.rv_line.proofs.Numbers.{decimal-All, hexadecimal-hex8, number_of-decimal, number-signed_decimal}

-- a byte that is neither a blank nor a sign nor a number sign nor a colon: a digit, a letter, `-` or `.`
abbrev pub IsPlain : ℕ → Type 0
IsPlain c = (44 < c) × (c ≢ 58)

-- a word of such bytes
abbrev pub IsPlainWord : List ℕ → Type 0
IsPlainWord [] = ⊥
IsPlainWord (c ∷ cs) = IsPlain c × AllByRecursion IsPlain cs

-- a test of plain words, which computes on a mnemonic
abbrev pub all_plain : List ℕ → Bool
all_plain [] = true
all_plain (c ∷ cs) = (nat_lt 44 c && not (c == 58)) && all_plain cs

abbrev pub is_plain_word : List ℕ → Bool
is_plain_word [] = false
is_plain_word (c ∷ cs) = all_plain (c ∷ cs)

pub plain_bytes : (cs : List ℕ) → all_plain cs ≡ true → AllByRecursion IsPlain cs
plain_bytes [] t = tt
plain_bytes (c ∷ cs) t = let p = and_parts (nat_lt 44 c && not (c == 58)) (all_plain cs) t in (plain p.0, plain_bytes cs p.1)
  where
    plain : (nat_lt 44 c && not (c == 58)) ≡ true → IsPlain c
    plain p = grind (arith, nat_tests)

pub plain_word : (w : List ℕ) → is_plain_word w ≡ true → IsPlainWord w
plain_word [] t = absurd (cc)
plain_word (c ∷ cs) t = plain_bytes (c ∷ cs) t

-- the pieces of a line without its comment
abbrev pub line_pieces : List ℕ → List Piece
line_pieces line = pieces (without_comment line)

no_comment : (c : ℕ) (cs : List ℕ) → IsPlain c → without_comment (c ∷ cs) ≡ c ∷ without_comment cs
no_comment c cs p = let above = p.0 in rw (ne_eqb c 35 (omega arith)) refl

no_end : (c : ℕ) (cs : List ℕ) → IsPlain c → ends_word (c ∷ cs) ≡ false
no_end c cs p = let above = p.0 in rw (ne_eqb c 32 (omega arith), ne_eqb c 9 (omega arith), ne_eqb c 44 (omega arith), ne_eqb c 40 (omega arith), ne_eqb c 41 (omega arith)) refl

goes_on : (c : ℕ) (cs : List ℕ) → IsPlain c → pieces (c ∷ cs) ≡ (if ends_word cs then (Word (c ∷ []) ∷ pieces cs) else grown c (pieces cs))
goes_on c cs p = let above = p.0 in rw (ne_eqb c 32 (omega arith), ne_eqb c 9 (omega arith), ne_eqb c 44 (omega arith), ne_eqb c 40 (omega arith), ne_eqb c 41 (omega arith), ne_eqb c 58 p.1) refl

-- a word with an end behind it is one piece
pub word_piece : (w rest : List ℕ) → IsPlainWord w → ends_word (without_comment rest) ≡ true → line_pieces (w ++ rest) ≡ Word w ∷ line_pieces rest
word_piece [] rest p e = absurd p
word_piece (c ∷ cs) rest p e = from c cs p.0 p.1
  where
    from : (c : ℕ) (cs : List ℕ) → IsPlain c → AllByRecursion IsPlain cs → line_pieces (c ∷ cs ++ rest) ≡ Word (c ∷ cs) ∷ line_pieces rest
    from c [] p ps = rw (no_comment c rest p, goes_on c (without_comment rest) p, e) refl
    from c (d ∷ ds) p ps = rw (no_comment c (d ∷ (ds ++ rest)) p, goes_on c (without_comment (d ∷ (ds ++ rest))) p, from d ds ps.0 ps.1, no_comment d (ds ++ rest) ps.0, no_end d (without_comment (ds ++ rest)) ps.0) refl

lt_test : (a b : ℕ) → a < b → nat_lt a b ≡ true
lt_test a b h = grind (arith, nat_tests)

between : (low high z : ℤ) → low ≤ℤ z → z ≤ℤ high → is_between low high z ≡ true
between low high z l h = grind (arith, nat_tests, ints)

-- a word has a form, and is read as a value
pub record IsReadAs {A : Type 0} (is_formed : List ℕ → Bool) (read : List ℕ → Result A LineFault) (w : List ℕ) (x : A) : Type 0 where
  pub plain : IsPlainWord w
  pub formed : is_formed w ≡ true
  pub value : read w ≡ Ok x

pub digits_plain : (n : ℕ) → AllByRecursion IsPlain (decimal n)
digits_plain = decimal-All IsPlain (λ d h. (omega arith, λ e. omega arith))

decimal_plain : (n : ℕ) → n < 2 ^ 64 → IsPlainWord (decimal n)
decimal_plain n h = whole (decimal n) (decimal_nonempty n h) (digits_plain n)
  where
    whole : (ds : List ℕ) → 0 < length ds → AllByRecursion IsPlain ds → IsPlainWord ds
    whole [] some p = absurd (omega arith)
    whole (d ∷ ds) some p = p

signed_plain : (z : ℤ) → negsuc 1048575 ≤ℤ z → z ≤ℤ pos 1048575 → IsPlainWord (signed_decimal z)
signed_plain (pos n) low high = decimal_plain n (omega (arith, ints))
signed_plain (negsuc n) low high = ((lit< tt, λ e. omega arith), digits_plain (suc n))

pub register_word : (r : ℕ) → IsReg r → IsReadAs is_register register (register_text r) r
unfolding register
register_word r h =
    let number = number_of-decimal r (omega arith) in
    record {
      plain = ((lit< tt, λ e. omega arith), digits_plain r);
      formed = rw number refl;
      value = rw (number, lt_test r 32 h) refl;
    }

pub imm12_word : (z : ℤ) → IsImm12 z → IsReadAs is_number imm12 (signed_decimal z) z
unfolding imm12
imm12_word z h =
    let low : negsuc 1048575 ≤ℤ z = omega (arith, ints, h.0) in
    let high : z ≤ℤ pos 1048575 = omega (arith, ints, h.1) in
    let n = number-signed_decimal z low high in
    record { plain = signed_plain z low high; formed = rw n refl; value = rw (n, between (negsuc 2047) (pos 2047) z h.0 h.1) refl }

natural_word : (n : ℕ) → n ≤ 1048575 → number (decimal n) ≡ Some (pos n)
natural_word n h = number-signed_decimal (pos n) (omega (arith, ints)) (omega (arith, ints))

pub shift_word : (n : ℕ) → IsShift n → IsReadAs is_number shift (decimal n) n
unfolding shift
shift_word n h =
    let number = natural_word n (omega arith) in
    record { plain = decimal_plain n (omega arith); formed = rw number refl; value = rw (number, between (pos 0) (pos 31) (pos n) (omega (arith, ints)) (omega (arith, ints))) refl }

pub imm_u_word : (n : ℕ) → IsImmU n → IsReadAs is_number imm_u (decimal n) n
unfolding imm_u
imm_u_word n h =
    let number = natural_word n (omega arith) in
    record { plain = decimal_plain n (omega arith); formed = rw number refl; value = rw (number, between (pos 0) (pos 1048575) (pos n) (omega (arith, ints)) (omega (arith, ints))) refl }

even : (z : ℤ) → IsEven z → is_even z ≡ true
even (pos n) e = eq-eqb (n % 2) 0 (omega (arith, ints))
even (negsuc n) e = eq-eqb (suc n % 2) 0 (omega (arith, ints))

module _ (labels : List (List ℕ × ℕ)) (here : Option ℕ) (z : ℤ) where
  pub imm_b_word : IsImmB z → IsReadAs is_target (imm_b labels here) (signed_decimal z) z
  unfolding imm_b target
  imm_b_word h =
      let low : negsuc 1048575 ≤ℤ z = omega (arith, ints, h.0) in
      let high : z ≤ℤ pos 1048575 = omega (arith, ints, h.1) in
      let n = number-signed_decimal z low high in
      record { plain = signed_plain z low high; formed = rw n refl; value = rw (n, between (negsuc 4095) (pos 4094) z h.0 h.1, even z h.2) refl }

  pub imm_j_word : IsImmJ z → IsReadAs is_target (imm_j labels here) (signed_decimal z) z
  unfolding imm_j target
  imm_j_word h =
      let low : negsuc 1048575 ≤ℤ z = h.0 in
      let high : z ≤ℤ pos 1048575 = omega (arith, ints, h.1) in
      let n = number-signed_decimal z low high in
      record { plain = signed_plain z low high; formed = rw n refl; value = rw (n, between (negsuc 1048575) (pos 1048574) z h.0 h.1, even z h.2) refl }

glyph_plain : (m : ℕ) → IsPlain (glyph (m % 16))
glyph_plain m = (grind (arith, nat_tests), grind (arith, nat_tests))

pub hex8_plain : (n : ℕ) → AllByRecursion IsPlain (hex8 n)
unfolding hex8
hex8_plain n = search (rules, glyph_plain)

no_decimal : (n : ℕ) → number_of (48 ∷ 120 ∷ hex8 n) ≡ None
unfolding hex8
no_decimal n = refl

hex8_number : (n : ℕ) → n < 2 ^ 32 → number (48 ∷ 120 ∷ hex8 n) ≡ Some (pos n)
unfolding number
hex8_number n h = rw (no_decimal n, hexadecimal-hex8 n h) refl

pub raw_word_word : (n : ℕ) → n < 2 ^ 32 → IsReadAs is_number raw_word (48 ∷ 120 ∷ hex8 n) n
unfolding raw_word
raw_word_word n h =
    let number = hex8_number n h in
    record {
      plain = ((lit< tt, λ e. omega arith), ((lit< tt, λ e. omega arith), hex8_plain n));
      formed = rw number refl;
      value = rw (number, between (pos 0) (pos 4294967295) (pos n) (omega (arith, ints)) (omega (arith, ints))) refl;
    }
