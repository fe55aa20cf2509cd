-- The forms of operands. Where each word has its form, the first one that is out of its range makes the fault.
use Rattle.std.specs.Prelude.{ℕ, ℤ, ◌==◌, ◌&&◌, List, [], ◌∷◌, if◌then◌else◌, Result, Ok, Err, Option}
use Rattle.rv_line.specs.Pieces.{Piece, Word, Sign}
use Rattle.rv_line.specs.Words.{◌>>=◌, formed, imm12, imm_b, imm_j, imm_u, is_number, is_register, is_target, raw_word, register, shift}
use Rattle.rv_line.specs.declared.fault.LineFault.{LineFault}
use Rattle.rv_line.specs.declared.fault.LineFault.TheVariants.{Form}

-- ---- the pieces in their order: what stands first, and the pieces behind it

abbrev pub word : List Piece → Result (List ℕ × List Piece) LineFault
word [] = Err Form
word (Word w ∷ ps) = Ok (w, ps)
word (Sign s ∷ ps) = Err Form

abbrev pub sign : ℕ → List Piece → Result (List Piece) LineFault
sign c [] = Err Form
sign c (Word w ∷ ps) = Err Form
sign c (Sign s ∷ ps) = if s == c then Ok ps else Err Form

abbrev pub end : List Piece → Result (Unit {0}) LineFault
end [] = Ok tt
end (piece ∷ ps) = Err Form

-- two words with a comma between them
unfoldable pub two : List Piece → Result (List ℕ × List ℕ) LineFault
two ps = do
  a ← word ps
  comma ← sign 44 a.1
  b ← word comma
  done ← end b.1
  Ok (a.0, b.0)

-- three words with commas between them
unfoldable pub three : List Piece → Result (List ℕ × List ℕ × List ℕ) LineFault
three ps = do
  a ← word ps
  comma ← sign 44 a.1
  b ← word comma
  other ← sign 44 b.1
  c ← word other
  done ← end c.1
  Ok (a.0, b.0, c.0)

-- a word, a comma, and a word with one in parentheses behind it
unfoldable pub based : List Piece → Result (List ℕ × List ℕ × List ℕ) LineFault
based ps = do
  a ← word ps
  comma ← sign 44 a.1
  b ← word comma
  left ← sign 40 b.1
  c ← word left
  right ← sign 41 c.1
  done ← end right
  Ok (a.0, b.0, c.0)

-- one word
unfoldable pub one : List Piece → Result (List ℕ) LineFault
one ps = do
  a ← word ps
  done ← end a.1
  Ok a.0

-- ---- the operands of instructions, in the order of the instructions' fields

-- `xD, xA, xB`
unfoldable pub registers : List Piece → Result (ℕ × ℕ × ℕ) LineFault
registers ps = do
  w ← three ps
  all ← formed (is_register w.0 && (is_register w.1 && is_register w.2))
  rd ← register w.0
  rs1 ← register w.1
  rs2 ← register w.2
  Ok (rd, rs1, rs2)

-- `xD, xA, N`
unfoldable pub immediate : List Piece → Result (ℕ × ℕ × ℤ) LineFault
immediate ps = do
  w ← three ps
  all ← formed (is_register w.0 && (is_register w.1 && is_number w.2))
  rd ← register w.0
  rs1 ← register w.1
  imm ← imm12 w.2
  Ok (rd, rs1, imm)

-- `xD, xA, N`, the number being that of bits to shift by
unfoldable pub shift_by : List Piece → Result (ℕ × ℕ × ℕ) LineFault
shift_by ps = do
  w ← three ps
  all ← formed (is_register w.0 && (is_register w.1 && is_number w.2))
  rd ← register w.0
  rs1 ← register w.1
  bits ← shift w.2
  Ok (rd, rs1, bits)

-- `xD, N(xA)`
unfoldable pub load : List Piece → Result (ℕ × ℕ × ℤ) LineFault
load ps = do
  w ← based ps
  all ← formed (is_register w.0 && (is_number w.1 && is_register w.2))
  rd ← register w.0
  imm ← imm12 w.1
  rs1 ← register w.2
  Ok (rd, rs1, imm)

-- `xB, N(xA)`, xB being rs2
unfoldable pub store : List Piece → Result (ℕ × ℕ × ℤ) LineFault
store ps = do
  w ← based ps
  all ← formed (is_register w.0 && (is_number w.1 && is_register w.2))
  rs2 ← register w.0
  imm ← imm12 w.1
  rs1 ← register w.2
  Ok (rs1, rs2, imm)

-- `N, xA, xD`
unfoldable pub fence : List Piece → Result (ℕ × ℕ × ℤ) LineFault
fence ps = do
  w ← three ps
  all ← formed (is_number w.0 && (is_register w.1 && is_register w.2))
  imm ← imm12 w.0
  rs1 ← register w.1
  rd ← register w.2
  Ok (rd, rs1, imm)

-- `xD, N`
unfoldable pub upper : List Piece → Result (ℕ × ℕ) LineFault
upper ps = do
  w ← two ps
  all ← formed (is_register w.0 && is_number w.1)
  rd ← register w.0
  imm ← imm_u w.1
  Ok (rd, imm)

-- `N`, a word
unfoldable pub raw : List Piece → Result ℕ LineFault
raw ps = do
  w ← one ps
  raw_word w

module _ (labels : List (List ℕ × ℕ)) (here : Option ℕ) where
  -- `xA, xB, T`
  unfoldable pub branch : List Piece → Result (ℕ × ℕ × ℤ) LineFault
  branch ps = do
    w ← three ps
    all ← formed (is_register w.0 && (is_register w.1 && is_target w.2))
    rs1 ← register w.0
    rs2 ← register w.1
    imm ← imm_b labels here w.2
    Ok (rs1, rs2, imm)

  -- `xD, T`
  unfoldable pub jump : List Piece → Result (ℕ × ℤ) LineFault
  jump ps = do
    w ← two ps
    all ← formed (is_register w.0 && is_target w.1)
    rd ← register w.0
    imm ← imm_j labels here w.1
    Ok (rd, imm)
