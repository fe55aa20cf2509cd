-- The words of assembly text: registers, numbers, labels and the displacements of labels.
use Rattle.std.specs.Prelude.{ℕ, ◌*◌, ◌%◌, ℤ, pos, negsuc, neg_ℤ, ◌-ℤ◌, int_le, unsigned_abs, Bool, ◌==◌, ◌&&◌, ◌||◌, nat_lt, List, [], ◌∷◌, if◌then◌else◌, bytes_eq, is_none, is_some, Option, None, Some, Result, Ok, Err}
use Rattle.std.specs.Option.{option_map, option_or}
use Rattle.std.specs.Map.{lookup}
use Rattle.asm_tree.specs.Names.{is_name}
use Rattle.text_core.specs.Numbers.{number_of}
use Rattle.text_core.specs.Hexadecimal.{hexadecimal}
use Rattle.rv_line.specs.declared.fault.LineFault.{LineFault}
use Rattle.rv_line.specs.declared.fault.LineFault.TheVariants.{Form, Range, Undefined}

-- the number of a register: `x` and a decimal, whether or not there is such a register
abbrev pub register_number : List ℕ → Option ℕ
register_number [] = None
register_number (c ∷ digits) = if c == 120 then number_of digits else None

-- a hexadecimal number behind `0x`
abbrev pub prefixed : List ℕ → Option ℕ
prefixed [] = None
prefixed (c ∷ []) = None
prefixed (c ∷ x ∷ digits) = if (c == 48) && (x == 120) then hexadecimal digits else None

-- a decimal, which may have `-` before it
abbrev pub signed_number : List ℕ → Option ℤ
signed_number [] = None
signed_number (c ∷ digits) = if c == 45 then option_map (λ n. neg_ℤ (pos n)) (number_of digits) else option_map pos (number_of (c ∷ digits))

-- a number: a decimal, or a hexadecimal number behind `0x`
unfoldable pub number : List ℕ → Option ℤ
number w = option_or (signed_number w) (option_map pos (prefixed w))

-- a label: a name that isn't written as a register
abbrev pub is_label : List ℕ → Bool
is_label w = is_name w && is_none (register_number w)

-- The displacement of a label in bytes, from the instruction that is the word with the number `here`: every label's is 0 where no place is given.
abbrev pub displacement : List (List ℕ × ℕ) → Option ℕ → List ℕ → Option ℤ
displacement labels None label = Some (pos 0)
displacement labels (Some here) label = option_map (λ there. pos (4 * there) -ℤ pos (4 * here)) (lookup (bytes_eq label) labels)

-- what there is, or this fault
abbrev pub or_fault : {A : Type 0} → LineFault → Option A → Result A LineFault
or_fault fault None = Err fault
or_fault fault (Some x) = Ok x

infixl 10 ◌>>=◌
-- the second step goes on from the value of the first; a fault ends both
abbrev pub ◌>>=◌ : {A B : Type 0} → Result A LineFault → (A → Result B LineFault) → Result B LineFault
(Ok x) >>= step = step x
(Err fault) >>= step = Err fault

-- a value that passes its test of range
abbrev pub ranged : {A : Type 0} → Bool → A → Result A LineFault
ranged test x = if test then Ok x else Err Range

-- from the lower bound to the upper
abbrev pub is_between : ℤ → ℤ → ℤ → Bool
is_between low high z = int_le low z && int_le z high

abbrev pub is_even : ℤ → Bool
is_even z = unsigned_abs z % 2 == 0

-- ---- the words of operands: each of its form, and then in its range

unfoldable pub register : List ℕ → Result ℕ LineFault
register w = do
  n ← or_fault Form (register_number w)
  ranged (nat_lt n 32) n

unfoldable pub imm12 : List ℕ → Result ℤ LineFault
imm12 w = do
  z ← or_fault Form (number w)
  ranged (is_between (negsuc 2047) (pos 2047) z) z

unfoldable pub shift : List ℕ → Result ℕ LineFault
shift w = do
  z ← or_fault Form (number w)
  ranged (is_between (pos 0) (pos 31) z) (unsigned_abs z)

unfoldable pub imm_u : List ℕ → Result ℕ LineFault
imm_u w = do
  z ← or_fault Form (number w)
  ranged (is_between (pos 0) (pos 1048575) z) (unsigned_abs z)

unfoldable pub raw_word : List ℕ → Result ℕ LineFault
raw_word w = do
  z ← or_fault Form (number w)
  ranged (is_between (pos 0) (pos 4294967295) z) (unsigned_abs z)

-- a target: a displacement in bytes, or a label that stands for its own
unfoldable pub target : List (List ℕ × ℕ) → Option ℕ → List ℕ → Result ℤ LineFault
target labels here w = target_of (number w)
  where
    target_of : Option ℤ → Result ℤ LineFault
    target_of (Some z) = Ok z
    target_of None = if is_label w then or_fault Undefined (displacement labels here w) else Err Form

unfoldable pub imm_b : List (List ℕ × ℕ) → Option ℕ → List ℕ → Result ℤ LineFault
imm_b labels here w = do
  z ← target labels here w
  ranged (is_between (negsuc 4095) (pos 4094) z && is_even z) z

unfoldable pub imm_j : List (List ℕ × ℕ) → Option ℕ → List ℕ → Result ℤ LineFault
imm_j labels here w = do
  z ← target labels here w
  ranged (is_between (negsuc 1048575) (pos 1048574) z && is_even z) z

-- ---- which words have the form of an operand

abbrev pub is_register : List ℕ → Bool
is_register w = is_some (register_number w)

abbrev pub is_number : List ℕ → Bool
is_number w = is_some (number w)

abbrev pub is_target : List ℕ → Bool
is_target w = is_number w || is_label w

abbrev pub formed : Bool → Result (Unit {0}) LineFault
formed test = if test then Ok tt else Err Form
