-- Decimal digits, and the number that they spell.
use Rattle.std.specs.Prelude.{ℕ, ◌+◌, ◌-◌, ◌*◌, Bool, true, ◌&&◌, ◌||◌, not, nat_le, ◌==◌, Option, Some, None, if◌then◌else◌, List, [], ◌∷◌, length, slice_index}
use Rattle.std.specs.Char.{is_ascii_digit}

-- each byte is a decimal digit
abbrev pub all_digits : List ℕ → Bool
all_digits [] = true
all_digits (c ∷ cs) = is_ascii_digit c && all_digits cs

-- 1 to 18 digits, the first of which is 0 only if it is the only one
abbrev pub is_decimal : List ℕ → Bool
is_decimal text = (nat_le 1 (length text) && nat_le (length text) 18) && ((not (slice_index text 0 == 48) || length text == 1) && all_digits text)

-- the number that digits spell behind a number that was read before them
abbrev pub value_from : ℕ → List ℕ → ℕ
value_from n [] = n
value_from n (c ∷ cs) = value_from (n * 10 + (c - 48)) cs

-- the number that digits spell
abbrev pub value_of : List ℕ → ℕ
value_of text = value_from 0 text

-- the number that 1 to 18 digits spell, the first of which is 0 only if it is the only one
abbrev pub number_of : List ℕ → Option ℕ
number_of text = if is_decimal text then Some (value_of text) else None
