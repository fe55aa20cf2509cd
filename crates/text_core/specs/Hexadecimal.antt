-- Numbers below 2 ^ 32 in hexadecimal.
use Rattle.std.specs.Prelude.{ℕ, ◌+◌, ◌-◌, ◌*◌, ◌/◌, ◌%◌, ◌^◌, ◌&&◌, Option, Some, None, option_and_then, List, [], ◌∷◌, length, nat_lt, nat_le, if◌then◌else◌}
use Rattle.std.specs.Char.{is_ascii_digit}

-- the byte of a digit: 0 to 9, then a to f
abbrev pub glyph : ℕ → ℕ
glyph digit = if nat_lt digit 10 then 48 + digit else 87 + digit

-- eight digits in lower case, the highest first
unfoldable pub hex8 : ℕ → List ℕ
hex8 n =
    glyph (n / 16 ^ 7 % 16) ∷ glyph (n / 16 ^ 6 % 16) ∷ glyph (n / 16 ^ 5 % 16) ∷ glyph (n / 16 ^ 4 % 16)
    ∷ glyph (n / 16 ^ 3 % 16) ∷ glyph (n / 16 ^ 2 % 16) ∷ glyph (n / 16 % 16) ∷ glyph (n % 16) ∷ []

-- the value of a digit's byte, of either case
abbrev pub digit_value : ℕ → Option ℕ
digit_value c =
    if is_ascii_digit c then Some (c - 48)
    else (if nat_le 97 c && nat_le c 102 then Some (c - 87) else (if nat_le 65 c && nat_le c 70 then Some (c - 55) else None))

-- the number that digits spell behind a number that was read before them
abbrev pub hexadecimal_from : ℕ → List ℕ → Option ℕ
hexadecimal_from n [] = Some n
hexadecimal_from n (c ∷ cs) = option_and_then (λ digit. hexadecimal_from (n * 16 + digit) cs) (digit_value c)

-- the number that 1 to 8 digits spell, zeros before it included
abbrev pub hexadecimal : List ℕ → Option ℕ
hexadecimal text = if nat_le 1 (length text) && nat_le (length text) 8 then hexadecimal_from 0 text else None
