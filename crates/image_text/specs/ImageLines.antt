-- Images written as text: a word a line, in hexadecimal.
use Rattle.std.specs.Prelude.{ℕ, ◌+◌, ◌-◌, ◌==◌, if◌then◌else◌, List, [], ◌∷◌, ◌++◌, Option, Some, None, Result, Ok, Err}
use Rattle.text_core.specs.Hexadecimal.{hexadecimal}
use Rattle.text_core.specs.Fields.{fields, is_passed}
use Rattle.image_text.specs.declared.reading.ImageEnd.{ImageEnd}
use Rattle.image_text.specs.declared.reading.ImageEnd.TheVariants.{BadLine, TooMany}

-- the number that the only field spells
abbrev pub only_number : List (List ℕ) → Option ℕ
only_number [] = None
only_number (field ∷ []) = hexadecimal field
only_number (field ∷ next ∷ more) = None

-- the word of a line: its one field as a hexadecimal number
abbrev pub word_of_line : List ℕ → Option ℕ
word_of_line line = only_number (fields line)

-- words put before those that were read behind them
abbrev pub led_by : List ℕ → Result (List ℕ) ImageEnd → Result (List ℕ) ImageEnd
led_by words (Ok more) = Ok (words ++ more)
led_by words (Err end) = Err end

-- what a line's word makes of what is read behind it, where so many words may come
abbrev pub image_from : ℕ → ℕ → Option ℕ → Result (List ℕ) ImageEnd → Result (List ℕ) ImageEnd
image_from room number None rest = Err (BadLine number)
image_from room number (Some word) rest = if room == 0 then Err (TooMany number) else led_by (word ∷ []) rest

-- The words of the lines from line `number` on, of which there may be `room`: or the first line that is wrong, being of another form or one word too many.
abbrev pub image_of : ℕ → ℕ → List (List ℕ) → Result (List ℕ) ImageEnd
image_of room number [] = Ok []
image_of room number (line ∷ lines) =
    if is_passed line then image_of room (number + 1) lines
    else image_from room number (word_of_line line) (image_of (room - 1) (number + 1) lines)
