-- A word more of an image that is read.
use Rattle.std.proofs.Common.{◌≡◌, ◌≢◌, ℕ, ◌+◌, ◌-◌, false, List, [], ◌∷◌, ◌++◌, Some, Result, Ok, Err, refl, sym, ap, append_assoc}
use Rattle.std.proofs.lemmas.Bool.{ne_eqb}
use Rattle.image_text.specs.declared.reading.ImageEnd.{ImageEnd}
use Rattle.text_core.specs.Fields.{is_passed}
use Rattle.image_text.specs.ImageLines.{image_of, led_by, word_of_line}

led_twice : (words more : List ℕ) (rest : Result (List ℕ) ImageEnd) → led_by words (led_by more rest) ≡ led_by (words ++ more) rest
led_twice words more (Ok rest) = ap Ok (sym (append_assoc words more rest))
led_twice words more (Err end) = refl

pub one_more_word : (words : List ℕ) (word room number : ℕ) (line : List ℕ) (rest : List (List ℕ)) → is_passed line ≡ false → word_of_line line ≡ Some word → room ≢ 0
    → led_by words (image_of room number (line ∷ rest)) ≡ led_by (words ++ word ∷ []) (image_of (room - 1) (number + 1) rest)
one_more_word words word room number line rest taken spelled some =
    rw (taken, spelled, ne_eqb room 0 some) (led_twice words (word ∷ []) (image_of (room - 1) (number + 1) rest))
