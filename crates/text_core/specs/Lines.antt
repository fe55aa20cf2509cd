-- The lines of a text.
use Rattle.std.specs.Prelude.{ℕ, ◌-◌, Bool, false, ◌&&◌, ◌==◌, List, [], ◌∷◌, length, take, slice_index, if◌then◌else◌}

-- a byte put before the first of these pieces, or as a piece of its own where there is none
abbrev pub joined : ℕ → List (List ℕ) → List (List ℕ)
joined c [] = (c ∷ []) ∷ []
joined c (piece ∷ pieces) = (c ∷ piece) ∷ pieces

-- the text begins with a line feed
abbrev pub begins_feed : List ℕ → Bool
begins_feed [] = false
begins_feed (c ∷ cs) = c == 10

-- The lines of a text. Each ends with a line feed, before which one carriage return is dropped; a last piece that isn't empty is a line too.
abbrev pub lines : List ℕ → List (List ℕ)
lines [] = []
lines (c ∷ cs) =
    if c == 10 then [] ∷ lines cs
    else (if (c == 13) && begins_feed cs then lines cs else joined c (lines cs))

-- what is left of a text, and the number of its first line
pub record Cursor : Type 0 where
  pub left : List ℕ
  pub number : ℕ

-- the last byte is a carriage return
abbrev pub ends_return : List ℕ → Bool
ends_return text = slice_index text (length text - 1) == 13

-- the text without the carriage return at its end
abbrev pub without_return : List ℕ → List ℕ
without_return text = if ends_return text then take (length text - 1) text else text
