-- The pieces of a line of assembly text: words, and the signs between them.
use Rattle.std.specs.Prelude.{ℕ, suc, Bool, true, false, ◌==◌, ◌||◌, List, [], ◌∷◌, if◌then◌else◌}
use Rattle.text_core.specs.Fields.{is_blank}

pub data Piece : Type 0 where
  Word : List ℕ → Piece
  Sign : ℕ → Piece

-- a comma or a parenthesis
abbrev pub is_sign : ℕ → Bool
is_sign c = c == 44 || (c == 40 || c == 41)

-- no word goes on here: the line is at its end, or a blank or a sign stands there
abbrev pub ends_word : List ℕ → Bool
ends_word [] = true
ends_word (c ∷ cs) = is_blank c || is_sign c

-- a byte put before the word that comes first
abbrev pub grown : ℕ → List Piece → List Piece
grown c [] = Word (c ∷ []) ∷ []
grown c (Word w ∷ pieces) = Word (c ∷ w) ∷ pieces
grown c (Sign s ∷ pieces) = Word (c ∷ []) ∷ Sign s ∷ pieces

-- the text behind the blanks that it begins with
abbrev pub unblanked : List ℕ → List ℕ
unblanked [] = []
unblanked (c ∷ cs) = if is_blank c then unblanked cs else c ∷ cs

-- how many bytes the word has that a text begins with, none where it begins with a blank, a sign or not at all
abbrev pub word_len : List ℕ → ℕ
word_len [] = 0
word_len (c ∷ cs) = if is_blank c || is_sign c then 0 else (if c == 58 then 1 else suc (word_len cs))

-- no piece is left
abbrev pub is_empty : List Piece → Bool
is_empty [] = true
is_empty (piece ∷ ps) = false

-- The pieces of a text. Blanks part them and are none. A word ends before a blank or a sign, and behind a colon.
abbrev pub pieces : List ℕ → List Piece
pieces [] = []
pieces (c ∷ cs) =
    if is_blank c then pieces cs
    else (if is_sign c then Sign c ∷ pieces cs
    else (if c == 58 || ends_word cs then Word (c ∷ []) ∷ pieces cs
    else grown c (pieces cs)))

-- a line without its comment, which begins with a number sign
abbrev pub without_comment : List ℕ → List ℕ
without_comment [] = []
without_comment (c ∷ cs) = if c == 35 then [] else c ∷ without_comment cs
