-- Texts of lines, and lines of fields.
use Rattle.std.specs.Prelude.{ℕ, List, [], ◌∷◌, ◌++◌, flat_map}

infixr 30 ◌␣◌
-- two fields of a line, with a space between them
abbrev pub ◌␣◌ : List ℕ → List ℕ → List ℕ
x ␣ y = x ++ 32 ∷ y

-- texts with a separator between them
abbrev pub parted : List ℕ → List (List ℕ) → List ℕ
parted separator [] = []
parted separator (text ∷ []) = text
parted separator (text ∷ next ∷ rest) = text ++ (separator ++ parted separator (next ∷ rest))

-- a line with its line feed
abbrev pub ended : List ℕ → List ℕ
ended line = line ++ 10 ∷ []

-- the text of lines
abbrev pub lines_text : List (List ℕ) → List ℕ
lines_text lines = flat_map ended lines
