-- The fields of a line.
use Rattle.std.specs.Prelude.{false, ℕ, ◌+◌, ◌-◌, ◌<◌, ◌≤◌, Bool, true, not, ◌||◌, ◌==◌, List, [], ◌∷◌, length, take, drop, if◌then◌else◌, ⊤}
use Rattle.std.specs.List.{prefix_len}
use Rattle.text_core.specs.Lines.{joined}

-- a space or a tab
abbrev pub is_blank : ℕ → Bool
is_blank c = c == 32 || c == 9

-- no field goes on here: the line is at its end, or a blank stands there
abbrev pub begins_blank : List ℕ → Bool
begins_blank [] = true
begins_blank (c ∷ cs) = is_blank c

-- the fields of a line, which runs of spaces and tabs part
abbrev pub fields : List ℕ → List (List ℕ)
fields [] = []
fields (c ∷ cs) =
    if is_blank c then fields cs
    else (if begins_blank cs then (c ∷ []) ∷ fields cs else joined c (fields cs))

-- the bytes from a start up to an end
abbrev pub piece : List ℕ → ℕ × ℕ → List ℕ
piece line place = take (place.1 - place.0) (drop place.0 line)

-- a start and an end that enclose some bytes of the line
abbrev pub IsWithin : List ℕ → ℕ × ℕ → Type 0
IsWithin line place = (place.0 < place.1) × (place.1 ≤ length line)

-- each place begins where the one before it ends, or behind that; the first begins at this place or behind it
abbrev pub AreInOrder : ℕ → List (ℕ × ℕ) → Type 0
AreInOrder end [] = ⊤
AreInOrder end (place ∷ places) = (end ≤ place.0) × AreInOrder place.1 places

-- where the first field ends: behind the blanks that it follows and the bytes up to the next blank
abbrev pub first_end : List ℕ → ℕ
first_end line =
    let blanks = prefix_len is_blank line in blanks + prefix_len (λ byte. not (is_blank byte)) (drop blanks line)

-- the first byte of a line is this one
abbrev pub begins : ℕ → List ℕ → Bool
begins byte [] = false
begins byte (c ∷ cs) = c == byte

-- there is nothing: no line, or no field
abbrev pub is_empty : List (List ℕ) → Bool
is_empty [] = true
is_empty (line ∷ lines) = false

-- a line that is passed over: one of blanks alone, or one whose first byte is `#`
abbrev pub is_passed : List ℕ → Bool
is_passed line = begins 35 line || is_empty (fields line)
