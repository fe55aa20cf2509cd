-- Texts that are written with a separator between them.
use Rattle.std.proofs.Common.{ℕ, zero, suc, ◌+◌, ◌<◌, ◌≤◌, List, [], ◌∷◌, ◌++◌, length, map, drop, get_or, drop-cons, arith, length-append}
use Rattle.text_core.specs.WrittenLines.{parted}
use Rattle.text_core.specs.WrittenPieces.{text_of}
use Rattle.text_core.specs.declared.writing.Piece.{Piece}

-- what is left to be written behind so many texts
abbrev pub behind : List ℕ → ℕ → List (List ℕ) → List ℕ
behind separator zero texts = parted separator texts
behind separator (suc n) [] = []
behind separator (suc n) (text ∷ texts) = separator ++ parted separator (text ∷ texts)

text_within : (separator text : List ℕ) (texts : List (List ℕ)) → length text ≤ length (parted separator (text ∷ texts))
text_within separator text [] = omega arith
text_within separator text (next ∷ rest) = omega (arith, length-append text (separator ++ parted separator (next ∷ rest)))

-- what is left holds the next text, and the separator before it
pub next_within : (separator : List ℕ) (n : ℕ) (pieces : List Piece) (d : Piece) → n < length pieces
    → (0 < n → length separator + length (text_of (get_or pieces n d)) ≤ length (behind separator n (map text_of (drop n pieces))))
    × (length (text_of (get_or pieces n d)) ≤ length (behind separator n (map text_of (drop n pieces))))
next_within separator zero pieces d short = rw (drop-cons pieces 0 d short) (λ none. absurd (omega arith), text_within separator _ _)
next_within separator (suc n) pieces d short =
    let text = text_of (get_or pieces (suc n) d) in
    let rest = map text_of (drop (suc (suc n)) pieces) in
    let within = text_within separator text rest in
    rw (drop-cons pieces (suc n) d short)
    (λ _. omega (arith, length-append separator (parted separator (text ∷ rest)), within), omega (arith, length-append separator (parted separator (text ∷ rest)), within))
