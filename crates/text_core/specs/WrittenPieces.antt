-- Pieces of text that are written, and lines of them.
use Rattle.std.specs.Prelude.{List, ℕ, [], ◌∷◌, map}
use Rattle.std.specs.Fmt.{decimal, signed_decimal}
use Rattle.text_core.specs.Hexadecimal.{hex8}
use Rattle.text_core.specs.WrittenLines.{ended, parted}
use Rattle.text_core.specs.declared.writing.Piece.{Piece}
use Rattle.text_core.specs.declared.writing.Piece.TheVariants.{Text, Decimal, Signed, Hex8}

-- the text of a piece
abbrev pub text_of : Piece → List ℕ
text_of (Text text) = text.now
text_of (Decimal number) = decimal number
text_of (Signed number) = signed_decimal number
text_of (Hex8 word) = hex8 word

-- the text of pieces, one behind the other
abbrev pub whole_of : List Piece → List ℕ
whole_of pieces = parted [] (map text_of pieces)

-- a line of fields with a space between them, and its line feed
abbrev pub line_of : List Piece → List ℕ
line_of fields = ended (parted (32 ∷ []) (map text_of fields))
