-- The listing of words.
use Rattle.std.specs.Prelude.{ℕ, List}
use Rattle.text_core.specs.WrittenLines.{lines_text}
use Rattle.rv_line.specs.Texts.{listing_lines}

-- the text of the listing: a line for each word, ended by a line feed
unfoldable pub listing_text : List ℕ → List ℕ
listing_text words = lines_text (listing_lines 0 words)
