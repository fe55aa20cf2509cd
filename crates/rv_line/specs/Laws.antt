-- The laws of a listing.
use Rattle.std.specs.Prelude.{◌≡◌, ℕ, ◌<◌, ◌^◌, List, Option, None, Some, Ok}
use Rattle.std.specs.List.{AllByRecursion}
use Rattle.rv_line.specs.Lines.{IsWordOf, item, label}
use Rattle.rv_line.specs.Texts.{line_text}
use Rattle.rv_line.specs.declared.item.Item.{Item}

-- the line of a word has no label and says that word, whatever labels there are and wherever the line stands
abbrev pub ListingReads : Type 0
ListingReads =
    (labels : List (List ℕ × ℕ)) (here : Option ℕ) (address w : ℕ) → w < 2 ^ 32 →
    (label (line_text address w) ≡ None) × ((it : Item) × (item labels here (line_text address w) ≡ Ok (Some it)) × IsWordOf w it)

-- it is one line: neither a line feed nor a carriage return stands in it
abbrev pub ListingIsLine : Type 0
ListingIsLine = (address w : ℕ) → AllByRecursion (λ c. 13 < c) (line_text address w)
