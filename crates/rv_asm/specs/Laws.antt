-- A listing assembles back to its words.
use Rattle.std.specs.Prelude.{ℕ, ◌≤◌, ◌<◌, ◌^◌, List, length, All}
use Rattle.text_core.specs.Lines.{lines}
use Rattle.rv_asm.specs.Assembly.{Assembles}
use Rattle.rv_asm.specs.Listing.{listing_text}

abbrev pub ListingAssembles : Type 0
ListingAssembles =
    (limit first : ℕ) (words : List ℕ) → All (λ w. w < 2 ^ 32) words → length words ≤ limit
    → Assembles limit first (lines (listing_text words)) words
