-- Contents of RAM that agree outside a region.
use Rattle.std.specs.Prelude.{◌≡◌, ℕ, List, slice_index}

-- two contents of RAM differ in no byte outside the region
abbrev pub DifferOnly : (ℕ → Type 0) → (before after : List ℕ) → Type 0
DifferOnly Region before after = (o : ℕ) → (Region o → ⊥) → slice_index after o ≡ slice_index before o
