-- Where texts stand in a list.
use Rattle.std.specs.Prelude.{◌≡◌, ℕ, List, Option, bytes_eq}
use Rattle.std.specs.List.{position_from}
use Rattle.std.specs.Map.{lookup}
use Rattle.fault_script.specs.declared.positions.Positions.{Positions}

-- the position that a text has
unfoldable pub position_in : Positions → List ℕ → Option ℕ
position_in table text = lookup (λ key. bytes_eq text key.items) table.positions.entries

-- each text has its first place in a list
abbrev pub Lists : Positions → List (List ℕ) → Type 0
Lists table texts = (text : List ℕ) → position_in table text ≡ position_from (bytes_eq text) 0 texts

-- the same of the items from the one with this number on
abbrev pub ListsFrom : Positions → ℕ → List (List ℕ) → Type 0
ListsFrom table number texts = (text : List ℕ) → position_in table text ≡ position_from (bytes_eq text) number texts
