-- How long the texts of a program's values are at most.
use Rattle.std.specs.Prelude.{ℕ, List, [], ◌∷◌, length, max}
use Rattle.asm_names.specs.declared.program.Domain.{Domain}

-- the length of the longest of these names, and this number where that is less
abbrev pub longest : ℕ → List (List ℕ) → ℕ
longest least [] = least
longest least (name ∷ names) = longest (max least (length name)) names

-- the length of the longest enumerator of these domains, and this number where that is less
abbrev pub widest : ℕ → List Domain → ℕ
widest least [] = least
widest least (domain ∷ domains) = widest (longest least domain.items) domains
