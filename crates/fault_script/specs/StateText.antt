-- The text of a state.
use Rattle.std.specs.Prelude.{ℕ, ℤ, pos, negsuc, List, [], ◌∷◌, ◌++◌, map, flat_map, zip, slice_get, slice_index_or, Option, None, unwrap_or}
use Rattle.std.specs.Fmt.{signed_decimal}
use Rattle.asm_names.specs.declared.program.Domain.{Domain}
use Rattle.asm_names.specs.declared.program.Fun.{Fun}
use Rattle.asm_names.specs.declared.program.Resolved.{Resolved}
use Rattle.state_space.specs.Locations.{Location, no_domain, signatures_of, state_locations}
use Rattle.asm_ranges.specs.Values.{State, fun_of}

abbrev pub domain_of : List Domain → ℕ → Domain
domain_of domains n = slice_index_or domains n no_domain

-- the name with a number among the enumerators of a domain, of which a range has none
abbrev pub enumerator : List (List ℕ) → ℤ → Option (List ℕ)
enumerator names (pos k) = slice_get names k
enumerator names (negsuc k) = None

-- a value of a domain: its enumerator, and in decimal where the domain has none
abbrev pub value_text : Domain → ℤ → List ℕ
value_text domain value = unwrap_or (enumerator domain.items value) (signed_decimal value)

-- the values of arguments, each by its own domain
abbrev pub argument_texts : List Domain → List ℕ → List ℤ → List (List ℕ)
argument_texts domains numbers values = map (λ pair. value_text (domain_of domains pair.0) pair.1) (zip numbers values)

-- texts with this byte before the first and a comma before each other
abbrev pub parted : ℕ → List (List ℕ) → List ℕ
parted opening [] = []
parted opening (text ∷ texts) = (opening ∷ text) ++ parted 44 texts

-- the closing parenthesis, where there are arguments
abbrev pub closing : List ℕ → List ℕ
closing [] = []
closing (number ∷ numbers) = 41 ∷ []

-- a location of a function: its name, and its arguments in parentheses where it has any
abbrev pub location_text : List Domain → Fun → List ℤ → List ℕ
location_text domains fun args = fun.name ++ (parted 40 (argument_texts domains fun.args args) ++ closing fun.args)

abbrev pub location_name : Resolved → Location → List ℕ
location_name program location = location_text program.domains (fun_of program location.fun) location.args

-- a location of a function and its value
abbrev pub entry_text : List Domain → Fun → List ℤ → ℤ → List ℕ
entry_text domains fun args value = location_text domains fun args ++ 61 ∷ value_text (domain_of domains fun.codomain) value

-- each location of a state with its value, in order
abbrev pub entries : Resolved → State → List (List ℕ)
entries program state =
    map (λ pair. entry_text program.domains (fun_of program pair.0.fun) pair.0.args pair.1) (zip (state_locations (signatures_of program)) state)

-- texts with a space before each
abbrev pub spaced : List (List ℕ) → List ℕ
spaced texts = flat_map (λ text. 32 ∷ text) texts

-- the text of a state: its entries, each behind a space
unfoldable pub state_text : Resolved → State → List ℕ
state_text program state = spaced (entries program state)
