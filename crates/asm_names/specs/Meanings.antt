-- What names stand for.
use Rattle.std.specs.Prelude.{ℕ, Bool, true, false, List, [], length, count_by, Option, Some, None, bytes_eq}
use Rattle.std.specs.Map.{lookup}
use Rattle.asm_tree.specs.declared.decl.Kind.{Kind}
use Rattle.asm_names.specs.declared.sort.Sort.{Sort}
use Rattle.asm_names.specs.declared.sort.Sort.TheVariants as sorts

-- What a name is declared as, or bound as. A function has a sort for each argument, and none where the name of the
-- argument's domain has a fault; so it is with the sort of its values, and of a binder.
pub data Meaning : Type 0 where
  Domain : (number size : ℕ) (sort : Sort) → Meaning
  Enumerator : (domain index : ℕ) → Meaning
  Function : (number : ℕ) (kind : Kind) (args : List (Option Sort)) (values : Option Sort) → Meaning
  Binder : (number : ℕ) (sort : Option Sort) → Meaning

-- The names that are declared or in scope, in the order of the text. Where a name stands twice, the first counts.
abbrev pub Scope : Type 0
Scope = List (List ℕ × Meaning)

-- what a name stands for, where it is known
abbrev pub meaning_of : Scope → List ℕ → Option Meaning
meaning_of scope name = lookup (bytes_eq name) scope

-- the sort of a name in a term
abbrev pub sort_of : Option Meaning → Option Sort
sort_of (Some (Enumerator domain index)) = Some (sorts.List domain)
sort_of (Some (Function number kind args values)) = values
sort_of (Some (Binder number sort)) = sort
sort_of _ = None

-- how many terms a name takes in a term, and none where it may not stand there
abbrev pub arity_of : Option Meaning → Option ℕ
arity_of (Some (Enumerator domain index)) = Some 0
arity_of (Some (Function number kind args values)) = Some (length args)
arity_of (Some (Binder number sort)) = Some 0
arity_of _ = None

-- the sorts of the terms that a name takes
abbrev pub argument_sorts : Option Meaning → List (Option Sort)
argument_sorts (Some (Function number kind args values)) = args
argument_sorts _ = []

-- the sort of a domain's names or numbers, where the name is one of a domain
abbrev pub sort_of_domain : Option Meaning → Option Sort
sort_of_domain (Some (Domain number size sort)) = Some sort
sort_of_domain _ = None

-- the number of a domain or a function
abbrev pub number_of : Option Meaning → ℕ
number_of (Some (Domain number size sort)) = number
number_of (Some (Function number kind args values)) = number
number_of _ = 0

-- how many values a domain has
abbrev pub size_of_domain : Option Meaning → Option ℕ
size_of_domain (Some (Domain number size sort)) = Some size
size_of_domain _ = None

-- whether a name is one of a domain
abbrev pub is_domain : Meaning → Bool
is_domain (Domain number size sort) = true
is_domain _ = false

-- whether a name is one of a function
abbrev pub is_function : Meaning → Bool
is_function (Function number kind args values) = true
is_function _ = false

-- how many domains are declared
abbrev pub domains_in : Scope → ℕ
domains_in scope = count_by (λ entry. is_domain entry.1) scope

-- how many functions are declared
abbrev pub functions_in : Scope → ℕ
functions_in scope = count_by (λ entry. is_function entry.1) scope
