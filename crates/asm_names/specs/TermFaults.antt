-- The faults of names and sorts in terms.
use Rattle.std.specs.Prelude.{ℕ, ◌+◌, true, not, nat_eq, List, [], ◌∷◌, ◌++◌, length, Option, Some, None}
use Rattle.asm_tree.specs.declared.term.Term.{Term, Term-F}
use Rattle.asm_tree.specs.declared.term.Term.TheFolds.{fold-Term, para-Term, map-Term}
use Rattle.asm_names.specs.declared.fault.NameFault.TheVariants as causes
use Rattle.asm_names.specs.declared.sort.Sort.{Sort}
use Rattle.asm_names.specs.declared.sort.Sort.TheVariants as sorts
use Rattle.asm_names.specs.declared.sort.Need.{Need}
use Rattle.asm_names.specs.declared.sort.Need.TheVariants as needs
use Rattle.asm_names.specs.Faults.{Fault, fault}
use Rattle.asm_names.specs.Sorts.{same_as, refuses, op_sort, left_need, right_need}
use Rattle.asm_names.specs.Meanings.{Scope, meaning_of, sort_of, arity_of, argument_sorts}
use Rattle.asm_names.specs.Places.{term_tokens}

-- ---- sorts

-- One term, with the sort of each part in its place.
abbrev pub term_sort_by : Scope → Term-F (Option Sort) → Option Sort
term_sort_by scope (Term-F.Number value) = Some sorts.Int
term_sort_by scope (Term-F.Apply name args) = sort_of (meaning_of scope name)
term_sort_by scope (Term-F.Binary op left right) = Some (op_sort op)
term_sort_by scope (Term-F.Not inner) = Some sorts.Truth
term_sort_by scope (Term-F.Min first second) = Some sorts.Int
term_sort_by scope (Term-F.Max first second) = Some sorts.Int
term_sort_by scope (Term-F.Cond guard first second) = first

-- the sort of a term, where it has one
unfoldable pub term_sort : Scope → Term → Option Sort
term_sort scope = fold-Term (Option Sort) (term_sort_by scope)

-- ---- faults

-- a term with its faults by what its place needs and by the number of its first token
abbrev pub Part : Type 0
Part = Term × (Need → ℕ → List Fault)

-- faults of a name at its own token, where so many terms stand behind it
abbrev pub count_faults : Option ℕ → ℕ → ℕ → List Fault
count_faults None count at = fault causes.Unknown at true
count_faults (Some arity) count at = fault causes.Count at (not (nat_eq arity count))

-- one after another from a token on, each with the sort that its place needs, if it needs one
abbrev pub each_faults : List (Option Sort) → List Part → ℕ → List Fault
each_faults sorts [] at = []
each_faults [] (part ∷ parts) at = part.1 needs.Anything at ++ each_faults [] parts (at + term_tokens part.0 + 1)
each_faults (sort ∷ sorts) (part ∷ parts) at = part.1 (same_as sort) at ++ each_faults sorts parts (at + term_tokens part.0 + 1)

-- faults of a term at its first token, but for its sort
abbrev pub name_faults : Scope → Term-F Part → ℕ → List Fault
name_faults scope (Term-F.Apply name args) at = count_faults (arity_of (meaning_of scope name)) (length args) at
name_faults scope _ at = []

-- faults inside a term
abbrev pub inner_faults : Scope → Term-F Part → ℕ → List Fault
inner_faults scope (Term-F.Number value) at = []
inner_faults scope (Term-F.Apply name args) at = each_faults (argument_sorts (meaning_of scope name)) args (at + 2)
inner_faults scope (Term-F.Binary op left right) at =
    left.1 (left_need op) (at + 1)
    ++ right.1 (right_need op (term_sort scope left.0)) (at + 1 + term_tokens left.0 + 1)
inner_faults scope (Term-F.Not inner) at = inner.1 (needs.Only sorts.Truth) (at + 1)
inner_faults scope (Term-F.Min first second) at =
    first.1 (needs.Only sorts.Int) (at + 2)
    ++ second.1 (needs.Only sorts.Int) (at + 2 + term_tokens first.0 + 1)
inner_faults scope (Term-F.Max first second) at =
    first.1 (needs.Only sorts.Int) (at + 2)
    ++ second.1 (needs.Only sorts.Int) (at + 2 + term_tokens first.0 + 1)
inner_faults scope (Term-F.Cond guard first second) at =
    guard.1 (needs.Only sorts.Truth) (at + 2)
    ++ (first.1 needs.NotTruth (at + 2 + term_tokens guard.0 + 1)
    ++ second.1 (same_as (term_sort scope first.0)) (at + 2 + term_tokens guard.0 + 1 + term_tokens first.0 + 1))

-- One term, with the faults of each part in its place.
abbrev pub term_faults_by : Scope → Term-F Part → Need → ℕ → List Fault
term_faults_by scope x need at =
    name_faults scope x at
    ++ (fault causes.Sort at (refuses need (term_sort_by scope (map-Term Part (Option Sort) (λ part. term_sort scope part.0) x)))
    ++ inner_faults scope x at)

-- the faults of a term at a place that needs this of its sort, where its first token has this number
unfoldable pub term_faults : Scope → Term → Need → ℕ → List Fault
term_faults scope = para-Term (Need → ℕ → List Fault) (term_faults_by scope)
