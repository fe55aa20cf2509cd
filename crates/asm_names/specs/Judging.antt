-- What functions that judge terms find.
use Rattle.std.specs.Prelude.{◌≡◌, ℕ, ◌+◌, Result}
use Rattle.asm_tree.specs.declared.term.Term.{Term, Term-F}
use Rattle.asm_tree.specs.declared.term.Term.TheFolds.{map-Term}
use Rattle.asm_names.specs.declared.fault.NameEnd.{NameEnd}
use Rattle.asm_names.specs.declared.sort.Need.{Need}
use Rattle.asm_names.specs.declared.resolved_term.ResolvedTerm.{ResolvedTerm}
use Rattle.asm_names.specs.Meanings.{Scope}
use Rattle.asm_names.specs.Places.{term_tokens, term_tokens_by}
use Rattle.asm_names.specs.Faults.{Judges}
use Rattle.asm_names.specs.TermFaults.{Part, term_faults, term_faults_by}
use Rattle.asm_names.specs.Terms.{resolved_term, resolved_term_by}

-- a term with its faults
abbrev pub part : Scope → Term → Part
part scope t = (t, term_faults scope t)

-- how many tokens a term has, by its parts
abbrev pub layer_tokens : Term-F Term → ℕ
layer_tokens x = term_tokens_by (map-Term Term ℕ term_tokens x)

-- A term at a place was judged: its first fault, or the term in numbers and the place after it.
abbrev pub JudgesTerm : Scope → Term → Need → ℕ → Result ResolvedTerm NameEnd → ℕ → Type 0
JudgesTerm scope t need at outcome after =
    Judges (term_faults scope t need at) outcome (λ n. (n ≡ resolved_term scope t) × (after ≡ at + term_tokens t))

-- The same, said of its parts.
abbrev pub JudgesLayer : Scope → Term-F Term → Need → ℕ → Result ResolvedTerm NameEnd → ℕ → Type 0
JudgesLayer scope x need at outcome after =
    Judges (term_faults_by scope (map-Term Term Part (part scope) x) need at) outcome
    (λ n. (n ≡ resolved_term_by scope (map-Term Term ResolvedTerm (resolved_term scope) x)) × (after ≡ at + layer_tokens x))
