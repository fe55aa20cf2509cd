-- Terms whose names are replaced by numbers.
use Rattle.std.specs.Prelude.{pos, List, Option, Some}
use Rattle.asm_tree.specs.declared.term.Term.{Term, Term-F}
use Rattle.asm_tree.specs.declared.term.Term.TheFolds.{fold-Term}
use Rattle.asm_names.specs.declared.resolved_term.ResolvedTerm.{ResolvedTerm}
use Rattle.asm_names.specs.declared.resolved_term.ResolvedTerm.TheVariants as resolved_terms
use Rattle.asm_names.specs.Meanings.{Meaning, Enumerator, Function, Binder, Scope, meaning_of}

-- A name: an enumerator is its index. A name that may not stand in a term is a fault, and nothing is said of it here.
abbrev pub resolved_name : Option Meaning → List ResolvedTerm → ResolvedTerm
resolved_name (Some (Enumerator domain index)) args = resolved_terms.Number (pos index)
resolved_name (Some (Function number kind sorts values)) args = resolved_terms.Read number args
resolved_name (Some (Binder number sort)) args = resolved_terms.Var number
resolved_name _ args = resolved_terms.Number (pos 0)

-- One term, with each part replaced.
abbrev pub resolved_term_by : Scope → Term-F ResolvedTerm → ResolvedTerm
resolved_term_by scope (Term-F.Number value) = resolved_terms.Number (pos value)
resolved_term_by scope (Term-F.Apply name args) = resolved_name (meaning_of scope name) args
resolved_term_by scope (Term-F.Binary op left right) = resolved_terms.Binary op left right
resolved_term_by scope (Term-F.Not inner) = resolved_terms.Not inner
resolved_term_by scope (Term-F.Min first second) = resolved_terms.Min first second
resolved_term_by scope (Term-F.Max first second) = resolved_terms.Max first second
resolved_term_by scope (Term-F.Cond guard first second) = resolved_terms.Cond guard first second

-- a term with its names replaced by the numbers that they have here
unfoldable pub resolved_term : Scope → Term → ResolvedTerm
resolved_term scope = fold-Term ResolvedTerm (resolved_term_by scope)
