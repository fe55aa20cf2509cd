-- One level of each definition on terms.
use Rattle.asm_names.proofs.Common.{◌≡◌, ℕ, List, Option, Some, Result, Ok, Err, sym, ap, ◌∙◌, Op, Term, Term-F, roll-Term, map-Term, fold-roll-Term, para-roll-Term, NameEnd, Sort, Need, ResolvedTerm}
use Rattle.asm_names.proofs.Common.{op_sort, Scope, meaning_of, term_tokens_by, Fault, Part, term_sort_by, term_faults_by, resolved_term_by, part, layer_tokens, JudgesTerm, JudgesLayer}
use Rattle.asm_names.specs.Meanings.{sort_of}
use Rattle.asm_names.specs.Places.{term_tokens}
use Rattle.asm_names.specs.TermFaults.{term_sort, term_faults}
use Rattle.asm_names.specs.Terms.{resolved_term}
use Rattle.asm_tree.specs.declared.term.Term.TheVariants as terms
use Rattle.asm_names.specs.declared.sort.Sort.TheVariants as sorts

module _ (x : Term-F Term) (t : Term) (e : roll-Term x ≡ t) where
  pub tokens_of : term_tokens t ≡ layer_tokens x
  unfolding term_tokens
  tokens_of = ap term_tokens (sym e) ∙ fold-roll-Term ℕ term_tokens_by x

  pub sort_at : (scope : Scope) → term_sort scope t ≡ term_sort_by scope (map-Term Term (Option Sort) (term_sort scope) x)
  unfolding term_sort
  sort_at scope = ap (term_sort scope) (sym e) ∙ fold-roll-Term (Option Sort) (term_sort_by scope) x

  pub resolved_at : (scope : Scope) → resolved_term scope t ≡ resolved_term_by scope (map-Term Term ResolvedTerm (resolved_term scope) x)
  unfolding resolved_term
  resolved_at scope = ap (resolved_term scope) (sym e) ∙ fold-roll-Term ResolvedTerm (resolved_term_by scope) x

  pub faults_at : (scope : Scope) (need : Need) (at : ℕ) → term_faults scope t need at ≡ term_faults_by scope (map-Term Term Part (part scope) x) need at
  unfolding term_faults
  faults_at scope need at = ap (λ u. term_faults scope u need at) (sym e) ∙ ap (λ f. f need at) (para-roll-Term (Need → ℕ → List Fault) (term_faults_by scope) x)

  -- what is judged by its parts is judged
  pub whole : (scope : Scope) (need : Need) (at : ℕ) (r : Result ResolvedTerm NameEnd) (after : ℕ) → JudgesLayer scope x need at r after → JudgesTerm scope t need at r after
  whole scope need at (Ok n) after h = rw (faults_at scope need at, resolved_at scope, tokens_of) h
  whole scope need at (Err end) after h = rw (faults_at scope need at) h

module _ (scope : Scope) where
  pub sort-Number : (v : ℕ) → term_sort scope (terms.Number v) ≡ Some sorts.Int
  sort-Number v = sort_at (Term-F.Number v) (terms.Number v) (terms.rolls-Number v) scope

  pub sort-Apply : (w : List ℕ) (ts : List Term) → term_sort scope (terms.Apply w ts) ≡ sort_of (meaning_of scope w)
  sort-Apply w ts = sort_at (Term-F.Apply w ts) (terms.Apply w ts) (terms.rolls-Apply w ts) scope

  pub sort-Binary : (o : Op) (l r : Term) → term_sort scope (terms.Binary o l r) ≡ Some (op_sort o)
  sort-Binary o l r = sort_at (Term-F.Binary o l r) (terms.Binary o l r) (terms.rolls-Binary o l r) scope

  pub sort-Not : (t : Term) → term_sort scope (terms.Not t) ≡ Some sorts.Truth
  sort-Not t = sort_at (Term-F.Not t) (terms.Not t) (terms.rolls-Not t) scope

  pub sort-Min : (a b : Term) → term_sort scope (terms.Min a b) ≡ Some sorts.Int
  sort-Min a b = sort_at (Term-F.Min a b) (terms.Min a b) (terms.rolls-Min a b) scope

  pub sort-Max : (a b : Term) → term_sort scope (terms.Max a b) ≡ Some sorts.Int
  sort-Max a b = sort_at (Term-F.Max a b) (terms.Max a b) (terms.rolls-Max a b) scope

  pub sort-Cond : (g a b : Term) → term_sort scope (terms.Cond g a b) ≡ term_sort scope a
  sort-Cond g a b = sort_at (Term-F.Cond g a b) (terms.Cond g a b) (terms.rolls-Cond g a b) scope

pub ruleset sort_rules = (sort-Number, sort-Apply, sort-Binary, sort-Not, sort-Min, sort-Max, sort-Cond)
