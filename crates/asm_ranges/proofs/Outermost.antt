-- Where nothing is known, and where the binders in scope are those of a row.
use Rattle.std.proofs.Common.{◌≡◌, ℕ, zero, suc, ◌+◌, true, pos, Bool, List, [], Option, Result, refl, ap, ◌∙◌, subst, arith, Bor}
use Rattle.std.{proofs.lemmas.{Bool.{and_from}, Int.{ints}}, specs.{Prelude.{replicate}}}
use Rattle.asm_names.specs.declared.{program.{Domain.{Domain}, Interval.{Interval}}, resolved_term.ResolvedTerm.{ResolvedTerm}, resolved_rule.ResolvedRule.{ResolvedRule}}
use Rattle.asm_names.specs.ResolvedPlaces.{resolved_term_tokens}
use Rattle.state_space.specs.{declared.signature.Signature.{Signature}, Codomains.{just}}
use Rattle.asm_ranges.specs.{declared.{fault.RangeEnd.{RangeEnd}, finding.Found.{Found}}, Faults.{first_fault}, Facts.{Facts}, Ranges.{Scope, unscoped}, RangeFaults.{term_faults}, Rows.{Row, known}}
use Rattle.asm_ranges.specs.{Contexts.{FindsTerm, below, context_fits, facts_of, scope_of}, FindingRules.{IsAbove, JudgesRule, all_words}}
use Rattle.asm_ranges.specs.declared.context.Context.{Outermost}
use Rattle.asm_ranges.proofs.{Contexts.{judged-Outermost, scope-Outermost}, RuleForms.{JudgesIn, is-word-of}}

-- a row of intervals from 0 to 0
pub zeros : (n : ℕ) → all_words (replicate n (just (pos 0))) ≡ true
zeros zero = refl
zeros (suc n) = and_from _ _ (is-word-of (just (pos 0)) (record { low = omega (arith, ints); some = omega (arith, ints); high = omega (arith, ints) })) (zeros n)

module _ (row : Bor (List Interval)) where
  pub fits-row : all_words row.now ≡ true → context_fits (Outermost row) ≡ true
  fits-row h = ap (λ (p : Facts × Bool). p.1) (judged-Outermost row) ∙ h

  pub scope-row : scope_of (Outermost row) ≡ known row.now
  scope-row = scope-Outermost row

  facts-row : facts_of (Outermost row) ≡ []
  facts-row = ap (λ (p : Facts × Bool). p.0) (judged-Outermost row)

  module _ (e : row.now ≡ []) where
    pub fits-none : context_fits (Outermost row) ≡ true
    fits-none = fits-row (ap all_words e)

    scope-none : scope_of (Outermost row) ≡ unscoped
    scope-none = scope-Outermost row ∙ ap known e

    pub above-none : (P : ℕ → Bool) → P 0 ≡ true → IsAbove (Outermost row) P
    above-none P h = record { from = 0; above = ap (below 0) facts-row; holds = h }

    pub rule-none : (domains : List Domain) (signatures : List Signature) (r : ResolvedRule) (old : Row) (at : ℕ) (outcome : Result ℕ RangeEnd) (new : Row)
        → JudgesRule domains signatures (Outermost row) r old at outcome new → JudgesIn domains signatures r old at outcome new unscoped []
    rule-none domains signatures r old at outcome new h =
        subst (λ (k : Facts). JudgesIn domains signatures r old at outcome new unscoped k) facts-row
        (subst (λ (q : Scope). JudgesIn domains signatures r old at outcome new q (facts_of (Outermost row))) scope-none h)

    pub term-none : (signatures : List Signature) (t : ResolvedTerm) (need : Option Interval) (at : ℕ) (f : Found) → FindsTerm signatures (Outermost row) t need at f
        → (f.after ≡ at + resolved_term_tokens t) × (f.fault ≡ first_fault (term_faults signatures unscoped t [] need at))
    term-none signatures t need at f h = (
      h.after,
      h.first ∙ (ap (λ (q : Scope). first_fault (term_faults signatures q t (facts_of (Outermost row)) need at)) scope-none
          ∙ ap (λ (k : Facts). first_fault (term_faults signatures unscoped t k need at)) facts-row),
    )
