-- One level of each definition on resolved terms and rules.
use Rattle.asm_names.proofs.Common.{◌≡◌, ℕ, Bool, List, Option, sym, ap, ◌∙◌, Fun, Resolved, ResolvedTerm, ResolvedTerm-F, roll-ResolvedTerm, out-ResolvedTerm, out-roll-ResolvedTerm, map-ResolvedTerm}
use Rattle.asm_names.proofs.Common.{fold-roll-ResolvedTerm, ResolvedRule, ResolvedRule-F, roll-ResolvedRule, out-ResolvedRule, out-roll-ResolvedRule, map-ResolvedRule, fold-roll-ResolvedRule}
use Rattle.asm_names.proofs.Common.{para-roll-ResolvedRule, resolved_term_tokens_by, resolved_rule_tokens_by, resolved_rule_binders_by, Bound, sort_by, named_by}
use Rattle.asm_names.specs.ResolvedPlaces.{resolved_term_tokens, resolved_rule_tokens, resolved_rule_binders}
use Rattle.asm_names.specs.WellFormed.{Sort, sort_of, RulePart, rule_named}

module _ (x : ResolvedTerm-F ResolvedTerm) (t : ResolvedTerm) (e : roll-ResolvedTerm x ≡ t) where
  pub term_tokens_of : resolved_term_tokens t ≡ resolved_term_tokens_by (map-ResolvedTerm ResolvedTerm ℕ resolved_term_tokens x)
  unfolding resolved_term_tokens
  term_tokens_of = ap resolved_term_tokens (sym e) ∙ fold-roll-ResolvedTerm ℕ resolved_term_tokens_by x

  pub sort_at : (funs : List Fun) (bound : Bound) → sort_of funs bound t ≡ sort_by funs bound (map-ResolvedTerm ResolvedTerm (Option Sort) (sort_of funs bound) x)
  unfolding sort_of
  sort_at funs bound = ap (sort_of funs bound) (sym e) ∙ fold-roll-ResolvedTerm (Option Sort) (sort_by funs bound) x

  pub term_out_of : out-ResolvedTerm t ≡ x
  term_out_of = ap out-ResolvedTerm (sym e) ∙ out-roll-ResolvedTerm x

-- a rule with whether it is well formed
abbrev pub named : Resolved → ResolvedRule → RulePart
named program r = (r, rule_named program r)

module _ (x : ResolvedRule-F ResolvedRule) (r : ResolvedRule) (e : roll-ResolvedRule x ≡ r) where
  pub rule_tokens_of : resolved_rule_tokens r ≡ resolved_rule_tokens_by (map-ResolvedRule ResolvedRule ℕ resolved_rule_tokens x)
  unfolding resolved_rule_tokens
  rule_tokens_of = ap resolved_rule_tokens (sym e) ∙ fold-roll-ResolvedRule ℕ resolved_rule_tokens_by x

  pub binders_of : resolved_rule_binders r ≡ resolved_rule_binders_by (map-ResolvedRule ResolvedRule ℕ resolved_rule_binders x)
  unfolding resolved_rule_binders
  binders_of = ap resolved_rule_binders (sym e) ∙ fold-roll-ResolvedRule ℕ resolved_rule_binders_by x

  pub named_at : (program : Resolved) (bound : Bound) (before : ℕ) → rule_named program r bound before ≡ named_by program (map-ResolvedRule ResolvedRule RulePart (named program) x) bound before
  unfolding rule_named
  named_at program bound before =
      ap (λ u. rule_named program u bound before) (sym e) ∙ ap (λ f. f bound before) (para-roll-ResolvedRule (Bound → ℕ → Bool) (named_by program) x)

  pub rule_out_of : out-ResolvedRule r ≡ x
  rule_out_of = ap out-ResolvedRule (sym e) ∙ out-roll-ResolvedRule x
