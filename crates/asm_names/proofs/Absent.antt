-- A guard that the text doesn't have is `(0 = 0)`, and a rule behind `else` that it doesn't have is `skip`.
use Rattle.asm_names.proofs.Common.{◌≡◌, pos, true, false, refl, sym, ap, ◌∙◌, and_parts, eqb-true, ResolvedTerm, ResolvedTerm-F, roll-ResolvedTerm, out-ResolvedTerm, roll-out-ResolvedTerm}
use Rattle.asm_names.proofs.Common.{ResolvedRule, ResolvedRule-F, roll-ResolvedRule, out-ResolvedRule, roll-out-ResolvedRule, always, is_zero_by, is_always_by, guard_stands, is_skip_by, else_stands}
use Rattle.asm_tree.specs.declared.term.Op.TheVariants as ops
use Rattle.asm_names.specs.declared.resolved_term.ResolvedTerm.TheVariants as resolved_terms
use Rattle.asm_names.specs.declared.resolved_rule.ResolvedRule.TheVariants as resolved_rules

pub absent_else : (r : ResolvedRule) → else_stands false r ≡ true → r ≡ resolved_rules.Skip
absent_else r h = by (out-ResolvedRule r) (roll-out-ResolvedRule r) h
  where
    by : (x : ResolvedRule-F ResolvedRule) → roll-ResolvedRule x ≡ r → is_skip_by x ≡ true → r ≡ resolved_rules.Skip
    by ResolvedRule-F.Skip e h = sym e ∙ resolved_rules.rolls-Skip
    by _ e h = cc

zero_term : (t : ResolvedTerm) → is_zero_by (out-ResolvedTerm t) ≡ true → t ≡ resolved_terms.Number (pos 0)
zero_term t h = by (out-ResolvedTerm t) (roll-out-ResolvedTerm t) h
  where
    by : (x : ResolvedTerm-F ResolvedTerm) → roll-ResolvedTerm x ≡ t → is_zero_by x ≡ true → t ≡ resolved_terms.Number (pos 0)
    by (ResolvedTerm-F.Number (pos n)) e h = sym e ∙ (resolved_terms.rolls-Number (pos n) ∙ ap (λ k. resolved_terms.Number (pos k)) (eqb-true n 0 h))
    by _ e h = cc

pub absent_guard : (t : ResolvedTerm) → guard_stands false t ≡ true → t ≡ always
absent_guard t h = by (out-ResolvedTerm t) (roll-out-ResolvedTerm t) h
  where
    by : (x : ResolvedTerm-F ResolvedTerm) → roll-ResolvedTerm x ≡ t → is_always_by x ≡ true → t ≡ always
    by (ResolvedTerm-F.Binary ops.Eq l r) e h =
        let p = and_parts _ _ h in
        sym e ∙ (resolved_terms.rolls-Binary ops.Eq l r ∙ rw (zero_term l p.0, zero_term r p.1) refl)
    by _ e h = cc
