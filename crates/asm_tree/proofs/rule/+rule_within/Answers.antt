use Rattle.std.proofs.Common.{◌≡◌, ◌-◌, ◌&&◌, Bool, true, refl, sym, ap, ◌∙◌, arith}
use Rattle.asm_tree.specs.Forms.{term_within, rule_within, else_within}
use Rattle.asm_tree.proofs.WithinRules.{within-If, within-Choose}
use Rattle.asm_tree.proofs.rule.+rule_within.Goals as goal

both_true : (a b c : Bool) → a ≡ true → b ≡ true → (a && (b && c)) ≡ c
both_true a b c p q = rw (p, q) refl

pub Rule::is_within-returns-then-is_within : goal.Rule::is_within-returns-then-is_within
Rule::is_within-returns-then-is_within t c =
    c.else_within.ensures
    ∙ sym (ap (rule_within c.args.depth) c.in-If.is ∙ within-If c.args.depth c.in-If.guard c.in-If.then_rule c.in-If.else_rule (omega (arith, c.if-depth-eq0.false))
    ∙ both_true (term_within (c.args.depth - 1) c.in-If.guard) (rule_within (c.args.depth - 1) c.in-If.then_rule) (else_within (c.args.depth - 1) c.in-If.else_rule)
    (ap (term_within (c.args.depth - 1)) (sym c.get-in-If.ensures) ∙ sym c.is_within-in-If.ensures ∙ c.if-not-is_within.false)
    (ap (rule_within (c.args.depth - 1)) (sym c.get-in-If-2.ensures) ∙ sym c.is_within-in-If-2.ensures ∙ c.if-is_within.true))

pub Rule::is_within-returns-then-is_within-2 : goal.Rule::is_within-returns-then-is_within-2
Rule::is_within-returns-then-is_within-2 t c =
    c.else_within-then-is_within-2.ensures
    ∙ sym (ap (rule_within c.args.depth) c.in-Choose.is ∙ within-Choose c.args.depth c.in-Choose.var c.in-Choose.domain c.in-Choose.guard c.in-Choose.body c.in-Choose.else_rule (omega (arith, c.if-depth-eq0.false))
    ∙ both_true (term_within (c.args.depth - 1) c.in-Choose.guard) (rule_within (c.args.depth - 1) c.in-Choose.body) (else_within (c.args.depth - 1) c.in-Choose.else_rule)
    (ap (term_within (c.args.depth - 1)) (sym c.get-in-Choose.ensures) ∙ sym c.is_within-in-Choose.ensures ∙ c.if-not-is_within-2.false)
    (ap (rule_within (c.args.depth - 1)) (sym c.get-in-Choose-2.ensures) ∙ sym c.is_within-in-Choose-2.ensures ∙ c.if-is_within-2.true))
