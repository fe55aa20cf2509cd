-- Rules whose names are replaced by numbers. Binders are numbered in the order of the text.
use Rattle.std.specs.Prelude.{ℕ, ◌+◌, pos, is_some, List, [], ◌∷◌, map, Option, Some, None}
use Rattle.asm_tree.specs.declared.term.Op.TheVariants as ops
use Rattle.asm_tree.specs.declared.term.Term.{Term}
use Rattle.asm_tree.specs.declared.rule.Rule.{Rule, Rule-F}
use Rattle.asm_tree.specs.declared.rule.Rule.TheFolds.{para-Rule}
use Rattle.asm_names.specs.declared.resolved_term.ResolvedTerm.{ResolvedTerm}
use Rattle.asm_names.specs.declared.resolved_term.ResolvedTerm.TheVariants as resolved_terms
use Rattle.asm_names.specs.declared.resolved_rule.ResolvedRule.{ResolvedRule}
use Rattle.asm_names.specs.declared.resolved_rule.ResolvedRule.TheVariants as resolved_rules
use Rattle.asm_names.specs.Meanings.{Scope, meaning_of, sort_of_domain, number_of}
use Rattle.asm_names.specs.Places.{rule_binders}
use Rattle.asm_names.specs.Terms.{resolved_term}
use Rattle.asm_names.specs.TermFaults.{term_sort}
use Rattle.asm_names.specs.RuleFaults.{bound}

-- a rule with what it becomes by the names in scope and the number of binders before it
abbrev pub RulePart : Type 0
RulePart = Rule × (Scope → ℕ → ResolvedRule)

-- the term `(0 = 0)`, in the place of an absent guard
abbrev pub always : ResolvedTerm
always = resolved_terms.Binary ops.Eq (resolved_terms.Number (pos 0)) (resolved_terms.Number (pos 0))

-- a guard, or the term `(0 = 0)` where there is none
abbrev pub resolved_guard : Scope → Option Term → ResolvedTerm
resolved_guard scope None = always
resolved_guard scope (Some guard) = resolved_term scope guard

-- the rule behind `else`, or `skip` where there is none
abbrev pub resolved_else : Scope → Option RulePart → ℕ → ResolvedRule
resolved_else scope None binders = resolved_rules.Skip
resolved_else scope (Some other) binders = other.1 scope binders

-- rules in turn
abbrev pub resolved_each : Scope → List RulePart → ℕ → List ResolvedRule
resolved_each scope [] binders = []
resolved_each scope (rule ∷ others) binders = rule.1 scope binders ∷ resolved_each scope others (binders + rule_binders rule.0)

-- One rule, with each part replaced.
abbrev pub resolved_rule_by : Rule-F RulePart → Scope → ℕ → ResolvedRule
resolved_rule_by Rule-F.Skip scope binders = resolved_rules.Skip
resolved_rule_by (Rule-F.Update name args value) scope binders =
    resolved_rules.Update (number_of (meaning_of scope name)) (map (resolved_term scope) args) (resolved_term scope value)
resolved_rule_by (Rule-F.If guard then_rule else_rule) scope binders =
    resolved_rules.If (resolved_term scope guard) (then_rule.1 scope binders) (resolved_else scope else_rule (binders + rule_binders then_rule.0)) (is_some else_rule)
resolved_rule_by (Rule-F.Par rules) scope binders = resolved_rules.Par (resolved_each scope rules binders)
resolved_rule_by (Rule-F.Forall var domain guard body) scope binders =
    let inner = bound scope var binders (sort_of_domain (meaning_of scope domain)) in
    resolved_rules.Forall binders (number_of (meaning_of scope domain)) (resolved_guard inner guard) (is_some guard) (body.1 inner (binders + 1))
resolved_rule_by (Rule-F.Choose var domain guard body else_rule) scope binders =
    let inner = bound scope var binders (sort_of_domain (meaning_of scope domain)) in
    resolved_rules.Choose binders (number_of (meaning_of scope domain)) (resolved_term inner guard) (body.1 inner (binders + 1))
    (resolved_else scope else_rule (binders + 1 + rule_binders body.0)) (is_some else_rule)
resolved_rule_by (Rule-F.Let var value body) scope binders =
    resolved_rules.Let binders (resolved_term scope value) (body.1 (bound scope var binders (term_sort scope value)) (binders + 1))

-- a rule with its names replaced by the numbers that they have here, with so many binders before it
unfoldable pub resolved_rule : Rule → Scope → ℕ → ResolvedRule
resolved_rule = para-Rule (Scope → ℕ → ResolvedRule) resolved_rule_by
