-- How many tokens and binders the text of a resolved term or rule has.
use Rattle.std.specs.Prelude.{ℕ, ◌+◌, Bool, true, false, sum, map, Option, Some, None}
use Rattle.asm_names.specs.declared.resolved_term.ResolvedTerm.{ResolvedTerm, ResolvedTerm-F}
use Rattle.asm_names.specs.declared.resolved_term.ResolvedTerm.TheFolds.{fold-ResolvedTerm}
use Rattle.asm_names.specs.declared.resolved_rule.ResolvedRule.{ResolvedRule, ResolvedRule-F}
use Rattle.asm_names.specs.declared.resolved_rule.ResolvedRule.TheFolds.{fold-ResolvedRule}
use Rattle.asm_names.specs.declared.program.Resolved.{Resolved}
use Rattle.asm_names.specs.Places.{in_parentheses, led, decls_tokens}

-- ---- tokens

-- One term, with the number of tokens of each part in its place. An enumerator is one token, as a number is.
abbrev pub resolved_term_tokens_by : ResolvedTerm-F ℕ → ℕ
resolved_term_tokens_by (ResolvedTerm-F.Number value) = 1
resolved_term_tokens_by (ResolvedTerm-F.Var binder) = 1
resolved_term_tokens_by (ResolvedTerm-F.Read fun args) = 1 + in_parentheses args
resolved_term_tokens_by (ResolvedTerm-F.Binary op left right) = 1 + left + 1 + right + 1
resolved_term_tokens_by (ResolvedTerm-F.Not inner) = 1 + inner
resolved_term_tokens_by (ResolvedTerm-F.Min first second) = 2 + first + 1 + second + 1
resolved_term_tokens_by (ResolvedTerm-F.Max first second) = 2 + first + 1 + second + 1
resolved_term_tokens_by (ResolvedTerm-F.Cond guard first second) = 2 + guard + 1 + first + 1 + second + 1

-- how many tokens the text of a term has
unfoldable pub resolved_term_tokens : ResolvedTerm → ℕ
resolved_term_tokens = fold-ResolvedTerm ℕ resolved_term_tokens_by

-- a part of this length behind `with` or `else`, where the text has one
abbrev pub led_if : Bool → ℕ → ℕ
led_if false count = 0
led_if true count = 1 + count

-- One rule, with the number of tokens of each part in its place.
abbrev pub resolved_rule_tokens_by : ResolvedRule-F ℕ → ℕ
resolved_rule_tokens_by ResolvedRule-F.Skip = 1
resolved_rule_tokens_by (ResolvedRule-F.Update fun args value) = 1 + in_parentheses (map resolved_term_tokens args) + 1 + resolved_term_tokens value
resolved_rule_tokens_by (ResolvedRule-F.If guard then_rule else_rule has_else) = 1 + resolved_term_tokens guard + 1 + then_rule + led_if has_else else_rule + 1
resolved_rule_tokens_by (ResolvedRule-F.Par parts) = led parts + 1
resolved_rule_tokens_by (ResolvedRule-F.Forall binder domain guard guarded body) = 4 + led_if guarded (resolved_term_tokens guard) + 1 + body + 1
resolved_rule_tokens_by (ResolvedRule-F.Choose binder domain guard body else_rule has_else) = 5 + resolved_term_tokens guard + 1 + body + led_if has_else else_rule + 1
resolved_rule_tokens_by (ResolvedRule-F.Let binder value body) = 3 + resolved_term_tokens value + 1 + body + 1

-- how many tokens the text of a rule has
unfoldable pub resolved_rule_tokens : ResolvedRule → ℕ
resolved_rule_tokens = fold-ResolvedRule ℕ resolved_rule_tokens_by

-- a term behind `legal`, if there is one
abbrev pub resolved_legal_tokens : Option ResolvedTerm → ℕ
resolved_legal_tokens None = 0
resolved_legal_tokens (Some legal) = 1 + resolved_term_tokens legal

-- how many tokens the text of a program has
abbrev pub resolved_program_tokens : Resolved → ℕ
resolved_program_tokens program = 2 + decls_tokens program.source.decls + resolved_legal_tokens program.legal + 1 + resolved_rule_tokens program.rule

-- ---- binders

-- One rule, with the number of binders in each part in its place.
abbrev pub resolved_rule_binders_by : ResolvedRule-F ℕ → ℕ
resolved_rule_binders_by ResolvedRule-F.Skip = 0
resolved_rule_binders_by (ResolvedRule-F.Update fun args value) = 0
resolved_rule_binders_by (ResolvedRule-F.If guard then_rule else_rule has_else) = then_rule + else_rule
resolved_rule_binders_by (ResolvedRule-F.Par parts) = sum parts
resolved_rule_binders_by (ResolvedRule-F.Forall binder domain guard guarded body) = 1 + body
resolved_rule_binders_by (ResolvedRule-F.Choose binder domain guard body else_rule has_else) = 1 + body + else_rule
resolved_rule_binders_by (ResolvedRule-F.Let binder value body) = 1 + body

-- how many binders a rule has
unfoldable pub resolved_rule_binders : ResolvedRule → ℕ
resolved_rule_binders = fold-ResolvedRule ℕ resolved_rule_binders_by
