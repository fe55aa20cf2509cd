-- What functions that judge rules find.
use Rattle.std.specs.Prelude.{◌≡◌, ℕ, ◌+◌, Result}
use Rattle.asm_tree.specs.declared.rule.Rule.{Rule, Rule-F}
use Rattle.asm_tree.specs.declared.rule.Rule.TheFolds.{map-Rule}
use Rattle.asm_names.specs.declared.fault.NameEnd.{NameEnd}
use Rattle.asm_names.specs.declared.resolved_rule.ResolvedRule.{ResolvedRule}
use Rattle.asm_names.specs.declared.rule.Walk.{Walk}
use Rattle.asm_names.specs.Places.{rule_tokens, rule_tokens_by, rule_binders, rule_binders_by}
use Rattle.asm_names.specs.Faults.{Judges}
use Rattle.asm_names.specs.RuleFaults.{RulePart as Faulty, rule_faults, rule_faults_by}
use Rattle.asm_names.specs.Rules.{RulePart as Made, resolved_rule, resolved_rule_by}
use Rattle.asm_names.specs.Table.{scope}

-- a rule with its faults
abbrev pub faulty : Rule → Faulty
faulty r = (r, rule_faults r)

-- a rule with what it becomes
abbrev pub made : Rule → Made
made r = (r, resolved_rule r)

-- how many tokens a rule has, by its parts
abbrev pub rule_layer_tokens : Rule-F Rule → ℕ
rule_layer_tokens x = rule_tokens_by (map-Rule Rule ℕ rule_tokens x)

-- how many names a rule binds, by its parts
abbrev pub rule_layer_binders : Rule-F Rule → ℕ
rule_layer_binders x = rule_binders_by (map-Rule Rule ℕ rule_binders x)

-- a walk went on by so many tokens and binders, and the names in scope are the same again
pub record Passes (tokens binders : ℕ) (old new : Walk) : Type 0 where
  pub place : new.place ≡ old.place + tokens
  pub bound : new.binders ≡ old.binders + binders
  pub names : scope new.table ≡ scope old.table

-- A rule was judged where the walk stood: its first fault, or the rule in numbers with the walk behind it.
abbrev pub JudgesRule : Rule → Walk → Result ResolvedRule NameEnd → Walk → Type 0
JudgesRule r old outcome new =
    Judges (rule_faults r (scope old.table) old.place old.binders) outcome
    (λ n. (n ≡ resolved_rule r (scope old.table) old.binders) × Passes (rule_tokens r) (rule_binders r) old new)

-- The same, said of its parts.
abbrev pub JudgesRuleLayer : Rule-F Rule → Walk → Result ResolvedRule NameEnd → Walk → Type 0
JudgesRuleLayer x old outcome new =
    Judges (rule_faults_by (map-Rule Rule Faulty faulty x) (scope old.table) old.place old.binders) outcome
    (λ n. (n ≡ resolved_rule_by (map-Rule Rule Made made x) (scope old.table) old.binders) × Passes (rule_layer_tokens x) (rule_layer_binders x) old new)
