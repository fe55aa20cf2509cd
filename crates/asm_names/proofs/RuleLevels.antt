-- One level of each definition on rules.
use Rattle.asm_names.proofs.Common.{◌≡◌, ℕ, zero, suc, ◌+◌, ◌^◌, ◌<◌, ◌≤◌, List, Result, Ok, Err, sym, ap, ◌∙◌, arith, Rule, Rule-F, roll-Rule, out-Rule, roll-out-Rule, map-Rule, fold-roll-Rule}
use Rattle.asm_names.proofs.Common.{para-roll-Rule, NameEnd, ResolvedRule, Scope, scope, rule_tokens_by, rule_binders_by, Fault, Faulty, rule_faults_by, Made, resolved_rule_by, faulty, made}
use Rattle.asm_names.proofs.Common.{rule_layer_tokens, rule_layer_binders, JudgesRule, JudgesRuleLayer}
use Rattle.asm_names.specs.declared.rule.Walk.{Walk}
use Rattle.asm_names.specs.Places.{rule_tokens, rule_binders}
use Rattle.asm_names.specs.RuleFaults.{rule_faults}
use Rattle.asm_names.specs.Rules.{resolved_rule}

module _ (x : Rule-F Rule) (r : Rule) (e : roll-Rule x ≡ r) where
  pub tokens_of : rule_tokens r ≡ rule_layer_tokens x
  unfolding rule_tokens
  tokens_of = ap rule_tokens (sym e) ∙ fold-roll-Rule ℕ rule_tokens_by x

  pub binders_of : rule_binders r ≡ rule_layer_binders x
  unfolding rule_binders
  binders_of = ap rule_binders (sym e) ∙ fold-roll-Rule ℕ rule_binders_by x

  pub resolved_at : (names : Scope) (binders : ℕ) → resolved_rule r names binders ≡ resolved_rule_by (map-Rule Rule Made made x) names binders
  unfolding resolved_rule
  resolved_at names binders = ap (λ u. resolved_rule u names binders) (sym e) ∙ ap (λ f. f names binders) (para-roll-Rule (Scope → ℕ → ResolvedRule) resolved_rule_by x)

  pub faults_at : (names : Scope) (at binders : ℕ) → rule_faults r names at binders ≡ rule_faults_by (map-Rule Rule Faulty faulty x) names at binders
  unfolding rule_faults
  faults_at names at binders = ap (λ u. rule_faults u names at binders) (sym e) ∙ ap (λ f. f names at binders) (para-roll-Rule (Scope → ℕ → ℕ → List Fault) rule_faults_by x)

  -- what is judged by its parts is judged
  pub whole : (old : Walk) (outcome : Result ResolvedRule NameEnd) (new : Walk) → JudgesRuleLayer x old outcome new → JudgesRule r old outcome new
  whole old (Ok n) new h = rw (faults_at (scope old.table) old.place old.binders, resolved_at (scope old.table) old.binders, tokens_of, binders_of) h
  whole old (Err end) new h = rw (faults_at (scope old.table) old.place old.binders) h

some_tokens : (x : Rule-F Rule) → 0 < rule_layer_tokens x
some_tokens Rule-F.Skip = omega arith
some_tokens _ = omega arith

-- what holds of a rule where it holds of every rule with fewer tokens, holds of every rule
pub by_tokens : (P : Rule → Type 0)
    → ((n : ℕ) → ((r : Rule) → rule_tokens r ≤ n → P r) → (x : Rule-F Rule) (r : Rule) → roll-Rule x ≡ r → rule_layer_tokens x ≤ suc n → P r) → (r : Rule) → P r
by_tokens P level r = at_depth (rule_tokens r) r (omega arith)
  where
    at_depth : (n : ℕ) (r : Rule) → rule_tokens r ≤ n → P r
    at_depth zero r small = absurd (omega (arith, tokens_of (out-Rule r) r (roll-out-Rule r), some_tokens (out-Rule r)))
    at_depth (suc n) r small = level n (at_depth n) (out-Rule r) r (roll-out-Rule r) (omega (arith, tokens_of (out-Rule r) r (roll-out-Rule r)))

-- what a part of a walk asks of its room, by a rule's parts
pub room_of : (x : Rule-F Rule) (r : Rule) → roll-Rule x ≡ r → (place binders : ℕ) → place + rule_tokens r < 2 ^ 32 → binders + rule_binders r < 2 ^ 32
    → (place + rule_layer_tokens x < 2 ^ 32) × (binders + rule_layer_binders x < 2 ^ 32)
room_of x r e place binders room bound_room = (omega (arith, tokens_of x r e, room), omega (arith, binders_of x r e, bound_room))
