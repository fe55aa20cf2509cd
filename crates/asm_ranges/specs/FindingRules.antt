-- What functions find of the ranges of rules.
use Rattle.std.specs.Prelude.{◌≡◌, ℕ, ◌+◌, Bool, true, List, Result}
use Rattle.std.specs.List.{list_all}
use Rattle.asm_names.specs.declared.{program.{Domain.{Domain}, Interval.{Interval}}, resolved_rule.ResolvedRule.{ResolvedRule, ResolvedRule-F, map-ResolvedRule}}
use Rattle.asm_names.specs.ResolvedPlaces.{resolved_rule_tokens, resolved_rule_tokens_by}
use Rattle.state_space.specs.declared.signature.Signature.{Signature}
use Rattle.asm_ranges.specs.declared.{fault.RangeEnd.{RangeEnd}, finding.Found.{Found}, context.Context.{Context}}
use Rattle.asm_ranges.specs.{Faults.{Judges}, Ranges.{Scope, words}, Facts.{Facts}, RangeFaults.{FaultyRule, rule_faults, rule_faults_by}, Rows.{Row, intervals_after, intervals_after_by}}
use Rattle.asm_ranges.specs.Contexts.{IsPart, IsWord, below, facts_of, scope_of, is_part, legible, legible_by}

-- whether each interval is of 32 bits
abbrev pub all_words : Row → Bool
all_words row = list_all (λ interval. is_part interval words) row

-- a term without a fault was read: its ranges, and the place after its tokens
pub record Settles (plain refined : Interval) (tokens at : ℕ) (found : Found) : Type 0 where
  pub is_plain : found.plain ≡ plain
  pub is_refined : found.refined ≡ refined
  pub after : found.after ≡ at + tokens
  pub part : IsPart found.refined found.plain
  pub word : IsWord found.plain

-- a rule without a fault was read: the place after its tokens, and the row after its binders
pub record Passes (tokens : ℕ) (expected : Row) (at after : ℕ) (new : Row) : Type 0 where
  pub place : after ≡ at + tokens
  pub row : new ≡ expected
  pub words : all_words new ≡ true

-- something holds of the binders from a number on, below which all binders of a context are
pub record IsAbove (context : Context) (P : ℕ → Bool) : Type 0 where
  pub from : ℕ
  pub above : below from (facts_of context) ≡ true
  pub holds : P from ≡ true

-- a rule with its faults
abbrev pub faulty_rule : List Domain → List Signature → ResolvedRule → FaultyRule
faulty_rule domains signatures rule = (rule, rule_faults domains signatures rule)

-- A rule was judged: its first fault, or the place and the row behind it.
abbrev pub JudgesRule : List Domain → List Signature → Context → ResolvedRule → Row → ℕ → Result ℕ RangeEnd → Row → Type 0
JudgesRule domains signatures context rule old at outcome new =
    Judges (rule_faults domains signatures rule (scope_of context) (facts_of context) at) outcome
    (λ after. Passes (resolved_rule_tokens rule) (intervals_after domains signatures rule (scope_of context) old) at after new)

-- how many tokens a rule has, by its parts
abbrev pub rule_layer_tokens : ResolvedRule-F ResolvedRule → ℕ
rule_layer_tokens x = resolved_rule_tokens_by (map-ResolvedRule ResolvedRule ℕ resolved_rule_tokens x)

-- whether it is legible from a number on, by its parts
abbrev pub layer_legible : List Domain → ResolvedRule-F ResolvedRule → ℕ → Bool
layer_legible domains x from = legible_by domains (map-ResolvedRule ResolvedRule (ℕ → Bool) (legible domains) x) from

-- its faults, by its parts
abbrev pub layer_faults : List Domain → List Signature → ResolvedRule-F ResolvedRule → Scope → Facts → ℕ → List RangeEnd
layer_faults domains signatures x scope facts at = rule_faults_by domains signatures (map-ResolvedRule ResolvedRule FaultyRule (faulty_rule domains signatures) x) scope facts at

-- the row after it, by its parts
abbrev pub layer_after : List Domain → List Signature → ResolvedRule-F ResolvedRule → Scope → Row → Row
layer_after domains signatures x scope row = intervals_after_by domains signatures (map-ResolvedRule ResolvedRule (Scope → Row → Row) (intervals_after domains signatures) x) scope row

-- The same, said of its parts.
abbrev pub JudgesRuleLayer : List Domain → List Signature → Context → ResolvedRule-F ResolvedRule → Row → ℕ → Result ℕ RangeEnd → Row → Type 0
JudgesRuleLayer domains signatures context x old at outcome new =
    Judges (layer_faults domains signatures x (scope_of context) (facts_of context) at) outcome
    (λ after. Passes (rule_layer_tokens x) (layer_after domains signatures x (scope_of context) old) at after new)
