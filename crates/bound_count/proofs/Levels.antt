-- One level of each definition on terms and on rules.
use Rattle.std.proofs.Common.{◌≡◌, ℕ, Bool, List, sym, ap, ◌∙◌}
use Rattle.asm_names.specs.declared.program.Domain.{Domain}
use Rattle.asm_names.specs.declared.resolved_term.ResolvedTerm.{ResolvedTerm, ResolvedTerm-F, roll-ResolvedTerm, fold-roll-ResolvedTerm, map-ResolvedTerm}
use Rattle.asm_names.specs.declared.resolved_rule.ResolvedRule.{ResolvedRule, ResolvedRule-F, roll-ResolvedRule, fold-roll-ResolvedRule, map-ResolvedRule}
use Rattle.bound_count.specs.declared.shape.Shape.{Shape}
use Rattle.bound_count.specs.ShortNumbers.{short_numbers, short_numbers_by}
use Rattle.bound_count.specs.TermWeights.{term_weight, term_weight_by, term_registers, term_registers_by}
use Rattle.bound_count.specs.RuleWeights.{rule_words, rule_ticks, rule_weight_by, forall_words, forall_ticks, choose_words, choose_ticks, rule_registers, rule_registers_by, rule_nesting, rule_nesting_by}

module _ (x : ResolvedTerm-F ResolvedTerm) (t : ResolvedTerm) (e : roll-ResolvedTerm x ≡ t) where
  pub weight_at : term_weight t ≡ term_weight_by (map-ResolvedTerm ResolvedTerm ℕ term_weight x)
  unfolding term_weight
  weight_at = ap term_weight (sym e) ∙ fold-roll-ResolvedTerm ℕ term_weight_by x

  pub registers_at : term_registers t ≡ term_registers_by (map-ResolvedTerm ResolvedTerm ℕ term_registers x)
  unfolding term_registers
  registers_at = ap term_registers (sym e) ∙ fold-roll-ResolvedTerm ℕ term_registers_by x

  pub short_numbers_at : short_numbers t ≡ short_numbers_by (map-ResolvedTerm ResolvedTerm Bool short_numbers x)
  unfolding short_numbers
  short_numbers_at = ap short_numbers (sym e) ∙ fold-roll-ResolvedTerm Bool short_numbers_by x

module _ (x : ResolvedRule-F ResolvedRule) (r : ResolvedRule) (e : roll-ResolvedRule x ≡ r) where
  pub words_at : (shape : Shape) (domains : List Domain)
      → rule_words shape domains r ≡ rule_weight_by (forall_words shape) (choose_words shape) domains (map-ResolvedRule ResolvedRule ℕ (rule_words shape domains) x)
  unfolding rule_words
  words_at shape domains = ap (rule_words shape domains) (sym e) ∙ fold-roll-ResolvedRule ℕ (rule_weight_by (forall_words shape) (choose_words shape) domains) x

  pub ticks_at : (shape : Shape) (domains : List Domain)
      → rule_ticks shape domains r ≡ rule_weight_by (forall_ticks shape) (choose_ticks shape) domains (map-ResolvedRule ResolvedRule ℕ (rule_ticks shape domains) x)
  unfolding rule_ticks
  ticks_at shape domains = ap (rule_ticks shape domains) (sym e) ∙ fold-roll-ResolvedRule ℕ (rule_weight_by (forall_ticks shape) (choose_ticks shape) domains) x

  pub rule_registers_at : rule_registers r ≡ rule_registers_by (map-ResolvedRule ResolvedRule ℕ rule_registers x)
  unfolding rule_registers
  rule_registers_at = ap rule_registers (sym e) ∙ fold-roll-ResolvedRule ℕ rule_registers_by x

  pub nesting_at : rule_nesting r ≡ rule_nesting_by (map-ResolvedRule ResolvedRule ℕ rule_nesting x)
  unfolding rule_nesting
  nesting_at = ap rule_nesting (sym e) ∙ fold-roll-ResolvedRule ℕ rule_nesting_by x
