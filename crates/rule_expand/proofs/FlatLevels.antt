-- One level of each definition on rules without loops.
use Rattle.std.proofs.Common.{◌≡◌, ℕ, ℤ, Bool, List, sym, ap, ◌∙◌}
use Rattle.asm_names.specs.declared.program.{Resolved.{Resolved}, Domain.{Domain}}
use Rattle.asm_names.specs.declared.resolved_rule.ResolvedRule.{ResolvedRule, ResolvedRule-F, roll-ResolvedRule, fold-roll-ResolvedRule, map-ResolvedRule}
use Rattle.asm_ranges.specs.Ranges.{Scope}
use Rattle.asm_ranges.specs.Instances.{Numbers}
use Rattle.update_sets.specs.Yields.{Updates}
use Rattle.rule_expand.specs.declared.flat.Flat.{Flat, Flat-F, roll-Flat, fold-roll-Flat, map-Flat}
use Rattle.rule_expand.specs.Expanding.{expanded, expanded_by}
use Rattle.rule_expand.specs.FlatUpdates.{flat_updates, flat_updates_by}
use Rattle.rule_expand.specs.FlatSums.{flat_sums_fit, flat_sums_fit_by}
use Rattle.rule_expand.specs.FlatNew.{flat_new, flat_new_by}
use Rattle.rule_expand.specs.FlatDefined.{flat_defined, flat_defined_by}
use Rattle.rule_expand.specs.FlatWeights.{flat_weight, flat_weight_by, flat_registers, flat_registers_by}

module _ (x : Flat-F Flat) (f : Flat) (e : roll-Flat x ≡ f) where
  pub updates_at : (program : Resolved) (state inputs env : List ℤ)
      → flat_updates program state inputs f env ≡ flat_updates_by program state inputs (map-Flat Flat (List ℤ → Updates) (flat_updates program state inputs) x) env
  unfolding flat_updates
  updates_at program state inputs env =
      ap (λ u. flat_updates program state inputs u env) (sym e) ∙ ap (λ (F : List ℤ → Updates). F env) (fold-roll-Flat (List ℤ → Updates) (flat_updates_by program state inputs) x)

  pub sums_at : (program : Resolved) (scope : Scope) → flat_sums_fit program f scope ≡ flat_sums_fit_by program (map-Flat Flat (Scope → Bool) (flat_sums_fit program) x) scope
  unfolding flat_sums_fit
  sums_at program scope = ap (λ u. flat_sums_fit program u scope) (sym e) ∙ ap (λ (F : Scope → Bool). F scope) (fold-roll-Flat (Scope → Bool) (flat_sums_fit_by program) x)

  pub new_at : (program : Resolved) (scope : Scope) → flat_new program f scope ≡ flat_new_by program (map-Flat Flat (Scope → Bool) (flat_new program) x) scope
  unfolding flat_new
  new_at program scope = ap (λ u. flat_new program u scope) (sym e) ∙ ap (λ (F : Scope → Bool). F scope) (fold-roll-Flat (Scope → Bool) (flat_new_by program) x)

  pub defined_at : (program : Resolved) (state inputs env : List ℤ)
      → flat_defined program state inputs f env ≡ flat_defined_by program state inputs (map-Flat Flat (List ℤ → Bool) (flat_defined program state inputs) x) env
  unfolding flat_defined
  defined_at program state inputs env =
      ap (λ u. flat_defined program state inputs u env) (sym e) ∙ ap (λ (F : List ℤ → Bool). F env) (fold-roll-Flat (List ℤ → Bool) (flat_defined_by program state inputs) x)

  pub flat_weight_at : flat_weight f ≡ flat_weight_by (map-Flat Flat ℕ flat_weight x)
  unfolding flat_weight
  flat_weight_at = ap flat_weight (sym e) ∙ fold-roll-Flat ℕ flat_weight_by x

  pub flat_registers_at : flat_registers f ≡ flat_registers_by (map-Flat Flat ℕ flat_registers x)
  unfolding flat_registers
  flat_registers_at = ap flat_registers (sym e) ∙ fold-roll-Flat ℕ flat_registers_by x

module _ (x : ResolvedRule-F ResolvedRule) (r : ResolvedRule) (e : roll-ResolvedRule x ≡ r) where
  pub expanded_at : (domains : List Domain) (numbers : Numbers)
      → expanded domains r numbers ≡ expanded_by domains (map-ResolvedRule ResolvedRule (Numbers → Flat) (expanded domains) x) numbers
  unfolding expanded
  expanded_at domains numbers =
      ap (λ u. expanded domains u numbers) (sym e) ∙ ap (λ (F : Numbers → Flat). F numbers) (fold-roll-ResolvedRule (Numbers → Flat) (expanded_by domains) x)
