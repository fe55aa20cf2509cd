-- One level of each definition on rules without loops.
use Rattle.std.proofs.Common.{◌≡◌, ℕ, Bool, ap}
use Rattle.asm_names.specs.declared.program.Resolved.{Resolved}
use Rattle.asm_ranges.specs.Ranges.{Scope}
use Rattle.block_code.specs.Plan.{Plan}
use Rattle.state_layout.specs.Map.{Placement}
use Rattle.rule_expand.specs.declared.flat.Flat.{Flat, Flat-F, roll-Flat, fold-roll-Flat, map-Flat}
use Rattle.rule_code.specs.Code.{rule_plan, rule_plan_by}
use Rattle.rule_code.specs.Short.{flat_short, flat_short_by}

module _ (x : Flat-F Flat) where
  pub rule_plan_at : (program : Resolved) (placement : Placement) (tables : ℕ)
      → rule_plan program placement tables (roll-Flat x) ≡ rule_plan_by program placement tables (map-Flat Flat Plan (rule_plan program placement tables) x)
  unfolding rule_plan
  rule_plan_at program placement tables = fold-roll-Flat Plan (rule_plan_by program placement tables) x

  pub flat_short_at : (program : Resolved) (scope : Scope) → flat_short program (roll-Flat x) scope ≡ flat_short_by program (map-Flat Flat (Scope → Bool) (flat_short program) x) scope
  unfolding flat_short
  flat_short_at program scope = ap (λ (F : Scope → Bool). F scope) (fold-roll-Flat (Scope → Bool) (flat_short_by program) x)
