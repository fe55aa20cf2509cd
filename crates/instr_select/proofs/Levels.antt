-- One level of each definition on terms.
use Rattle.std.proofs.Common.{◌≡◌, ℕ, ℤ, Bool, List}
use Rattle.asm_names.specs.declared.{program.Resolved.{Resolved}, resolved_term.ResolvedTerm.{ResolvedTerm, ResolvedTerm-F, roll-ResolvedTerm, fold-roll-ResolvedTerm, para-roll-ResolvedTerm, map-ResolvedTerm}}
use Rattle.state_space.specs.declared.signature.Signature.{Signature}
use Rattle.asm_ranges.specs.{Ranges.{Part, Scope}, Values.{defined, defined_by}}
use Rattle.block_code.specs.Plan.{Plan}
use Rattle.state_layout.specs.Map.{Placement}
use Rattle.bound_count.specs.TermWeights.{term_registers, term_registers_by, term_weight, term_weight_by}
use Rattle.instr_select.specs.{Short.{is_short, short_by}, Terms.{binders_below, binders_below_by, term_plan, term_plan_by}}

-- a term, and whether it is defined
abbrev pub told : Resolved → (state inputs env : List ℤ) → ResolvedTerm → Part
told program state inputs env t = (t, defined program state inputs env t)

-- a term, and whether it is short
abbrev pub measured : List Signature → Scope → ResolvedTerm → Part
measured signatures scope t = (t, is_short signatures scope t)

module _ (x : ResolvedTerm-F ResolvedTerm) where
  pub plan_at : (program : Resolved) (placement : Placement) (tables : ℕ)
      → term_plan program placement tables (roll-ResolvedTerm x) ≡ term_plan_by program placement tables (map-ResolvedTerm ResolvedTerm (ℕ → Plan) (term_plan program placement tables) x)
  unfolding term_plan
  plan_at program placement tables = fold-roll-ResolvedTerm (ℕ → Plan) (term_plan_by program placement tables) x

  pub weight_at : term_weight (roll-ResolvedTerm x) ≡ term_weight_by (map-ResolvedTerm ResolvedTerm ℕ term_weight x)
  unfolding term_weight
  weight_at = fold-roll-ResolvedTerm ℕ term_weight_by x

  pub registers_at : term_registers (roll-ResolvedTerm x) ≡ term_registers_by (map-ResolvedTerm ResolvedTerm ℕ term_registers x)
  unfolding term_registers
  registers_at = fold-roll-ResolvedTerm ℕ term_registers_by x

  pub defined_at : (program : Resolved) (state inputs env : List ℤ)
      → defined program state inputs env (roll-ResolvedTerm x) ≡ defined_by program state inputs env (map-ResolvedTerm ResolvedTerm Part (told program state inputs env) x)
  unfolding defined
  defined_at program state inputs env = para-roll-ResolvedTerm Bool (defined_by program state inputs env) x

  pub short_at : (signatures : List Signature) (scope : Scope) → is_short signatures scope (roll-ResolvedTerm x) ≡ short_by signatures scope (map-ResolvedTerm ResolvedTerm Part (measured signatures scope) x)
  unfolding is_short
  short_at signatures scope = para-roll-ResolvedTerm Bool (short_by signatures scope) x

  pub below_at : (binders : ℕ) → binders_below binders (roll-ResolvedTerm x) ≡ binders_below_by binders (map-ResolvedTerm ResolvedTerm Bool (binders_below binders) x)
  unfolding binders_below
  below_at binders = fold-roll-ResolvedTerm Bool (binders_below_by binders) x
