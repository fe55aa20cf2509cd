-- The code of every rule without loops stages the rule's updates.
use Rattle.std.proofs.Common.{◌≡◌, ℕ, ℤ, Bool, List, [], ◌∷◌, ◌++◌, map, refl, sym, ap, ◌∙◌, subst, arith}
use Rattle.std.specs.List.{AllByRecursion, flat_map}
use Rattle.std.proofs.lemmas.List.Folds.{list_all-map}
use Rattle.std.proofs.lemmas.Bool.{and_parts, and_from}
use Rattle.asm_names.specs.declared.{program.Resolved.{Resolved}, resolved_term.ResolvedTerm.{ResolvedTerm}}
use Rattle.asm_ranges.specs.Ranges.{ReadsFit, Scope}
use Rattle.block_code.specs.Plan.{Plan}
use Rattle.state_layout.specs.Map.{Placement}
use Rattle.update_sets.specs.Yields.{Updates}
use Rattle.rule_expand.specs.declared.flat.Flat.{Flat, Flat-F, ind-Flat, map-Flat, roll-Flat}
use Rattle.rule_expand.specs.{Expanding.{Case}, FlatDefined.{flat_defined, flat_defined_by}, FlatUpdates.{flat_updates, flat_updates_by}, FlatWeights.{flat_registers, flat_registers_by}}
use Rattle.rule_expand.proofs.FlatLevels.{defined_at, flat_registers_at, updates_at}
use Rattle.rule_code.specs.{Code.{rule_plan, rule_plan_by}, Short.{flat_short, flat_short_by}, Within.{IsSetting}}
use Rattle.rule_code.proofs.{Cases.{stages-cases}, Levels.{flat_short_at, rule_plan_at}, Stages.{Stages, StagesRule, stages-let, stages-more, stages-none, stages-parts, stages-update}}

module _ (rom : List ℕ) (size : ℕ) (program : Resolved) (placement : Placement) (tables : ℕ) (set : IsSetting rom size program placement tables) (state inputs : List ℤ) (reads : ReadsFit program state inputs) where
  abbrev Rule : Flat → Type 0
  Rule = StagesRule rom size program placement tables set state inputs reads

  abbrev Sound : Type 0
  Sound = (flat : Flat) × Rule flat

  abbrev rule_of : Sound → Flat
  rule_of s = s.0

  abbrev Layer : Flat-F Flat → Type 0
  Layer x =
      Stages rom size program placement tables set state inputs reads (rule_plan_by program placement tables (map-Flat Flat Plan (rule_plan program placement tables) x))
      (flat_short_by program (map-Flat Flat (Scope → Bool) (flat_short program) x))
      (flat_defined_by program state inputs (map-Flat Flat (List ℤ → Bool) (flat_defined program state inputs) x))
      (flat_registers_by (map-Flat Flat ℕ flat_registers x))
      (flat_updates_by program state inputs (map-Flat Flat (List ℤ → Updates) (flat_updates program state inputs) x))

  parts-yield : (parts : List Flat) (env : List ℤ)
      → flat_map (λ part. flat_updates program state inputs part env) parts ≡ flat_map (λ (part : List ℤ → Updates). part env) (map (flat_updates program state inputs) parts)
  parts-yield [] env = refl
  parts-yield (p ∷ parts) env = ap (λ us. flat_updates program state inputs p env ++ us) (parts-yield parts env)

  all-parts : (ss : List Sound) → AllByRecursion Rule (map rule_of ss)
  all-parts [] = tt
  all-parts (s ∷ ss) = (s.1, all-parts ss)

  abbrev case_of : ResolvedTerm × Sound → Case
  case_of case = (case.0, rule_of case.1)

  all-cases : (list : List (ResolvedTerm × Sound)) → AllByRecursion (λ (case : Case). Rule case.1) (map case_of list)
  all-cases [] = tt
  all-cases (case ∷ list) = (case.1.1, all-cases list)

  layer : (y : Flat-F Sound) → Layer (map-Flat Sound Flat rule_of y)
  layer Flat-F.Skip = stages-none rom size program placement tables set state inputs reads _ _ _ _ (λ env d. refl)
  layer (Flat-F.Update fun args new) = stages-update rom size program placement tables set state inputs reads fun args new
  layer (Flat-F.Par parts) =
      let fs : List Flat = map rule_of parts in
      stages-more rom size program placement tables set state inputs reads _ _ _ _ _ _ _ _ _
      (λ scope k. sym (list_all-map _ _ fs) ∙ k) (λ env k. sym (list_all-map _ _ fs) ∙ k) (omega arith) (parts-yield fs)
      (stages-parts rom size program placement tables set state inputs reads fs (all-parts parts))
  layer (Flat-F.Cases list other) =
      let cases : List Case = map case_of list in
      stages-more rom size program placement tables set state inputs reads _ _ _ _ _ _ _ _ _
      (λ scope k. let p = and_parts _ _ k in and_from _ _ (sym (list_all-map _ _ cases) ∙ p.0) p.1) (λ env k. k) (omega arith) (λ env. refl)
      (stages-cases rom size program placement tables set state inputs reads cases other.0 (all-cases list) other.1)
  layer (Flat-F.Let b t body) = stages-let rom size program placement tables set state inputs reads b t body.0 body.1

  rolled : (x : Flat-F Flat) → Layer x → Rule (roll-Flat x)
  rolled x h =
      subst (λ tree. Stages rom size program placement tables set state inputs reads tree (flat_short program (roll-Flat x)) (flat_defined program state inputs (roll-Flat x)) (flat_registers (roll-Flat x)) (flat_updates program state inputs (roll-Flat x)))
      (sym (rule_plan_at x program placement tables))
      (stages-more rom size program placement tables set state inputs reads (rule_plan_by program placement tables (map-Flat Flat Plan (rule_plan program placement tables) x))
      (flat_short_by program (map-Flat Flat (Scope → Bool) (flat_short program) x)) (flat_short program (roll-Flat x))
      (flat_defined_by program state inputs (map-Flat Flat (List ℤ → Bool) (flat_defined program state inputs) x)) (flat_defined program state inputs (roll-Flat x))
      (flat_registers_by (map-Flat Flat ℕ flat_registers x)) (flat_registers (roll-Flat x))
      (flat_updates_by program state inputs (map-Flat Flat (List ℤ → Updates) (flat_updates program state inputs) x)) (flat_updates program state inputs (roll-Flat x))
      (λ scope k. sym (flat_short_at x program scope) ∙ k)
      (λ env d. sym (defined_at x (roll-Flat x) refl program state inputs env) ∙ d)
      (let e = flat_registers_at x (roll-Flat x) refl in omega arith)
      (λ env. sym (updates_at x (roll-Flat x) refl program state inputs env)) h)

  pub rules-stage : (flat : Flat) → Rule flat
  rules-stage = ind-Flat Rule (λ x y is. subst (λ z. Rule (roll-Flat z)) is (rolled (map-Flat Sound Flat rule_of y) (layer y)))
