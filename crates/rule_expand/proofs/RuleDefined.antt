-- What is met of a rule that is written out is defined.
use Rattle.std.proofs.Common.{◌≡◌, ℕ, ◌<◌, ℤ, Bool, true, false, List, [], ◌∷◌, map, length, Option, Some, None, refl, sym, ap, ◌∙◌, subst, arith, length-set}
use Rattle.std.specs.Prelude.{slice_set, if◌then◌else◌}
use Rattle.std.specs.List.{list_all, AllByRecursion}
use Rattle.std.proofs.lemmas.Bool.{and_parts, and_from}
use Rattle.std.proofs.lemmas.List.Folds.{list_all-map}
use Rattle.asm_names.specs.declared.program.Resolved.{Resolved}
use Rattle.asm_names.specs.declared.resolved_term.ResolvedTerm.{ResolvedTerm}
use Rattle.asm_names.specs.declared.resolved_rule.ResolvedRule.{ResolvedRule, ResolvedRule-F, roll-ResolvedRule, ind-ResolvedRule, map-ResolvedRule}
use Rattle.asm_names.specs.declared.resolved_rule.ResolvedRule.TheVariants as forms
use Rattle.asm_names.specs.WellFormed.{guard_stands}
use Rattle.state_space.specs.declared.signature.{Signature.{Signature}}
use Rattle.state_space.specs.Locations.{elements, range_of}
use Rattle.state_space.specs.Codomains.{In, codomain_range}
use Rattle.asm_ranges.specs.Ranges.{ReadsFit, domain_interval}
use Rattle.asm_ranges.specs.Instances.{Numbers, instance, numbered_env}
use Rattle.asm_ranges.specs.Keeping.{IsChecked}
use Rattle.asm_ranges.specs.Values.{value, holds, defined, takes_args}
use Rattle.asm_ranges.specs.Places.{TermPlaced, RulePlaced, RulesPlaced, ElementsPlaced}
use Rattle.asm_ranges.proofs.InstanceValues.{instance_value}
use Rattle.asm_ranges.proofs.InstanceSums.{instance_defined}
use Rattle.asm_ranges.proofs.PlacedRules.{placed-Update, taken-Update, placed-write, placed-guard, placed-then, placed-else, placed-Par, placed-Forall, placed-Choose, placed-Let}
use Rattle.rule_expand.specs.declared.flat.Flat.{Flat, Flat-F}
use Rattle.rule_expand.specs.declared.flat.Flat.TheVariants as flats
use Rattle.rule_expand.specs.Expanding.{Case, expanded, expanded_by, case_at, part_at}
use Rattle.rule_expand.specs.FlatDefined.{flat_defined, cases_defined, takes_value}
use Rattle.rule_expand.proofs.FlatLevels.{defined_at, expanded_at}
use Rattle.rule_expand.proofs.Binding.{numbered-set, local-set, length-numbered}
use Rattle.rule_expand.proofs.Guards.{rule_stands, rule_stands_by, stands_at, always-holds}
use Rattle.rule_expand.proofs.InstanceSums.{true-of}
use Rattle.rule_expand.proofs.RuleSums.{elements-in}
use Rattle.rule_expand.proofs.TermLevels.{values_same}

-- the value of an update that is one of a location
value-taken : (o : Option Signature) (vs : List ℤ) (v : ℤ) → takes_args o vs ≡ true → In (codomain_range o) v → takes_value o v ≡ true
value-taken None vs v h k = absurd cc
value-taken (Some signature) vs v h k = and_from _ _ (true-of _ k.low.le) (true-of _ k.high.le)

module _ (program : Resolved) (state inputs : List ℤ) (checked : IsChecked program) (reads : ReadsFit program state inputs) where
  abbrev flat : ResolvedRule → Numbers → Flat
  flat = expanded program.domains

  abbrev met : Flat → List ℤ → Bool
  met = flat_defined program state inputs

  abbrev definite : List ℤ → ResolvedTerm → Bool
  definite env t = defined program state inputs env t

  abbrev test : ResolvedTerm → List ℤ → Bool
  test g env = holds (value program state inputs env g)

  -- ---- rules without loops

  chosen : (b : Bool) (x y : Bool) → (b ≡ true → x ≡ true) → (b ≡ false → y ≡ true) → (if b then x else y) ≡ true
  chosen true x y h k = h refl
  chosen false x y h k = k refl

  -- each guard is defined up to the first that holds, and the rule that is then decided for is met defined
  abbrev CasesMet : List Case → Flat → List ℤ → Type 0
  CasesMet [] other env = met other env ≡ true
  CasesMet (case ∷ cases) other env = (definite env case.0 ≡ true) × (test case.0 env ≡ true → met case.1 env ≡ true) × (test case.0 env ≡ false → CasesMet cases other env)

  walk : (cases : List Case) (other : Flat) (env : List ℤ) → CasesMet cases other env
      → cases_defined (definite env) (λ g. test g env) (map (λ (case : Case). (case.0, met case.1)) cases) (met other) env ≡ true
  walk [] other env h = h
  walk (case ∷ cases) other env h = and_from _ _ h.0 (chosen (test case.0 env) _ _ h.1 (λ fails. walk cases other env (h.2 fails)))

  met-Cases : (cases : List Case) (other : Flat) (env : List ℤ) → CasesMet cases other env → met (flats.Cases cases other) env ≡ true
  met-Cases cases other env h = defined_at (Flat-F.Cases cases other) _ (flats.rolls-Cases cases other) program state inputs env ∙ walk cases other env h

  met-Par : (parts : List Flat) (env : List ℤ) → list_all (λ part. met part env) parts ≡ true → met (flats.Par parts) env ≡ true
  met-Par parts env h = defined_at (Flat-F.Par parts) _ (flats.rolls-Par parts) program state inputs env ∙ list_all-map _ _ parts ∙ h

  met-Skip : (env : List ℤ) → met flats.Skip env ≡ true
  met-Skip env = defined_at Flat-F.Skip _ flats.rolls-Skip program state inputs env

  -- ---- rules that are written out

  abbrev Met : ResolvedRule → Type 0
  Met rule =
      (numbers : Numbers) (env : List ℤ) → length numbers ≡ length env → RulePlaced program state inputs rule (numbered_env numbers env) → rule_stands program.binders rule ≡ true
      → met (flat rule numbers) env ≡ true

  abbrev Good : Type 0
  Good = (rule : ResolvedRule) × Met rule

  abbrev rule_of : Good → ResolvedRule
  rule_of g = g.0

  term : (numbers : Numbers) (env : List ℤ) (t : ResolvedTerm) → TermPlaced program state inputs t (numbered_env numbers env) → definite env (instance numbers t) ≡ true
  term numbers env t p = instance_defined program state inputs env numbers t ∙ p.definite

  all_terms : (numbers : Numbers) (env : List ℤ) (ts : List ResolvedTerm) → list_all (defined program state inputs (numbered_env numbers env)) ts ≡ true
      → list_all (definite env) (map (instance numbers) ts) ≡ true
  all_terms numbers env [] h = refl
  all_terms numbers env (t ∷ ts) h = let p = and_parts _ _ h in and_from _ _ (instance_defined program state inputs env numbers t ∙ p.0) (all_terms numbers env ts p.1)

  same-value : (numbers : Numbers) (env : List ℤ) (g : ResolvedTerm) → test (instance numbers g) env ≡ test g (numbered_env numbers env)
  same-value numbers env g = ap holds (instance_value program state inputs env numbers g)

  each : (parts : List Good) (numbers : Numbers) (env : List ℤ) → length numbers ≡ length env → RulesPlaced program state inputs (map rule_of parts) (numbered_env numbers env)
      → list_all (λ (part : Bool). part) (map (rule_stands program.binders) (map rule_of parts)) ≡ true
      → list_all (λ part. met part env) (map (λ (part : Numbers → Flat). part numbers) (map flat (map rule_of parts))) ≡ true
  each [] numbers env l h k = refl
  each (p ∷ parts) numbers env l h k =
      let r = and_parts _ _ k in
      and_from _ _ (p.1 numbers env l h.0 r.0) (each parts numbers env l h.1 r.1)

  module _ (b d : ℕ) (g : ResolvedTerm) (body : Good) (numbers : Numbers) (env : List ℤ) (l : length numbers ≡ length env)
      (placed : ElementsPlaced program state inputs b d g body.0 (numbered_env numbers env)) (stand : rule_stands program.binders body.0 ≡ true) where
    abbrev at : ℤ → Numbers
    at e = slice_set numbers b (Some e)

    there : b < length env
    there = omega (arith, placed.room, length-numbered numbers env l)

    same : (e : ℤ) → numbered_env (at e) env ≡ slice_set (numbered_env numbers env) b e
    same e = numbered-set numbers env b e l there

    met-guard : (e : ℤ) → In (domain_interval program d) e → definite env (instance (at e) g) ≡ true
    met-guard e inside = term (at e) env g (subst (λ es. TermPlaced program state inputs g es) (sym (same e)) (placed.guards e inside))

    met-body : (e : ℤ) → In (domain_interval program d) e → test g (slice_set (numbered_env numbers env) b e) ≡ true → met (flat body.0 (at e)) env ≡ true
    met-body e inside h =
        body.1 (at e) env (length-set numbers b (Some e) ∙ l) (subst (λ es. RulePlaced program state inputs body.0 es) (sym (same e)) (placed.bodies e inside h)) stand

    met-when : (e : ℤ) → In (domain_interval program d) e → test (instance (at e) g) env ≡ true → met (flat body.0 (at e)) env ≡ true
    met-when e inside h = met-body e inside (ap (test g) (sym (same e)) ∙ sym (same-value (at e) env g) ∙ h)

    met-part : (guarded : Bool) → guard_stands guarded g ≡ true → (e : ℤ) → In (domain_interval program d) e → met (part_at guarded g (flat body.0) numbers b e) env ≡ true
    met-part true h e inside = met-Cases (case_at g (flat body.0) numbers b e ∷ []) flats.Skip env (met-guard e inside, met-when e inside, λ fails. met-Skip env)
    met-part false h e inside = met-body e inside (always-holds program state inputs (slice_set (numbered_env numbers env) b e) false g refl h)

    met-parts : (guarded : Bool) → guard_stands guarded g ≡ true → (xs : List ℤ) → AllByRecursion (λ e. In (domain_interval program d) e) xs
        → list_all (λ part. met part env) (map (part_at guarded g (flat body.0) numbers b) xs) ≡ true
    met-parts guarded h [] all = refl
    met-parts guarded h (x ∷ xs) all = and_from _ _ (met-part guarded h x all.0) (met-parts guarded h xs all.1)

    met-cases : (other : Flat) → met other env ≡ true → (xs : List ℤ) → AllByRecursion (λ e. In (domain_interval program d) e) xs → CasesMet (map (case_at g (flat body.0) numbers b) xs) other env
    met-cases other h [] all = h
    met-cases other h (x ∷ xs) all = (met-guard x all.0, met-when x all.0, λ fails. met-cases other h xs all.1)

  layer : (x : ResolvedRule-F Good) (numbers : Numbers) (env : List ℤ) → length numbers ≡ length env
      → RulePlaced program state inputs (roll-ResolvedRule (map-ResolvedRule Good ResolvedRule rule_of x)) (numbered_env numbers env)
      → rule_stands_by program.binders (map-ResolvedRule ResolvedRule Bool (rule_stands program.binders) (map-ResolvedRule Good ResolvedRule rule_of x)) ≡ true
      → met (expanded_by program.domains (map-ResolvedRule ResolvedRule (Numbers → Flat) flat (map-ResolvedRule Good ResolvedRule rule_of x)) numbers) env ≡ true
  layer ResolvedRule-F.Skip numbers env l h k = met-Skip env
  layer (ResolvedRule-F.Update fun args new) numbers env l h k =
      let before = numbered_env numbers env in
      let e = forms.rolls-Update fun args new in
      let p = placed-Update program state inputs checked reads before _ h fun args new e in
      let taken = taken-Update program state inputs checked reads before _ h fun args new e in
      let inside = placed-write program state inputs checked reads before _ h fun args new e in
      defined_at (Flat-F.Update fun (map (instance numbers) args) (instance numbers new)) _ (flats.rolls-Update fun (map (instance numbers) args) (instance numbers new)) program state inputs env
      ∙ and_from _ _ (and_from _ _ (all_terms numbers env args p.0.definite) (term numbers env new p.1))
      (rw (values_same program state inputs env numbers args, instance_value program state inputs env numbers new) (and_from _ _ taken (value-taken _ _ _ taken inside)))
  layer (ResolvedRule-F.If g t e w) numbers env l h k =
      let before = numbered_env numbers env in
      let is = forms.rolls-If g t.0 e.0 w in
      let r = and_parts _ _ k in
      met-Cases ((instance numbers g, flat t.0 numbers) ∷ []) (flat e.0 numbers) env (
        term numbers env g (placed-guard program state inputs checked reads before _ h g t.0 e.0 w is),
        λ holds. t.1 numbers env l (placed-then program state inputs checked reads before _ h g t.0 e.0 w is (sym (same-value numbers env g) ∙ holds)) r.0,
        λ fails. e.1 numbers env l (placed-else program state inputs checked reads before _ h g t.0 e.0 w is (sym (same-value numbers env g) ∙ fails)) r.1,
      )
  layer (ResolvedRule-F.Par parts) numbers env l h k =
      met-Par _ env (each parts numbers env l (placed-Par program state inputs checked reads (numbered_env numbers env) _ h (map rule_of parts) (forms.rolls-Par (map rule_of parts))) k)
  layer (ResolvedRule-F.Forall b d g gd body) numbers env l h k =
      let p = and_parts _ _ k in
      let r = and_parts _ _ p.1 in
      let placed = placed-Forall program state inputs checked reads (numbered_env numbers env) _ h b d g gd body.0 (forms.rolls-Forall b d g gd body.0) in
      met-Par _ env (met-parts b d g body numbers env l placed r.1 gd r.0 (elements (range_of program.domains d)) (elements-in program d))
  layer (ResolvedRule-F.Choose b d g body e w) numbers env l h k =
      let p = and_parts _ _ k in
      let r = and_parts _ _ p.1 in
      let placed = placed-Choose program state inputs checked reads (numbered_env numbers env) _ h b d g body.0 e.0 w (forms.rolls-Choose b d g body.0 e.0 w) in
      met-Cases _ (flat e.0 numbers) env (met-cases b d g body numbers env l placed.0 r.0 (flat e.0 numbers) (e.1 numbers env l placed.1 r.1) (elements (range_of program.domains d)) (elements-in program d))
  layer (ResolvedRule-F.Let b v body) numbers env l h k =
      let before = numbered_env numbers env in
      let p = and_parts _ _ k in
      let placed = placed-Let program state inputs checked reads before _ h b v body.0 (forms.rolls-Let b v body.0) in
      let there : b < length env = omega (arith, placed.0, length-numbered numbers env l) in
      let w : ℤ = value program state inputs env (instance numbers v) in
      let is : w ≡ value program state inputs before v = instance_value program state inputs env numbers v in
      let next : RulePlaced program state inputs body.0 (numbered_env (slice_set numbers b None) (slice_set env b w)) =
      subst (λ es. RulePlaced program state inputs body.0 es) (sym (local-set numbers env b w l there ∙ ap (slice_set before b) is)) placed.2 in
      defined_at (Flat-F.Let b (instance numbers v) (flat body.0 (slice_set numbers b None))) _ (flats.rolls-Let b (instance numbers v) (flat body.0 (slice_set numbers b None))) program state inputs env
      ∙ and_from _ _ (term numbers env v placed.1)
      (body.1 (slice_set numbers b None) (slice_set env b w) (length-set numbers b None ∙ l ∙ sym (length-set env b w)) next p.1)

  rolled : (x : ResolvedRule-F ResolvedRule)
      → ((numbers : Numbers) (env : List ℤ) → length numbers ≡ length env → RulePlaced program state inputs (roll-ResolvedRule x) (numbered_env numbers env)
      → rule_stands_by program.binders (map-ResolvedRule ResolvedRule Bool (rule_stands program.binders) x) ≡ true
      → met (expanded_by program.domains (map-ResolvedRule ResolvedRule (Numbers → Flat) flat x) numbers) env ≡ true)
      → Met (roll-ResolvedRule x)
  rolled x one numbers env l h k =
      ap (λ f. met f env) (expanded_at x (roll-ResolvedRule x) refl program.domains numbers)
      ∙ one numbers env l h (sym (stands_at x (roll-ResolvedRule x) refl program.binders) ∙ k)

  -- what is met of a rule that is written out is defined
  pub written_defined : (rule : ResolvedRule) → Met rule
  written_defined = ind-ResolvedRule Met (λ x y is. subst (λ z. Met (roll-ResolvedRule z)) is (rolled (map-ResolvedRule Good ResolvedRule rule_of y) (layer y)))
