-- The sums of a rule that is written out fit.
use Rattle.std.proofs.Common.{◌≡◌, ◌&&◌, suc, ℕ, ◌<◌, ℤ, Bool, true, false, List, [], ◌∷◌, map, length, Some, None, refl, sym, ap, ◌∙◌, subst, arith, length-set, ltb}
use Rattle.std.specs.Prelude.{slice_set}
use Rattle.std.specs.List.{list_all, AllByRecursion, Contains}
use Rattle.std.proofs.lemmas.Bool.{and_parts, and_from, ltb-true}
use Rattle.std.proofs.lemmas.List.Folds.{list_all-map}
use Rattle.asm_names.specs.declared.program.Resolved.{Resolved}
use Rattle.asm_names.specs.declared.resolved_term.ResolvedTerm.{ResolvedTerm}
use Rattle.asm_names.specs.declared.resolved_rule.ResolvedRule.{ResolvedRule, ResolvedRule-F, roll-ResolvedRule, ind-ResolvedRule, map-ResolvedRule}
use Rattle.asm_names.specs.declared.resolved_rule.ResolvedRule.TheVariants as forms
use Rattle.state_space.specs.Locations.{elements, range_of, signatures_of}
use Rattle.state_space.specs.Codomains.{In}
use Rattle.asm_ranges.specs.Ranges.{Scope, scoped, range, sums_fit, domain_interval}
use Rattle.asm_ranges.specs.Instances.{Numbers, instance}
use Rattle.asm_ranges.specs.Keeping.{IsChecked}
use Rattle.asm_ranges.specs.Places.{Place, StandsRule, StandsTerm, held, failed, over, guarded_by, bound_to, then_of, else_of, part_of, forall_of, choose_of, none_of, let_of, arg_of_update, new_of, guard_of_if, guard_of_forall, guard_of_choose, value_of}
use Rattle.asm_ranges.proofs.{Standing.{term-sound}, Stands.{stands-term}}
use Rattle.update_sets.proofs.Elements.{all-in}
use Rattle.rule_expand.specs.declared.flat.Flat.{Flat, Flat-F}
use Rattle.rule_expand.specs.declared.flat.Flat.TheVariants as flats
use Rattle.rule_expand.specs.Expanding.{Case, expanded, expanded_by, case_at, part_at}
use Rattle.rule_expand.specs.FlatSums.{flat_sums_fit}
use Rattle.rule_expand.proofs.FlatLevels.{sums_at, expanded_at}
use Rattle.rule_expand.proofs.Binding.{Covers, covers-number, covers-local}
use Rattle.rule_expand.proofs.InstanceSums.{instance_sums}
use Rattle.rule_expand.proofs.Guards.{rule_stands, rule_stands_by, stands_at}

module _ (program : Resolved) where
  abbrev flat : ResolvedRule → Numbers → Flat
  flat = expanded program.domains

  abbrev sums : Flat → Scope → Bool
  sums = flat_sums_fit program

  abbrev summed : Scope → ResolvedTerm → Bool
  summed scope t = sums_fit (signatures_of program) scope t

  -- ---- rules without loops

  abbrev cases_fit : List Case → Scope → Bool
  cases_fit cases scope = list_all (λ (case : Case). summed scope case.0 && sums case.1 scope) cases

  sums-Cases : (cases : List Case) (other : Flat) (scope : Scope) → cases_fit cases scope ≡ true → sums other scope ≡ true → sums (flats.Cases cases other) scope ≡ true
  sums-Cases cases other scope h k =
      sums_at (Flat-F.Cases cases other) _ (flats.rolls-Cases cases other) program scope ∙ and_from _ _ (list_all-map _ _ cases ∙ h) k

  sums-Par : (parts : List Flat) (scope : Scope) → list_all (λ part. sums part scope) parts ≡ true → sums (flats.Par parts) scope ≡ true
  sums-Par parts scope h = sums_at (Flat-F.Par parts) _ (flats.rolls-Par parts) program scope ∙ list_all-map _ _ parts ∙ h

  pub elements-in : (d : ℕ) → AllByRecursion (λ e. In (domain_interval program d) e) (elements (range_of program.domains d))
  elements-in d = all-in (range_of program.domains d) 0 (range_of program.domains d).size (omega arith)

  -- ---- rules that are written out

  module _ (checked : IsChecked program) where
    abbrev Fit : ResolvedRule → Type 0
    Fit rule =
        (numbers : Numbers) (own : Scope) (place : Place) → length numbers ≡ program.binders → Covers numbers own place.scope → StandsRule program rule place
        → rule_stands program.binders rule ≡ true → sums (flat rule numbers) own ≡ true

    abbrev Good : Type 0
    Good = (rule : ResolvedRule) × Fit rule

    abbrev rule_of : Good → ResolvedRule
    rule_of g = g.0

    sound : (t : ResolvedTerm) (place : Place) → StandsTerm program t place → summed place.scope t ≡ true
    sound t place s = (term-sound program t place (stands-term program checked t place s)).0

    term : (numbers : Numbers) (own : Scope) (place : Place) → Covers numbers own place.scope → (t : ResolvedTerm) → StandsTerm program t place → summed own (instance numbers t) ≡ true
    term numbers own place covers t s = (instance_sums (signatures_of program) numbers own place.scope covers t (sound t place s)).0

    all_terms : (numbers : Numbers) (own : Scope) (place : Place) → Covers numbers own place.scope → (args ts : List ResolvedTerm) → ((t : ResolvedTerm) → Contains ts t → Contains args t)
        → ((t : ResolvedTerm) → Contains args t → StandsTerm program t place) → list_all (summed own) (map (instance numbers) ts) ≡ true
    all_terms numbers own place covers args [] f s = refl
    all_terms numbers own place covers args (t ∷ ts) f s =
        and_from _ _ (term numbers own place covers t (s t (f t (0, omega arith, refl))))
        (all_terms numbers own place covers args ts (λ u c. f u (suc c.0, omega (arith, c.1), c.2)) s)

    each : (parts : List ResolvedRule) (goods : List Good) (numbers : Numbers) (own : Scope) (place : Place) → length numbers ≡ program.binders → Covers numbers own place.scope
        → ((r : ResolvedRule) → Contains (map rule_of goods) r → Contains parts r) → ((r : ResolvedRule) → Contains parts r → StandsRule program r place)
        → list_all (λ (part : Bool). part) (map (rule_stands program.binders) (map rule_of goods)) ≡ true
        → list_all (λ part. sums part own) (map (λ (part : Numbers → Flat). part numbers) (map flat (map rule_of goods))) ≡ true
    each parts [] numbers own place l covers f s k = refl
    each parts (p ∷ goods) numbers own place l covers f s k =
        let r = and_parts _ _ k in
        and_from _ _ (p.1 numbers own place l covers (s p.0 (f p.0 (0, omega arith, refl))) r.0)
        (each parts goods numbers own place l covers (λ u c. f u (suc c.0, omega (arith, c.1), c.2)) s r.1)

    module _ (b d : ℕ) (g : ResolvedTerm) (body : Good) (numbers : Numbers) (own : Scope) (place : Place) (l : length numbers ≡ program.binders) (covers : Covers numbers own place.scope)
        (there : b < program.binders) (guard : StandsTerm program g (over program b d place)) (next : Place) (same : next.scope ≡ (over program b d place).scope) (stands : StandsRule program body.0 next)
        (stand : rule_stands program.binders body.0 ≡ true) where
      abbrev at : ℤ → Numbers
      at e = slice_set numbers b (Some e)

      covered : (e : ℤ) → In (domain_interval program d) e → Covers (at e) own (over program b d place).scope
      covered e inside = covers-number numbers own place.scope b (domain_interval program d) e (omega arith) covers inside

      fit-body : (e : ℤ) → In (domain_interval program d) e → sums (flat body.0 (at e)) own ≡ true
      fit-body e inside = body.1 (at e) own next (length-set numbers b (Some e) ∙ l) (subst (Covers (at e) own) (sym same) (covered e inside)) stands stand

      fit-case : (e : ℤ) → In (domain_interval program d) e → (summed own (case_at g (flat body.0) numbers b e).0 && sums (case_at g (flat body.0) numbers b e).1 own) ≡ true
      fit-case e inside = and_from _ _ (term (at e) own (over program b d place) (covered e inside) g guard) (fit-body e inside)

      fit-part : (guarded : Bool) (e : ℤ) → In (domain_interval program d) e → sums (part_at guarded g (flat body.0) numbers b e) own ≡ true
      fit-part true e inside =
          sums-Cases (case_at g (flat body.0) numbers b e ∷ []) flats.Skip own (and_from _ _ (fit-case e inside) refl) (sums_at Flat-F.Skip _ flats.rolls-Skip program own)
      fit-part false e inside = fit-body e inside

      fit-parts : (guarded : Bool) (xs : List ℤ) → AllByRecursion (λ e. In (domain_interval program d) e) xs → list_all (λ part. sums part own) (map (part_at guarded g (flat body.0) numbers b) xs) ≡ true
      fit-parts guarded [] all = refl
      fit-parts guarded (x ∷ xs) all = and_from _ _ (fit-part guarded x all.0) (fit-parts guarded xs all.1)

      fit-cases : (xs : List ℤ) → AllByRecursion (λ e. In (domain_interval program d) e) xs → cases_fit (map (case_at g (flat body.0) numbers b) xs) own ≡ true
      fit-cases [] all = refl
      fit-cases (x ∷ xs) all = and_from _ _ (fit-case x all.0) (fit-cases xs all.1)

    room : (b : ℕ) → ltb b program.binders ≡ true → b < program.binders
    room b h = omega (arith, ltb-true _ _ h)

    layer : (x : ResolvedRule-F Good) (numbers : Numbers) (own : Scope) (place : Place) → length numbers ≡ program.binders → Covers numbers own place.scope
        → StandsRule program (roll-ResolvedRule (map-ResolvedRule Good ResolvedRule rule_of x)) place
        → rule_stands_by program.binders (map-ResolvedRule ResolvedRule Bool (rule_stands program.binders) (map-ResolvedRule Good ResolvedRule rule_of x)) ≡ true
        → sums (expanded_by program.domains (map-ResolvedRule ResolvedRule (Numbers → Flat) flat (map-ResolvedRule Good ResolvedRule rule_of x)) numbers) own ≡ true
    layer ResolvedRule-F.Skip numbers own place l covers s k = sums_at Flat-F.Skip _ flats.rolls-Skip program own
    layer (ResolvedRule-F.Update fun args new) numbers own place l covers s k =
        let here = subst (λ r. StandsRule program r place) (forms.rolls-Update fun args new) s in
        sums_at (Flat-F.Update fun (map (instance numbers) args) (instance numbers new)) _ (flats.rolls-Update fun (map (instance numbers) args) (instance numbers new)) program own
        ∙ and_from _ _ (all_terms numbers own place covers args args (λ t c. c) (λ t c. arg_of_update fun args new t place c here)) (term numbers own place covers new (new_of fun args new place here))
    layer (ResolvedRule-F.If g t e w) numbers own place l covers s k =
        let here = subst (λ r. StandsRule program r place) (forms.rolls-If g t.0 e.0 w) s in
        let r = and_parts _ _ k in
        sums-Cases ((instance numbers g, flat t.0 numbers) ∷ []) (flat e.0 numbers) own
        (and_from _ _ (and_from _ _ (term numbers own place covers g (guard_of_if g t.0 e.0 w place here)) (t.1 numbers own (held g place) l covers (then_of g t.0 e.0 w place here) r.0)) refl)
        (e.1 numbers own (failed g place) l covers (else_of g t.0 e.0 w place here) r.1)
    layer (ResolvedRule-F.Par parts) numbers own place l covers s k =
        let here = subst (λ r. StandsRule program r place) (forms.rolls-Par (map rule_of parts)) s in
        sums-Par _ own (each (map rule_of parts) parts numbers own place l covers (λ r c. c) (λ r c. part_of (map rule_of parts) r place c here) k)
    layer (ResolvedRule-F.Forall b d g gd body) numbers own place l covers s k =
        let here = subst (λ r. StandsRule program r place) (forms.rolls-Forall b d g gd body.0) s in
        let p = and_parts _ _ k in
        let r = and_parts _ _ p.1 in
        sums-Par _ own
        (fit-parts b d g body numbers own place l covers (room b p.0) (guard_of_forall b d g gd body.0 place here) (guarded_by gd g (over program b d place)) refl (forall_of b d g gd body.0 place here) r.1 gd
        (elements (range_of program.domains d)) (elements-in d))
    layer (ResolvedRule-F.Choose b d g body e w) numbers own place l covers s k =
        let here = subst (λ r. StandsRule program r place) (forms.rolls-Choose b d g body.0 e.0 w) s in
        let p = and_parts _ _ k in
        let r = and_parts _ _ p.1 in
        sums-Cases _ (flat e.0 numbers) own
        (fit-cases b d g body numbers own place l covers (room b p.0) (guard_of_choose b d g body.0 e.0 w place here) (held g (over program b d place)) refl (choose_of b d g body.0 e.0 w place here) r.0
        (elements (range_of program.domains d)) (elements-in d))
        (e.1 numbers own place l covers (none_of b d g body.0 e.0 w place here) r.1)
    layer (ResolvedRule-F.Let b v body) numbers own place l covers s k =
        let here = subst (λ r. StandsRule program r place) (forms.rolls-Let b v body.0) s in
        let p = and_parts _ _ k in
        let v' = instance numbers v in
        let i = range (signatures_of program) place.scope v in
        let j = range (signatures_of program) own v' in
        let narrow = instance_sums (signatures_of program) numbers own place.scope covers v (sound v place (value_of b v body.0 place here)) in
        sums_at (Flat-F.Let b v' (flat body.0 (slice_set numbers b None))) _ (flats.rolls-Let b v' (flat body.0 (slice_set numbers b None))) program own
        ∙ and_from _ _ p.0
        (and_from _ _ narrow.0
        (body.1 (slice_set numbers b None) (scoped own b j) (bound_to program b v place) (length-set numbers b None ∙ l)
        (covers-local numbers own place.scope b i j (omega (arith, room b p.0)) covers narrow.1) (let_of b v body.0 place here) p.1))

    rolled : (x : ResolvedRule-F ResolvedRule)
        → ((numbers : Numbers) (own : Scope) (place : Place) → length numbers ≡ program.binders → Covers numbers own place.scope → StandsRule program (roll-ResolvedRule x) place
        → rule_stands_by program.binders (map-ResolvedRule ResolvedRule Bool (rule_stands program.binders) x) ≡ true
        → sums (expanded_by program.domains (map-ResolvedRule ResolvedRule (Numbers → Flat) flat x) numbers) own ≡ true)
        → Fit (roll-ResolvedRule x)
    rolled x one numbers own place l covers s k =
        ap (λ f. sums f own) (expanded_at x (roll-ResolvedRule x) refl program.domains numbers)
        ∙ one numbers own place l covers s (sym (stands_at x (roll-ResolvedRule x) refl program.binders) ∙ k)

    -- the sums of a rule that is written out fit in the scope that is left
    pub written_sums : (rule : ResolvedRule) → Fit rule
    written_sums = ind-ResolvedRule Fit (λ x y is. subst (λ z. Fit (roll-ResolvedRule z)) is (rolled (map-ResolvedRule Good ResolvedRule rule_of y) (layer y)))
