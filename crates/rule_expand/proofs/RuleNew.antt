-- The numbers of a rule that is written out are short, and its binders new.
use Rattle.std.proofs.Common.{◌≡◌, ◌&&◌, ℕ, ◌+◌, ◌<◌, ℤ, Bool, true, false, List, [], ◌∷◌, map, Some, None, refl, sym, ap, ◌∙◌, subst, arith, ◌==◌}
use Rattle.std.specs.Prelude.{slice_set, is_some, not, if◌then◌else◌}
use Rattle.std.specs.List.{list_all, AllByRecursion}
use Rattle.std.proofs.lemmas.Bool.{and_parts, and_from, eqb-true, ltb-true}
use Rattle.std.proofs.lemmas.List.Folds.{list_all-map}
use Rattle.asm_names.specs.declared.program.{Interval.{Interval}, Resolved.{Resolved}}
use Rattle.asm_names.specs.declared.resolved_term.ResolvedTerm.{ResolvedTerm}
use Rattle.asm_names.specs.declared.resolved_rule.ResolvedRule.{ResolvedRule, ResolvedRule-F, roll-ResolvedRule, ind-ResolvedRule, map-ResolvedRule}
use Rattle.asm_names.specs.Binders.{Numbered, joined, binders_by, binders_in, binder_of}
use Rattle.asm_names.specs.ResolvedPlaces.{resolved_rule_binders}
use Rattle.asm_names.specs.WellFormed.{Bound, IsDomain, RulePart, each_named, else_stands, guard_stands, has_domain, is_thing, is_truth, named_by, new_binder, rule_named, sort_of}
use Rattle.asm_names.proofs.ResolvedLevels.{named, named_at}
use Rattle.state_space.specs.Locations.{elements, range_of, signatures_of}
use Rattle.state_space.specs.Codomains.{In, whole}
use Rattle.asm_ranges.specs.Ranges.{Scope, scoped, range}
use Rattle.asm_ranges.specs.Instances.{Numbers, instance}
use Rattle.asm_ranges.proofs.{Definite.{thing-some, truth-some}, Legible.{sorted-small}, Measures.{interval-word}, Standing.{if-thing}}
use Rattle.bound_count.specs.ShortNumbers.{short_numbers}
use Rattle.rule_expand.specs.declared.flat.Flat.{Flat, Flat-F}
use Rattle.rule_expand.specs.declared.flat.Flat.TheVariants as flats
use Rattle.rule_expand.specs.Expanding.{Case, expanded, expanded_by, case_at, part_at}
use Rattle.rule_expand.specs.FlatNew.{flat_new, is_local}
use Rattle.rule_expand.proofs.BinderKinds.{Follows, binders_at, follows-rule}
use Rattle.rule_expand.proofs.FlatLevels.{expanded_at, new_at}
use Rattle.rule_expand.proofs.Guards.{of_five, of_six}
use Rattle.rule_expand.proofs.InstanceNumbers.{AreShort, in-short, instance_short, short-set}
use Rattle.rule_expand.proofs.RuleSums.{elements-in}

-- ---- binders in scope

-- they are below a number
abbrev pub AreBelow : ℕ → Scope → Type 0
AreBelow before scope = (b : ℕ) → is_some (scope b) ≡ true → b < before

absent : (scope : Scope) (b before : ℕ) → AreBelow before scope → b ≡ before → not (is_some (scope b)) ≡ true
absent scope b before below same = by (is_some (scope b)) refl
  where
    by : (t : Bool) → is_some (scope b) ≡ t → not t ≡ true
    by true e = absurd (omega (arith, same, below b e))
    by false e = refl

one-more : (scope : Scope) (b before : ℕ) (i : Interval) → AreBelow before scope → b ≡ before → AreBelow (before + 1) (scoped scope b i)
one-more scope b before i below same k = by (k == b) refl
  where
    by : (t : Bool) → (k == b) ≡ t → is_some (if t then Some i else scope k) ≡ true → k < before + 1
    by true e h = omega (arith, same, eqb-true k b e)
    by false e h = omega (arith, below k h)

later : (scope : Scope) (before : ℕ) → AreBelow before scope → AreBelow (before + 1) scope
later scope before below k h = omega (arith, below k h)

module _ (program : Resolved) (domains : AllByRecursion IsDomain program.domains) where
  abbrev flat : ResolvedRule → Numbers → Flat
  flat = expanded program.domains

  abbrev new : Flat → Scope → Bool
  new = flat_new program

  -- ---- rules without loops

  abbrev cases_new : List Case → Scope → Bool
  cases_new cases scope = list_all (λ (case : Case). short_numbers case.0 && new case.1 scope) cases

  new-Cases : (cases : List Case) (other : Flat) (scope : Scope) → cases_new cases scope ≡ true → new other scope ≡ true → new (flats.Cases cases other) scope ≡ true
  new-Cases cases other scope h k = new_at (Flat-F.Cases cases other) _ (flats.rolls-Cases cases other) program scope ∙ and_from _ _ (list_all-map _ _ cases ∙ h) k

  new-Par : (parts : List Flat) (scope : Scope) → list_all (λ part. new part scope) parts ≡ true → new (flats.Par parts) scope ≡ true
  new-Par parts scope h = new_at (Flat-F.Par parts) _ (flats.rolls-Par parts) program scope ∙ list_all-map _ _ parts ∙ h

  -- ---- rules that are written out

  abbrev New : ResolvedRule → Type 0
  New rule =
      (numbers : Numbers) (own : Scope) (bound : Bound) (before : ℕ) → AreShort numbers → AreBelow before own → rule_named program rule bound before ≡ true → Follows program before (binders_in rule)
      → new (flat rule numbers) own ≡ true

  abbrev Good : Type 0
  Good = (rule : ResolvedRule) × New rule

  abbrev rule_of : Good → ResolvedRule
  rule_of g = g.0

  thing : (numbers : Numbers) (bound : Bound) → AreShort numbers → (t : ResolvedTerm) → is_thing (sort_of program.funs bound t) ≡ true → short_numbers (instance numbers t) ≡ true
  thing numbers bound shorts t h = instance_short numbers shorts t (sorted-small program.funs bound t (thing-some _ h))

  truth : (numbers : Numbers) (bound : Bound) → AreShort numbers → (t : ResolvedTerm) → is_truth (sort_of program.funs bound t) ≡ true → short_numbers (instance numbers t) ≡ true
  truth numbers bound shorts t h = instance_short numbers shorts t (sorted-small program.funs bound t (truth-some _ h))

  things : (numbers : Numbers) (bound : Bound) → AreShort numbers → (ts : List ResolvedTerm) → list_all is_thing (map (sort_of program.funs bound) ts) ≡ true
      → list_all short_numbers (map (instance numbers) ts) ≡ true
  things numbers bound shorts [] h = refl
  things numbers bound shorts (t ∷ ts) h = let p = and_parts _ _ h in and_from _ _ (thing numbers bound shorts t p.0) (things numbers bound shorts ts p.1)

  each : (parts : List Good) (numbers : Numbers) (own : Scope) (bound : Bound) (before : ℕ) → AreShort numbers → AreBelow before own → each_named (map (named program) (map rule_of parts)) bound before ≡ true
      → Follows program before (joined (map binders_in (map rule_of parts)))
      → list_all (λ part. new part own) (map (λ (part : Numbers → Flat). part numbers) (map flat (map rule_of parts))) ≡ true
  each [] numbers own bound before shorts below h f = refl
  each (p ∷ parts) numbers own bound before shorts below h f =
      let q = and_parts _ _ h in
      let r = follows-rule program p.0 (joined (map binders_in (map rule_of parts))) before f in
      and_from _ _ (p.1 numbers own bound before shorts below q.0 r.0)
      (each parts numbers own bound (before + resolved_rule_binders p.0) shorts (λ b e. omega (arith, below b e)) q.1 r.1)

  module _ (b d : ℕ) (g : ResolvedTerm) (body : Good) (numbers : Numbers) (own : Scope) (bound : Bound) (before : ℕ) (shorts : AreShort numbers) (below : AreBelow before own)
      (there : has_domain program d ≡ true) (guard : is_truth (sort_of program.funs (b ∷ bound) g) ≡ true) (is_named : rule_named program body.0 (b ∷ bound) (before + 1) ≡ true)
      (follows : Follows program (before + 1) (binders_in body.0)) where
    abbrev Element_in : ℤ → Type 0
    Element_in e = In (whole (range_of program.domains d)) e

    shorter : (e : ℤ) → Element_in e → AreShort (slice_set numbers b (Some e))
    shorter e inside = short-set numbers b (Some e) (in-short (whole (range_of program.domains d)) e (interval-word program.domains d domains (ltb-true _ _ there)) inside) shorts

    new-body : (e : ℤ) → Element_in e → new (flat body.0 (slice_set numbers b (Some e))) own ≡ true
    new-body e inside = body.1 (slice_set numbers b (Some e)) own (b ∷ bound) (before + 1) (shorter e inside) (later own before below) is_named follows

    new-case : (e : ℤ) → Element_in e → (short_numbers (case_at g (flat body.0) numbers b e).0 && new (case_at g (flat body.0) numbers b e).1 own) ≡ true
    new-case e inside = and_from _ _ (truth (slice_set numbers b (Some e)) (b ∷ bound) (shorter e inside) g guard) (new-body e inside)

    new-part : (guarded : Bool) (e : ℤ) → Element_in e → new (part_at guarded g (flat body.0) numbers b e) own ≡ true
    new-part true e inside =
        new-Cases (case_at g (flat body.0) numbers b e ∷ []) flats.Skip own (and_from _ _ (new-case e inside) refl) (new_at Flat-F.Skip _ flats.rolls-Skip program own)
    new-part false e inside = new-body e inside

    new-parts : (guarded : Bool) (xs : List ℤ) → AllByRecursion Element_in xs → list_all (λ part. new part own) (map (part_at guarded g (flat body.0) numbers b) xs) ≡ true
    new-parts guarded [] all = refl
    new-parts guarded (x ∷ xs) all = and_from _ _ (new-part guarded x all.0) (new-parts guarded xs all.1)

    new-cases : (xs : List ℤ) → AllByRecursion Element_in xs → cases_new (map (case_at g (flat body.0) numbers b) xs) own ≡ true
    new-cases [] all = refl
    new-cases (x ∷ xs) all = and_from _ _ (new-case x all.0) (new-cases xs all.1)

  numbered : (bound : Bound) (before b : ℕ) → new_binder program bound before b ≡ true → b ≡ before
  numbered bound before b h = eqb-true b before (and_parts _ _ h).0

  layer : (x : ResolvedRule-F Good) (numbers : Numbers) (own : Scope) (bound : Bound) (before : ℕ) → AreShort numbers → AreBelow before own
      → named_by program (map-ResolvedRule ResolvedRule RulePart (named program) (map-ResolvedRule Good ResolvedRule rule_of x)) bound before ≡ true
      → Follows program before (binders_by (map-ResolvedRule ResolvedRule Numbered binders_in (map-ResolvedRule Good ResolvedRule rule_of x)))
      → new (expanded_by program.domains (map-ResolvedRule ResolvedRule (Numbers → Flat) flat (map-ResolvedRule Good ResolvedRule rule_of x)) numbers) own ≡ true
  layer ResolvedRule-F.Skip numbers own bound before shorts below h f = new_at Flat-F.Skip _ flats.rolls-Skip program own
  layer (ResolvedRule-F.Update fun args value) numbers own bound before shorts below h f =
      let p = and_parts _ _ (and_parts _ _ h).1 in
      let q = and_parts _ _ (if-thing _ p.0) in
      new_at (Flat-F.Update fun (map (instance numbers) args) (instance numbers value)) _ (flats.rolls-Update fun (map (instance numbers) args) (instance numbers value)) program own
      ∙ and_from _ _ (things numbers bound shorts args q.0) (thing numbers bound shorts value p.1)
  layer (ResolvedRule-F.If g t e w) numbers own bound before shorts below h f =
      let p = and_parts _ _ (and_parts _ _ h).1 in
      let q = and_parts _ _ p.1 in
      let r = follows-rule program t.0 (binders_in e.0) before f in
      new-Cases ((instance numbers g, flat t.0 numbers) ∷ []) (flat e.0 numbers) own
      (and_from _ _ (and_from _ _ (truth numbers bound shorts g p.0) (t.1 numbers own bound before shorts below q.0 r.0)) refl)
      (e.1 numbers own bound (before + resolved_rule_binders t.0) shorts (λ b i. omega (arith, below b i)) q.1 r.1)
  layer (ResolvedRule-F.Par parts) numbers own bound before shorts below h f = new-Par _ own (each parts numbers own bound before shorts below h f)
  layer (ResolvedRule-F.Forall b d g gd body) numbers own bound before shorts below h f =
      let p = of_five (guard_stands gd g) (new_binder program bound before b) (has_domain program d) (is_truth (sort_of program.funs (b ∷ bound) g)) (rule_named program body.0 (b ∷ bound) (before + 1)) h in
      new-Par _ own (new-parts b d g body numbers own bound before shorts below p.2 p.3 p.4 f.1 gd (elements (range_of program.domains d)) (elements-in program d))
  layer (ResolvedRule-F.Choose b d g body e w) numbers own bound before shorts below h f =
      let after : ℕ = before + 1 + resolved_rule_binders body.0 in
      let p = of_six (else_stands w e.0) (new_binder program bound before b) (has_domain program d) (is_truth (sort_of program.funs (b ∷ bound) g)) (rule_named program body.0 (b ∷ bound) (before + 1))
      (rule_named program e.0 bound after) h in
      let r = follows-rule program body.0 (binders_in e.0) (before + 1) f.1 in
      new-Cases _ (flat e.0 numbers) own (new-cases b d g body numbers own bound before shorts below p.2 p.3 p.4 r.0 (elements (range_of program.domains d)) (elements-in program d))
      (e.1 numbers own bound after shorts (λ k i. omega (arith, below k i)) p.5 r.1)
  layer (ResolvedRule-F.Let b v body) numbers own bound before shorts below h f =
      let p = and_parts (new_binder program bound before b) _ h in
      let q = and_parts _ _ p.1 in
      let same = numbered bound before b p.0 in
      let j = range (signatures_of program) own (instance numbers v) in
      new_at (Flat-F.Let b (instance numbers v) (flat body.0 (slice_set numbers b None))) _ (flats.rolls-Let b (instance numbers v) (flat body.0 (slice_set numbers b None))) program own
      ∙ and_from _ _ (and_from _ _ (absent own b before below same) (ap is_local (ap (binder_of program.rule) same ∙ f.0)))
      (and_from _ _ (thing numbers bound shorts v q.0)
      (body.1 (slice_set numbers b None) (scoped own b j) (b ∷ bound) (before + 1) (short-set numbers b None tt shorts) (one-more own b before j below same) q.1 f.1))

  rolled : (x : ResolvedRule-F ResolvedRule)
      → ((numbers : Numbers) (own : Scope) (bound : Bound) (before : ℕ) → AreShort numbers → AreBelow before own → named_by program (map-ResolvedRule ResolvedRule RulePart (named program) x) bound before ≡ true
      → Follows program before (binders_by (map-ResolvedRule ResolvedRule Numbered binders_in x)) → new (expanded_by program.domains (map-ResolvedRule ResolvedRule (Numbers → Flat) flat x) numbers) own ≡ true)
      → New (roll-ResolvedRule x)
  rolled x one numbers own bound before shorts below h f =
      ap (λ r. new r own) (expanded_at x (roll-ResolvedRule x) refl program.domains numbers)
      ∙ one numbers own bound before shorts below (sym (named_at x (roll-ResolvedRule x) refl program bound before) ∙ h) (subst (Follows program before) (binders_at x) f)

  -- the numbers of a rule that is written out are short, and its binders new in the scope that is left
  pub written_new : (rule : ResolvedRule) → New rule
  written_new = ind-ResolvedRule New (λ x y is. subst (λ z. New (roll-ResolvedRule z)) is (rolled (map-ResolvedRule Good ResolvedRule rule_of y) (layer y)))
