-- A step keeps the values of locations in their codomains.
use Rattle.std.proofs.Common.{◌≡◌, ℕ, zero, suc, ◌<◌, ℤ, Bool, true, false, cond, List, [], ◌∷◌, ◌++◌, map, length, get_or, set, Option, Some, None, refl, sym, subst, arith}
use Rattle.std.specs.Prelude.{slice_get, slice_set, if◌then◌else◌}
use Rattle.std.specs.List.{filter, All, AllByRecursion, AllZip}
use Rattle.std.proofs.lemmas.Bool.{and_parts, eqb-true}
use Rattle.std.proofs.lemmas.List.Quantifiers.{position-Some}
use Rattle.asm_names.proofs.Known.{all-append}
use Rattle.asm_names.specs.declared.program.Resolved.{Resolved}
use Rattle.asm_names.specs.declared.resolved_rule.ResolvedRule.{ResolvedRule}
use Rattle.asm_names.specs.declared.resolved_term.ResolvedTerm.{ResolvedTerm}
use Rattle.asm_names.specs.declared.resolved_rule.ResolvedRule.TheOpen.{ResolvedRule-F}
use Rattle.asm_names.specs.declared.resolved_rule.ResolvedRule.TheVariants as rules
use Rattle.asm_names.specs.declared.resolved_rule.ResolvedRule.TheViews.{roll-ResolvedRule}
use Rattle.asm_names.specs.declared.resolved_rule.ResolvedRule.TheFolds.{ind-ResolvedRule, map-ResolvedRule}
use Rattle.state_space.specs.declared.signature.Signature.{Signature}
use Rattle.state_space.specs.Locations.{Location, elements, no_location, same_location, place_among, state_locations, signatures_of, range_of}
use Rattle.asm_ranges.specs.{Keeping.{IsChecked}, Ranges.{ReadsFit, domain_interval}}
use Rattle.state_space.specs.Codomains.{In, codomain_range, LocationsFit}
use Rattle.asm_ranges.specs.Places.{RulePlaced, RulesPlaced}
use Rattle.std.specs.Bool.{MatchBool}
use Rattle.asm_ranges.specs.Values.{State, Inputs, Env, value, holds}
use Rattle.asm_ranges.proofs.{PlacedRules.{placed-then, placed-else, placed-Par, placed-Forall, placed-Choose, placed-Let, placed-write}, Stands.{contained}}
use Rattle.update_sets.specs.Fitting.{FitsLocation}
use Rattle.update_sets.specs.Yields.{Updates, update_at, passing, any_of, Joined, YieldsLayer, Yields}
use Rattle.update_sets.specs.Least.{least}
use Rattle.update_sets.proofs.Choices.{yields_roll, least_is_yielded, least_is_any}
use Rattle.state_space.specs.Firing.{all_agree, overwritten, fired}
use Rattle.update_sets.proofs.Elements.{all-in}

module _ (program : Resolved) (state : State) (inputs : Inputs) (checked : IsChecked program) (reads : ReadsFit program state inputs) where
  abbrev signatures : List Signature
  signatures = signatures_of program

  abbrev locations : List Location
  locations = state_locations signatures

  abbrev AllFit : Updates → Type 0
  AllFit us = AllByRecursion (FitsLocation program) us

  both : (us vs : Updates) → AllFit us → AllFit vs → AllFit (us ++ vs)
  both us vs p q = all-append (FitsLocation program) us vs p q

  joined : {A : Type 0} (P : A → Type 0) (f : A → Updates → Type 0) (xs : List A) (us : Updates) → AllByRecursion P xs → ((x : A) → P x → (vs : Updates) → f x vs → AllFit vs) → Joined f xs us → AllFit us
  joined P f [] us all h e = subst AllFit (sym e) tt
  joined P f (x ∷ xs) us all h (first, others, p, q, e) = subst AllFit (sym e) (both first others (h x all.0 first p) (joined P f xs others all.1 h q))

  passed : (P : ℤ → Type 0) (p : ℤ → Bool) (xs : List ℤ) → AllByRecursion P xs → AllByRecursion (λ x. P x × (p x ≡ true)) (filter p xs)
  passed P p [] all = tt
  passed P p (x ∷ xs) all =
      elim (p x) as (λ b. p x ≡ b → AllByRecursion (λ y. P y × (p y ≡ true)) (cond b (x ∷ filter p xs) (filter p xs))) [
        | true ↦ λ is. ((all.0, is), passed P p xs all.1)
        | false ↦ λ is. passed P p xs all.1
      ] refl

  chosen : (P : ℤ → Type 0) (f : ℤ → Type 0) (otherwise : Type 0) (us : Updates) (xs : List ℤ) → AllByRecursion P xs → ((x : ℤ) → P x → f x → AllFit us) → (otherwise → AllFit us)
      → any_of xs f otherwise → AllFit us
  chosen P f otherwise us [] all h q y = q y
  chosen P f otherwise us (x ∷ xs) all h q y = h y.0 (contained P (x ∷ xs) y.0 all y.1) y.2

  deciding : (b : Bool) (P Q : Type 0) (us : Updates) → (b ≡ true → P → AllFit us) → (b ≡ false → Q → AllFit us) → MatchBool b P Q → AllFit us
  deciding true P Q us p q h = p refl h
  deciding false P Q us p q h = q refl h

  writes : (fun : ℕ) (args : List ℤ) (v : ℤ) (o : Option ℕ) → place_among locations (record { fun = fun; args = args }) ≡ o → In (codomain_range (slice_get signatures fun)) v → AllFit (update_at o v)
  writes fun args v None e h = tt
  writes fun args v (Some k) e h =
      let p = position-Some (same_location (record { fun = fun; args = args })) locations k no_location e in
      let same : fun ≡ (get_or locations k no_location).fun = eqb-true _ _ (and_parts _ _ p.1).0 in
      ((p.0, subst (λ f. In (codomain_range (slice_get signatures f)) v) same h), tt)

  abbrev Made : ResolvedRule → Env → Updates → Type 0
  Made = Yields program state inputs

  abbrev Keeps : ResolvedRule → Type 0
  Keeps rule = (env : Env) → RulePlaced program state inputs rule env → (us : Updates) → Made rule env us → AllFit us

  abbrev Good : Type 0
  Good = (rule : ResolvedRule) × Keeps rule

  abbrev rule_of : Good → ResolvedRule
  rule_of g = g.0

  par : (parts : List Good) (env : Env) → RulesPlaced program state inputs (map rule_of parts) env → (us : Updates) → Joined (λ part. Made part env) (map rule_of parts) us → AllFit us
  par [] env h us e = subst AllFit (sym e) tt
  par (r ∷ parts) env h us (first, others, p, q, e) = subst AllFit (sym e) (both first others (r.1 env h.0 first p) (par parts env h.1 others q))

  abbrev test : Env → ℕ → ResolvedTerm → ℤ → Bool
  test env b g e = holds (value program state inputs (slice_set env b e) g)

  abbrev Element : Env → ℕ → ℕ → ResolvedTerm → ℤ → Type 0
  Element env b d g e = In (domain_interval program d) e × (test env b g e ≡ true)

  passing-in : (env : Env) (b d : ℕ) (g : ResolvedTerm) → AllByRecursion (Element env b d g) (passing program state inputs env b d g)
  passing-in env b d g =
      passed (λ e. In (domain_interval program d) e) (test env b g) (elements (range_of program.domains d)) (all-in (range_of program.domains d) 0 (range_of program.domains d).size (omega arith))

  layer : (x : ResolvedRule-F Good) (env : Env) → RulePlaced program state inputs (roll-ResolvedRule (map-ResolvedRule Good ResolvedRule rule_of x)) env → (us : Updates)
      → YieldsLayer any_of program state inputs ResolvedRule (λ y. y) Made (map-ResolvedRule Good ResolvedRule rule_of x) env us → AllFit us
  layer ResolvedRule-F.Skip env h us y = subst AllFit (sym y) tt
  layer (ResolvedRule-F.Update fun args new) env h us y =
      subst AllFit (sym y)
      (writes fun (map (value program state inputs env) args) (value program state inputs env new) _ refl
      (placed-write program state inputs checked reads env _ h fun args new (rules.rolls-Update fun args new)))
  layer (ResolvedRule-F.If g t e w) env h us y =
      deciding (holds (value program state inputs env g)) (Made t.0 env us) (Made e.0 env us) us
      (λ is m. t.1 env (placed-then program state inputs checked reads env _ h g t.0 e.0 w (rules.rolls-If g t.0 e.0 w) is) us m)
      (λ is m. e.1 env (placed-else program state inputs checked reads env _ h g t.0 e.0 w (rules.rolls-If g t.0 e.0 w) is) us m) y
  layer (ResolvedRule-F.Par parts) env h us y = par parts env (placed-Par program state inputs checked reads env _ h (map rule_of parts) (rules.rolls-Par (map rule_of parts))) us y
  layer (ResolvedRule-F.Forall b d g gd body) env h us y =
      let p = placed-Forall program state inputs checked reads env _ h b d g gd body.0 (rules.rolls-Forall b d g gd body.0) in
      joined (Element env b d g) (λ e. Made body.0 (slice_set env b e)) (passing program state inputs env b d g) us (passing-in env b d g)
      (λ e there vs m. body.1 (slice_set env b e) (p.bodies e there.0 there.1) vs m) y
  layer (ResolvedRule-F.Choose b d g body e w) env h us y =
      let p = placed-Choose program state inputs checked reads env _ h b d g body.0 e.0 w (rules.rolls-Choose b d g body.0 e.0 w) in
      chosen (Element env b d g) (λ x. Made body.0 (slice_set env b x) us) (Made e.0 env us) us (passing program state inputs env b d g) (passing-in env b d g)
      (λ x there m. body.1 (slice_set env b x) (p.0.bodies x there.0 there.1) us m) (λ m. e.1 env p.1 us m) y
  layer (ResolvedRule-F.Let b v body) env h us y =
      body.1 _ (placed-Let program state inputs checked reads env _ h b v body.0 (rules.rolls-Let b v body.0)).2 us y

  rolled : (x : ResolvedRule-F ResolvedRule)
      → ((env : Env) → RulePlaced program state inputs (roll-ResolvedRule x) env → (us : Updates) → YieldsLayer any_of program state inputs ResolvedRule (λ y. y) Made x env us → AllFit us)
      → Keeps (roll-ResolvedRule x)
  rolled x h env placed us y = h env placed us (subst (λ (F : Env → Updates → Type 0). F env us) (yields_roll any_of program state inputs x) y)

  -- each update that a rule may yield fits its location
  pub yields_fit : (rule : ResolvedRule) → Keeps rule
  yields_fit = ind-ResolvedRule Keeps (λ x y is. subst (λ z. Keeps (roll-ResolvedRule z)) is (rolled (map-ResolvedRule Good ResolvedRule rule_of y) (layer y)))

  -- each update of the least choices fits its location
  pub least_fits : (rule : ResolvedRule) (env : Env) → RulePlaced program state inputs rule env → AllFit (least program state inputs rule env)
  least_fits rule env placed =
      yields_fit rule env placed (least program state inputs rule env)
      (least_is_any program state inputs rule env (least program state inputs rule env) (least_is_yielded program state inputs rule env))

  set-fits : (R : Location → ℤ → Type 0) (ls : List Location) (vs : List ℤ) (k : ℕ) (v : ℤ) → AllZip R ls vs → k < length ls → R (get_or ls k no_location) v → AllZip R ls (set vs k v)
  set-fits R [] vs k v z h r = absurd (omega arith)
  set-fits R (l ∷ ls) [] k v z h r = absurd z
  set-fits R (l ∷ ls) (w ∷ vs) zero v z h r = (r, z.1)
  set-fits R (l ∷ ls) (w ∷ vs) (suc k) v z h r = (z.0, set-fits R ls vs k v z.1 (omega arith) r)

  abbrev StateFits : List ℤ → Type 0
  StateFits s = LocationsFit signatures locations s

  overwriting : (us : Updates) (s : List ℤ) → AllFit us → StateFits s → StateFits (overwritten s us)
  overwriting [] s h z = z
  overwriting (u ∷ us) s h z = overwriting us (set s u.place u.value) h.1 (set-fits _ locations s u.place u.value z h.0.0 h.0.1)

  firing : (b : Bool) (us : Updates) → AllFit us → StateFits (if b then overwritten state us else state)
  firing true us h = overwriting us state h reads.states
  firing false us h = reads.states

  -- the state after updates that fit does
  pub fired_fits : (us : Updates) → AllFit us → StateFits (fired state us)
  fired_fits us fit = firing (all_agree us) us fit

  -- each update fits its location
  pub fit_all : (us : Updates) → AllFit us → All (FitsLocation program) us
  fit_all [] fit k d h = absurd (omega arith)
  fit_all (u ∷ us) fit zero d h = fit.0
  fit_all (u ∷ us) fit (suc k) d h = fit_all us fit.1 k d (omega arith)

  -- each update has a place of the state
  pub fit_placed : (us : Updates) → AllFit us → All (λ u. u.place < length locations) us
  fit_placed [] fit k d h = absurd (omega arith)
  fit_placed (u ∷ us) fit zero d h = fit.0.0
  fit_placed (u ∷ us) fit (suc k) d h = fit_placed us fit.1 k d (omega arith)
