-- A rule whose sums fit, and whose numbers are short and binders new, is one that code is written for.
use Rattle.std.proofs.Common.{◌≡◌, ℕ, Bool, true, ◌&&◌, List, [], ◌∷◌, map, refl, sym, ◌∙◌, subst, ⊎_elim, ◌==◌}
use Rattle.std.specs.Prelude.{Option, Some, None, is_some, not}
use Rattle.std.specs.List.{list_all}
use Rattle.std.proofs.lemmas.{Bool.{and_from, and_parts, cases_Bool}}
use Rattle.asm_names.specs.Binders.{binder_of}
use Rattle.asm_names.specs.declared.{binders.Binder.{Binder}, program.{Interval.{Interval}, Resolved.{Resolved}}, resolved_rule.ResolvedRule.{ResolvedRule}, resolved_term.ResolvedTerm.{ResolvedTerm}}
use Rattle.asm_names.specs.declared.binders.Binder.TheVariants.{Element, Local}
use Rattle.asm_ranges.specs.Ranges.{Scope, inside, range, scoped, sums_fit, words}
use Rattle.state_space.specs.Locations.{signatures_of}
use Rattle.bound_count.specs.ShortNumbers.{short_numbers}
use Rattle.instr_select.specs.{Binders.{binder_domain, element_domain}, FitLaw.{AreShortSignatures, IsShortScope}, Short.{is_short}}
use Rattle.instr_select.proofs.{Fits.{fitting-terms-are-short}, ShortValues.{range-short}}
use Rattle.rule_expand.specs.declared.flat.Flat.{Flat, Flat-F, ind-Flat, map-Flat, roll-Flat}
use Rattle.rule_expand.specs.{Expanding.{Case}, FlatNew.{flat_new, flat_new_by, is_local}, FlatSums.{flat_sums_fit, flat_sums_fit_by}}
use Rattle.rule_expand.proofs.FlatLevels.{new_at, sums_at}
use Rattle.rule_code.specs.Short.{flat_short, flat_short_by}
use Rattle.rule_code.proofs.Levels.{flat_short_at}

-- a binder of a `let` is no loop's
not-element : (o : Option Binder) → is_local o ≡ true → not (is_some (element_domain o)) ≡ true
not-element None h = absurd cc
not-element (Some Local) h = refl
not-element (Some (Element domain)) h = absurd cc

no-loop : (rule : ResolvedRule) (binder : ℕ) → is_local (binder_of rule binder) ≡ true → not (is_some (binder_domain rule binder)) ≡ true
unfolding binder_domain
no-loop rule binder h = not-element (binder_of rule binder) h

module _ (program : Resolved) (small : AreShortSignatures (signatures_of program)) where
  abbrev Claim : Flat → Type 0
  Claim flat = (scope : Scope) → IsShortScope scope → flat_sums_fit program flat scope ≡ true → flat_new program flat scope ≡ true → flat_short program flat scope ≡ true

  abbrev Sound : Type 0
  Sound = (flat : Flat) × Claim flat

  abbrev rule_of : Sound → Flat
  rule_of s = s.0

  short : (scope : Scope) → IsShortScope scope → (t : ResolvedTerm) → sums_fit (signatures_of program) scope t ≡ true → short_numbers t ≡ true → is_short (signatures_of program) scope t ≡ true
  short scope narrow t fits numbers = fitting-terms-are-short (signatures_of program) scope t narrow small numbers fits

  all-short : (scope : Scope) → IsShortScope scope → (ts : List ResolvedTerm) → list_all (sums_fit (signatures_of program) scope) ts ≡ true → list_all short_numbers ts ≡ true
      → list_all (is_short (signatures_of program) scope) ts ≡ true
  all-short scope narrow [] h k = refl
  all-short scope narrow (t ∷ ts) h k = let p = and_parts _ _ h in let q = and_parts _ _ k in and_from _ _ (short scope narrow t p.0 q.0) (all-short scope narrow ts p.1 q.1)

  parts : (scope : Scope) → IsShortScope scope → (ss : List Sound) → list_all (λ (part : Scope → Bool). part scope) (map (flat_sums_fit program) (map rule_of ss)) ≡ true
      → list_all (λ (part : Scope → Bool). part scope) (map (flat_new program) (map rule_of ss)) ≡ true → list_all (λ (part : Scope → Bool). part scope) (map (flat_short program) (map rule_of ss)) ≡ true
  parts scope narrow [] h k = refl
  parts scope narrow (s ∷ ss) h k = let p = and_parts _ _ h in let q = and_parts _ _ k in and_from _ _ (s.1 scope narrow p.0 q.0) (parts scope narrow ss p.1 q.1)

  abbrev with_part : (Flat → Scope → Bool) → ResolvedTerm × Sound → ResolvedTerm × (Scope → Bool)
  with_part f case = (case.0, f (rule_of case.1))

  cases : (scope : Scope) → IsShortScope scope → (list : List (ResolvedTerm × Sound))
      → list_all (λ (case : ResolvedTerm × (Scope → Bool)). sums_fit (signatures_of program) scope case.0 && case.1 scope) (map (λ (case : Case). (case.0, flat_sums_fit program case.1)) (map (λ (case : ResolvedTerm × Sound). (case.0, rule_of case.1)) list)) ≡ true
      → list_all (λ (case : ResolvedTerm × (Scope → Bool)). short_numbers case.0 && case.1 scope) (map (λ (case : Case). (case.0, flat_new program case.1)) (map (λ (case : ResolvedTerm × Sound). (case.0, rule_of case.1)) list)) ≡ true
      → list_all (λ (case : ResolvedTerm × (Scope → Bool)). is_short (signatures_of program) scope case.0 && case.1 scope) (map (λ (case : Case). (case.0, flat_short program case.1)) (map (λ (case : ResolvedTerm × Sound). (case.0, rule_of case.1)) list)) ≡ true
  cases scope narrow [] h k = refl
  cases scope narrow (case ∷ list) h k =
      let p = and_parts _ _ h in let q = and_parts _ _ k in let a = and_parts _ _ p.0 in let b = and_parts _ _ q.0 in
      and_from _ _ (and_from _ _ (short scope narrow case.0 a.0 b.0) (case.1.1 scope narrow a.1 b.1)) (cases scope narrow list p.1 q.1)

  more : (scope : Scope) → IsShortScope scope → (b : ℕ) (interval : Interval) → inside interval words ≡ true → IsShortScope (scoped scope b interval)
  more scope narrow b interval fits other = ⊎_elim (λ e. rw e fits) (λ e. rw e (narrow other)) (cases_Bool (other == b))

  layer : (y : Flat-F Sound) (scope : Scope) → IsShortScope scope → flat_sums_fit_by program (map-Flat Flat (Scope → Bool) (flat_sums_fit program) (map-Flat Sound Flat rule_of y)) scope ≡ true
      → flat_new_by program (map-Flat Flat (Scope → Bool) (flat_new program) (map-Flat Sound Flat rule_of y)) scope ≡ true
      → flat_short_by program (map-Flat Flat (Scope → Bool) (flat_short program) (map-Flat Sound Flat rule_of y)) scope ≡ true
  layer Flat-F.Skip scope narrow h k = refl
  layer (Flat-F.Update fun args new) scope narrow h k =
      let p = and_parts _ _ h in let q = and_parts _ _ k in and_from _ _ (all-short scope narrow args p.0 q.0) (short scope narrow new p.1 q.1)
  layer (Flat-F.Par ss) scope narrow h k = parts scope narrow ss h k
  layer (Flat-F.Cases list other) scope narrow h k =
      let p = and_parts _ _ h in let q = and_parts _ _ k in and_from _ _ (cases scope narrow list p.0 q.0) (other.1 scope narrow p.1 q.1)
  layer (Flat-F.Let b t body) scope narrow h k =
      let p = and_parts _ _ h in let r = and_parts _ _ p.1 in let q = and_parts _ _ k in let w = and_parts _ _ q.1 in
      let is = short scope narrow t r.0 w.0 in
      let own = and_parts _ _ q.0 in
      and_from _ _ (and_from _ _ p.0 (and_from _ _ own.0 (no-loop program.rule b own.1)))
      (and_from _ _ (and_from _ _ is r.0) (body.1 _ (more scope narrow b (range (signatures_of program) scope t) (range-short (signatures_of program) scope t is)) r.1 w.1))

  -- so `expand` need only say beside the sums that numbers are short and binders new
  pub fitting-is-short : (flat : Flat) → Claim flat
  fitting-is-short = ind-Flat Claim (λ x y is. subst (λ z. Claim (roll-Flat z)) is (rolled (map-Flat Sound Flat rule_of y) (layer y)))
    where
      rolled : (x : Flat-F Flat)
          → ((scope : Scope) → IsShortScope scope → flat_sums_fit_by program (map-Flat Flat (Scope → Bool) (flat_sums_fit program) x) scope ≡ true
          → flat_new_by program (map-Flat Flat (Scope → Bool) (flat_new program) x) scope ≡ true → flat_short_by program (map-Flat Flat (Scope → Bool) (flat_short program) x) scope ≡ true)
          → Claim (roll-Flat x)
      rolled x f scope narrow h k =
          flat_short_at x program scope ∙ f scope narrow (sym (sums_at x (roll-Flat x) refl program scope) ∙ h) (sym (new_at x (roll-Flat x) refl program scope) ∙ k)
