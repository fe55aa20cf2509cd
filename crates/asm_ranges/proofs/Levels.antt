-- One level of each definition on terms and on rules.
use Rattle.std.proofs.Common.{◌≡◌, ◌&&◌, [], ◌∷◌, map, refl, ℕ, ℤ, Bool, List, Option, sym, ap, ◌∙◌}
use Rattle.std.{specs.{List.{list_all}, Prelude.{slice_get}}, proofs.lemmas.List.Folds.{list_all-map}}
use Rattle.asm_names.specs.declared.program.{Interval.{Interval}, Resolved.{Resolved}, Domain.{Domain}}
use Rattle.asm_names.specs.declared.resolved_term.ResolvedTerm.{ResolvedTerm, ResolvedTerm-F, roll-ResolvedTerm, fold-roll-ResolvedTerm, para-roll-ResolvedTerm, map-ResolvedTerm, out-ResolvedTerm}
use Rattle.asm_names.specs.declared.resolved_rule.ResolvedRule.{ResolvedRule, ResolvedRule-F, roll-ResolvedRule, para-roll-ResolvedRule, map-ResolvedRule}
use Rattle.state_space.specs.{Locations.{signatures_of}, declared.signature.Signature.{Signature}}
use Rattle.asm_ranges.specs.{declared.fault.RangeEnd.{RangeEnd}, Values.{value, value_by, Definite, defined, defined_by, takes_args}, Ranges.{Scope, Part, range, range_by, sums_fit, sums_fit_by}}
use Rattle.asm_ranges.specs.Facts.{Facts, Cutting, cut, cut_by, Refining, refined, refined_by, same, same_by}
use Rattle.asm_ranges.specs.RangeFaults.{FaultyTerm, term_faults, term_faults_by, faulty_term, FaultyRule, rule_faults, rule_faults_by}

-- a term, and whether its sums fit
abbrev pub judged : List Signature → Scope → ResolvedTerm → Part
judged signatures scope t = (t, sums_fit signatures scope t)

-- a term, and whether it is defined
abbrev pub definite : Resolved → List ℤ → List ℤ → List ℤ → ResolvedTerm → Definite
definite program state inputs env t = (t, defined program state inputs env t)

-- a term with its cut
abbrev pub cutting : List Signature → Scope → ResolvedTerm → ResolvedTerm → Cutting
cutting signatures scope atom t = (t, cut signatures scope atom t)

-- a term with its refined range
abbrev pub refining : List Signature → Scope → ResolvedTerm → Refining
refining signatures scope t = (t, refined signatures scope t)

-- a rule with its faults
abbrev pub faulty_rule : List Domain → List Signature → ResolvedRule → FaultyRule
faulty_rule domains signatures rule = (rule, rule_faults domains signatures rule)

firsts_are : {A B : Type 0} (f : ResolvedTerm → A) (g : ResolvedTerm → B) (ts : List ResolvedTerm) → map (λ (p : ResolvedTerm × B). f p.0) (map (λ t. (t, g t)) ts) ≡ map f ts
firsts_are f g [] = refl
firsts_are f g (t ∷ ts) = ap (λ is. f t ∷ is) (firsts_are f g ts)

pub defined_read : (program : Resolved) (state inputs env : List ℤ) (fun : ℕ) (ts : List ResolvedTerm)
    → defined_by program state inputs env (ResolvedTerm-F.Read fun (map (definite program state inputs env) ts))
    ≡ (list_all (defined program state inputs env) ts && takes_args (slice_get (signatures_of program) fun) (map (value program state inputs env) ts))
defined_read program state inputs env fun ts =
    rw (list_all-map (λ (arg : Definite). arg.1) (definite program state inputs env) ts, firsts_are (value program state inputs env) (defined program state inputs env) ts) refl

pub sums_read : (signatures : List Signature) (scope : Scope) (fun : ℕ) (ts : List ResolvedTerm)
    → sums_fit_by signatures scope (ResolvedTerm-F.Read fun (map (judged signatures scope) ts)) ≡ list_all (sums_fit signatures scope) ts
sums_read signatures scope fun ts = list_all-map (λ (part : Part). part.1) (judged signatures scope) ts

terms_are : {B : Type 0} (g : ResolvedTerm → B) (ts : List ResolvedTerm) → map (λ (p : ResolvedTerm × B). p.0) (map (λ t. (t, g t)) ts) ≡ ts
terms_are g [] = refl
terms_are g (t ∷ ts) = ap (λ is. t ∷ is) (terms_are g ts)

pub refined_terms : (signatures : List Signature) (scope : Scope) (ts : List ResolvedTerm) → map (λ (p : Refining). p.0) (map (refining signatures scope) ts) ≡ ts
refined_terms signatures scope ts = terms_are (refined signatures scope) ts

module _ (x : ResolvedTerm-F ResolvedTerm) (t : ResolvedTerm) (e : roll-ResolvedTerm x ≡ t) where
  pub range_at : (signatures : List Signature) (scope : Scope) → range signatures scope t ≡ range_by signatures scope (map-ResolvedTerm ResolvedTerm Interval (range signatures scope) x)
  unfolding range
  range_at signatures scope = ap (range signatures scope) (sym e) ∙ fold-roll-ResolvedTerm Interval (range_by signatures scope) x

  pub sums_at : (signatures : List Signature) (scope : Scope) → sums_fit signatures scope t ≡ sums_fit_by signatures scope (map-ResolvedTerm ResolvedTerm Part (judged signatures scope) x)
  unfolding sums_fit
  sums_at signatures scope = ap (sums_fit signatures scope) (sym e) ∙ para-roll-ResolvedTerm Bool (sums_fit_by signatures scope) x

  pub value_at : (program : Resolved) (state inputs env : List ℤ)
      → value program state inputs env t ≡ value_by program state inputs env (map-ResolvedTerm ResolvedTerm ℤ (value program state inputs env) x)
  unfolding value
  value_at program state inputs env = ap (value program state inputs env) (sym e) ∙ fold-roll-ResolvedTerm ℤ (value_by program state inputs env) x

  pub defined_at : (program : Resolved) (state inputs env : List ℤ)
      → defined program state inputs env t ≡ defined_by program state inputs env (map-ResolvedTerm ResolvedTerm Definite (definite program state inputs env) x)
  unfolding defined
  defined_at program state inputs env = ap (defined program state inputs env) (sym e) ∙ para-roll-ResolvedTerm Bool (defined_by program state inputs env) x

  pub cut_at : (signatures : List Signature) (scope : Scope) (atom : ResolvedTerm) (truth : Bool) (found : Interval)
      → cut signatures scope atom t truth found ≡ cut_by signatures scope atom (map-ResolvedTerm ResolvedTerm Cutting (cutting signatures scope atom) x) truth found
  unfolding cut
  cut_at signatures scope atom truth found =
      ap (λ u. cut signatures scope atom u truth found) (sym e) ∙ ap (λ f. f truth found) (para-roll-ResolvedTerm (Bool → Interval → Interval) (cut_by signatures scope atom) x)

  pub refined_at : (signatures : List Signature) (scope : Scope) (facts : Facts)
      → refined signatures scope t facts ≡ refined_by signatures scope (map-ResolvedTerm ResolvedTerm Refining (refining signatures scope) x) facts
  unfolding refined
  refined_at signatures scope facts = ap (λ u. refined signatures scope u facts) (sym e) ∙ ap (λ f. f facts) (para-roll-ResolvedTerm (Facts → Interval) (refined_by signatures scope) x)

  pub same_at : (other : ResolvedTerm) → same t other ≡ same_by (map-ResolvedTerm ResolvedTerm (ResolvedTerm → Bool) same x) (out-ResolvedTerm other)
  unfolding same
  same_at other = ap (λ u. same u other) (sym e) ∙ ap (λ f. f other) (fold-roll-ResolvedTerm (ResolvedTerm → Bool) (λ y o. same_by y (out-ResolvedTerm o)) x)

  pub faults_at : (signatures : List Signature) (scope : Scope) (facts : Facts) (need : Option Interval) (at : ℕ)
      → term_faults signatures scope t facts need at ≡ term_faults_by signatures scope (map-ResolvedTerm ResolvedTerm FaultyTerm (faulty_term signatures scope) x) facts need at
  unfolding term_faults
  faults_at signatures scope facts need at =
      ap (λ u. term_faults signatures scope u facts need at) (sym e)
      ∙ ap (λ f. f facts need at) (para-roll-ResolvedTerm (Facts → Option Interval → ℕ → List RangeEnd) (term_faults_by signatures scope) x)

module _ (x : ResolvedRule-F ResolvedRule) (r : ResolvedRule) (e : roll-ResolvedRule x ≡ r) where
  pub rule_faults_at : (domains : List Domain) (signatures : List Signature) (scope : Scope) (facts : Facts) (at : ℕ)
      → rule_faults domains signatures r scope facts at ≡ rule_faults_by domains signatures (map-ResolvedRule ResolvedRule FaultyRule (faulty_rule domains signatures) x) scope facts at
  unfolding rule_faults
  rule_faults_at domains signatures scope facts at =
      ap (λ u. rule_faults domains signatures u scope facts at) (sym e)
      ∙ ap (λ f. f scope facts at) (para-roll-ResolvedRule (Scope → Facts → ℕ → List RangeEnd) (rule_faults_by domains signatures) x)
