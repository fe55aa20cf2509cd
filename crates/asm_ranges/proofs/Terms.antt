-- The value of a defined term lies in its plain range.
use Rattle.std.proofs.Common.{◌≡◌, ℕ, ℤ, pos, Bool, true, false, List, [], ◌∷◌, map, Option, Some, None, refl, sym, ◌∙◌, subst, T, ◌≤ℤ◌}
use Rattle.std.{specs.{Prelude.{slice_get, is_some, IfSome, if◌then◌else◌}, List.{AllZip}, Option.{unwrap_or}}, proofs.lemmas.{Bool.{and_parts}}}
use Rattle.asm_names.specs.declared.{program.{Resolved.{Resolved}, Interval.{Interval}}, resolved_term.ResolvedTerm.{ResolvedTerm, ResolvedTerm-F, roll-ResolvedTerm, ind-ResolvedTerm, map-ResolvedTerm}}
use Rattle.state_space.specs.{declared.signature.{Range.{Range}, Signature.{Signature}}, Locations.{signatures_of}, Codomains.{In, whole, codomain_range, just}}
use Rattle.asm_ranges.specs.{Ranges.{Scope, range, range_by, sums_fit, sums_fit_by, hull, EnvFits, Part}, Values.{value, value_by, read, defined, defined_by, Definite, lies_in, lie_in, takes_args, holds}}
use Rattle.asm_ranges.proofs.{Levels.{judged, definite, defined_read, range_at, value_at, sums_at, defined_at}, Intervals.{just-in, truth-in, min-in, max-in, hull-left, hull-right, binary-in}}

-- what is read at arguments in the domains lies in the codomain
abbrev pub ReadsIn : Resolved → List ℤ → List ℤ → Type 0
ReadsIn program state inputs =
    (fun : ℕ) (args : List ℤ) (signature : Signature) → slice_get (signatures_of program) fun ≡ Some signature
    → AllZip (λ arg domain. In (whole domain) arg) args signature.args → In (whole signature.codomain) (read program state inputs fun args)

pub lies-in : (domain : Range) (v : ℤ) → lies_in domain v ≡ true → In (whole domain) v
lies-in domain v h =
    let p = and_parts _ _ h in
    let low : (whole domain).lo ≤ℤ v = record { le = subst T (sym p.0) tt } in
    let high : v ≤ℤ (whole domain).hi = record { le = subst T (sym p.1) tt } in
    record { low = low; high = high }

pub lie-in : (domains : List Range) (vs : List ℤ) → lie_in domains vs ≡ true → AllZip (λ v domain. In (whole domain) v) vs domains
lie-in [] [] h = tt
lie-in [] (v ∷ vs) h = absurd cc
lie-in (d ∷ ds) [] h = absurd cc
lie-in (d ∷ ds) (v ∷ vs) h = let p = and_parts _ _ h in (lies-in d v p.0, lie-in ds vs p.1)

module _ (program : Resolved) (state inputs env : List ℤ) (scope : Scope) (reads : ReadsIn program state inputs) (bound : EnvFits scope env) where
  abbrev signatures : List Signature
  signatures = signatures_of program

  abbrev ValueIn : ResolvedTerm → Type 0
  ValueIn t = sums_fit signatures scope t ≡ true → defined program state inputs env t ≡ true → In (range signatures scope t) (value program state inputs env t)

  abbrev Sound : Type 0
  Sound = (t : ResolvedTerm) × ValueIn t

  abbrev term : Sound → ResolvedTerm
  term s = s.0

  -- the claim of one layer, whose parts are sound
  abbrev LayerIn : ResolvedTerm-F ResolvedTerm → Type 0
  LayerIn x =
      sums_fit_by signatures scope (map-ResolvedTerm ResolvedTerm Part (judged signatures scope) x) ≡ true
      → defined_by program state inputs env (map-ResolvedTerm ResolvedTerm Definite (definite program state inputs env) x) ≡ true
      → In (range_by signatures scope (map-ResolvedTerm ResolvedTerm Interval (range signatures scope) x)) (value_by program state inputs env (map-ResolvedTerm ResolvedTerm ℤ (value program state inputs env) x))

  var-in : (o : Option Interval) (v : ℤ) → IfSome o (λ i. In i v) → is_some o ≡ true → In (unwrap_or o (just (pos 0))) v
  var-in None v b h = absurd cc
  var-in (Some i) v b h = b

  pub read-in : (o : Option Signature) (fun : ℕ) (vs : List ℤ) → slice_get signatures fun ≡ o → takes_args o vs ≡ true → In (codomain_range o) (read program state inputs fun vs)
  read-in None fun vs e k = absurd cc
  read-in (Some signature) fun vs e k = reads fun vs signature e (lie-in signature.args vs k)

  cond-in : (c : Bool) (a b : Interval) (x y : ℤ) (p q : Bool) → (p ≡ true → In a x) → (q ≡ true → In b y) → (if c then p else q) ≡ true → In (hull a b) (if c then x else y)
  cond-in true a b x y p q f g h = hull-left a b x (f h)
  cond-in false a b x y p q f g h = hull-right a b y (g h)

  layer-in : (x : ResolvedTerm-F Sound) → LayerIn (map-ResolvedTerm Sound ResolvedTerm term x)
  layer-in (ResolvedTerm-F.Number v) h k = just-in v
  layer-in (ResolvedTerm-F.Var b) h k = var-in _ _ (bound b) h
  layer-in (ResolvedTerm-F.Read fun args) h k = read-in _ fun _ refl (and_parts _ _ (sym (defined_read program state inputs env fun (map term args)) ∙ k)).1
  layer-in (ResolvedTerm-F.Binary op l r) h k =
      let p = and_parts _ _ (and_parts _ _ h).0 in
      let q = and_parts _ _ k in
      binary-in op _ _ _ _ (l.1 p.0 q.0) (r.1 p.1 q.1)
  layer-in (ResolvedTerm-F.Not t) h k = truth-in _
  layer-in (ResolvedTerm-F.Min l r) h k = let p = and_parts _ _ h in let q = and_parts _ _ k in min-in _ _ _ _ (l.1 p.0 q.0) (r.1 p.1 q.1)
  layer-in (ResolvedTerm-F.Max l r) h k = let p = and_parts _ _ h in let q = and_parts _ _ k in max-in _ _ _ _ (l.1 p.0 q.0) (r.1 p.1 q.1)
  layer-in (ResolvedTerm-F.Cond c l r) h k =
      let p = and_parts _ _ (and_parts _ _ h).1 in
      cond-in (holds (value program state inputs env c.0)) _ _ _ _ _ _ (l.1 p.0) (r.1 p.1) (and_parts _ _ k).1

  rolled : (x : ResolvedTerm-F ResolvedTerm) → LayerIn x → ValueIn (roll-ResolvedTerm x)
  rolled x layer h k =
      rw (range_at x (roll-ResolvedTerm x) refl signatures scope, value_at x (roll-ResolvedTerm x) refl program state inputs env)
      (layer (sym (sums_at x (roll-ResolvedTerm x) refl signatures scope) ∙ h) (sym (defined_at x (roll-ResolvedTerm x) refl program state inputs env) ∙ k))

  -- the value of a term whose sums fit, and that meets no function outside its domains, lies in its plain range
  pub value_in_range : (t : ResolvedTerm) → ValueIn t
  value_in_range = ind-ResolvedTerm ValueIn (λ x y is. subst (λ z. ValueIn (roll-ResolvedTerm z)) is (rolled (map-ResolvedTerm Sound ResolvedTerm term y) (layer-in y)))
