-- Terms see of a scope and of the values of binders only what is in scope where they stand.
use Rattle.std.proofs.Common.{◌≡◌, ℕ, ℤ, pos, true, ◌&&◌, List, [], ◌∷◌, map, Option, Some, None, refl, sym, ap, ◌∙◌, subst}
use Rattle.std.{specs.{Prelude.{slice_index_or, is_some}, List.{list_all}, Option.{unwrap_or}}, proofs.lemmas.{Bool.{and_parts, and_from}}}
use Rattle.asm_names.specs.declared.{program.{Resolved.{Resolved}, Interval.{Interval}}, resolved_term.ResolvedTerm.{ResolvedTerm, ResolvedTerm-F, roll-ResolvedTerm, ind-ResolvedTerm, map-ResolvedTerm}}
use Rattle.state_space.specs.{declared.signature.Signature.{Signature}, Locations.{signatures_of}, Codomains.{just}}
use Rattle.asm_ranges.specs.{Ranges.{Scope, range, range_by, sums_fit, sums_fit_by, sum_fits, binary_range, Part}, Values.{value, value_by, read, defined, defined_by, Definite}}
use Rattle.asm_ranges.proofs.Levels.{judged, definite, defined_read, sums_read, range_at, value_at, sums_at, defined_at}

some-of : {A : Type 0} (o : Option A) → is_some o ≡ true → (x : A) × (o ≡ Some x)
some-of None h = absurd cc
some-of (Some x) h = (x, refl)

-- a scope has all that is in another
abbrev pub Extends : Scope → Scope → Type 0
Extends scope more = (b : ℕ) → is_some (scope b) ≡ true → more b ≡ scope b

module _ (signatures : List Signature) (scope more : Scope) (extends : Extends scope more) where
  abbrev Wider : ResolvedTerm → Type 0
  Wider t = sums_fit signatures scope t ≡ true → (range signatures more t ≡ range signatures scope t) × (sums_fit signatures more t ≡ true)

  abbrev Sound : Type 0
  Sound = (t : ResolvedTerm) × Wider t

  abbrev term : Sound → ResolvedTerm
  term s = s.0

  abbrev Layer : ResolvedTerm-F ResolvedTerm → Type 0
  Layer x =
      sums_fit_by signatures scope (map-ResolvedTerm ResolvedTerm Part (judged signatures scope) x) ≡ true
      → (range_by signatures more (map-ResolvedTerm ResolvedTerm Interval (range signatures more) x) ≡ range_by signatures scope (map-ResolvedTerm ResolvedTerm Interval (range signatures scope) x))
      × (sums_fit_by signatures more (map-ResolvedTerm ResolvedTerm Part (judged signatures more) x) ≡ true)

  args-wider : (ts : List Sound) → list_all (sums_fit signatures scope) (map term ts) ≡ true → list_all (sums_fit signatures more) (map term ts) ≡ true
  args-wider [] h = refl
  args-wider (t ∷ ts) h = let p = and_parts _ _ h in and_from _ _ (t.1 p.0).1 (args-wider ts p.1)

  pair : (l r : Sound) → (sums_fit signatures scope l.0 && sums_fit signatures scope r.0) ≡ true
      → (range signatures more l.0 ≡ range signatures scope l.0) × (range signatures more r.0 ≡ range signatures scope r.0) × ((sums_fit signatures more l.0 && sums_fit signatures more r.0) ≡ true)
  pair l r h =
      let p = and_parts _ _ h in
      let a = l.1 p.0 in
      let b = r.1 p.1 in
      (a.0, b.0, and_from _ _ a.1 b.1)

  layer : (x : ResolvedTerm-F Sound) → Layer (map-ResolvedTerm Sound ResolvedTerm term x)
  layer (ResolvedTerm-F.Number v) h = (refl, refl)
  layer (ResolvedTerm-F.Var b) h = (ap (λ o. unwrap_or o (just (pos 0))) (extends b h), ap is_some (extends b h) ∙ h)
  layer (ResolvedTerm-F.Read fun args) h = (refl, sums_read signatures more fun (map term args) ∙ args-wider args (sym (sums_read signatures scope fun (map term args)) ∙ h))
  layer (ResolvedTerm-F.Binary op l r) h =
      let p = and_parts _ _ h in
      let q = pair l r p.0 in
      let same : binary_range op (range signatures more l.0) (range signatures more r.0) ≡ binary_range op (range signatures scope l.0) (range signatures scope r.0) = rw (q.0, q.1) refl in
      (same, and_from _ _ q.2 (ap (sum_fits op) same ∙ p.1))
  layer (ResolvedTerm-F.Not t) h = (refl, (t.1 h).1)
  layer (ResolvedTerm-F.Min l r) h = let q = pair l r h in (rw (q.0, q.1) refl, q.2)
  layer (ResolvedTerm-F.Max l r) h = let q = pair l r h in (rw (q.0, q.1) refl, q.2)
  layer (ResolvedTerm-F.Cond g l r) h =
      let p = and_parts _ _ h in
      let q = pair l r p.1 in
      (rw (q.0, q.1) refl, and_from _ _ (g.1 p.0).1 q.2)

  rolled : (x : ResolvedTerm-F ResolvedTerm) → Layer x → Wider (roll-ResolvedTerm x)
  rolled x one h =
      let l = one (sym (sums_at x (roll-ResolvedTerm x) refl signatures scope) ∙ h) in (
        range_at x (roll-ResolvedTerm x) refl signatures more ∙ (l.0 ∙ sym (range_at x (roll-ResolvedTerm x) refl signatures scope)),
        sums_at x (roll-ResolvedTerm x) refl signatures more ∙ l.1,
      )

  -- a term whose binders are in scope has the same range in each scope that has more
  pub wider : (t : ResolvedTerm) → Wider t
  wider = ind-ResolvedTerm Wider (λ x y is. subst (λ z. Wider (roll-ResolvedTerm z)) is (rolled (map-ResolvedTerm Sound ResolvedTerm term y) (layer y)))

-- two lists of values give each binder in scope the same value
abbrev pub AgreeOn : Scope → List ℤ → List ℤ → Type 0
AgreeOn scope env other = (b : ℕ) → is_some (scope b) ≡ true → slice_index_or env b (pos 0) ≡ slice_index_or other b (pos 0)

module _ (program : Resolved) (state inputs env other : List ℤ) (scope : Scope) (agree : AgreeOn scope env other) where
  abbrev signatures : List Signature
  signatures = signatures_of program

  abbrev one_value : ResolvedTerm → ℤ
  one_value = value program state inputs env

  abbrev other_value : ResolvedTerm → ℤ
  other_value = value program state inputs other

  abbrev Alike : ResolvedTerm → Type 0
  Alike t = sums_fit signatures scope t ≡ true → (one_value t ≡ other_value t) × (defined program state inputs env t ≡ defined program state inputs other t)

  abbrev Kind : Type 0
  Kind = (t : ResolvedTerm) × Alike t

  abbrev kind_term : Kind → ResolvedTerm
  kind_term s = s.0

  abbrev KindLayer : ResolvedTerm-F ResolvedTerm → Type 0
  KindLayer x =
      sums_fit_by signatures scope (map-ResolvedTerm ResolvedTerm Part (judged signatures scope) x) ≡ true
      → (value_by program state inputs env (map-ResolvedTerm ResolvedTerm ℤ one_value x) ≡ value_by program state inputs other (map-ResolvedTerm ResolvedTerm ℤ other_value x))
      × (defined_by program state inputs env (map-ResolvedTerm ResolvedTerm Definite (definite program state inputs env) x)
      ≡ defined_by program state inputs other (map-ResolvedTerm ResolvedTerm Definite (definite program state inputs other) x))

  args-alike : (ts : List Kind) → list_all (sums_fit signatures scope) (map kind_term ts) ≡ true
      → (map one_value (map kind_term ts) ≡ map other_value (map kind_term ts)) × (list_all (defined program state inputs env) (map kind_term ts) ≡ list_all (defined program state inputs other) (map kind_term ts))
  args-alike [] h = (refl, refl)
  args-alike (t ∷ ts) h =
      let p = and_parts _ _ h in
      let a = t.1 p.0 in
      let b = args-alike ts p.1 in
      (rw (a.0, b.0) refl, rw (a.1, b.1) refl)

  two : (l r : Kind) → (sums_fit signatures scope l.0 && sums_fit signatures scope r.0) ≡ true
      → (one_value l.0 ≡ other_value l.0) × (one_value r.0 ≡ other_value r.0) × (defined program state inputs env l.0 ≡ defined program state inputs other l.0)
      × (defined program state inputs env r.0 ≡ defined program state inputs other r.0)
  two l r h =
      let p = and_parts _ _ h in
      let a = l.1 p.0 in
      let b = r.1 p.1 in
      (a.0, b.0, a.1, b.1)

  kind-layer : (x : ResolvedTerm-F Kind) → KindLayer (map-ResolvedTerm Kind ResolvedTerm kind_term x)
  kind-layer (ResolvedTerm-F.Number v) h = (refl, refl)
  kind-layer (ResolvedTerm-F.Var b) h = (agree b h, refl)
  kind-layer (ResolvedTerm-F.Read fun args) h =
      let a = args-alike args (sym (sums_read signatures scope fun (map kind_term args)) ∙ h) in (
        ap (read program state inputs fun) a.0,
        defined_read program state inputs env fun (map kind_term args) ∙ (rw (a.0, a.1) refl ∙ sym (defined_read program state inputs other fun (map kind_term args))),
      )
  kind-layer (ResolvedTerm-F.Binary op l r) h = let q = two l r (and_parts _ _ h).0 in (rw (q.0, q.1) refl, rw (q.2, q.3) refl)
  kind-layer (ResolvedTerm-F.Not t) h = let q = t.1 h in (rw q.0 refl, q.1)
  kind-layer (ResolvedTerm-F.Min l r) h = let q = two l r h in (rw (q.0, q.1) refl, rw (q.2, q.3) refl)
  kind-layer (ResolvedTerm-F.Max l r) h = let q = two l r h in (rw (q.0, q.1) refl, rw (q.2, q.3) refl)
  kind-layer (ResolvedTerm-F.Cond g l r) h =
      let p = and_parts _ _ h in
      let q = two l r p.1 in
      let c = g.1 p.0 in
      (rw (c.0, q.0, q.1) refl, rw (c.0, c.1, q.2, q.3) refl)

  kind-rolled : (x : ResolvedTerm-F ResolvedTerm) → KindLayer x → Alike (roll-ResolvedTerm x)
  kind-rolled x one h =
      let l = one (sym (sums_at x (roll-ResolvedTerm x) refl signatures scope) ∙ h) in (
        value_at x (roll-ResolvedTerm x) refl program state inputs env ∙ (l.0 ∙ sym (value_at x (roll-ResolvedTerm x) refl program state inputs other)),
        defined_at x (roll-ResolvedTerm x) refl program state inputs env ∙ (l.1 ∙ sym (defined_at x (roll-ResolvedTerm x) refl program state inputs other)),
      )

  -- a term has the same value where the binders in its scope have the same values, and is defined there if it is here
  pub alike : (t : ResolvedTerm) → Alike t
  alike = ind-ResolvedTerm Alike (λ x y is. subst (λ z. Alike (roll-ResolvedTerm z)) is (kind-rolled (map-ResolvedTerm Kind ResolvedTerm kind_term y) (kind-layer y)))
