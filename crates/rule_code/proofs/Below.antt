-- A term whose numbers are short has no binder but those in scope.
use Rattle.std.proofs.Common.{◌≡◌, ℕ, ◌<◌, Bool, true, List, [], ◌∷◌, map, refl, sym, ◌∙◌, subst, arith}
use Rattle.std.specs.Prelude.{is_some}
use Rattle.std.specs.List.{list_all}
use Rattle.std.proofs.lemmas.{Bool.{and_from, and_parts}, Bool.Decides.{nat_tests}}
use Rattle.asm_names.specs.declared.{program.Interval.{Interval}, resolved_term.ResolvedTerm.{ResolvedTerm, ResolvedTerm-F, ind-ResolvedTerm, map-ResolvedTerm, roll-ResolvedTerm}}
use Rattle.asm_ranges.specs.Ranges.{Part, Scope, inside, range_by, words}
use Rattle.state_space.specs.declared.signature.Signature.{Signature}
use Rattle.instr_select.specs.{Short.{is_short, part_range, short_parts}, Terms.{binders_below, binders_below_by}}
use Rattle.instr_select.proofs.Levels.{below_at, measured, short_at}

module _ (binders : ℕ) (signatures : List Signature) (scope : Scope) (few : (b : ℕ) → is_some (scope b) ≡ true → b < binders) where
  abbrev Below : ResolvedTerm → Type 0
  Below t = is_short signatures scope t ≡ true → binders_below binders t ≡ true

  abbrev Sound : Type 0
  Sound = (t : ResolvedTerm) × Below t

  abbrev term : Sound → ResolvedTerm
  term s = s.0

  all : (ts : List Sound) → list_all (λ (p : Part). p.1) (map (measured signatures scope) (map term ts)) ≡ true → list_all (λ (b : Bool). b) (map (binders_below binders) (map term ts)) ≡ true
  all [] h = refl
  all (t ∷ ts) h = let p = and_parts _ _ h in and_from _ _ (t.1 p.0) (all ts p.1)

  layer : (x : ResolvedTerm-F Sound) → short_parts signatures scope (map-ResolvedTerm ResolvedTerm Part (measured signatures scope) (map-ResolvedTerm Sound ResolvedTerm term x)) ≡ true
      → binders_below_by binders (map-ResolvedTerm ResolvedTerm Bool (binders_below binders) (map-ResolvedTerm Sound ResolvedTerm term x)) ≡ true
  layer (ResolvedTerm-F.Number v) h = refl
  layer (ResolvedTerm-F.Var b) h = let less = few b h in grind (arith, nat_tests)
  layer (ResolvedTerm-F.Read fun ts) h = all ts h
  layer (ResolvedTerm-F.Binary op l r) h = let p = and_parts _ _ h in and_from _ _ (l.1 p.0) (r.1 p.1)
  layer (ResolvedTerm-F.Not t) h = t.1 h
  layer (ResolvedTerm-F.Min l r) h = let p = and_parts _ _ h in and_from _ _ (l.1 p.0) (r.1 p.1)
  layer (ResolvedTerm-F.Max l r) h = let p = and_parts _ _ h in and_from _ _ (l.1 p.0) (r.1 p.1)
  layer (ResolvedTerm-F.Cond g l r) h = let p = and_parts _ _ h in let q = and_parts _ _ p.1 in and_from _ _ (g.1 p.0) (and_from _ _ (l.1 q.0) (r.1 q.1))

  rolled : (x : ResolvedTerm-F ResolvedTerm)
      → (short_parts signatures scope (map-ResolvedTerm ResolvedTerm Part (measured signatures scope) x) ≡ true → binders_below_by binders (map-ResolvedTerm ResolvedTerm Bool (binders_below binders) x) ≡ true)
      → Below (roll-ResolvedTerm x)
  rolled x f k =
      let s = and_parts (inside (range_by signatures scope (map-ResolvedTerm Part Interval (part_range signatures scope) (map-ResolvedTerm ResolvedTerm Part (measured signatures scope) x))) words)
      (short_parts signatures scope (map-ResolvedTerm ResolvedTerm Part (measured signatures scope) x)) (sym (short_at x signatures scope) ∙ k) in
      below_at x binders ∙ f s.1

  pub short-below : (t : ResolvedTerm) → Below t
  short-below = ind-ResolvedTerm Below (λ x y is. subst (λ z. Below (roll-ResolvedTerm z)) is (rolled (map-ResolvedTerm Sound ResolvedTerm term y) (layer y)))

  pub all-below : (ts : List ResolvedTerm) → list_all (is_short signatures scope) ts ≡ true → list_all (binders_below binders) ts ≡ true
  all-below [] h = refl
  all-below (t ∷ ts) h = let p = and_parts _ _ h in and_from _ _ (short-below t p.0) (all-below ts p.1)
