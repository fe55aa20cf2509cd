-- The numbers in a short term are of 32 signed bits.
use Rattle.std.proofs.Common.{◌≡◌, Bool, true, List, [], ◌∷◌, map, refl, sym, ◌∙◌, subst}
use Rattle.std.specs.List.{list_all}
use Rattle.std.proofs.lemmas.Bool.{and_from, and_parts}
use Rattle.asm_names.specs.declared.{program.Interval.{Interval}, resolved_term.ResolvedTerm.{ResolvedTerm, ResolvedTerm-F, ind-ResolvedTerm, map-ResolvedTerm, roll-ResolvedTerm}}
use Rattle.asm_ranges.specs.Ranges.{Part, Scope, inside, range_by, words}
use Rattle.state_space.specs.declared.signature.Signature.{Signature}
use Rattle.bound_count.specs.ShortNumbers.{short_numbers, short_numbers_by}
use Rattle.bound_count.proofs.Levels.{short_numbers_at}
use Rattle.instr_select.specs.Short.{is_short, part_range, short_parts}
use Rattle.instr_select.proofs.Levels.{measured, short_at}

module _ (signatures : List Signature) (scope : Scope) where
  abbrev HasShort : ResolvedTerm → Type 0
  HasShort t = is_short signatures scope t ≡ true → short_numbers t ≡ true

  abbrev Sound : Type 0
  Sound = (t : ResolvedTerm) × HasShort t

  abbrev term : Sound → ResolvedTerm
  term s = s.0

  all : (ts : List Sound) → list_all (λ (p : Part). p.1) (map (measured signatures scope) (map term ts)) ≡ true → list_all (λ (b : Bool). b) (map short_numbers (map term ts)) ≡ true
  all [] h = refl
  all (t ∷ ts) h = let p = and_parts _ _ h in and_from _ _ (t.1 p.0) (all ts p.1)

  abbrev Own : ResolvedTerm-F ResolvedTerm → Bool
  Own x = inside (range_by signatures scope (map-ResolvedTerm Part Interval (part_range signatures scope) (map-ResolvedTerm ResolvedTerm Part (measured signatures scope) x))) words

  layer : (x : ResolvedTerm-F Sound) → Own (map-ResolvedTerm Sound ResolvedTerm term x) ≡ true
      → short_parts signatures scope (map-ResolvedTerm ResolvedTerm Part (measured signatures scope) (map-ResolvedTerm Sound ResolvedTerm term x)) ≡ true
      → short_numbers_by (map-ResolvedTerm ResolvedTerm Bool short_numbers (map-ResolvedTerm Sound ResolvedTerm term x)) ≡ true
  layer (ResolvedTerm-F.Number v) own h = own
  layer (ResolvedTerm-F.Var b) own h = refl
  layer (ResolvedTerm-F.Read fun ts) own h = all ts h
  layer (ResolvedTerm-F.Binary op l r) own h = let p = and_parts _ _ h in and_from _ _ (l.1 p.0) (r.1 p.1)
  layer (ResolvedTerm-F.Not t) own h = t.1 h
  layer (ResolvedTerm-F.Min l r) own h = let p = and_parts _ _ h in and_from _ _ (l.1 p.0) (r.1 p.1)
  layer (ResolvedTerm-F.Max l r) own h = let p = and_parts _ _ h in and_from _ _ (l.1 p.0) (r.1 p.1)
  layer (ResolvedTerm-F.Cond g l r) own h = let p = and_parts _ _ h in let q = and_parts _ _ p.1 in and_from _ _ (g.1 p.0) (and_from _ _ (l.1 q.0) (r.1 q.1))

  rolled : (x : ResolvedTerm-F ResolvedTerm)
      → (Own x ≡ true → short_parts signatures scope (map-ResolvedTerm ResolvedTerm Part (measured signatures scope) x) ≡ true → short_numbers_by (map-ResolvedTerm ResolvedTerm Bool short_numbers x) ≡ true)
      → HasShort (roll-ResolvedTerm x)
  rolled x f k =
      let s = and_parts (Own x) (short_parts signatures scope (map-ResolvedTerm ResolvedTerm Part (measured signatures scope) x)) (sym (short_at x signatures scope) ∙ k) in
      short_numbers_at x (roll-ResolvedTerm x) refl ∙ f s.0 s.1

  pub short-numbered : (t : ResolvedTerm) → HasShort t
  short-numbered = ind-ResolvedTerm HasShort (λ x y is. subst (λ z. HasShort (roll-ResolvedTerm z)) is (rolled (map-ResolvedTerm Sound ResolvedTerm term y) (layer y)))
