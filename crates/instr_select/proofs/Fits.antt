-- Terms whose sums fit are short.
use Rattle.std.proofs.Common.{◌≡◌, ℤ, pos, negsuc, Bool, true, ◌&&◌, List, [], ◌∷◌, map, Option, Some, None, refl, sym, ◌∙◌, subst, arith}
use Rattle.std.{specs.{Prelude.{int_le, slice_get, is_some, IfSome}, List.{list_all}, Option.{unwrap_or}, Int.{int_max, int_min}}, proofs.lemmas.{Bool.{and_from, and_parts}, Int.{clamps, ints}}}
use Rattle.asm_tree.specs.declared.term.Op.{Op}
use Rattle.asm_tree.specs.declared.term.Op.TheVariants as ops
use Rattle.asm_names.specs.declared.{program.Interval.{Interval}, resolved_term.ResolvedTerm.{ResolvedTerm, ResolvedTerm-F, roll-ResolvedTerm, ind-ResolvedTerm, map-ResolvedTerm}}
use Rattle.state_space.specs.{declared.signature.Signature.{Signature}, Codomains.{codomain_range, just}}
use Rattle.asm_ranges.specs.Ranges.{Part, Scope, binary_range, hull, inside, range, sum_fits, sums_fit, sums_fit_by, words}
use Rattle.asm_ranges.proofs.Levels.{judged, sums_at, sums_read}
use Rattle.instr_select.specs.{Short.{is_short, short_by}, FitLaw.{AreShortSignatures, FittingTermsAreShort, IsShortScope, short_numbers, short_numbers_by}}
use Rattle.bound_count.proofs.Levels.{short_numbers_at}
use Rattle.instr_select.proofs.{Levels.{measured, short_at}, ShortValues.{range-short}}

-- ---- short terms
pub numbers_at : (x : ResolvedTerm-F ResolvedTerm) → short_numbers (roll-ResolvedTerm x) ≡ short_numbers_by (map-ResolvedTerm ResolvedTerm Bool short_numbers x)
numbers_at x = short_numbers_at x (roll-ResolvedTerm x) refl

ends : (i : Interval) → inside i words ≡ true → (int_le (negsuc 2147483647) i.lo ≡ true) × (int_le i.hi (pos 2147483647) ≡ true)
ends i h = and_parts (int_le (negsuc 2147483647) i.lo) (int_le i.hi (pos 2147483647)) h

-- the least and the greatest of two ends
min-low : (n a b : ℤ) → int_le n a ≡ true → int_le n b ≡ true → int_le n (int_min a b) ≡ true
min-low n a b h k = grind (arith, ints, clamps)

min-high : (n a b : ℤ) → int_le a n ≡ true → int_le b n ≡ true → int_le (int_min a b) n ≡ true
min-high n a b h k = grind (arith, ints, clamps)

max-low : (n a b : ℤ) → int_le n a ≡ true → int_le n b ≡ true → int_le n (int_max a b) ≡ true
max-low n a b h k = grind (arith, ints, clamps)

max-high : (n a b : ℤ) → int_le a n ≡ true → int_le b n ≡ true → int_le (int_max a b) n ≡ true
max-high n a b h k = grind (arith, ints, clamps)

abbrev lesser : Interval → Interval → Interval
lesser a b = record { lo = int_min a.lo b.lo; hi = int_min a.hi b.hi }

abbrev greater : Interval → Interval → Interval
greater a b = record { lo = int_max a.lo b.lo; hi = int_max a.hi b.hi }

from-ends : (lo hi : ℤ) → int_le (negsuc 2147483647) lo ≡ true → int_le hi (pos 2147483647) ≡ true → inside (record { lo = lo; hi = hi }) words ≡ true
from-ends lo hi h k = and_from (int_le (negsuc 2147483647) lo) (int_le hi (pos 2147483647)) h k

lesser-short : (a b : Interval) → inside a words ≡ true → inside b words ≡ true → inside (lesser a b) words ≡ true
lesser-short a b h k =
    let i = ends a h in let j = ends b k in
    from-ends (int_min a.lo b.lo) (int_min a.hi b.hi) (min-low (negsuc 2147483647) a.lo b.lo i.0 j.0) (min-high (pos 2147483647) a.hi b.hi i.1 j.1)

greater-short : (a b : Interval) → inside a words ≡ true → inside b words ≡ true → inside (greater a b) words ≡ true
greater-short a b h k =
    let i = ends a h in let j = ends b k in
    from-ends (int_max a.lo b.lo) (int_max a.hi b.hi) (max-low (negsuc 2147483647) a.lo b.lo i.0 j.0) (max-high (pos 2147483647) a.hi b.hi i.1 j.1)

hull-short : (a b : Interval) → inside a words ≡ true → inside b words ≡ true → inside (hull a b) words ≡ true
hull-short a b h k =
    let i = ends a h in let j = ends b k in
    from-ends (int_min a.lo b.lo) (int_max a.hi b.hi) (min-low (negsuc 2147483647) a.lo b.lo i.0 j.0) (max-high (pos 2147483647) a.hi b.hi i.1 j.1)

binary-short : (op : Op) (a b : Interval) → sum_fits op (binary_range op a b) ≡ true → inside (binary_range op a b) words ≡ true
binary-short ops.Add a b h = h
binary-short ops.Sub a b h = h
binary-short _ a b h = refl

module _ (signatures : List Signature) (scope : Scope) (bound : IsShortScope scope) (codomains : AreShortSignatures signatures) where
  abbrev IsShortTerm : ResolvedTerm → Type 0
  IsShortTerm t = short_numbers t ≡ true → sums_fit signatures scope t ≡ true → is_short signatures scope t ≡ true

  abbrev Shorts : Type 0
  Shorts = (t : ResolvedTerm) × IsShortTerm t

  abbrev part : Shorts → ResolvedTerm
  part s = s.0

  abbrev ShortLayer : ResolvedTerm-F ResolvedTerm → Type 0
  ShortLayer x = short_numbers_by (map-ResolvedTerm ResolvedTerm Bool short_numbers x) ≡ true → sums_fit_by signatures scope (map-ResolvedTerm ResolvedTerm Part (judged signatures scope) x) ≡ true
      → short_by signatures scope (map-ResolvedTerm ResolvedTerm Part (measured signatures scope) x) ≡ true

  var-short : (o : Option Interval) → IfSome o (λ i. inside i words ≡ true) → is_some o ≡ true → inside (unwrap_or o (just (pos 0))) words ≡ true
  var-short None b h = absurd cc
  var-short (Some i) b h = b

  all-short : (ts : List Shorts) → list_all (λ (b : Bool). b) (map short_numbers (map part ts)) ≡ true → list_all (sums_fit signatures scope) (map part ts) ≡ true
      → list_all (λ (p : Part). p.1) (map (measured signatures scope) (map part ts)) ≡ true
  all-short [] s h = refl
  all-short (t ∷ ts) s h =
      let m = and_parts (short_numbers t.0) (list_all (λ (b : Bool). b) (map short_numbers (map part ts))) s in
      let p = and_parts (sums_fit signatures scope t.0) (list_all (sums_fit signatures scope) (map part ts)) h in
      and_from (is_short signatures scope t.0) _ (t.1 m.0 p.0) (all-short ts m.1 p.1)

  short-layer : (x : ResolvedTerm-F Shorts) → ShortLayer (map-ResolvedTerm Shorts ResolvedTerm part x)
  short-layer (ResolvedTerm-F.Number v) s h = and_from (inside (just v) words) true s refl
  short-layer (ResolvedTerm-F.Var b) s h = and_from (inside (unwrap_or (scope b) (just (pos 0))) words) (is_some (scope b)) (var-short (scope b) (bound b) h) h
  short-layer (ResolvedTerm-F.Read fun ts) s h =
      and_from (inside (codomain_range (slice_get signatures fun)) words) _ (codomains fun) (all-short ts s (sym (sums_read signatures scope fun (map part ts)) ∙ h))
  short-layer (ResolvedTerm-F.Binary op l r) s h =
      let p = and_parts (sums_fit signatures scope l.0 && sums_fit signatures scope r.0) (sum_fits op (binary_range op (range signatures scope l.0) (range signatures scope r.0))) h in
      let m = and_parts (sums_fit signatures scope l.0) (sums_fit signatures scope r.0) p.0 in let n = and_parts (short_numbers l.0) (short_numbers r.0) s in
      and_from (inside (binary_range op (range signatures scope l.0) (range signatures scope r.0)) words) (is_short signatures scope l.0 && is_short signatures scope r.0) (binary-short op (range signatures scope l.0) (range signatures scope r.0) p.1)
      (and_from (is_short signatures scope l.0) (is_short signatures scope r.0) (l.1 n.0 m.0) (r.1 n.1 m.1))
  short-layer (ResolvedTerm-F.Not t) s h = and_from true (is_short signatures scope t.0) refl (t.1 s h)
  short-layer (ResolvedTerm-F.Min l r) s h =
      let m = and_parts (sums_fit signatures scope l.0) (sums_fit signatures scope r.0) h in let n = and_parts (short_numbers l.0) (short_numbers r.0) s in
      let a = l.1 n.0 m.0 in let b = r.1 n.1 m.1 in
      and_from (inside (lesser (range signatures scope l.0) (range signatures scope r.0)) words) (is_short signatures scope l.0 && is_short signatures scope r.0) (lesser-short (range signatures scope l.0) (range signatures scope r.0) (range-short signatures scope l.0 a) (range-short signatures scope r.0 b)) (and_from (is_short signatures scope l.0) (is_short signatures scope r.0) a b)
  short-layer (ResolvedTerm-F.Max l r) s h =
      let m = and_parts (sums_fit signatures scope l.0) (sums_fit signatures scope r.0) h in let n = and_parts (short_numbers l.0) (short_numbers r.0) s in
      let a = l.1 n.0 m.0 in let b = r.1 n.1 m.1 in
      and_from (inside (greater (range signatures scope l.0) (range signatures scope r.0)) words) (is_short signatures scope l.0 && is_short signatures scope r.0) (greater-short (range signatures scope l.0) (range signatures scope r.0) (range-short signatures scope l.0 a) (range-short signatures scope r.0 b)) (and_from (is_short signatures scope l.0) (is_short signatures scope r.0) a b)
  short-layer (ResolvedTerm-F.Cond g l r) s h =
      let p = and_parts (sums_fit signatures scope g.0) (sums_fit signatures scope l.0 && sums_fit signatures scope r.0) h in let m = and_parts (sums_fit signatures scope l.0) (sums_fit signatures scope r.0) p.1 in
      let q = and_parts (short_numbers g.0) (short_numbers l.0 && short_numbers r.0) s in let n = and_parts (short_numbers l.0) (short_numbers r.0) q.1 in
      let a = l.1 n.0 m.0 in let b = r.1 n.1 m.1 in
      and_from (inside (hull (range signatures scope l.0) (range signatures scope r.0)) words) (is_short signatures scope g.0 && (is_short signatures scope l.0 && is_short signatures scope r.0)) (hull-short (range signatures scope l.0) (range signatures scope r.0) (range-short signatures scope l.0 a) (range-short signatures scope r.0 b))
      (and_from (is_short signatures scope g.0) (is_short signatures scope l.0 && is_short signatures scope r.0) (g.1 q.0 p.0) (and_from (is_short signatures scope l.0) (is_short signatures scope r.0) a b))

  short-rolled : (x : ResolvedTerm-F ResolvedTerm) → ShortLayer x → IsShortTerm (roll-ResolvedTerm x)
  short-rolled x l s h = short_at x signatures scope ∙ l (sym (numbers_at x) ∙ s) (sym (sums_at x (roll-ResolvedTerm x) refl signatures scope) ∙ h)

  fits-short : (t : ResolvedTerm) → IsShortTerm t
  fits-short = ind-ResolvedTerm IsShortTerm (λ x y is. subst (λ z. IsShortTerm (roll-ResolvedTerm z)) is (short-rolled (map-ResolvedTerm Shorts ResolvedTerm part y) (short-layer y)))

pub fitting-terms-are-short : FittingTermsAreShort
fitting-terms-are-short signatures scope term bound codomains small h = fits-short signatures scope bound codomains term small h
