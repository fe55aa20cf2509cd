-- The sums of instances fit.
use Rattle.std.proofs.Common.{◌≡◌, ℕ, ℤ, pos, ◌≤ℤ◌, T, Bool, true, false, List, [], ◌∷◌, map, Option, Some, None, refl, sym, ap, ◌∙◌, subst, arith}
use Rattle.std.specs.{Prelude.{slice_index_or, is_some, IfSome}, List.{list_all}, Option.{unwrap_or}}
use Rattle.std.proofs.lemmas.{Bool.{and_parts, and_from}, Int.{ints, clamps}}
use Rattle.asm_tree.specs.declared.term.Op.{Op}
use Rattle.asm_tree.specs.declared.term.Op.TheVariants as ops
use Rattle.asm_names.specs.declared.{program.Interval.{Interval}, resolved_term.ResolvedTerm.{ResolvedTerm, ResolvedTerm-F, roll-ResolvedTerm, ind-ResolvedTerm, map-ResolvedTerm}}
use Rattle.asm_names.specs.declared.resolved_term.ResolvedTerm.TheVariants as terms
use Rattle.state_space.specs.declared.signature.Signature.{Signature}
use Rattle.state_space.specs.Codomains.{just}
use Rattle.asm_ranges.specs.{Ranges.{Scope, Part, truths, words, range, range_by, inside, sum_fits, binary_range, sums_fit, sums_fit_by}, Instances.{Numbers, instance, instance_by, number_or}}
use Rattle.asm_ranges.proofs.Levels.{judged, sums_read, range_at, sums_at}
use Rattle.rule_expand.proofs.{TermLevels.{instance_at}, Binding.{Inside, Stands, Covers}}

-- ---- narrower intervals

pub inside-self : (a : Interval) → Inside a a
inside-self a = record { low = omega (arith, ints); high = omega (arith, ints) }

pub true-of : (b : Bool) → T b → b ≡ true
true-of true h = refl
true-of false h = absurd h

within : (a b c : Interval) → Inside a b → inside b c ≡ true → inside a c ≡ true
within a b c h k =
    let p = and_parts _ _ k in
    let low : c.lo ≤ℤ b.lo = record { le = subst T (sym p.0) tt } in
    let high : b.hi ≤ℤ c.hi = record { le = subst T (sym p.1) tt } in
    let l : c.lo ≤ℤ a.lo = omega (arith, ints, low, h.low) in
    let r : a.hi ≤ℤ c.hi = omega (arith, ints, high, h.high) in
    and_from _ _ (true-of _ l.le) (true-of _ r.le)

binary-inside : (op : Op) (a b a' b' : Interval) → Inside a' a → Inside b' b → Inside (binary_range op a' b') (binary_range op a b)
binary-inside ops.Add a b a' b' p q = record { low = omega (arith, ints, p.low, q.low); high = omega (arith, ints, p.high, q.high) }
binary-inside ops.Sub a b a' b' p q = record { low = omega (arith, ints, p.low, q.high); high = omega (arith, ints, p.high, q.low) }
binary-inside _ a b a' b' p q = inside-self truths

sum-narrower : (op : Op) (a b : Interval) → Inside a b → sum_fits op b ≡ true → sum_fits op a ≡ true
sum-narrower ops.Add a b h k = within a b words h k
sum-narrower ops.Sub a b h k = within a b words h k
sum-narrower _ a b h k = refl

-- ---- the sums of an instance fit, in the scope that is left

module _ (signatures : List Signature) (numbers : Numbers) (own scope : Scope) (covers : Covers numbers own scope) where
  -- an instance of the term
  abbrev after : ResolvedTerm → ResolvedTerm
  after = instance numbers

  abbrev Fit : ResolvedTerm → Type 0
  Fit t = sums_fit signatures scope t ≡ true → (sums_fit signatures own (after t) ≡ true) × Inside (range signatures own (after t)) (range signatures scope t)

  abbrev Good : Type 0
  Good = (t : ResolvedTerm) × Fit t

  abbrev term : Good → ResolvedTerm
  term g = g.0

  abbrev Layer : ResolvedTerm-F ResolvedTerm → Type 0
  Layer x =
      sums_fit_by signatures scope (map-ResolvedTerm ResolvedTerm Part (judged signatures scope) x) ≡ true
      → (sums_fit signatures own (instance_by numbers (map-ResolvedTerm ResolvedTerm ResolvedTerm after x)) ≡ true)
      × Inside (range signatures own (instance_by numbers (map-ResolvedTerm ResolvedTerm ResolvedTerm after x))) (range_by signatures scope (map-ResolvedTerm ResolvedTerm Interval (range signatures scope) x))

  -- what is shown of a term by its level
  shown : (x : ResolvedTerm-F ResolvedTerm) (t : ResolvedTerm) → roll-ResolvedTerm x ≡ t → (i : Interval)
      → sums_fit_by signatures own (map-ResolvedTerm ResolvedTerm Part (judged signatures own) x) ≡ true → Inside (range_by signatures own (map-ResolvedTerm ResolvedTerm Interval (range signatures own) x)) i
      → (sums_fit signatures own t ≡ true) × Inside (range signatures own t) i
  shown x t e i h k = (sums_at x t e signatures own ∙ h, subst (λ j. Inside j i) (sym (range_at x t e signatures own)) k)

  var : (n : Option ℤ) (o s : Option Interval) (b : ℕ) → own b ≡ o → IfSome s (λ i. Stands n o i) → is_some s ≡ true
      → (sums_fit signatures own (number_or n b) ≡ true) × Inside (range signatures own (number_or n b)) (unwrap_or s (just (pos 0)))
  var n o None b e h k = absurd cc
  var (Some v) o (Some i) b e h k = shown (ResolvedTerm-F.Number v) (terms.Number v) (terms.rolls-Number v) i refl (record { low = h.low; high = h.high })
  var None None (Some i) b e h k = absurd h
  var None (Some j) (Some i) b e h k =
      shown (ResolvedTerm-F.Var b) (terms.Var b) (terms.rolls-Var b) i (ap is_some e) (subst (λ (o : Option Interval). Inside (unwrap_or o (just (pos 0))) i) (sym e) h)

  all_after : (ts : List Good) → list_all (sums_fit signatures scope) (map term ts) ≡ true → list_all (sums_fit signatures own) (map after (map term ts)) ≡ true
  all_after [] h = refl
  all_after (t ∷ ts) h = let p = and_parts _ _ h in and_from _ _ (t.1 p.0).0 (all_after ts p.1)

  layer : (x : ResolvedTerm-F Good) → Layer (map-ResolvedTerm Good ResolvedTerm term x)
  layer (ResolvedTerm-F.Number v) h = shown (ResolvedTerm-F.Number v) (terms.Number v) (terms.rolls-Number v) (just v) refl (inside-self (just v))
  layer (ResolvedTerm-F.Var b) h = var (slice_index_or numbers b None) (own b) (scope b) b refl (covers b) h
  layer (ResolvedTerm-F.Read fun ts) h =
      let all = all_after ts (sym (sums_read signatures scope fun (map term ts)) ∙ h) in
      shown (ResolvedTerm-F.Read fun (map after (map term ts))) _ (terms.rolls-Read fun (map after (map term ts))) _ (sums_read signatures own fun (map after (map term ts)) ∙ all) (inside-self _)
  layer (ResolvedTerm-F.Binary op l r) h =
      let p = and_parts _ _ h in
      let q = and_parts _ _ p.0 in
      let a = l.1 q.0 in
      let b = r.1 q.1 in
      let narrow = binary-inside op (range signatures scope l.0) (range signatures scope r.0) (range signatures own (after l.0)) (range signatures own (after r.0)) a.1 b.1 in
      shown (ResolvedTerm-F.Binary op (after l.0) (after r.0)) _ (terms.rolls-Binary op (after l.0) (after r.0)) _ (and_from _ _ (and_from _ _ a.0 b.0) (sum-narrower op _ _ narrow p.1)) narrow
  layer (ResolvedTerm-F.Not t) h = shown (ResolvedTerm-F.Not (after t.0)) _ (terms.rolls-Not (after t.0)) _ (t.1 h).0 (inside-self truths)
  layer (ResolvedTerm-F.Min l r) h =
      let p = and_parts _ _ h in
      let a = l.1 p.0 in
      let b = r.1 p.1 in
      shown (ResolvedTerm-F.Min (after l.0) (after r.0)) _ (terms.rolls-Min (after l.0) (after r.0)) _ (and_from _ _ a.0 b.0)
      (record { low = omega (arith, ints, clamps, a.1.low, b.1.low); high = omega (arith, ints, clamps, a.1.high, b.1.high) })
  layer (ResolvedTerm-F.Max l r) h =
      let p = and_parts _ _ h in
      let a = l.1 p.0 in
      let b = r.1 p.1 in
      shown (ResolvedTerm-F.Max (after l.0) (after r.0)) _ (terms.rolls-Max (after l.0) (after r.0)) _ (and_from _ _ a.0 b.0)
      (record { low = omega (arith, ints, clamps, a.1.low, b.1.low); high = omega (arith, ints, clamps, a.1.high, b.1.high) })
  layer (ResolvedTerm-F.Cond g l r) h =
      let p = and_parts _ _ h in
      let q = and_parts _ _ p.1 in
      let a = l.1 q.0 in
      let b = r.1 q.1 in
      shown (ResolvedTerm-F.Cond (after g.0) (after l.0) (after r.0)) _ (terms.rolls-Cond (after g.0) (after l.0) (after r.0)) _
      (and_from _ _ (g.1 p.0).0 (and_from _ _ a.0 b.0))
      (record { low = omega (arith, ints, clamps, a.1.low, b.1.low); high = omega (arith, ints, clamps, a.1.high, b.1.high) })

  rolled : (x : ResolvedTerm-F ResolvedTerm) → Layer x → Fit (roll-ResolvedTerm x)
  rolled x one h =
      rw (instance_at x (roll-ResolvedTerm x) refl numbers, range_at x (roll-ResolvedTerm x) refl signatures scope)
      (one (sym (sums_at x (roll-ResolvedTerm x) refl signatures scope) ∙ h))

  pub instance_sums : (t : ResolvedTerm) → Fit t
  instance_sums = ind-ResolvedTerm Fit (λ x y is. subst (λ z. Fit (roll-ResolvedTerm z)) is (rolled (map-ResolvedTerm Good ResolvedTerm term y) (layer y)))
