-- Instances of terms are defined where the terms are, and their sums fit.
use Rattle.std.proofs.Common.{◌≡◌, ℕ, ℤ, pos, true, ◌&&◌, List, [], ◌∷◌, map, Option, Some, None, refl, sym, ap, ◌∙◌, subst, arith, ◌≤ℤ◌}
use Rattle.std.{specs.{Prelude.{slice_index_or, is_some, IfSome}, List.{list_all}, Option.{unwrap_or}}, proofs.lemmas.{Bool.{and_parts, and_from}, Int.{ints, clamps}}}
use Rattle.asm_tree.specs.declared.term.Op.{Op}
use Rattle.asm_names.specs.declared.{program.{Interval.{Interval}, Resolved.{Resolved}}, resolved_term.ResolvedTerm.{ResolvedTerm, ResolvedTerm-F, roll-ResolvedTerm, fold-roll-ResolvedTerm, ind-ResolvedTerm, map-ResolvedTerm}}
use Rattle.state_space.specs.{declared.signature.Signature.{Signature}, Codomains.{In, just}}
use Rattle.asm_ranges.specs.{Ranges.{Scope, range, range_by, sums_fit, sums_fit_by, sum_fits, binary_range, inside, words, truths, Part}, Values.{value, defined, defined_by, Definite}, Instances.{Numbers, NumbersFit, number_or, instance, instance_by, numbered_env}}
use Rattle.asm_ranges.proofs.{Levels.{judged, definite, defined_read, sums_read, range_at, sums_at, defined_at}, InstanceValues.{instance_value}, Cuts.{at-most, is-at-most}}
use Rattle.asm_tree.specs.declared.term.Op.TheVariants as ops
use Rattle.asm_names.specs.declared.resolved_term.ResolvedTerm.TheVariants as terms

-- one interval lies in another
pub record Within (a b : Interval) : Type 0 where
  pub low : b.lo ≤ℤ a.lo
  pub high : a.hi ≤ℤ b.hi

within-inside : (a b : Interval) → Within a b → inside b words ≡ true → inside a words ≡ true
within-inside a b w h =
    let p = and_parts _ _ h in
    let low = at-most words.lo b.lo p.0 in
    let high = at-most b.hi words.hi p.1 in
    and_from _ _ (is-at-most words.lo a.lo (omega (arith, ints, w.low, low))) (is-at-most a.hi words.hi (omega (arith, ints, w.high, high)))

within-same : (a : Interval) → Within a a
within-same a = record { low = omega (arith, ints); high = omega (arith, ints) }

binary-within : (op : Op) (a b c d : Interval) → Within a c → Within b d → Within (binary_range op a b) (binary_range op c d)
binary-within ops.Add a b c d p q = record { low = omega (arith, ints, p.low, q.low); high = omega (arith, ints, p.high, q.high) }
binary-within ops.Sub a b c d p q = record { low = omega (arith, ints, p.low, q.high); high = omega (arith, ints, p.high, q.low) }
binary-within _ a b c d p q = within-same truths

sum-within : (op : Op) (a b : Interval) → Within a b → sum_fits op b ≡ true → sum_fits op a ≡ true
sum-within ops.Add a b w h = within-inside a b w h
sum-within ops.Sub a b w h = within-inside a b w h
sum-within _ a b w h = refl

module _ (program : Resolved) (state inputs env : List ℤ) (numbers : Numbers) where
  abbrev after : List ℤ
  after = numbered_env numbers env

  abbrev Claim : ResolvedTerm → Type 0
  Claim t = defined program state inputs env (instance numbers t) ≡ defined program state inputs after t

  abbrev Sound : Type 0
  Sound = (t : ResolvedTerm) × Claim t

  abbrev term : Sound → ResolvedTerm
  term s = s.0

  abbrev Layer : ResolvedTerm-F ResolvedTerm → Type 0
  Layer x =
      defined program state inputs env (instance_by numbers (map-ResolvedTerm ResolvedTerm ResolvedTerm (instance numbers) x))
      ≡ defined_by program state inputs after (map-ResolvedTerm ResolvedTerm Definite (definite program state inputs after) x)

  var : (o : Option ℤ) (b : ℕ) → defined program state inputs env (number_or o b) ≡ true
  var None b = defined_at (ResolvedTerm-F.Var b) _ (terms.rolls-Var b) program state inputs env
  var (Some n) b = defined_at (ResolvedTerm-F.Number n) _ (terms.rolls-Number n) program state inputs env

  values : (ts : List Sound) → map (value program state inputs env) (map (instance numbers) (map term ts)) ≡ map (value program state inputs after) (map term ts)
  values [] = refl
  values (t ∷ ts) = rw (instance_value program state inputs env numbers t.0, values ts) refl

  all : (ts : List Sound) → list_all (defined program state inputs env) (map (instance numbers) (map term ts)) ≡ list_all (defined program state inputs after) (map term ts)
  all [] = refl
  all (t ∷ ts) = rw (t.1, all ts) refl

  at : (x : ResolvedTerm-F ResolvedTerm) (t : ResolvedTerm) → roll-ResolvedTerm x ≡ t → defined program state inputs env t ≡ defined_by program state inputs env (map-ResolvedTerm ResolvedTerm Definite (definite program state inputs env) x)
  at x t e = defined_at x t e program state inputs env

  layer : (x : ResolvedTerm-F Sound) → Layer (map-ResolvedTerm Sound ResolvedTerm term x)
  layer (ResolvedTerm-F.Number v) = at (ResolvedTerm-F.Number v) _ (terms.rolls-Number v)
  layer (ResolvedTerm-F.Var b) = var (slice_index_or numbers b None) b
  layer (ResolvedTerm-F.Read fun ts) =
      at (ResolvedTerm-F.Read fun (map (instance numbers) (map term ts))) _ (terms.rolls-Read fun _)
      ∙ defined_read program state inputs env fun (map (instance numbers) (map term ts)) ∙ rw (all ts, values ts) refl ∙ sym (defined_read program state inputs after fun (map term ts))
  layer (ResolvedTerm-F.Binary op l r) = at (ResolvedTerm-F.Binary op (instance numbers l.0) (instance numbers r.0)) _ (terms.rolls-Binary op _ _) ∙ rw (l.1, r.1) refl
  layer (ResolvedTerm-F.Not t) = at (ResolvedTerm-F.Not (instance numbers t.0)) _ (terms.rolls-Not _) ∙ t.1
  layer (ResolvedTerm-F.Min l r) = at (ResolvedTerm-F.Min (instance numbers l.0) (instance numbers r.0)) _ (terms.rolls-Min _ _) ∙ rw (l.1, r.1) refl
  layer (ResolvedTerm-F.Max l r) = at (ResolvedTerm-F.Max (instance numbers l.0) (instance numbers r.0)) _ (terms.rolls-Max _ _) ∙ rw (l.1, r.1) refl
  layer (ResolvedTerm-F.Cond g l r) =
      at (ResolvedTerm-F.Cond (instance numbers g.0) (instance numbers l.0) (instance numbers r.0)) _ (terms.rolls-Cond _ _ _)
      ∙ rw (g.1, l.1, r.1, instance_value program state inputs env numbers g.0) refl

  rolled : (x : ResolvedTerm-F ResolvedTerm) → Layer x → Claim (roll-ResolvedTerm x)
  unfolding instance
  rolled x one = ap (defined program state inputs env) (fold-roll-ResolvedTerm ResolvedTerm (instance_by numbers) x) ∙ (one ∙ sym (defined_at x (roll-ResolvedTerm x) refl program state inputs after))

  -- an instance is defined where the term is
  pub instance_defined : (t : ResolvedTerm) → Claim t
  instance_defined = ind-ResolvedTerm Claim (λ x y is. subst (λ z. Claim (roll-ResolvedTerm z)) is (rolled (map-ResolvedTerm Sound ResolvedTerm term y) (layer y)))

-- the instance may stand where the binders with numbers are not in scope
module _ (signatures : List Signature) (scope inner : Scope) (numbers : Numbers) (fit : NumbersFit scope numbers) (same : (b : ℕ) → slice_index_or numbers b None ≡ None → inner b ≡ scope b) where
  abbrev Narrow : ResolvedTerm → Type 0
  Narrow t = sums_fit signatures scope t ≡ true → Within (range signatures inner (instance numbers t)) (range signatures scope t) × (sums_fit signatures inner (instance numbers t) ≡ true)

  abbrev Small : Type 0
  Small = (t : ResolvedTerm) × Narrow t

  abbrev small_term : Small → ResolvedTerm
  small_term s = s.0

  abbrev NarrowLayer : ResolvedTerm-F ResolvedTerm → Type 0
  NarrowLayer x =
      sums_fit_by signatures scope (map-ResolvedTerm ResolvedTerm Part (judged signatures scope) x) ≡ true
      → Within (range signatures inner (instance_by numbers (map-ResolvedTerm ResolvedTerm ResolvedTerm (instance numbers) x))) (range_by signatures scope (map-ResolvedTerm ResolvedTerm Interval (range signatures scope) x))
      × (sums_fit signatures inner (instance_by numbers (map-ResolvedTerm ResolvedTerm ResolvedTerm (instance numbers) x)) ≡ true)

  abbrev Answer : ResolvedTerm → Interval → Type 0
  Answer t whole = Within (range signatures inner t) whole × (sums_fit signatures inner t ≡ true)

  from : (x : ResolvedTerm-F ResolvedTerm) (t : ResolvedTerm) → roll-ResolvedTerm x ≡ t → (whole : Interval)
      → Within (range_by signatures inner (map-ResolvedTerm ResolvedTerm Interval (range signatures inner) x)) whole
      → sums_fit_by signatures inner (map-ResolvedTerm ResolvedTerm Part (judged signatures inner) x) ≡ true → Answer t whole
  from x t e whole w h = (subst (λ (i : Interval). Within i whole) (sym (range_at x t e signatures inner)) w, sums_at x t e signatures inner ∙ h)

  narrow-var : (b : ℕ) (o : Option Interval) (n : Option ℤ) → scope b ≡ o → (n ≡ None → inner b ≡ o) → IfSome n (λ number. IfSome o (λ interval. In interval number)) → is_some o ≡ true
      → Answer (number_or n b) (unwrap_or o (just (pos 0)))
  narrow-var b None n e f k h = absurd cc
  narrow-var b (Some i) None e f k h = from (ResolvedTerm-F.Var b) _ (terms.rolls-Var b) i (rw (f refl) (within-same i)) (ap is_some (f refl))
  narrow-var b (Some i) (Some v) e f k h = from (ResolvedTerm-F.Number v) _ (terms.rolls-Number v) i (record { low = k.low; high = k.high }) refl

  args-narrow : (ts : List Small) → list_all (sums_fit signatures scope) (map small_term ts) ≡ true → list_all (sums_fit signatures inner) (map (instance numbers) (map small_term ts)) ≡ true
  args-narrow [] h = refl
  args-narrow (t ∷ ts) h = let p = and_parts _ _ h in and_from _ _ (t.1 p.0).1 (args-narrow ts p.1)

  pair : (l r : Small) → (sums_fit signatures scope l.0 && sums_fit signatures scope r.0) ≡ true
      → Within (range signatures inner (instance numbers l.0)) (range signatures scope l.0) × Within (range signatures inner (instance numbers r.0)) (range signatures scope r.0)
      × ((sums_fit signatures inner (instance numbers l.0) && sums_fit signatures inner (instance numbers r.0)) ≡ true)
  pair l r h =
      let p = and_parts _ _ h in
      let a = l.1 p.0 in
      let b = r.1 p.1 in
      (a.0, b.0, and_from _ _ a.1 b.1)

  narrow-layer : (x : ResolvedTerm-F Small) → NarrowLayer (map-ResolvedTerm Small ResolvedTerm small_term x)
  narrow-layer (ResolvedTerm-F.Number v) h = from (ResolvedTerm-F.Number v) _ (terms.rolls-Number v) _ (within-same _) refl
  narrow-layer (ResolvedTerm-F.Var b) h = narrow-var b (scope b) (slice_index_or numbers b None) refl (same b) (fit b) h
  narrow-layer (ResolvedTerm-F.Read fun ts) h =
      from (ResolvedTerm-F.Read fun (map (instance numbers) (map small_term ts))) _ (terms.rolls-Read fun _) _ (within-same _)
      (sums_read signatures inner fun _ ∙ args-narrow ts (sym (sums_read signatures scope fun (map small_term ts)) ∙ h))
  narrow-layer (ResolvedTerm-F.Binary op l r) h =
      let p = and_parts _ _ h in
      let q = pair l r p.0 in
      let w = binary-within op _ _ _ _ q.0 q.1 in
      from (ResolvedTerm-F.Binary op (instance numbers l.0) (instance numbers r.0)) _ (terms.rolls-Binary op _ _) _ w (and_from _ _ q.2 (sum-within op _ _ w p.1))
  narrow-layer (ResolvedTerm-F.Not t) h = from (ResolvedTerm-F.Not (instance numbers t.0)) _ (terms.rolls-Not _) _ (within-same _) (t.1 h).1
  narrow-layer (ResolvedTerm-F.Min l r) h =
      let q = pair l r h in
      from (ResolvedTerm-F.Min (instance numbers l.0) (instance numbers r.0)) _ (terms.rolls-Min _ _) _
      (record { low = omega (arith, ints, clamps, q.0.low, q.1.low); high = omega (arith, ints, clamps, q.0.high, q.1.high) }) q.2
  narrow-layer (ResolvedTerm-F.Max l r) h =
      let q = pair l r h in
      from (ResolvedTerm-F.Max (instance numbers l.0) (instance numbers r.0)) _ (terms.rolls-Max _ _) _
      (record { low = omega (arith, ints, clamps, q.0.low, q.1.low); high = omega (arith, ints, clamps, q.0.high, q.1.high) }) q.2
  narrow-layer (ResolvedTerm-F.Cond g l r) h =
      let p = and_parts _ _ h in
      let q = pair l r p.1 in
      from (ResolvedTerm-F.Cond (instance numbers g.0) (instance numbers l.0) (instance numbers r.0)) _ (terms.rolls-Cond _ _ _) _
      (record { low = omega (arith, ints, clamps, q.0.low, q.1.low); high = omega (arith, ints, clamps, q.0.high, q.1.high) }) (and_from _ _ (g.1 p.0).1 q.2)

  narrow-rolled : (x : ResolvedTerm-F ResolvedTerm) → NarrowLayer x → Narrow (roll-ResolvedTerm x)
  unfolding instance
  narrow-rolled x one h =
      let l = one (sym (sums_at x (roll-ResolvedTerm x) refl signatures scope) ∙ h) in
      let e = fold-roll-ResolvedTerm ResolvedTerm (instance_by numbers) x in
      rw (e, range_at x (roll-ResolvedTerm x) refl signatures scope) l

  -- the sums of an instance fit where those of the term do
  pub instance_narrow : (t : ResolvedTerm) → Narrow t
  instance_narrow = ind-ResolvedTerm Narrow (λ x y is. subst (λ z. Narrow (roll-ResolvedTerm z)) is (narrow-rolled (map-ResolvedTerm Small ResolvedTerm small_term y) (narrow-layer y)))
