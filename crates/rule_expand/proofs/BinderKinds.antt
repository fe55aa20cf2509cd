-- What the binders of a program's rule are, by their places in the text.
use Rattle.std.proofs.Common.{◌≡◌, ℕ, suc, ◌+◌, ◌<◌, List, [], ◌∷◌, ◌++◌, map, length, Some, refl, sym, ap, ◌∙◌, subst, arith, zero-add}
use Rattle.std.specs.Prelude.{slice_get}
use Rattle.std.proofs.lemmas.List.{length-append, length-map}
use Rattle.std.proofs.lemmas.List.Sums.{sum_by-cons}
use Rattle.std.specs.List.{sum}
use Rattle.asm_names.specs.declared.program.Resolved.{Resolved}
use Rattle.asm_names.specs.declared.binders.Binder.{Binder}
use Rattle.asm_names.specs.declared.resolved_rule.ResolvedRule.{ResolvedRule, ResolvedRule-F, roll-ResolvedRule, fold-roll-ResolvedRule, ind-ResolvedRule, map-ResolvedRule}
use Rattle.asm_names.specs.{Binders.{Numbered, joined, binders_by, binders_in, binder_of, kinds_in}, ResolvedPlaces.{resolved_rule_binders, resolved_rule_binders_by}, WellFormed.{IsWellFormed}}
use Rattle.asm_names.proofs.{BinderRows.{binder-place, kinds-count}, ResolvedLevels.{binders_of}}

pub binders_at : (x : ResolvedRule-F ResolvedRule) → binders_in (roll-ResolvedRule x) ≡ binders_by (map-ResolvedRule ResolvedRule Numbered binders_in x)
unfolding binders_in
binders_at x = fold-roll-ResolvedRule Numbered binders_by x

-- ---- how many there are

abbrev Long : ResolvedRule → Type 0
Long r = length (binders_in r) ≡ resolved_rule_binders r

abbrev Good : Type 0
Good = (r : ResolvedRule) × Long r

abbrev rule_of : Good → ResolvedRule
rule_of g = g.0

long-each : (parts : List Good) → length (joined (map binders_in (map rule_of parts))) ≡ sum (map resolved_rule_binders (map rule_of parts))
long-each [] = refl
long-each (p ∷ parts) =
    omega (arith, length-append (binders_in p.0) (joined (map binders_in (map rule_of parts))), p.1, long-each parts, sum_by-cons (λ n. n) (resolved_rule_binders p.0) (map resolved_rule_binders (map rule_of parts)))

long-layer : (x : ResolvedRule-F Good) → length (binders_by (map-ResolvedRule ResolvedRule Numbered binders_in (map-ResolvedRule Good ResolvedRule rule_of x)))
    ≡ resolved_rule_binders_by (map-ResolvedRule ResolvedRule ℕ resolved_rule_binders (map-ResolvedRule Good ResolvedRule rule_of x))
long-layer ResolvedRule-F.Skip = refl
long-layer (ResolvedRule-F.Update fun args value) = refl
long-layer (ResolvedRule-F.If g t e w) = omega (arith, length-append (binders_in t.0) (binders_in e.0), t.1, e.1)
long-layer (ResolvedRule-F.Par parts) = long-each parts
long-layer (ResolvedRule-F.Forall b d g gd body) = omega (arith, body.1)
long-layer (ResolvedRule-F.Choose b d g body e w) = omega (arith, length-append (binders_in body.0) (binders_in e.0), body.1, e.1)
long-layer (ResolvedRule-F.Let b v body) = omega (arith, body.1)

pub binders-long : (r : ResolvedRule) → Long r
binders-long = ind-ResolvedRule Long
    (λ x y is. subst (λ z. Long (roll-ResolvedRule z)) is
    (let z = map-ResolvedRule Good ResolvedRule rule_of y in ap length (binders_at z) ∙ long-layer y ∙ sym (binders_of z (roll-ResolvedRule z) refl)))

-- ---- what they are

module _ (program : Resolved) where
  -- the binders with the numbers from this one on are these
  abbrev pub Follows : ℕ → Numbered → Type 0
  Follows from [] = Unit {0}
  Follows from (entry ∷ entries) = (binder_of program.rule from ≡ Some entry.1) × Follows (from + 1) entries

  pub follows-append : (xs ys : Numbered) (from : ℕ) → Follows from (xs ++ ys) → Follows from xs × Follows (from + length xs) ys
  follows-append [] ys from h = (tt, subst (λ n. Follows n ys) (omega arith) h)
  follows-append (x ∷ xs) ys from h = let p = follows-append xs ys (from + 1) h.1 in ((h.0, p.0), subst (λ n. Follows n ys) (omega arith) p.1)

  -- those of one rule before those of others
  pub follows-rule : (r : ResolvedRule) (ys : Numbered) (from : ℕ) → Follows from (binders_in r ++ ys) → Follows from (binders_in r) × Follows (from + resolved_rule_binders r) ys
  follows-rule r ys from h = let p = follows-append (binders_in r) ys from h in (p.0, subst (λ n. Follows (from + n) ys) (binders-long r) p.1)

  follow : (from : ℕ) (es : Numbered) → ((i : ℕ) → i < length es → binder_of program.rule (from + i) ≡ slice_get (map (λ entry. entry.1) es) i) → Follows from es
  follow from [] f = tt
  follow from (e ∷ es) f =
      (ap (binder_of program.rule) (omega arith) ∙ f 0 (omega arith), follow (from + 1) es (λ i small. ap (binder_of program.rule) (omega arith) ∙ f (suc i) (omega (arith, small))))

  pub rule-follows : IsWellFormed program → Follows 0 (binders_in program.rule)
  unfolding kinds_in
  rule-follows formed =
      follow 0 (binders_in program.rule)
      (λ i small. ap (binder_of program.rule) (zero-add i) ∙ binder-place program formed i
      (omega (arith, small, length-map (binders_in program.rule) (λ (entry : ℕ × Binder). entry.1), kinds-count program formed)))
