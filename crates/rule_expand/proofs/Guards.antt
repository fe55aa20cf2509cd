-- A guard that the text doesn't have always holds.
use Rattle.std.proofs.Common.{◌≡◌, ◌&&◌, ℕ, ◌+◌, ℤ, pos, negsuc, Bool, true, false, List, [], ◌∷◌, map, refl, sym, ap, ◌∙◌, subst}
use Rattle.std.specs.Prelude.{nat_lt}
use Rattle.std.specs.List.{list_all}
use Rattle.std.proofs.lemmas.Bool.{and_parts, and_from, eqb-true}
use Rattle.asm_tree.specs.declared.term.Op.TheVariants as ops
use Rattle.asm_names.specs.declared.{program.{Resolved.{Resolved}}, resolved_term.ResolvedTerm.{ResolvedTerm, ResolvedTerm-F, roll-ResolvedTerm, out-ResolvedTerm, roll-out-ResolvedTerm}}
use Rattle.asm_names.specs.declared.resolved_rule.ResolvedRule.{ResolvedRule, ResolvedRule-F, roll-ResolvedRule, fold-ResolvedRule, fold-roll-ResolvedRule, ind-ResolvedRule, map-ResolvedRule}
use Rattle.asm_names.specs.declared.resolved_term.ResolvedTerm.TheVariants as terms
use Rattle.asm_names.specs.WellFormed.{Bound, RulePart, new_binder, has_domain, is_truth, sort_of, else_stands, guard_stands, is_always_by, is_zero_by, rule_named, named_by, each_named}
use Rattle.asm_names.specs.ResolvedPlaces.{resolved_rule_binders}
use Rattle.asm_names.proofs.ResolvedLevels.{named, named_at}
use Rattle.asm_ranges.specs.Values.{value, holds}
use Rattle.asm_ranges.proofs.Equations.{value-Number, value-Binary}

-- ---- the term `(0 = 0)`

module _ (program : Resolved) (state inputs env : List ℤ) where
  zero-at : (x : ResolvedTerm-F ResolvedTerm) → is_zero_by x ≡ true → value program state inputs env (roll-ResolvedTerm x) ≡ pos 0
  zero-at (ResolvedTerm-F.Number (pos n)) h =
      ap (value program state inputs env) (terms.rolls-Number (pos n)) ∙ value-Number program state inputs env (pos n) ∙ ap pos (eqb-true n 0 h)
  zero-at (ResolvedTerm-F.Number (negsuc n)) h = absurd cc
  zero-at (ResolvedTerm-F.Var b) h = absurd cc
  zero-at (ResolvedTerm-F.Read fun args) h = absurd cc
  zero-at (ResolvedTerm-F.Binary op l r) h = absurd cc
  zero-at (ResolvedTerm-F.Not t) h = absurd cc
  zero-at (ResolvedTerm-F.Min l r) h = absurd cc
  zero-at (ResolvedTerm-F.Max l r) h = absurd cc
  zero-at (ResolvedTerm-F.Cond g l r) h = absurd cc

  zero-is : (t : ResolvedTerm) → is_zero_by (out-ResolvedTerm t) ≡ true → value program state inputs env t ≡ pos 0
  zero-is t h = ap (value program state inputs env) (sym (roll-out-ResolvedTerm t)) ∙ zero-at (out-ResolvedTerm t) h

  always-at : (x : ResolvedTerm-F ResolvedTerm) → is_always_by x ≡ true → holds (value program state inputs env (roll-ResolvedTerm x)) ≡ true
  always-at (ResolvedTerm-F.Binary ops.Eq l r) h =
      let p = and_parts _ _ h in
      ap holds (ap (value program state inputs env) (terms.rolls-Binary ops.Eq l r) ∙ value-Binary program state inputs env ops.Eq l r)
      ∙ rw (zero-is l p.0, zero-is r p.1) refl
  always-at _ h = absurd cc

  -- it always holds
  pub always-holds : (guarded : Bool) (g : ResolvedTerm) → guarded ≡ false → guard_stands guarded g ≡ true → holds (value program state inputs env g) ≡ true
  always-holds true g e h = absurd cc
  always-holds false g e h = ap (λ t. holds (value program state inputs env t)) (sym (roll-out-ResolvedTerm g)) ∙ always-at (out-ResolvedTerm g) h

-- ---- rules in which each guard that the text doesn't have is this term, and each binder's number is below a count

abbrev pub rule_stands_by : ℕ → ResolvedRule-F Bool → Bool
rule_stands_by count ResolvedRule-F.Skip = true
rule_stands_by count (ResolvedRule-F.Update fun args value) = true
rule_stands_by count (ResolvedRule-F.If guard then_rule else_rule has_else) = then_rule && else_rule
rule_stands_by count (ResolvedRule-F.Par parts) = list_all (λ part. part) parts
rule_stands_by count (ResolvedRule-F.Forall binder domain guard guarded body) = nat_lt binder count && (guard_stands guarded guard && body)
rule_stands_by count (ResolvedRule-F.Choose binder domain guard body else_rule has_else) = nat_lt binder count && (body && else_rule)
rule_stands_by count (ResolvedRule-F.Let binder value body) = nat_lt binder count && body

unfoldable pub rule_stands : ℕ → ResolvedRule → Bool
rule_stands count = fold-ResolvedRule Bool (rule_stands_by count)

pub stands_at : (x : ResolvedRule-F ResolvedRule) (r : ResolvedRule) → roll-ResolvedRule x ≡ r → (count : ℕ)
    → rule_stands count r ≡ rule_stands_by count (map-ResolvedRule ResolvedRule Bool (rule_stands count) x)
unfolding rule_stands
stands_at x r e count = ap (rule_stands count) (sym e) ∙ fold-roll-ResolvedRule Bool (rule_stands_by count) x

-- several tests
pub of_five : (a b c d e : Bool) → (a && (b && (c && (d && e)))) ≡ true → (a ≡ true) × (b ≡ true) × (c ≡ true) × (d ≡ true) × (e ≡ true)
of_five a b c d e h = let p = and_parts _ _ h in let q = and_parts _ _ p.1 in let r = and_parts _ _ q.1 in let s = and_parts _ _ r.1 in (p.0, q.0, r.0, s.0, s.1)

pub of_six : (a b c d e f : Bool) → (a && (b && (c && (d && (e && f))))) ≡ true → (a ≡ true) × (b ≡ true) × (c ≡ true) × (d ≡ true) × (e ≡ true) × (f ≡ true)
of_six a b c d e f h = let p = and_parts _ _ h in let q = of_five _ _ _ _ _ p.1 in (p.0, q.0, q.1, q.2, q.3, q.4)

module _ (program : Resolved) where
  abbrev Stand : ResolvedRule → Type 0
  Stand r = (bound : Bound) (before : ℕ) → rule_named program r bound before ≡ true → rule_stands program.binders r ≡ true

  abbrev Good : Type 0
  Good = (r : ResolvedRule) × Stand r

  abbrev rule_of : Good → ResolvedRule
  rule_of g = g.0

  below : (bound : Bound) (before b : ℕ) → new_binder program bound before b ≡ true → nat_lt b program.binders ≡ true
  below bound before b h = let p = and_parts _ _ h in (and_parts _ _ p.1).0

  each : (parts : List Good) (bound : Bound) (before : ℕ) → each_named (map (named program) (map rule_of parts)) bound before ≡ true
      → list_all (λ (part : Bool). part) (map (rule_stands program.binders) (map rule_of parts)) ≡ true
  each [] bound before h = refl
  each (p ∷ parts) bound before h =
      let q = and_parts _ _ h in
      and_from _ _ (p.1 bound before q.0) (each parts bound (before + resolved_rule_binders p.0) q.1)

  layer : (x : ResolvedRule-F Good) (bound : Bound) (before : ℕ) → named_by program (map-ResolvedRule ResolvedRule RulePart (named program) (map-ResolvedRule Good ResolvedRule rule_of x)) bound before ≡ true
      → rule_stands_by program.binders (map-ResolvedRule ResolvedRule Bool (rule_stands program.binders) (map-ResolvedRule Good ResolvedRule rule_of x)) ≡ true
  layer ResolvedRule-F.Skip bound before h = refl
  layer (ResolvedRule-F.Update fun args value) bound before h = refl
  layer (ResolvedRule-F.If g t e w) bound before h =
      let p = and_parts _ _ h in
      let q = and_parts _ _ p.1 in
      let r = and_parts _ _ q.1 in
      and_from _ _ (t.1 bound before r.0) (e.1 bound (before + resolved_rule_binders t.0) r.1)
  layer (ResolvedRule-F.Par parts) bound before h = each parts bound before h
  layer (ResolvedRule-F.Forall b d g gd body) bound before h =
      let p = of_five (guard_stands gd g) (new_binder program bound before b) (has_domain program d) (is_truth (sort_of program.funs (b ∷ bound) g)) (rule_named program body.0 (b ∷ bound) (before + 1)) h in
      and_from _ _ (below bound before b p.1) (and_from _ _ p.0 (body.1 (b ∷ bound) (before + 1) p.4))
  layer (ResolvedRule-F.Choose b d g body e w) bound before h =
      let after : ℕ = before + 1 + resolved_rule_binders body.0 in
      let p = of_six (else_stands w e.0) (new_binder program bound before b) (has_domain program d) (is_truth (sort_of program.funs (b ∷ bound) g)) (rule_named program body.0 (b ∷ bound) (before + 1))
      (rule_named program e.0 bound after) h in
      and_from _ _ (below bound before b p.1) (and_from _ _ (body.1 (b ∷ bound) (before + 1) p.4) (e.1 bound after p.5))
  layer (ResolvedRule-F.Let b v body) bound before h =
      let p = and_parts _ _ h in
      let q = and_parts _ _ p.1 in
      and_from _ _ (below bound before b p.0) (body.1 (b ∷ bound) (before + 1) q.1)

  rolled : (x : ResolvedRule-F ResolvedRule)
      → ((bound : Bound) (before : ℕ) → named_by program (map-ResolvedRule ResolvedRule RulePart (named program) x) bound before ≡ true
      → rule_stands_by program.binders (map-ResolvedRule ResolvedRule Bool (rule_stands program.binders) x) ≡ true)
      → Stand (roll-ResolvedRule x)
  rolled x one bound before h = stands_at x (roll-ResolvedRule x) refl program.binders ∙ one bound before (sym (named_at x (roll-ResolvedRule x) refl program bound before) ∙ h)

  pub named_stand : (r : ResolvedRule) → Stand r
  named_stand = ind-ResolvedRule Stand (λ x y is. subst (λ z. Stand (roll-ResolvedRule z)) is (rolled (map-ResolvedRule Good ResolvedRule rule_of y) (layer y)))
