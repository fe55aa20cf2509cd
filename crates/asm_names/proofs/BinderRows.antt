-- What the binders of a rule are, one level at a time, and that their numbers are their places.
use Rattle.asm_names.proofs.Common.{◌≡◌, ◌&&◌, ℕ, zero, suc, ◌+◌, ◌<◌, Bool, true, false, cond, List, [], ◌∷◌, ◌++◌, map, length, Some, refl, sym, ap, ◌∙◌, subst, arith, nat_eq, slice_get, lookup, length-map, eq-eqb, ne_eqb}
use Rattle.asm_names.proofs.Common.{Resolved, ResolvedRule, ResolvedRule-F, roll-ResolvedRule, map-ResolvedRule, fold-roll-ResolvedRule, ResolvedTerm, resolved_rule_binders, resolved_rule_binders_by, sum, Bound, Named, named_by, each_named, rule_named, and_parts, IsWellFormed}
use Rattle.asm_names.proofs.ResolvedLevels.{named, named_at, binders_of}
use Rattle.asm_names.specs.Binders.{Numbered, joined, binders_by, binders_in, binder_of, kinds_in}
use Rattle.asm_names.specs.WellFormed.{else_stands, guard_stands, has_domain, is_truth, new_binder, sort_of}
use Rattle.asm_names.specs.declared.binders.Binder.{Binder}
use Rattle.asm_names.specs.declared.binders.Binder.TheVariants.{Element, Local}
use Rattle.asm_names.specs.declared.resolved_rule.ResolvedRule.{ind-ResolvedRule}
use Rattle.asm_names.specs.declared.resolved_rule.ResolvedRule.TheVariants as rules
use Rattle.std.proofs.lemmas.Bool.{ltb-true, eqb-true}
use Rattle.std.proofs.lemmas.List.{map-append}
use Rattle.std.proofs.lemmas.List.Sums.{sum_by-cons}

-- ---- one level

binders_at : (x : ResolvedRule-F ResolvedRule) (r : ResolvedRule) → roll-ResolvedRule x ≡ r → binders_in r ≡ binders_by (map-ResolvedRule ResolvedRule Numbered binders_in x)
unfolding binders_in
binders_at x r e = ap binders_in (sym e) ∙ fold-roll-ResolvedRule Numbered binders_by x

kinds_at : (x : ResolvedRule-F ResolvedRule) (r : ResolvedRule) → roll-ResolvedRule x ≡ r → kinds_in r ≡ map (λ entry. entry.1) (binders_by (map-ResolvedRule ResolvedRule Numbered binders_in x))
unfolding kinds_in
kinds_at x r e = ap (map (λ entry. entry.1)) (binders_at x r e)

all_kinds : (parts : List ResolvedRule) → map (λ entry. entry.1) (joined (map binders_in parts)) ≡ joined (map kinds_in parts)
unfolding kinds_in
all_kinds [] = refl
all_kinds (p ∷ parts) = map-append (λ (entry : ℕ × Binder). entry.1) (binders_in p) (joined (map binders_in parts)) ∙ ap (λ ks. kinds_in p ++ ks) (all_kinds parts)

pub kinds-Skip : kinds_in rules.Skip ≡ []
unfolding kinds_in
kinds-Skip = kinds_at _ _ rules.rolls-Skip

pub kinds-Update : (fun : ℕ) (args : List ResolvedTerm) (value : ResolvedTerm) → kinds_in (rules.Update fun args value) ≡ []
unfolding kinds_in
kinds-Update fun args value = kinds_at _ _ (rules.rolls-Update fun args value)

pub kinds-If : (guard : ResolvedTerm) (t e : ResolvedRule) (has : Bool) → kinds_in (rules.If guard t e has) ≡ kinds_in t ++ kinds_in e
unfolding kinds_in
kinds-If guard t e has = kinds_at _ _ (rules.rolls-If guard t e has) ∙ map-append (λ (entry : ℕ × Binder). entry.1) (binders_in t) (binders_in e)

pub kinds-Par : (parts : List ResolvedRule) → kinds_in (rules.Par parts) ≡ joined (map kinds_in parts)
unfolding kinds_in
kinds-Par parts = kinds_at _ _ (rules.rolls-Par parts) ∙ all_kinds parts

pub kinds-Forall : (b d : ℕ) (guard : ResolvedTerm) (guarded : Bool) (body : ResolvedRule) → kinds_in (rules.Forall b d guard guarded body) ≡ Element d ∷ kinds_in body
unfolding kinds_in
kinds-Forall b d guard guarded body = kinds_at _ _ (rules.rolls-Forall b d guard guarded body)

pub kinds-Choose : (b d : ℕ) (guard : ResolvedTerm) (body e : ResolvedRule) (has : Bool) → kinds_in (rules.Choose b d guard body e has) ≡ Element d ∷ kinds_in body ++ kinds_in e
unfolding kinds_in
kinds-Choose b d guard body e has = kinds_at _ _ (rules.rolls-Choose b d guard body e has) ∙ ap (λ ks. Element d ∷ ks) (map-append (λ (entry : ℕ × Binder). entry.1) (binders_in body) (binders_in e))

pub kinds-Let : (b : ℕ) (value : ResolvedTerm) (body : ResolvedRule) → kinds_in (rules.Let b value body) ≡ Local ∷ kinds_in body
unfolding kinds_in
kinds-Let b value body = kinds_at _ _ (rules.rolls-Let b value body)

-- ---- numbers are places

of-five : (a b c d e : Bool) → (a && (b && (c && (d && e)))) ≡ true → (b ≡ true) × (c ≡ true) × (e ≡ true)
of-five a b c d e h = let p = and_parts _ _ h in let q = and_parts _ _ p.1 in let r = and_parts _ _ q.1 in let s = and_parts _ _ r.1 in (q.0, r.0, s.1)

of-six : (a b c d e f : Bool) → (a && (b && (c && (d && (e && f))))) ≡ true → (b ≡ true) × (c ≡ true) × (e ≡ true) × (f ≡ true)
of-six a b c d e f h =
    let p = and_parts _ _ h in let q = and_parts _ _ p.1 in let r = and_parts _ _ q.1 in let s = and_parts _ _ r.1 in let t = and_parts _ _ s.1 in (q.0, r.0, t.0, t.1)

module _ (program : Resolved) where
  -- the domain of an element is there
  abbrev pub IsThere : Binder → Type 0
  IsThere (Element domain) = domain < length program.domains
  IsThere Local = Unit {0}

  -- binders are numbered from one number up to another, and the domains of elements are there
  abbrev IsRow : ℕ → Numbered → ℕ → Type 0
  IsRow from [] to = from ≡ to
  IsRow from (b ∷ bs) to = (b.0 ≡ from) × (IsThere b.1 × IsRow (from + 1) bs to)

  row-append : (a b c : ℕ) (xs ys : Numbered) → IsRow a xs b → IsRow b ys c → IsRow a (xs ++ ys) c
  row-append a b c [] ys h k = subst (λ n. IsRow n ys c) (sym h) k
  row-append a b c (x ∷ xs) ys h k = (h.0, (h.1.0, row-append (a + 1) b c xs ys h.1.1 k))

  row-ends : (a b c : ℕ) (xs : Numbered) → b ≡ c → IsRow a xs b → IsRow a xs c
  row-ends a b c xs e h = subst (IsRow a xs) e h

  abbrev Good : Type 0
  Good = (r : ResolvedRule) × ((bound : Bound) (before : ℕ) → rule_named program r bound before ≡ true → IsRow before (binders_in r) (before + resolved_rule_binders r))

  abbrev rule_of : Good → ResolvedRule
  rule_of g = g.0

  each : (parts : List Good) (bound : Bound) (before : ℕ) → each_named (map (named program) (map rule_of parts)) bound before ≡ true
      → IsRow before (joined (map binders_in (map rule_of parts))) (before + sum (map resolved_rule_binders (map rule_of parts)))
  each [] bound before h = omega arith
  each (p ∷ parts) bound before h =
      let q = and_parts _ _ h in
      let after : ℕ = before + resolved_rule_binders p.0 in
      row-ends before _ _ _ (omega (arith, sum_by-cons (λ n. n) (resolved_rule_binders p.0) (map resolved_rule_binders (map rule_of parts))))
      (row-append before after (after + sum (map resolved_rule_binders (map rule_of parts))) (binders_in p.0) (joined (map binders_in (map rule_of parts))) (p.1 bound before q.0) (each parts bound after q.1))

  layer : (x : ResolvedRule-F Good) (bound : Bound) (before : ℕ) → named_by program (map-ResolvedRule ResolvedRule Named (named program) (map-ResolvedRule Good ResolvedRule rule_of x)) bound before ≡ true
      → IsRow before (binders_by (map-ResolvedRule ResolvedRule Numbered binders_in (map-ResolvedRule Good ResolvedRule rule_of x)))
      (before + resolved_rule_binders_by (map-ResolvedRule ResolvedRule ℕ resolved_rule_binders (map-ResolvedRule Good ResolvedRule rule_of x)))
  layer ResolvedRule-F.Skip bound before h = omega arith
  layer (ResolvedRule-F.Update fun args value) bound before h = omega arith
  layer (ResolvedRule-F.If g t e w) bound before h =
      let p = and_parts _ _ h in
      let q = and_parts _ _ p.1 in
      let r = and_parts _ _ q.1 in
      let after : ℕ = before + resolved_rule_binders t.0 in
      row-ends before (after + resolved_rule_binders e.0) _ _ (omega arith) (row-append before after _ (binders_in t.0) (binders_in e.0) (t.1 bound before r.0) (e.1 bound after r.1))
  layer (ResolvedRule-F.Par parts) bound before h = each parts bound before h
  layer (ResolvedRule-F.Forall b d g gd body) bound before h =
      let p = of-five (guard_stands gd g) (new_binder program bound before b) (has_domain program d) (is_truth (sort_of program.funs (b ∷ bound) g)) (rule_named program body.0 (b ∷ bound) (before + 1)) h in
      (eqb-true b before (and_parts _ _ p.0).0, (ltb-true d (length program.domains) p.1, row-ends (before + 1) _ _ _ (omega arith) (body.1 (b ∷ bound) (before + 1) p.2)))
  layer (ResolvedRule-F.Choose b d g body e w) bound before h =
      let after : ℕ = before + 1 + resolved_rule_binders body.0 in
      let p = of-six (else_stands w e.0) (new_binder program bound before b) (has_domain program d) (is_truth (sort_of program.funs (b ∷ bound) g)) (rule_named program body.0 (b ∷ bound) (before + 1))
      (rule_named program e.0 bound after) h in (
        eqb-true b before (and_parts _ _ p.0).0,
        (
          ltb-true d (length program.domains) p.1,
          row-ends (before + 1) (after + resolved_rule_binders e.0) _ _ (omega arith) (row-append (before + 1) after _ (binders_in body.0) (binders_in e.0) (body.1 (b ∷ bound) (before + 1) p.2) (e.1 bound after p.3)),
        ),
      )
  layer (ResolvedRule-F.Let b v body) bound before h =
      let p = and_parts _ _ h in
      let q = and_parts _ _ p.1 in
      (eqb-true b before (and_parts _ _ p.0).0, (tt, row-ends (before + 1) _ _ _ (omega arith) (body.1 (b ∷ bound) (before + 1) q.1)))

  rolled : (x : ResolvedRule-F ResolvedRule)
      → ((bound : Bound) (before : ℕ) → named_by program (map-ResolvedRule ResolvedRule Named (named program) x) bound before ≡ true
      → IsRow before (binders_by (map-ResolvedRule ResolvedRule Numbered binders_in x)) (before + resolved_rule_binders_by (map-ResolvedRule ResolvedRule ℕ resolved_rule_binders x)))
      → (bound : Bound) (before : ℕ) → rule_named program (roll-ResolvedRule x) bound before ≡ true → IsRow before (binders_in (roll-ResolvedRule x)) (before + resolved_rule_binders (roll-ResolvedRule x))
  rolled x one bound before h =
      rw (binders_at x (roll-ResolvedRule x) refl, binders_of x (roll-ResolvedRule x) refl) (one bound before (sym (named_at x (roll-ResolvedRule x) refl program bound before) ∙ h))

  rows : (r : ResolvedRule) (bound : Bound) (before : ℕ) → rule_named program r bound before ≡ true → IsRow before (binders_in r) (before + resolved_rule_binders r)
  rows = ind-ResolvedRule (λ r. (bound : Bound) (before : ℕ) → rule_named program r bound before ≡ true → IsRow before (binders_in r) (before + resolved_rule_binders r))
      (λ x y is. subst (λ z. (bound : Bound) (before : ℕ) → rule_named program (roll-ResolvedRule z) bound before ≡ true → IsRow before (binders_in (roll-ResolvedRule z)) (before + resolved_rule_binders (roll-ResolvedRule z)))
      is (rolled (map-ResolvedRule Good ResolvedRule rule_of y) (layer y)))

  -- ---- what is found in a row

  row-long : (from to : ℕ) (xs : Numbered) → IsRow from xs to → from + length xs ≡ to
  row-long from to [] h = omega (arith, h)
  row-long from to (x ∷ xs) h = omega (arith, row-long (from + 1) to xs h.1.1)

  row-place : (from to : ℕ) (xs : Numbered) (i : ℕ) → IsRow from xs to → i < length xs → lookup (nat_eq (from + i)) xs ≡ slice_get (map (λ entry. entry.1) xs) i
  row-place from to [] i h small = absurd (omega (arith, small))
  row-place from to (x ∷ xs) zero h small = ap (λ t. cond t (Some x.1) (lookup (nat_eq (from + 0)) xs)) (eq-eqb (from + 0) x.0 (omega (arith, h.0)))
  row-place from to (x ∷ xs) (suc i) h small =
      ap (λ t. cond t (Some x.1) (lookup (nat_eq (from + suc i)) xs)) (ne_eqb (from + suc i) x.0 (λ same. omega (arith, same, h.0)))
      ∙ (ap (λ n. lookup (nat_eq n) xs) (omega arith) ∙ row-place (from + 1) to xs i h.1.1 (omega (arith, small)))

  row-there : (from to : ℕ) (xs : Numbered) (test : ℕ → Bool) (binder : Binder) → IsRow from xs to → lookup test xs ≡ Some binder → IsThere binder
  row-there from to [] test binder h e = absurd cc
  row-there from to (x ∷ xs) test binder h e = by (test x.0) e (row-there (from + 1) to xs test binder h.1.1)
    where
      by : (t : Bool) → cond t (Some x.1) (lookup test xs) ≡ Some binder → (lookup test xs ≡ Some binder → IsThere binder) → IsThere binder
      by true is later = let same : x.1 ≡ binder = cc in subst IsThere same h.1.0
      by false is later = later is

  module _ (formed : IsWellFormed program) where
    row : IsRow 0 (binders_in program.rule) program.binders
    row = row-ends 0 _ _ _ (omega (arith, formed.binders)) (rows program.rule [] 0 formed.rule)

    -- there is one for each binder that is counted
    pub kinds-count : length (kinds_in program.rule) ≡ program.binders
    unfolding kinds_in
    kinds-count = length-map (binders_in program.rule) (λ (entry : ℕ × Binder). entry.1) ∙ (omega (arith, row-long 0 program.binders (binders_in program.rule) row))

    -- the binder with a number stands at its place
    pub binder-place : (number : ℕ) → number < program.binders → binder_of program.rule number ≡ slice_get (kinds_in program.rule) number
    unfolding kinds_in
    binder-place number small =
        ap (λ n. lookup (nat_eq n) (binders_in program.rule)) (omega arith) ∙ row-place 0 program.binders (binders_in program.rule) number row (omega (arith, small, row-long 0 program.binders (binders_in program.rule) row))

    -- the domain of an element is there
    pub binder-there : (number : ℕ) (binder : Binder) → binder_of program.rule number ≡ Some binder → IsThere binder
    binder-there number binder is = row-there 0 program.binders (binders_in program.rule) (nat_eq number) binder row is
