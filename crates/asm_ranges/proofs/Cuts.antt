-- What a guard says of the value of an atom.
use Rattle.std.proofs.Common.{◌≡◌, ℤ, pos, Bool, true, false, not, ◌&&◌, ◌||◌, List, [], ◌∷◌, refl, sym, ap, ◌∙◌, subst, arith, T, ◌≤ℤ◌, ◌+ℤ◌, map, inl, inr, ◌⊎◌, rules}
use Rattle.std.{specs.{Prelude.{if◌then◌else◌, int_le, int_lt}, Ordering.{int_eq}}, proofs.lemmas.{Bool.{and_parts, cases_Bool, eqb-true, both_ways}, Bool.Decides.{Decides-int_eq}, Int.{ints, clamps}}}
use Rattle.asm_tree.specs.declared.term.Op.{Op}
use Rattle.asm_names.specs.declared.{program.{Resolved.{Resolved}, Interval.{Interval}}, resolved_term.ResolvedTerm.{ResolvedTerm, ResolvedTerm-F, roll-ResolvedTerm, out-ResolvedTerm, roll-out-ResolvedTerm, ind-ResolvedTerm, map-ResolvedTerm}}
use Rattle.state_space.specs.{declared.signature.Signature.{Signature}, Locations.{signatures_of}, Codomains.{In}}
use Rattle.asm_ranges.specs.{Ranges.{Scope, range, sums_fit, sums_fit_by, Part, EnvFits}, Values.{value, value_by, binary, truth, holds, defined, defined_by, Definite}}
use Rattle.asm_ranges.specs.Facts.{same, same_by, each_same, same_op, opposite, mirrored, without, compared, cut_to, cut_left, cut_sides, cut, cut_by, Cutting}
use Rattle.asm_ranges.proofs.{Levels.{judged, definite, cutting, same_at, cut_at, sums_at, defined_at, value_at}, Terms.{ReadsIn, value_in_range}}
use Rattle.asm_tree.specs.contracts.term.Op.{the_type as op_type}
use denote.Enum.Bare.{same_true}
use Rattle.asm_tree.specs.declared.term.Op.TheVariants as ops

-- ---- comparisons

true-is : (b : Bool) → T b → b ≡ true
true-is true h = refl
true-is false h = absurd h

pub at-most : (a b : ℤ) → int_le a b ≡ true → a ≤ℤ b
at-most a b h = record { le = subst T (sym h) tt }

pub is-at-most : (a b : ℤ) → a ≤ℤ b → int_le a b ≡ true
is-at-most a b h = true-is _ h.le

truth-holds : (b : Bool) → holds (truth b) ≡ b
truth-holds true = refl
truth-holds false = refl

not-held : (b : Bool) → holds (truth b) ≡ false → b ≡ false
not-held b h = sym (truth-holds b) ∙ h

is-held : (b : Bool) → holds (truth b) ≡ true → b ≡ true
is-held b h = sym (truth-holds b) ∙ h

-- what a comparison that holds says of two numbers
abbrev Says : Op → ℤ → ℤ → Type 0
Says ops.Eq x y = x ≡ y
Says ops.Ne x y = x ≡ y → ⊥
Says ops.Lt x y = (x +ℤ pos 1) ≤ℤ y
Says ops.Le x y = x ≤ℤ y
Says ops.Gt x y = (y +ℤ pos 1) ≤ℤ x
Says ops.Ge x y = y ≤ℤ x
Says _ x y = Unit {0}

says : (op : Op) (x y : ℤ) → holds (binary op x y) ≡ true → Says op x y
says ops.Eq x y h = (Decides-int_eq x y).0 (is-held _ h)
says ops.Ne x y h = λ e. let k = is-held (not (int_eq x y)) h in both_ways _ (flip _ k) ((Decides-int_eq x y).1 e)
  where
    flip : (b : Bool) → not b ≡ true → b ≡ false
    flip true k = absurd cc
    flip false k = refl
says ops.Lt x y h = let k = is-held (int_lt x y) h in omega (arith, ints)
says ops.Le x y h = let k = is-held (int_le x y) h in omega (arith, ints)
says ops.Gt x y h = let k = is-held (int_lt y x) h in omega (arith, ints)
says ops.Ge x y h = let k = is-held (int_le y x) h in omega (arith, ints)
says _ x y h = tt

says-opposite : (op : Op) (x y : ℤ) → holds (binary op x y) ≡ false → Says (opposite op) x y
says-opposite ops.Eq x y h = λ e. both_ways _ (not-held (int_eq x y) h) ((Decides-int_eq x y).1 e)
says-opposite ops.Ne x y h = (Decides-int_eq x y).0 (flip _ (not-held (not (int_eq x y)) h))
  where
    flip : (b : Bool) → not b ≡ false → b ≡ true
    flip true k = refl
    flip false k = absurd cc
says-opposite ops.Lt x y h = let k = not-held (int_lt x y) h in omega (arith, ints)
says-opposite ops.Le x y h = let k = not-held (int_le x y) h in omega (arith, ints)
says-opposite ops.Gt x y h = let k = not-held (int_lt y x) h in omega (arith, ints)
says-opposite ops.Ge x y h = let k = not-held (int_le y x) h in omega (arith, ints)
says-opposite _ x y h = tt

says-mirrored : (op : Op) (x y : ℤ) → Says op x y → Says (mirrored op) y x
says-mirrored ops.Eq x y h = sym h
says-mirrored ops.Ne x y h = λ e. h (sym e)
says-mirrored ops.Lt x y h = h
says-mirrored ops.Le x y h = h
says-mirrored ops.Gt x y h = h
says-mirrored ops.Ge x y h = h
says-mirrored _ x y h = tt

without-in : (v : ℤ) (found : Interval) (x : ℤ) → (x ≡ v → ⊥) → In found x → In (without v found) x
without-in v found x ne h = elim (cases_Bool (int_eq found.hi v)) [
  | inl e ↦ rw e (let k : found.hi ≡ v = (Decides-int_eq found.hi v).0 e in record { low = h.low; high = omega (arith, ints, h.high, ne, k) })
  | inr e ↦ rw e (lower (cases_Bool (int_eq found.lo v)))
]
  where
    lower : (int_eq found.lo v ≡ true) ⊎ (int_eq found.lo v ≡ false) → In (if int_eq found.lo v then record { lo = found.lo +ℤ pos 1; hi = found.hi } else found) x
    lower (inl e) = rw e (let k : found.lo ≡ v = (Decides-int_eq found.lo v).0 e in record { low = omega (arith, ints, h.low, ne, k); high = h.high })
    lower (inr e) = rw e h

compared-in : (op : Op) (other found : Interval) (x y : ℤ) → Says op x y → In other y → In found x → In (compared op other found) x
compared-in ops.Eq other found x y s o f = record { low = omega (arith, ints, clamps, s); high = omega (arith, ints, clamps, s) }
compared-in ops.Ne other found x y s o f = elim (cases_Bool (int_eq other.lo other.hi)) [
  | inl e ↦
      let k : other.lo ≡ other.hi = (Decides-int_eq other.lo other.hi).0 e in
      rw e (without-in other.lo found x (λ m. s (omega (arith, ints, m, k, o.low, o.high))) f)
  | inr e ↦ rw e f
]
compared-in ops.Lt other found x y s o f = record { low = f.low; high = omega (arith, ints, clamps) }
compared-in ops.Le other found x y s o f = record { low = f.low; high = omega (arith, ints, clamps) }
compared-in ops.Gt other found x y s o f = record { low = omega (arith, ints, clamps); high = f.high }
compared-in ops.Ge other found x y s o f = record { low = omega (arith, ints, clamps); high = f.high }
compared-in _ other found x y s o f = f

cut_to-in : (found cut : Interval) (x : ℤ) → In found x → In cut x → In (cut_to found cut) x
cut_to-in found cut x f h = elim (cases_Bool (int_le cut.lo cut.hi)) [ inl e ↦ rw e h | inr e ↦ rw e f ]

-- ---- equal terms

abbrev SameIs : ResolvedTerm → Type 0
SameIs t = (other : ResolvedTerm) → same t other ≡ true → t ≡ other

abbrev Known : Type 0
Known = (t : ResolvedTerm) × SameIs t

abbrev known_term : Known → ResolvedTerm
known_term s = s.0

each_same-is : (ts : List Known) (others : List ResolvedTerm) → each_same (map same (map known_term ts)) others ≡ true → map known_term ts ≡ others
each_same-is [] [] h = refl
each_same-is [] (o ∷ others) h = absurd cc
each_same-is (t ∷ ts) [] h = absurd cc
each_same-is (t ∷ ts) (o ∷ others) h = let p = and_parts _ _ h in rw (t.1 o p.0, each_same-is ts others p.1) refl

same_op-is : (a b : Op) → same_op a b ≡ true → a ≡ b
unfolding same_op
same_op-is a b e = same_true op_type (search rules) a b e

same-layer : (x : ResolvedTerm-F Known) (y : ResolvedTerm-F ResolvedTerm)
    → same_by (map-ResolvedTerm ResolvedTerm (ResolvedTerm → Bool) same (map-ResolvedTerm Known ResolvedTerm known_term x)) y ≡ true → map-ResolvedTerm Known ResolvedTerm known_term x ≡ y
same-layer (ResolvedTerm-F.Number v) (ResolvedTerm-F.Number w) h = ap ResolvedTerm-F.Number ((Decides-int_eq v w).0 h)
same-layer (ResolvedTerm-F.Var b) (ResolvedTerm-F.Var c) h = ap ResolvedTerm-F.Var (eqb-true b c h)
same-layer (ResolvedTerm-F.Read f ts) (ResolvedTerm-F.Read g us) h = let p = and_parts _ _ h in rw (eqb-true f g p.0, each_same-is ts us p.1) refl
same-layer (ResolvedTerm-F.Binary op l r) (ResolvedTerm-F.Binary oq m s) h =
    let p = and_parts _ _ h in
    let q = and_parts _ _ p.1 in
    rw (same_op-is op oq p.0, l.1 m q.0, r.1 s q.1) refl
same-layer (ResolvedTerm-F.Not l) (ResolvedTerm-F.Not m) h = rw (l.1 m h) refl
same-layer (ResolvedTerm-F.Min l r) (ResolvedTerm-F.Min m s) h = let q = and_parts _ _ h in rw (l.1 m q.0, r.1 s q.1) refl
same-layer (ResolvedTerm-F.Max l r) (ResolvedTerm-F.Max m s) h = let q = and_parts _ _ h in rw (l.1 m q.0, r.1 s q.1) refl
same-layer (ResolvedTerm-F.Cond g l r) (ResolvedTerm-F.Cond f m s) h =
    let p = and_parts _ _ h in
    let q = and_parts _ _ p.1 in
    rw (g.1 f p.0, l.1 m q.0, r.1 s q.1) refl
same-layer _ _ h = absurd cc

-- terms that are the same are equal
pub same-is : (t : ResolvedTerm) → SameIs t
same-is = ind-ResolvedTerm SameIs (λ x y is. subst (λ z. SameIs (roll-ResolvedTerm z)) is (rolled y))
  where
    rolled : (y : ResolvedTerm-F Known) → SameIs (roll-ResolvedTerm (map-ResolvedTerm Known ResolvedTerm known_term y))
    rolled y other h =
        ap roll-ResolvedTerm (same-layer y (out-ResolvedTerm other) (sym (same_at (map-ResolvedTerm Known ResolvedTerm known_term y) _ refl other) ∙ h)) ∙ roll-out-ResolvedTerm other

-- ---- guards

module _ (program : Resolved) (state inputs env : List ℤ) (scope : Scope) (reads : ReadsIn program state inputs) (bound : EnvFits scope env) (atom : ResolvedTerm) where
  abbrev signatures : List Signature
  signatures = signatures_of program

  abbrev meaning : ResolvedTerm → ℤ
  meaning = value program state inputs env

  -- a term whose sums fit and that is defined
  abbrev Fine : ResolvedTerm → Type 0
  Fine t = (sums_fit signatures scope t ≡ true) × (defined program state inputs env t ≡ true)

  cut_left-in : (op : Op) (l r : ResolvedTerm) (found : Interval) → Fine r → Says op (meaning l) (meaning r) → In found (meaning atom) → In (cut_left signatures scope atom op l r found) (meaning atom)
  cut_left-in op l r found fine s h = elim (cases_Bool (same l atom)) [
    | inl e ↦
        rw e (cut_to-in found _ (meaning atom) h
        (compared-in op (range signatures scope r) found (meaning atom) (meaning r) (subst (λ t. Says op (meaning t) (meaning r)) (same-is l atom e) s)
        (value_in_range program state inputs env scope reads bound r fine.0 fine.1) h))
    | inr e ↦ rw e h
  ]

  cut_sides-in : (op : Op) (l r : ResolvedTerm) (found : Interval) → Fine l → Fine r → Says op (meaning l) (meaning r) → In found (meaning atom) → In (cut_sides signatures scope atom op l r found) (meaning atom)
  cut_sides-in op l r found p q s h = cut_left-in (mirrored op) r l _ p (says-mirrored op (meaning l) (meaning r) s) (cut_left-in op l r found q s h)

  abbrev CutIn : ResolvedTerm → Type 0
  CutIn t = sums_fit signatures scope t ≡ true → defined program state inputs env t ≡ true → (truth : Bool) (found : Interval) → holds (meaning t) ≡ truth → In found (meaning atom)
      → In (cut signatures scope atom t truth found) (meaning atom)

  abbrev Sound : Type 0
  Sound = (t : ResolvedTerm) × CutIn t

  abbrev term : Sound → ResolvedTerm
  term s = s.0

  abbrev LayerIn : ResolvedTerm-F ResolvedTerm → Type 0
  LayerIn x =
      sums_fit_by signatures scope (map-ResolvedTerm ResolvedTerm Part (judged signatures scope) x) ≡ true
      → defined_by program state inputs env (map-ResolvedTerm ResolvedTerm Definite (definite program state inputs env) x) ≡ true
      → (truth : Bool) (found : Interval) → holds (value_by program state inputs env (map-ResolvedTerm ResolvedTerm ℤ meaning x)) ≡ truth → In found (meaning atom)
      → In (cut_by signatures scope atom (map-ResolvedTerm ResolvedTerm Cutting (cutting signatures scope atom) x) truth found) (meaning atom)

  none-of : (a b : Bool) → (a || b) ≡ false → (a ≡ false) × (b ≡ false)
  none-of true b h = absurd cc
  none-of false b h = (refl, h)

  binary-cut : (op : Op) (l r : Sound) (truth : Bool) (found : Interval) → Fine l.0 → Fine r.0 → holds (binary op (meaning l.0) (meaning r.0)) ≡ truth → In found (meaning atom)
      → In (cut_by signatures scope atom (ResolvedTerm-F.Binary op (cutting signatures scope atom l.0) (cutting signatures scope atom r.0)) truth found) (meaning atom)
  binary-cut ops.And l r true found p q h f =
      let both = and_parts _ _ (is-held (holds (meaning l.0) && holds (meaning r.0)) h) in
      r.1 q.0 q.1 true _ both.1 (l.1 p.0 p.1 true found both.0 f)
  binary-cut ops.And l r false found p q h f = f
  binary-cut ops.Or l r true found p q h f = f
  binary-cut ops.Or l r false found p q h f =
      let both = none-of _ _ (not-held (holds (meaning l.0) || holds (meaning r.0)) h) in
      r.1 q.0 q.1 false _ both.1 (l.1 p.0 p.1 false found both.0 f)
  binary-cut op l r true found p q h f = cut_sides-in op l.0 r.0 found p q (says op (meaning l.0) (meaning r.0) h) f
  binary-cut op l r false found p q h f = cut_sides-in (opposite op) l.0 r.0 found p q (says-opposite op (meaning l.0) (meaning r.0) h) f

  not-is : (b t : Bool) → holds (truth (not b)) ≡ t → b ≡ not t
  not-is true true h = absurd cc
  not-is true false h = refl
  not-is false true h = refl
  not-is false false h = absurd cc

  layer-in : (x : ResolvedTerm-F Sound) → LayerIn (map-ResolvedTerm Sound ResolvedTerm term x)
  layer-in (ResolvedTerm-F.Binary op l r) h k truth found is f =
      let p = and_parts _ _ (and_parts _ _ h).0 in
      let q = and_parts _ _ k in
      binary-cut op l r truth found (p.0, q.0) (p.1, q.1) is f
  layer-in (ResolvedTerm-F.Not t) h k truth found is f = t.1 h k (not truth) found (not-is _ truth is) f
  layer-in _ h k truth found is f = f

  rolled : (x : ResolvedTerm-F ResolvedTerm) → LayerIn x → CutIn (roll-ResolvedTerm x)
  rolled x layer h k truth found is f =
      rw (cut_at x (roll-ResolvedTerm x) refl signatures scope atom truth found)
      (layer (sym (sums_at x (roll-ResolvedTerm x) refl signatures scope) ∙ h) (sym (defined_at x (roll-ResolvedTerm x) refl program state inputs env) ∙ k) truth found
      (ap holds (sym (value_at x (roll-ResolvedTerm x) refl program state inputs env)) ∙ is) f)

  -- an atom's value stays in its interval when this is cut by a guard that has this truth
  pub cut-in : (t : ResolvedTerm) → CutIn t
  cut-in = ind-ResolvedTerm CutIn (λ x y is. subst (λ z. CutIn (roll-ResolvedTerm z)) is (rolled (map-ResolvedTerm Sound ResolvedTerm term y) (layer-in y)))
