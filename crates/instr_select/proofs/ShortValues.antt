-- A term that is defined and short has a value of 32 signed bits, and a term that fits is defined.
use Rattle.std.proofs.Common.{◌≡◌, ℕ, ℤ, pos, Bool, true, false, cond, ◌&&◌, List, [], ◌∷◌, map, Option, Some, None, refl, sym, ap, ◌∙◌, subst, arith}
use Rattle.std.{specs.{Prelude.{slice_get, is_some, IfSome, if◌then◌else◌}, List.{list_all}, Option.{unwrap_or}}, proofs.lemmas.{Bool.{and_parts}, Int.{ints}}}
use Rattle.asm_names.specs.declared.{program.{Resolved.{Resolved}, Interval.{Interval}}, resolved_term.ResolvedTerm.{ResolvedTerm, ResolvedTerm-F, roll-ResolvedTerm, ind-ResolvedTerm, map-ResolvedTerm}}
use Rattle.state_space.specs.{declared.signature.{Signature.{Signature}}, Locations.{signatures_of}, Codomains.{In, codomain_range, just}}
use Rattle.asm_ranges.specs.{Ranges.{EnvFits, Part, ReadsFit, Scope, inside, range, range_by, words}, Values.{holds, read, value, value_by}}
use Rattle.asm_ranges.proofs.{Levels.{range_at, value_at}, Intervals.{binary-in, hull-left, hull-right, inside-in, just-in, max-in, min-in, truth-in}, Readings.{reads_in}}
use Rattle.asm_ranges.specs.Values.{defined, defined_by, takes_args}
use Rattle.instr_select.specs.Short.{is_short, part_range, short_parts}
use Rattle.instr_select.proofs.{Arithmetic.{IsShort}, Levels.{defined_at, measured, short_at, told}, ReadValues.{args-in}}

module _ (program : Resolved) (state inputs env : List ℤ) (scope : Scope) (fit : ReadsFit program state inputs) (bound : EnvFits scope env) where
  abbrev signatures : List Signature
  signatures = signatures_of program

  abbrev worth : ResolvedTerm → ℤ
  worth = value program state inputs env

  abbrev ValueIn : ResolvedTerm → Type 0
  ValueIn t = defined program state inputs env t ≡ true → is_short signatures scope t ≡ true → In (range signatures scope t) (worth t)

  abbrev Sound : Type 0
  Sound = (t : ResolvedTerm) × ValueIn t

  abbrev term : Sound → ResolvedTerm
  term s = s.0

  abbrev LayerIn : ResolvedTerm-F ResolvedTerm → Type 0
  LayerIn x =
      defined_by program state inputs env (map-ResolvedTerm ResolvedTerm Part (told program state inputs env) x) ≡ true
      → short_parts signatures scope (map-ResolvedTerm ResolvedTerm Part (measured signatures scope) x) ≡ true
      → In (range_by signatures scope (map-ResolvedTerm ResolvedTerm Interval (range signatures scope) x)) (value_by program state inputs env (map-ResolvedTerm ResolvedTerm ℤ worth x))

  var-in : (o : Option Interval) (v : ℤ) → IfSome o (λ i. In i v) → is_some o ≡ true → In (unwrap_or o (just (pos 0))) v
  var-in None v b h = absurd cc
  var-in (Some i) v b h = b

  worths : (ts : List ResolvedTerm) → map (λ (p : Part). worth p.0) (map (told program state inputs env) ts) ≡ map worth ts
  worths [] = refl
  worths (t ∷ ts) = ap (λ vs. worth t ∷ vs) (worths ts)

  read-in : (o : Option Signature) (fun : ℕ) (vs : List ℤ) → slice_get signatures fun ≡ o → takes_args o vs ≡ true → In (codomain_range o) (read program state inputs fun vs)
  read-in None fun vs e h = absurd cc
  read-in (Some signature) fun vs e h = reads_in program state inputs fit fun vs signature e (args-in vs signature.args h)

  layer-in : (x : ResolvedTerm-F Sound) → LayerIn (map-ResolvedTerm Sound ResolvedTerm term x)
  layer-in (ResolvedTerm-F.Number v) d k = just-in v
  layer-in (ResolvedTerm-F.Var b) d k = var-in _ _ (bound b) k
  layer-in (ResolvedTerm-F.Read fun ts) d k =
      let p = and_parts (list_all (λ (p : Part). p.1) (map (told program state inputs env) (map term ts))) (takes_args (slice_get signatures fun) (map (λ (p : Part). worth p.0) (map (told program state inputs env) (map term ts)))) d in
      subst (λ vs. In (codomain_range (slice_get signatures fun)) (read program state inputs fun vs)) (worths (map term ts)) (read-in (slice_get signatures fun) fun _ refl p.1)
  layer-in (ResolvedTerm-F.Binary op l r) d k =
      let p = and_parts _ _ d in let q = and_parts _ _ k in binary-in op _ _ _ _ (l.1 p.0 q.0) (r.1 p.1 q.1)
  layer-in (ResolvedTerm-F.Not t) d k = truth-in _
  layer-in (ResolvedTerm-F.Min l r) d k = let p = and_parts _ _ d in let q = and_parts _ _ k in min-in _ _ _ _ (l.1 p.0 q.0) (r.1 p.1 q.1)
  layer-in (ResolvedTerm-F.Max l r) d k = let p = and_parts _ _ d in let q = and_parts _ _ k in max-in _ _ _ _ (l.1 p.0 q.0) (r.1 p.1 q.1)
  layer-in (ResolvedTerm-F.Cond g l r) d k =
      let p = and_parts (defined program state inputs env g.0) (cond (holds (worth g.0)) (defined program state inputs env l.0) (defined program state inputs env r.0)) d in
      let q = and_parts (is_short signatures scope l.0) (is_short signatures scope r.0) (and_parts (is_short signatures scope g.0) (is_short signatures scope l.0 && is_short signatures scope r.0) k).1 in
      chosen (holds (worth g.0)) p.1 q.0 q.1
    where
      chosen : (c : Bool) → cond c (defined program state inputs env l.0) (defined program state inputs env r.0) ≡ true → is_short signatures scope l.0 ≡ true → is_short signatures scope r.0 ≡ true
          → In (range_by signatures scope (ResolvedTerm-F.Cond (range signatures scope g.0) (range signatures scope l.0) (range signatures scope r.0))) (if c then worth l.0 else worth r.0)
      chosen true d a b = hull-left _ _ _ (l.1 d a)
      chosen false d a b = hull-right _ _ _ (r.1 d b)

  rolled : (x : ResolvedTerm-F ResolvedTerm) → LayerIn x → ValueIn (roll-ResolvedTerm x)
  rolled x layer d k =
      let s = and_parts (inside (range_by signatures scope (map-ResolvedTerm Part Interval (part_range signatures scope) (map-ResolvedTerm ResolvedTerm Part (measured signatures scope) x))) words)
      (short_parts signatures scope (map-ResolvedTerm ResolvedTerm Part (measured signatures scope) x)) (sym (short_at x signatures scope) ∙ k) in
      rw (range_at x (roll-ResolvedTerm x) refl signatures scope, value_at x (roll-ResolvedTerm x) refl program state inputs env)
      (layer (sym (defined_at x program state inputs env) ∙ d) s.1)

  value-in : (t : ResolvedTerm) → ValueIn t
  value-in = ind-ResolvedTerm ValueIn (λ x y is. subst (λ z. ValueIn (roll-ResolvedTerm z)) is (rolled (map-ResolvedTerm Sound ResolvedTerm term y) (layer-in y)))

-- the range of a short term is of 32 signed bits
module _ (signatures : List Signature) (scope : Scope) where
  same-range : (x : ResolvedTerm-F ResolvedTerm) → range_by signatures scope (map-ResolvedTerm Part Interval (part_range signatures scope) (map-ResolvedTerm ResolvedTerm Part (measured signatures scope) x))
      ≡ range_by signatures scope (map-ResolvedTerm ResolvedTerm Interval (range signatures scope) x)
  same-range (ResolvedTerm-F.Number v) = refl
  same-range (ResolvedTerm-F.Var b) = refl
  same-range (ResolvedTerm-F.Read fun ts) = refl
  same-range (ResolvedTerm-F.Binary op l r) = refl
  same-range (ResolvedTerm-F.Not t) = refl
  same-range (ResolvedTerm-F.Min l r) = refl
  same-range (ResolvedTerm-F.Max l r) = refl
  same-range (ResolvedTerm-F.Cond g l r) = refl

  pub range-short : (t : ResolvedTerm) → is_short signatures scope t ≡ true → inside (range signatures scope t) words ≡ true
  range-short = ind-ResolvedTerm (λ t. is_short signatures scope t ≡ true → inside (range signatures scope t) words ≡ true)
      (λ x y is. subst (λ z. is_short signatures scope (roll-ResolvedTerm z) ≡ true → inside (range signatures scope (roll-ResolvedTerm z)) words ≡ true) is (of_layer (map-ResolvedTerm _ ResolvedTerm (λ s. s.0) y)))
    where
      of_layer : (x : ResolvedTerm-F ResolvedTerm) → is_short signatures scope (roll-ResolvedTerm x) ≡ true → inside (range signatures scope (roll-ResolvedTerm x)) words ≡ true
      of_layer x k =
          let s = and_parts (inside (range_by signatures scope (map-ResolvedTerm Part Interval (part_range signatures scope) (map-ResolvedTerm ResolvedTerm Part (measured signatures scope) x))) words)
          (short_parts signatures scope (map-ResolvedTerm ResolvedTerm Part (measured signatures scope) x)) (sym (short_at x signatures scope) ∙ k) in
          subst (λ i. inside i words ≡ true) (same-range x ∙ sym (range_at x (roll-ResolvedTerm x) refl signatures scope)) s.0

in-words : (v : ℤ) → In words v → IsShort v
in-words v i = let a = i.low in let b = i.high in grind (arith, ints)

-- a term that is defined and short has a value of 32 signed bits
pub short-values : (program : Resolved) (state inputs env : List ℤ) (scope : Scope) → ReadsFit program state inputs → EnvFits scope env
    → (t : ResolvedTerm) → defined program state inputs env t ≡ true → is_short (signatures_of program) scope t ≡ true → IsShort (value program state inputs env t)
short-values program state inputs env scope fit bound t d k =
    in-words _ (inside-in _ _ _ (range-short (signatures_of program) scope t k) (value-in program state inputs env scope fit bound t d k))
