-- The parts of terms that have values.
use Rattle.std.proofs.Common.{◌≡◌, ℕ, zero, suc, ◌<◌, ◌≤◌, ℤ, pos, negsuc, Bool, true, false, ◌&&◌, List, [], ◌∷◌, map, length, refl, sym, ap, ◌∙◌, arith, w64}
use Rattle.std.{specs.{Prelude.{slice_get, FitsSigned, if◌then◌else◌}, List.{list_all, AllByRecursion}}, proofs.lemmas.{List.{length-map}, Bool.{and_parts}, Int.{ints}}}
use Rattle.asm_tree.specs.declared.term.Op.{Op}
use Rattle.asm_names.specs.declared.{program.{Fun.{Fun}, Resolved.{Resolved}, Interval.{Interval}}, resolved_term.ResolvedTerm.{ResolvedTerm, ResolvedTerm-F, roll-ResolvedTerm, map-ResolvedTerm}}
use Rattle.asm_names.specs.WellFormed.{IsFun}
use Rattle.state_space.specs.{declared.signature.{Range.{Range}, Signature.{Signature}}, Locations.{signatures_of, signature_of, range_of}, Codomains.{In}}
use Rattle.asm_ranges.specs.{Ranges.{Scope, Part, range, sums_fit, sums_fit_by, words, truths, sum_fits, binary_range, ReadsFit}, Places.{TermPlaced, TermsPlaced}, Values.{value, binary, defined, defined_by, Definite, lie_in, takes_args, holds}}
use Rattle.asm_ranges.proofs.{Levels.{judged, definite, sums_at, defined_at, sums_read, defined_read}, Intervals.{inside-in, binary-in, truth-in}, Readings.{reads_in}, Terms.{value_in_range}}
use Rattle.asm_tree.specs.declared.term.Op.TheVariants as ops
use Rattle.asm_names.specs.declared.resolved_term.ResolvedTerm.TheVariants as terms

as-many : (domains : List Range) (vs : List ℤ) → lie_in domains vs ≡ true → length vs ≡ length domains
as-many [] [] h = refl
as-many [] (v ∷ vs) h = absurd cc
as-many (d ∷ ds) [] h = absurd cc
as-many (d ∷ ds) (v ∷ vs) h = omega (arith, as-many ds vs (and_parts _ _ h).1)

pub few-args : (program : Resolved) (funs : List Fun) (fun : ℕ) (vs : List ℤ) → AllByRecursion (IsFun program.domains) funs → takes_args (slice_get (map (signature_of program.domains) funs) fun) vs ≡ true
    → (length vs ≤ 3) × (fun < length funs)
few-args program [] fun vs few h = absurd cc
few-args program (f ∷ funs) zero vs few h = (omega (arith, few.0.few, as-many (map (range_of program.domains) f.args) vs h, length-map f.args (range_of program.domains)), omega arith)
few-args program (f ∷ funs) (suc fun) vs few h = let r = few-args program funs fun vs few.1 h in (r.0, omega (arith, r.1))

module _ (program : Resolved) (state inputs env : List ℤ) (term : ResolvedTerm) (placed : TermPlaced program state inputs term env) where
  abbrev signatures : List Signature
  signatures = signatures_of program

  abbrev scope : Scope
  scope = placed.scope

  abbrev means : ResolvedTerm → Bool
  means = defined program state inputs env

  at_layer : (x : ResolvedTerm-F ResolvedTerm) (whole : ResolvedTerm) → term ≡ whole → roll-ResolvedTerm x ≡ whole
      → (sums_fit_by signatures scope (map-ResolvedTerm ResolvedTerm Part (judged signatures scope) x) ≡ true)
      × (defined_by program state inputs env (map-ResolvedTerm ResolvedTerm Definite (definite program state inputs env) x) ≡ true)
  at_layer x whole e r = (sym (sums_at x term (r ∙ sym e) signatures scope) ∙ placed.fitting, sym (defined_at x term (r ∙ sym e) program state inputs env) ∙ placed.definite)

  part : (t : ResolvedTerm) → sums_fit signatures scope t ≡ true → means t ≡ true → TermPlaced program state inputs t env
  part t h k = record { scope = scope; values = placed.values; fitting = h; definite = k }

  both : (l r : ResolvedTerm) → (sums_fit signatures scope l && sums_fit signatures scope r) ≡ true → (means l && means r) ≡ true → TermPlaced program state inputs l env × TermPlaced program state inputs r env
  both l r h k = let p = and_parts _ _ h in let q = and_parts _ _ k in (part l p.0 q.0, part r p.1 q.1)

  pub placed-Not : (t : ResolvedTerm) → term ≡ terms.Not t → TermPlaced program state inputs t env
  placed-Not t e = let l = at_layer (ResolvedTerm-F.Not t) _ e (terms.rolls-Not t) in part t l.0 l.1

  pub placed-Min : (l r : ResolvedTerm) → term ≡ terms.Min l r → TermPlaced program state inputs l env × TermPlaced program state inputs r env
  placed-Min l r e = let y = at_layer (ResolvedTerm-F.Min l r) _ e (terms.rolls-Min l r) in both l r y.0 y.1

  pub placed-Max : (l r : ResolvedTerm) → term ≡ terms.Max l r → TermPlaced program state inputs l env × TermPlaced program state inputs r env
  placed-Max l r e = let y = at_layer (ResolvedTerm-F.Max l r) _ e (terms.rolls-Max l r) in both l r y.0 y.1

  at_Cond : (g l r : ResolvedTerm) → term ≡ terms.Cond g l r → TermPlaced program state inputs g env × (sums_fit signatures scope l ≡ true) × (sums_fit signatures scope r ≡ true)
      × ((if holds (value program state inputs env g) then means l else means r) ≡ true)
  at_Cond g l r e =
      let y = at_layer (ResolvedTerm-F.Cond g l r) _ e (terms.rolls-Cond g l r) in
      let p = and_parts _ _ y.0 in
      let s = and_parts _ _ p.1 in
      let q = and_parts _ _ y.1 in
      (part g p.0 q.0, s.0, s.1, q.1)

  pub placed-guard : (g l r : ResolvedTerm) → term ≡ terms.Cond g l r → TermPlaced program state inputs g env
  placed-guard g l r e = (at_Cond g l r e).0

  -- of a `cond` the decided branch alone has a value
  pub placed-first : (g l r : ResolvedTerm) → term ≡ terms.Cond g l r → holds (value program state inputs env g) ≡ true → TermPlaced program state inputs l env
  placed-first g l r e h = let p = at_Cond g l r e in part l p.1 (sym (ap (λ b. if b then means l else means r) h) ∙ p.3)

  pub placed-second : (g l r : ResolvedTerm) → term ≡ terms.Cond g l r → holds (value program state inputs env g) ≡ false → TermPlaced program state inputs r env
  placed-second g l r e h = let p = at_Cond g l r e in part r p.2 (sym (ap (λ b. if b then means l else means r) h) ∙ p.3)

  at_Binary : (op : Op) (l r : ResolvedTerm) → term ≡ terms.Binary op l r
      → (TermPlaced program state inputs l env × TermPlaced program state inputs r env) × (sum_fits op (binary_range op (range signatures scope l) (range signatures scope r)) ≡ true)
  at_Binary op l r e =
      let y = at_layer (ResolvedTerm-F.Binary op l r) _ e (terms.rolls-Binary op l r) in
      let p = and_parts _ _ y.0 in
      (both l r p.0 y.1, p.1)

  pub placed-Binary : (op : Op) (l r : ResolvedTerm) → term ≡ terms.Binary op l r → TermPlaced program state inputs l env × TermPlaced program state inputs r env
  placed-Binary op l r e = (at_Binary op l r e).0

  at_Read : (fun : ℕ) (args : List ResolvedTerm) → term ≡ terms.Read fun args
      → (list_all (sums_fit signatures scope) args ≡ true) × (list_all means args ≡ true) × (takes_args (slice_get signatures fun) (map (value program state inputs env) args) ≡ true)
  at_Read fun args e =
      let y = at_layer (ResolvedTerm-F.Read fun args) _ e (terms.rolls-Read fun args) in
      let q = and_parts _ _ (sym (defined_read program state inputs env fun args) ∙ y.1) in
      (sym (sums_read signatures scope fun args) ∙ y.0, q.0, q.1)

  pub placed-Read : (fun : ℕ) (args : List ResolvedTerm) → term ≡ terms.Read fun args → TermsPlaced program state inputs args env
  placed-Read fun args e = let p = at_Read fun args e in record { scope = scope; values = placed.values; fitting = p.0; definite = p.1 }

  -- the function is there, and takes the values of its arguments, which are at most three
  pub taken-Read : (fun : ℕ) (args : List ResolvedTerm) → term ≡ terms.Read fun args → takes_args (slice_get signatures fun) (map (value program state inputs env) args) ≡ true
  taken-Read fun args e = (at_Read fun args e).2

  pub few-Read : (fun : ℕ) (args : List ResolvedTerm) → AllByRecursion (IsFun program.domains) program.funs → term ≡ terms.Read fun args → length args ≤ 3
  few-Read fun args few e = omega (arith, (few-args program program.funs fun _ few (at_Read fun args e).2).0, length-map args (value program state inputs env))

  pub there-Read : (fun : ℕ) (args : List ResolvedTerm) → AllByRecursion (IsFun program.domains) program.funs → term ≡ terms.Read fun args → fun < length program.funs
  there-Read fun args few e = (few-args program program.funs fun _ few (at_Read fun args e).2).1

fits-words : (v : ℤ) → In words v → FitsSigned w64 v
fits-words (pos n) h = let low : n ≤ 2147483647 = omega (arith, ints) in record { sfits = omega arith }
fits-words (negsuc n) h = let low : n ≤ 2147483647 = omega (arith, ints) in record { sfits = omega arith }

fits-truths : (v : ℤ) → In truths v → FitsSigned w64 v
fits-truths (pos n) h = let low : n ≤ 1 = omega (arith, ints) in record { sfits = omega arith }
fits-truths (negsuc n) h = absurd (omega (arith, ints))

fits-binary : (op : Op) (a b : Interval) (x y : ℤ) → sum_fits op (binary_range op a b) ≡ true → In a x → In b y → FitsSigned w64 (binary op x y)
fits-binary ops.Add a b x y h p q = fits-words _ (inside-in _ _ _ h (binary-in ops.Add a b x y p q))
fits-binary ops.Sub a b x y h p q = fits-words _ (inside-in _ _ _ h (binary-in ops.Sub a b x y p q))
fits-binary _ a b x y h p q = fits-truths _ (truth-in _)

-- the value of two numbers with an operator between them is one of 32 bits
pub word-binary : (op : Op) (a b : Interval) (x y : ℤ) → sum_fits op (binary_range op a b) ≡ true → In a x → In b y → In words (binary op x y)
word-binary ops.Add a b x y h p q = inside-in _ _ _ h (binary-in ops.Add a b x y p q)
word-binary ops.Sub a b x y h p q = inside-in _ _ _ h (binary-in ops.Sub a b x y p q)
word-binary _ a b x y h p q = inside-in truths words _ refl (truth-in _)

module _ (program : Resolved) (state inputs env : List ℤ) (reads : ReadsFit program state inputs) where
  -- the value of a term lies in its plain range
  pub placed-in : (term : ResolvedTerm) (placed : TermPlaced program state inputs term env) → In (range (signatures_of program) placed.scope term) (value program state inputs env term)
  placed-in term placed = value_in_range program state inputs env placed.scope (reads_in program state inputs reads) placed.values term placed.fitting placed.definite

  sides : (term : ResolvedTerm) (op : Op) (l r : ResolvedTerm) (placed : TermPlaced program state inputs term env) → term ≡ terms.Binary op l r
      → (sum_fits op (binary_range op (range (signatures_of program) placed.scope l) (range (signatures_of program) placed.scope r)) ≡ true)
      × In (range (signatures_of program) placed.scope l) (value program state inputs env l) × In (range (signatures_of program) placed.scope r) (value program state inputs env r)
  sides term op l r placed e =
      let y = at_layer program state inputs env term placed (ResolvedTerm-F.Binary op l r) _ e (terms.rolls-Binary op l r) in
      let p = and_parts _ _ y.0 in
      let f = and_parts _ _ p.0 in
      let d = and_parts _ _ y.1 in
      let sound = value_in_range program state inputs env placed.scope (reads_in program state inputs reads) placed.values in
      (p.1, sound l f.0 d.0, sound r f.1 d.1)

  -- the sum in a term passes no 64 bits
  pub binary-fits : (term : ResolvedTerm) (op : Op) (l r : ResolvedTerm) → TermPlaced program state inputs term env → term ≡ terms.Binary op l r
      → FitsSigned w64 (binary op (value program state inputs env l) (value program state inputs env r))
  binary-fits term op l r placed e = let s = sides term op l r placed e in fits-binary op _ _ _ _ s.0 s.1 s.2

  -- nor 32
  pub binary-word : (term : ResolvedTerm) (op : Op) (l r : ResolvedTerm) → TermPlaced program state inputs term env → term ≡ terms.Binary op l r
      → In words (binary op (value program state inputs env l) (value program state inputs env r))
  binary-word term op l r placed e = let s = sides term op l r placed e in word-binary op _ _ _ _ s.0 s.1 s.2
