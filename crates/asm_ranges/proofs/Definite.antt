-- A term without a fault is defined where what is known at its place is true, and its value lies in its refined range.
use Rattle.std.proofs.Common.{◌≡◌, ℕ, ◌+◌, ℤ, pos, Bool, true, false, not, ◌&&◌, List, [], ◌∷◌, ◌++◌, map, length, Option, Some, None, refl, sym, ap, ◌∙◌, subst, arith, inl, inr}
use Rattle.std.{proofs.lemmas.{List.{length-map}, Bool.{and_parts, and_from, eqb-true, cases_Bool}, Option.{slice_get-map}}, specs.{Prelude.{slice_get, slice_index_or, is_some, IfSome, if◌then◌else◌, ◌==◌}, List.{list_all, AllByRecursion}, Option.{option_map, unwrap_or}}}
use Rattle.asm_tree.specs.declared.term.Op.{Op}
use Rattle.asm_names.specs.declared.program.{Fun.{Fun}, Interval.{Interval}, Resolved.{Resolved}}
use Rattle.asm_names.specs.declared.resolved_term.ResolvedTerm.{ResolvedTerm, out-ResolvedTerm, roll-out-ResolvedTerm, ResolvedTerm-F, roll-ResolvedTerm, ind-ResolvedTerm, map-ResolvedTerm}
use Rattle.asm_names.specs.{ResolvedPlaces.{resolved_term_tokens}, WellFormed.{Sort, truth, thing, Bound, in_scope, sort_of, sort_by, sort_if, is_thing, is_truth, binary_sort, takes}}
use Rattle.asm_names.proofs.ResolvedLevels.{sort_at}
use Rattle.state_space.specs.{declared.signature.{Range.{Range}, Signature.{Signature}}, Locations.{signature_of, signatures_of, range_of}, Codomains.{In, whole, codomain_range, just}}
use Rattle.asm_ranges.specs.{declared.fault.RangeEnd.{RangeEnd}, Faults.{fault}, Ranges.{Scope, Part, range, sums_fit, sums_fit_by, inside, sum_fits, binary_range, truths, hull, EnvFits}}
use Rattle.asm_ranges.specs.{Facts.{Fact, Facts, Held, Failed, Bounded, Refining, refined, refined_by, cut_by_facts, begun}, RangeFaults.{FaultyTerm, args_faults, domains_of, outside_faults, wide_faults, term_faults, term_faults_by, faulty_term}}
use Rattle.asm_ranges.specs.{Values.{value, value_by, holds, defined, defined_by, Definite, lies_in, lie_in, takes_args}}
use Rattle.asm_ranges.proofs.{Levels.{judged, definite, refining, defined_read, sums_read, refined_terms, sums_at, value_at, defined_at, refined_at, faults_at}, Intervals.{just-in, truth-in, min-in, max-in, hull-left, hull-right, binary-in, inside-in}}
use Rattle.asm_ranges.proofs.{Terms.{ReadsIn, read-in}, Cuts.{cut-in, is-at-most}, Equations.{value-Read, value-Var}}
use Rattle.asm_tree.specs.declared.term.Op.TheVariants as ops
use Rattle.asm_names.specs.declared.resolved_term.ResolvedTerm.TheVariants as terms
use Rattle.asm_ranges.specs.declared.fault.RangeEnd.TheVariants as ends

pub nil-parts : {A : Type 0} (f g : List A) → f ++ g ≡ [] → (f ≡ []) × (g ≡ [])
nil-parts [] g h = (refl, h)
nil-parts (x ∷ f) g h = absurd cc

pub no-fault : (e : RangeEnd) (b : Bool) → fault e (not b) ≡ [] → b ≡ true
no-fault e true h = refl
no-fault e false h = absurd cc

pub if-some : (b : Bool) (s : Sort) → is_some (sort_if b s) ≡ true → b ≡ true
if-some true s h = refl
if-some false s h = absurd cc

pub thing-some : (o : Option Sort) → is_thing o ≡ true → is_some o ≡ true
thing-some None h = absurd cc
thing-some (Some s) h = refl

pub truth-some : (o : Option Sort) → is_truth o ≡ true → is_some o ≡ true
truth-some None h = absurd cc
truth-some (Some s) h = refl

two-things : (l r : Option Sort) (s : Sort) → is_some (sort_if (is_thing l && is_thing r) s) ≡ true → (is_some l ≡ true) × (is_some r ≡ true)
two-things l r s h = let p = and_parts _ _ (if-some _ s h) in (thing-some l p.0, thing-some r p.1)

two-truths : (l r : Option Sort) (s : Sort) → is_some (sort_if (is_truth l && is_truth r) s) ≡ true → (is_some l ≡ true) × (is_some r ≡ true)
two-truths l r s h = let p = and_parts _ _ (if-some _ s h) in (truth-some l p.0, truth-some r p.1)

pub binary-some : (op : Op) (l r : Option Sort) → is_some (binary_sort op l r) ≡ true → (is_some l ≡ true) × (is_some r ≡ true)
binary-some ops.And l r h = two-truths l r truth h
binary-some ops.Or l r h = two-truths l r truth h
binary-some _ l r h = two-things l r _ h

in-lies : (domain : Range) (v : ℤ) → In (whole domain) v → lies_in domain v ≡ true
in-lies domain v h = and_from _ _ (is-at-most _ _ h.low) (is-at-most _ _ h.high)

-- ---- facts

-- the binders of the guards that are known are in scope, and their sums fit
abbrev pub FactFits : List Signature → Scope → Fact → Type 0
FactFits signatures scope (Held guard) = sums_fit signatures scope guard ≡ true
FactFits signatures scope (Failed guard) = sums_fit signatures scope guard ≡ true
FactFits signatures scope (Bounded binder interval) = is_some (scope binder) ≡ true

abbrev pub FactsFit : List Signature → Scope → Facts → Type 0
FactsFit signatures scope facts = AllByRecursion (FactFits signatures scope) facts

-- the guards are defined, and what is known is true
abbrev pub IsGood : Resolved → List ℤ → List ℤ → List ℤ → Fact → Type 0
IsGood program state inputs env (Held guard) = (defined program state inputs env guard ≡ true) × (holds (value program state inputs env guard) ≡ true)
IsGood program state inputs env (Failed guard) = (defined program state inputs env guard ≡ true) × (holds (value program state inputs env guard) ≡ false)
IsGood program state inputs env (Bounded binder interval) = In interval (slice_index_or env binder (pos 0))

abbrev pub AllGood : Resolved → List ℤ → List ℤ → List ℤ → Facts → Type 0
AllGood program state inputs env facts = AllByRecursion (IsGood program state inputs env) facts

-- what is read, the values of binders, and what is known are as they should be
pub record Here (program : Resolved) (scope : Scope) (facts : Facts) (state inputs env : List ℤ) : Type 0 where
  pub reads : ReadsIn program state inputs
  pub values : EnvFits scope env
  pub good : AllGood program state inputs env facts

module _ (program : Resolved) (scope : Scope) (facts : Facts) (fit : FactsFit (signatures_of program) scope facts) (state inputs env : List ℤ) (here : Here program scope facts state inputs env) where
  cut_facts-in : (atom : ResolvedTerm) (known : Facts) (found : Interval) → FactsFit (signatures_of program) scope known → AllGood program state inputs env known
      → In found (value program state inputs env atom) → In (cut_by_facts (signatures_of program) scope atom known found) (value program state inputs env atom)
  cut_facts-in atom [] found all good h = h
  cut_facts-in atom (Held g ∷ outer) found all good h = cut-in program state inputs env scope here.reads here.values atom g all.0 good.0.0 true _ good.0.1 (cut_facts-in atom outer found all.1 good.1 h)
  cut_facts-in atom (Failed g ∷ outer) found all good h = cut-in program state inputs env scope here.reads here.values atom g all.0 good.0.0 false _ good.0.1 (cut_facts-in atom outer found all.1 good.1 h)
  cut_facts-in atom (Bounded b i ∷ outer) found all good h = cut_facts-in atom outer found all.1 good.1 h

  pub atom-in : (atom : ResolvedTerm) (found : Interval) → In found (value program state inputs env atom) → In (cut_by_facts (signatures_of program) scope atom facts found) (value program state inputs env atom)
  atom-in atom found h = cut_facts-in atom facts found fit here.good h

  bound-in : (o : Option Interval) (v : ℤ) → IfSome o (λ i. In i v) → is_some o ≡ true → In (unwrap_or o (just (pos 0))) v
  bound-in None v b h = absurd cc
  bound-in (Some i) v b h = b

  begun_by-in : (b : ℕ) (known : Facts) → AllGood program state inputs env known → is_some (scope b) ≡ true → In (begun scope b known) (slice_index_or env b (pos 0))
  begun_by-in b [] good h = bound-in (scope b) _ (here.values b) h
  begun_by-in b (Held g ∷ outer) good h = begun_by-in b outer good.1 h
  begun_by-in b (Failed g ∷ outer) good h = begun_by-in b outer good.1 h
  begun_by-in b (Bounded c i ∷ outer) good h = elim (cases_Bool (c == b)) [
    | inl e ↦ rw e (subst (λ k. In i (slice_index_or env k (pos 0))) (eqb-true c b e) good.0)
    | inr e ↦ rw e (begun_by-in b outer good.1 h)
  ]

  pub begun-in : (b : ℕ) → is_some (scope b) ≡ true → In (begun scope b facts) (slice_index_or env b (pos 0))
  begun-in b h = begun_by-in b facts here.good h

-- ---- terms

pub own_refined : (signatures : List Signature) (scope : Scope) (x : ResolvedTerm-F ResolvedTerm) (facts : Facts)
    → refined_by signatures scope (map-ResolvedTerm FaultyTerm Refining (λ part. (part.0, refined signatures scope part.0)) (map-ResolvedTerm ResolvedTerm FaultyTerm (faulty_term signatures scope) x)) facts
    ≡ refined_by signatures scope (map-ResolvedTerm ResolvedTerm Refining (refining signatures scope) x) facts
own_refined signatures scope (ResolvedTerm-F.Read fun args) facts = ap (λ ts. refined_by signatures scope (ResolvedTerm-F.Read fun ts) facts) (twice args)
  where
    twice : (ts : List ResolvedTerm) → map (λ (part : FaultyTerm). (part.0, refined signatures scope part.0)) (map (faulty_term signatures scope) ts) ≡ map (refining signatures scope) ts
    twice [] = refl
    twice (t ∷ ts) = ap (λ us. refining signatures scope t ∷ us) (twice ts)
own_refined signatures scope _ facts = refl

-- a term without a fault in a place lies in what the place needs
pub need-inside : (signatures : List Signature) (scope : Scope) (t : ResolvedTerm) (facts : Facts) (d : Interval) (at : ℕ) → term_faults signatures scope t facts (Some d) at ≡ [] → inside (refined signatures scope t facts) d ≡ true
need-inside signatures scope t facts d at h =
    let x = out-ResolvedTerm t in
    let e = roll-out-ResolvedTerm t in
    let all = nil-parts (wide_faults signatures scope (map-ResolvedTerm ResolvedTerm FaultyTerm (faulty_term signatures scope) x) at) _ (sym (faults_at x t e signatures scope facts (Some d) at) ∙ h) in
    let out = (nil-parts (outside_faults _ (Some d) at) _ all.1).0 in
    ap (λ i. inside i d) (refined_at x t e signatures scope facts ∙ sym (own_refined signatures scope x facts)) ∙ no-fault (ends.Outside at) _ out

module _ (program : Resolved) (scope : Scope) (bound : Bound) (agree : (b : ℕ) → in_scope bound b ≡ true → is_some (scope b) ≡ true) where
  abbrev signatures : List Signature
  signatures = signatures_of program

  abbrev funs : List Fun
  funs = program.funs

  abbrev Fine : ResolvedTerm → Facts → Type 0
  Fine t facts =
      (state inputs env : List ℤ) → Here program scope facts state inputs env
      → (defined program state inputs env t ≡ true) × In (refined signatures scope t facts) (value program state inputs env t)

  abbrev pub Claim : ResolvedTerm → Type 0
  Claim t = is_some (sort_of funs bound t) ≡ true → (facts : Facts) (need : Option Interval) (at : ℕ) → FactsFit signatures scope facts → term_faults signatures scope t facts need at ≡ []
      → (sums_fit signatures scope t ≡ true) × Fine t facts

  abbrev Sound : Type 0
  Sound = (t : ResolvedTerm) × Claim t

  abbrev term : Sound → ResolvedTerm
  term s = s.0

  abbrev faulty : ResolvedTerm → FaultyTerm
  faulty = faulty_term signatures scope

  abbrev FineLayer : ResolvedTerm-F ResolvedTerm → Facts → Type 0
  FineLayer x facts =
      (state inputs env : List ℤ) → Here program scope facts state inputs env
      → (defined_by program state inputs env (map-ResolvedTerm ResolvedTerm Definite (definite program state inputs env) x) ≡ true)
      × In (refined_by signatures scope (map-ResolvedTerm ResolvedTerm Refining (refining signatures scope) x) facts) (value_by program state inputs env (map-ResolvedTerm ResolvedTerm ℤ (value program state inputs env) x))

  abbrev Layer : ResolvedTerm-F ResolvedTerm → Type 0
  Layer x = is_some (sort_by funs bound (map-ResolvedTerm ResolvedTerm (Option Sort) (sort_of funs bound) x)) ≡ true → (facts : Facts) (need : Option Interval) (at : ℕ) → FactsFit signatures scope facts
      → term_faults_by signatures scope (map-ResolvedTerm ResolvedTerm FaultyTerm faulty x) facts need at ≡ []
      → (sums_fit_by signatures scope (map-ResolvedTerm ResolvedTerm Part (judged signatures scope) x) ≡ true) × FineLayer x facts

  abbrev FineArgs : List ResolvedTerm → List Range → Facts → Type 0
  FineArgs ts needs facts =
      (state inputs env : List ℤ) → Here program scope facts state inputs env
      → (list_all (defined program state inputs env) ts ≡ true) × (lie_in needs (map (value program state inputs env) ts) ≡ true)

  pub args-fine : (ts : List ResolvedTerm) (needs : List Range) (facts : Facts) (at : ℕ) → AllByRecursion Claim ts → FactsFit signatures scope facts → list_all is_thing (map (sort_of funs bound) ts) ≡ true
      → length needs ≡ length ts → args_faults needs (map faulty ts) facts at ≡ [] → (list_all (sums_fit signatures scope) ts ≡ true) × FineArgs ts needs facts
  args-fine [] [] facts at all fit h long k = (refl, λ s i e here. (refl, refl))
  args-fine [] (d ∷ ds) facts at all fit h long k = absurd (omega arith)
  args-fine (t ∷ ts) [] facts at all fit h long k = absurd (omega arith)
  args-fine (t ∷ ts) (d ∷ ds) facts at all fit h long k =
      let p = and_parts _ _ h in
      let q = nil-parts (term_faults signatures scope t facts (Some (whole d)) at) _ k in
      let one = all.0 (thing-some _ p.0) facts (Some (whole d)) at fit q.0 in
      let rest = args-fine ts ds facts (at + resolved_term_tokens t + 1) all.1 fit p.1 (omega arith) q.1 in (
        and_from _ _ one.0 rest.0,
        λ s i e here.
            let f = one.1 s i e here in
            let g = rest.1 s i e here in
            (and_from _ _ f.0 g.0, and_from _ _ (in-lies d _ (inside-in _ _ _ (need-inside signatures scope t facts (whole d) at q.0) f.1)) g.1),
      )

  -- arguments of a function that takes so many
  pub args-taken : (o : Option Fun) (ts : List ResolvedTerm) (facts : Facts) (at : ℕ) → AllByRecursion Claim ts → FactsFit signatures scope facts → takes o (length (map (sort_of funs bound) ts)) ≡ true
      → list_all is_thing (map (sort_of funs bound) ts) ≡ true → args_faults (domains_of (option_map (signature_of program.domains) o)) (map faulty ts) facts at ≡ []
      → (list_all (sums_fit signatures scope) ts ≡ true)
      × ((state inputs env : List ℤ) → Here program scope facts state inputs env
      → (list_all (defined program state inputs env) ts ≡ true) × (takes_args (option_map (signature_of program.domains) o) (map (value program state inputs env) ts) ≡ true))
  args-taken None ts facts at all fit t h k = absurd cc
  args-taken (Some f) ts facts at all fit t h k =
      let long : length f.args ≡ length (map (sort_of funs bound) ts) = eqb-true _ _ t in
      args-fine ts (map (range_of program.domains) f.args) facts at all fit h (length-map f.args (range_of program.domains) ∙ (long ∙ length-map ts (sort_of funs bound))) k

  claims : (ts : List Sound) → AllByRecursion Claim (map term ts)
  claims [] = tt
  claims (t ∷ ts) = (t.1, claims ts)

  -- two terms in turn
  both : (l r : Sound) → (is_some (sort_of funs bound l.0) ≡ true) × (is_some (sort_of funs bound r.0) ≡ true) → (facts : Facts) (at place : ℕ) → FactsFit signatures scope facts
      → term_faults signatures scope l.0 facts None at ++ term_faults signatures scope r.0 facts None place ≡ []
      → ((sums_fit signatures scope l.0 && sums_fit signatures scope r.0) ≡ true)
      × ((state inputs env : List ℤ) → Here program scope facts state inputs env
      → ((defined program state inputs env l.0 && defined program state inputs env r.0) ≡ true) × In (refined signatures scope l.0 facts) (value program state inputs env l.0)
      × In (refined signatures scope r.0 facts) (value program state inputs env r.0))
  both l r p facts at place fit k =
      let q = nil-parts (term_faults signatures scope l.0 facts None at) _ k in
      let a = l.1 p.0 facts None at fit q.0 in
      let b = r.1 p.1 facts None place fit q.1 in (
        and_from _ _ a.0 b.0,
        λ s i e here. let f = a.1 s i e here in let g = b.1 s i e here in (and_from _ _ f.0 g.0, f.1, g.1),
      )

  layer : (x : ResolvedTerm-F Sound) → Layer (map-ResolvedTerm Sound ResolvedTerm term x)
  layer (ResolvedTerm-F.Number v) h facts need at fit k = (refl, λ s i e here. (refl, just-in v))
  layer (ResolvedTerm-F.Var b) h facts need at fit k =
      let there = agree b (if-some _ thing h) in (
        there,
        λ s i e here.
            let same = value-Var program s i e b in
            let start : In (begun scope b facts) (value program s i e (terms.Var b)) = rw same (begun-in program scope facts fit s i e here b there) in
            (refl, rw same at (atom-in program scope facts fit s i e here (terms.Var b) (begun scope b facts) start)),
      )
  layer (ResolvedTerm-F.Read fun args) h facts need at fit k =
      let p = and_parts _ _ (if-some _ thing h) in
      let same = slice_get-map (signature_of program.domains) funs fun in
      let inner = rw same at (nil-parts (outside_faults _ need at) _ k).1 in
      let fine = args-taken (slice_get funs fun) (map term args) facts (at + 2) (claims args) fit p.1 p.0 inner in (
        sums_read signatures scope fun (map term args) ∙ fine.0,
        λ s i e here.
            let f = fine.1 s i e here in
            let taken : takes_args (slice_get signatures fun) (map (value program s i e) (map term args)) ≡ true = rw same f.1 in
            let is = value-Read program s i e fun (map term args) in
            let start : In (codomain_range (slice_get signatures fun)) (value program s i e (terms.Read fun (map term args))) =
            rw is (read-in program s i e scope here.reads here.values _ fun (map (value program s i e) (map term args)) refl taken) in (
              defined_read program s i e fun (map term args) ∙ and_from _ _ f.0 taken,
              rw (refined_terms signatures scope (map term args)) (rw is at (atom-in program scope facts fit s i e here (terms.Read fun (map term args)) _ start)),
            ),
      )
  layer (ResolvedTerm-F.Binary op l r) h facts need at fit k =
      let own = nil-parts (fault (ends.Wide at) (not (sum_fits op (binary_range op (range signatures scope l.0) (range signatures scope r.0))))) _ k in
      let inner = nil-parts (outside_faults _ need at) _ own.1 in
      let q = both l r (binary-some op _ _ h) facts _ _ fit inner.1 in (
        and_from _ _ q.0 (no-fault (ends.Wide at) (sum_fits op (binary_range op (range signatures scope l.0) (range signatures scope r.0))) own.0),
        λ s i e here. let f = q.1 s i e here in (f.0, binary-in op _ _ _ _ f.1 f.2),
      )
  layer (ResolvedTerm-F.Not t) h facts need at fit k =
      let a = t.1 (truth-some _ (if-some _ truth h)) facts None (at + 1) fit (nil-parts (outside_faults truths need at) _ k).1 in
      (a.0, λ s i e here. ((a.1 s i e here).0, truth-in _))
  layer (ResolvedTerm-F.Min l r) h facts need at fit k =
      let q = both l r (two-things _ _ thing h) facts _ _ fit (nil-parts (outside_faults _ need at) _ k).1 in
      (q.0, λ s i e here. let f = q.1 s i e here in (f.0, min-in _ _ _ _ f.1 f.2))
  layer (ResolvedTerm-F.Max l r) h facts need at fit k =
      let q = both l r (two-things _ _ thing h) facts _ _ fit (nil-parts (outside_faults _ need at) _ k).1 in
      (q.0, λ s i e here. let f = q.1 s i e here in (f.0, max-in _ _ _ _ f.1 f.2))
  layer (ResolvedTerm-F.Cond g l r) h facts need at fit k =
      let p = and_parts _ _ (if-some _ thing h) in
      let s = and_parts _ _ p.1 in
      let inner = nil-parts (term_faults signatures scope g.0 facts None (at + 2)) _ (nil-parts (outside_faults _ need at) _ k).1 in
      let branches = nil-parts (term_faults signatures scope l.0 (Held g.0 ∷ facts) None _) _ inner.1 in
      let c = g.1 (truth-some _ p.0) facts None (at + 2) fit inner.0 in
      let a = l.1 (thing-some _ s.0) (Held g.0 ∷ facts) None _ (c.0, fit) branches.0 in
      let b = r.1 (thing-some _ s.1) (Failed g.0 ∷ facts) None _ (c.0, fit) branches.1 in (
        and_from _ _ c.0 (and_from _ _ a.0 b.0),
        λ st i e here. decided g.0 l.0 r.0 facts st i e here (c.1 st i e here).0 (a.1 st i e) (b.1 st i e) _ refl,
      )
    where
      decided : (g l r : ResolvedTerm) (facts : Facts) (st i e : List ℤ) → Here program scope facts st i e → defined program st i e g ≡ true
          → (Here program scope (Held g ∷ facts) st i e → (defined program st i e l ≡ true) × In (refined signatures scope l (Held g ∷ facts)) (value program st i e l))
          → (Here program scope (Failed g ∷ facts) st i e → (defined program st i e r ≡ true) × In (refined signatures scope r (Failed g ∷ facts)) (value program st i e r))
          → (c : Bool) → holds (value program st i e g) ≡ c
          → ((defined program st i e g && (if holds (value program st i e g) then defined program st i e l else defined program st i e r)) ≡ true)
          × In (hull (refined signatures scope l (Held g ∷ facts)) (refined signatures scope r (Failed g ∷ facts))) (if holds (value program st i e g) then value program st i e l else value program st i e r)
      decided g l r facts st i e here d f f' true is =
          let a = f (record { reads = here.reads; values = here.values; good = ((d, is), here.good) }) in
          rw is (and_from _ _ d a.0, hull-left _ _ _ a.1)
      decided g l r facts st i e here d f f' false is =
          let a = f' (record { reads = here.reads; values = here.values; good = ((d, is), here.good) }) in
          rw is (and_from _ _ d a.0, hull-right _ _ _ a.1)

  rolled : (x : ResolvedTerm-F ResolvedTerm) → Layer x → Claim (roll-ResolvedTerm x)
  rolled x one h facts need at fit k =
      let l = one (sym (ap is_some (sort_at x (roll-ResolvedTerm x) refl funs bound)) ∙ h) facts need at fit (sym (faults_at x (roll-ResolvedTerm x) refl signatures scope facts need at) ∙ k) in (
        sums_at x (roll-ResolvedTerm x) refl signatures scope ∙ l.0,
        λ s i e here.
            let f = l.1 s i e here in (
              defined_at x (roll-ResolvedTerm x) refl program s i e ∙ f.0,
              rw (refined_at x (roll-ResolvedTerm x) refl signatures scope facts, value_at x (roll-ResolvedTerm x) refl program s i e) f.1,
            ),
      )

  -- the sums of a sorted term without a fault fit, and where what is known is true, it is defined, and its value lies in its refined range
  pub term-fine : (t : ResolvedTerm) → Claim t
  term-fine = ind-ResolvedTerm Claim (λ x y is. subst (λ z. Claim (roll-ResolvedTerm z)) is (rolled (map-ResolvedTerm Sound ResolvedTerm term y) (layer y)))

  pub all-fine : (ts : List ResolvedTerm) → AllByRecursion Claim ts
  all-fine [] = tt
  all-fine (t ∷ ts) = (term-fine t, all-fine ts)
