-- From every valid hart, the code of a rule uses no port and stores in the map alone.
use Rattle.std.proofs.Common.{◌≡◌, ℕ, ◌+◌, ◌^◌, ◌<◌, ◌≤◌, Bool, true, false, ◌&&◌, max, List, [], ◌∷◌, ◌++◌, length, map, Option, Some, None, refl, sym, ap, ◌∙◌, subst, ⊎_elim, arith, ◌==◌}
use Rattle.std.specs.Prelude.{is_some, slice_get, slice_index, if◌then◌else◌}
use Rattle.std.specs.List.{AllByRecursion, list_all}
use Rattle.std.proofs.lemmas.{Bool.{and_from, and_parts, cases_Bool, eqb-true, ltb-true}, List.Folds.{list_all-append, list_all-map}}
use Rattle.asm_names.specs.declared.{program.Resolved.{Resolved}, resolved_term.ResolvedTerm.{ResolvedTerm}}
use Rattle.asm_ranges.specs.Ranges.{Scope, range, scoped}
use Rattle.state_space.specs.{Locations.{is_state, signatures_of}, Sizes.{padded_count}, declared.signature.Signature.{Signature}}
use Rattle.block_code.specs.Effect.{moved}
use Rattle.block_code.specs.Footprint.{Footprint, LinesTouchOnly, only_in, untouched}
use Rattle.block_code.specs.Leads.{IsSameOutside}
use Rattle.block_code.specs.Moment.{Moment}
use Rattle.block_code.specs.Plan.{If, Line, Plan, Seq}
use Rattle.block_code.specs.Silent.{IsSilent, IsStorelessPlan, Respects}
use Rattle.block_code.proofs.{Footprint.{outside-joined, outside-same, touches-outside, touches-silent}, Silent.{keeps-ram, respects-if, respects-seq}}
use Rattle.bound_count.specs.{RuleWeights.{greatest}, TermWeights.{arguments_registers, term_registers}}
use Rattle.state_layout.specs.Map.{Placement, map_end, slot}
use Rattle.instr_select.specs.{SelectLaw.{IsMapped}, Short.{is_short}, Terms.{index_plan, term_plan}}
use Rattle.instr_select.proofs.{Selects.{terms-are-blocks}, Silences.{quiet-indices, terms-are-silent}, TermCode.{indices-are-coded}}
use Rattle.staged_commit.specs.{Code.{stage_line}, Law.{IsCoded}, Regions.{in_stage}}
use Rattle.staged_commit.proofs.{Pieces.{nil-touches}, Spotted.{between}, Update.{stage-touches}}
use Rattle.rule_expand.specs.declared.flat.Flat.{Flat, Flat-F, ind-Flat, map-Flat, roll-Flat}
use Rattle.rule_expand.specs.{Expanding.{Case}, FlatWeights.{cases_registers, flat_registers, flat_registers_by}}
use Rattle.rule_expand.proofs.FlatLevels.{flat_registers_at}
use Rattle.rule_code.specs.{Code.{all_plan, bind_line, case_plan, cases_plan, deepest, found, guarded_plan, halved, rule_plan, rule_plan_by, unless_found, update_plan}, Short.{flat_short, flat_short_by}, Within.{IsTame, in_map}}
use Rattle.rule_code.proofs.{Below.{all-below, short-below}, Cases.{need-append, pair_registers}, Frame.{between-parts, where-staged}, Halves.{halved-holds}, Levels.{flat_short_at, rule_plan_at}, Marks.{bind-touches, bound_footprint, found-touches}, Stages.{greatest-append, map-joined}}

pub outside-more : (f g : ℕ → Bool) → ((o : ℕ) → f o ≡ true → g o ≡ true) → (s s' : Moment) → IsSameOutside f s s' → IsSameOutside g s s'
outside-more f g sub s s' h = record { bytes = λ o out. h.bytes o (λ k. out (sub o k)); count = h.count }

module _ (program : Resolved) (placement : Placement) (tables : ℕ) (mapped : IsMapped program placement) (coded : IsCoded placement) (small : map_end placement program.binders ≤ 2 ^ 20) where
  abbrev region : ℕ → Bool
  region = in_map placement program.binders

  abbrev pub Tame : Plan → Type 0
  Tame tree = Respects (IsTame region) tree

  abbrev of_term : ResolvedTerm → ℕ → Plan
  of_term = term_plan program placement tables

  abbrev plan : Flat → Plan
  plan = rule_plan program placement tables

  tame-same : (s : Moment) → IsTame region s s
  tame-same s = record { still = record { log = refl; readings = refl }; outside = outside-same region s }

  tame-joined : (a b c : Moment) → IsTame region a b → IsTame region b c → IsTame region a c
  tame-joined a b c h k = record {
    still = record { log = k.still.log ∙ h.still.log; readings = k.still.readings ∙ h.still.readings };
    outside = outside-joined region a b c h.outside k.outside;
  }

  tame-moved : (at : ℕ) (s : Moment) → IsTame region s (moved at s)
  tame-moved at s = record { still = record { log = refl; readings = refl }; outside = record { bytes = λ o out. refl; count = refl } }

  tame-seq : (p q : Plan) → Tame p → Tame q → Tame (Seq p q)
  tame-seq p q = respects-seq (IsTame region) tame-same tame-joined p q

  tame-if : (test : ℕ) (p q : Plan) → Tame p → Tame q → Tame (If test p q)
  tame-if test p q = respects-if (IsTame region) tame-same tame-joined tame-moved test p q

  tame-both : (tree : Plan) → IsSilent tree → Respects (IsSameOutside region) tree → Tame tree
  tame-both tree a b = record {
    does = λ rom size at s s' e d. record { still = a.does rom size at s s' e d; outside = b.does rom size at s s' e d };
    stops = λ rom size at s s' e d. record { still = a.stops rom size at s s' e d; outside = b.stops rom size at s s' e d };
  }

  pub tame-touched : (f : Footprint) → f.takes ≡ false → f.sends ≡ false → ((o : ℕ) → f.region o ≡ true → region o ≡ true) → (tree : Plan) → LinesTouchOnly f tree → Tame tree
  tame-touched f takes sends sub tree touches =
      let same = touches-outside f tree touches in
      tame-both tree (touches-silent f takes sends tree touches) (record {
        does = λ rom size at s s' e d. outside-more f.region region sub s s' (same.does rom size at s s' e d);
        stops = λ rom size at s s' e d. outside-more f.region region sub s s' (same.stops rom size at s s' e d);
      })

  tame-silent : (tree : Plan) → IsSilent tree → IsStorelessPlan tree → Tame tree
  tame-silent tree silent storeless =
      let same = keeps-ram tree storeless in
      tame-both tree silent (record {
        does = λ rom size at s s' e d. by_ram s s' (same.does rom size at s s' e d);
        stops = λ rom size at s s' e d. by_ram s s' (same.stops rom size at s s' e d);
      })
    where
      by_ram : (s s' : Moment) → s'.hart.ram ≡ s.hart.ram → IsSameOutside region s s'
      by_ram s s' same = record { bytes = λ o out. ap (λ r. slice_index r o) same; count = ap length same }

  tame-none : Tame (Line [])
  tame-none = tame-touched untouched refl refl (λ o h. absurd cc) (Line []) (nil-touches placement coded untouched)

  abbrev Few : Scope → Type 0
  Few scope = (b : ℕ) → is_some (scope b) ≡ true → b < program.binders

  -- a plan that is tame where its terms are short
  abbrev Tames : Plan → (Scope → Bool) → ℕ → Type 0
  Tames tree short registers = (scope : Scope) → Few scope → short scope ≡ true → registers ≤ 16 → Tame tree

  abbrev Rule : Flat → Type 0
  Rule flat = Tames (plan flat) (flat_short program flat) (flat_registers flat)

  tame-term : (t : ResolvedTerm) (r : ℕ) (scope : Scope) → Few scope → is_short (signatures_of program) scope t ≡ true → 5 ≤ r → r + term_registers t ≤ 21 → Tame (of_term t r)
  tame-term t r scope few k low high =
      tame-silent (of_term t r) (terms-are-silent program placement tables t mapped small (short-below program.binders (signatures_of program) scope few t k) r low high)
      (terms-are-blocks program placement tables t r (omega arith)).storeless

  -- ---- an update
  module _ (fun : ℕ) (args : List ResolvedTerm) (new : ResolvedTerm) where
    abbrev update_short : Scope → Bool
    update_short scope = list_all (is_short (signatures_of program) scope) args && is_short (signatures_of program) scope new

    abbrev update_need : ℕ
    update_need = max (arguments_registers 0 (map term_registers args)) (1 + term_registers new)

    tames-kind : (signature : Signature) → slice_get placement.signatures fun ≡ Some signature → (b : Bool) → is_state signature.kind ≡ b
        → Tames (if b then Seq (index_plan signature.args (map of_term args) 5) (Seq (of_term new 6) (Line (stage_line placement fun (padded_count signature.args)))) else Line []) update_short update_need
    tames-kind signature here false kind scope few k regs = tame-none
    tames-kind signature here true kind scope few k regs =
        let p = and_parts _ _ k in
        let index : Plan = index_plan signature.args (map of_term args) 5 in
        let line : Plan = Line (stage_line placement fun (padded_count signature.args)) in
        let f : Footprint = only_in (in_stage placement fun (padded_count signature.args)) in
        tame-seq index (Seq (of_term new 6) line)
        (tame-silent index (quiet-indices program placement tables mapped small signature.args args (all-below program.binders (signatures_of program) scope few args p.0) 4 (omega arith) (omega arith))
        ((indices-are-coded program placement tables signature.args args 5 5 (omega arith) (omega arith)).0).storeless)
        (tame-seq (of_term new 6) line (tame-term new 6 scope few p.1 (omega arith) (omega arith))
        (tame-touched f refl refl
        (λ o h. ⊎_elim (λ w. let w1 = w.1 in between 0 (map_end placement program.binders) o (omega arith) (omega arith)) (λ w. let w1 = w.1 in between 0 (map_end placement program.binders) o (omega arith) (omega arith))
        (where-staged placement fun signature here kind o h))
        line (stage-touches placement coded fun signature here kind (Line []) (Line []) (nil-touches placement coded f) (nil-touches placement coded f)).1.1))

    tames-update : (o : Option Signature) → slice_get placement.signatures fun ≡ o → Tames (update_plan placement fun o (map of_term args) (of_term new)) update_short update_need
    tames-update None here = λ scope few k regs. tame-none
    tames-update (Some signature) here = tames-kind signature here (is_state signature.kind) refl

  -- ---- parts
  abbrev Parts : List Flat → Plan → Type 0
  Parts fs tree = Tames tree (λ scope. list_all (λ f. flat_short program f scope) fs) (greatest (map flat_registers fs))

  parts-joined : (xs ys : List Flat) (p q : Plan) → Parts xs p → Parts ys q → Parts (xs ++ ys) (Seq p q)
  parts-joined xs ys p q f g scope few k regs =
      let ks = and_parts _ _ (sym (list_all-append (λ f. flat_short program f scope) xs ys) ∙ k) in
      let e = ap greatest (map-joined flat_registers xs ys) ∙ greatest-append (map flat_registers xs) (map flat_registers ys) in
      tame-seq p q (f scope few ks.0 (omega arith)) (g scope few ks.1 (omega arith))

  tames-parts : (fs : List Flat) → AllByRecursion Rule fs → Parts fs (all_plan (map plan fs))
  tames-parts [] all = λ scope few k regs. tame-none
  tames-parts (f ∷ fs) all = halved-holds Seq Parts parts-joined deepest plan f fs (one f all.0) (each fs all.1)
    where
      one : (f : Flat) → Rule f → Parts (f ∷ []) (plan f)
      one f h scope few k regs = h scope few (and_parts _ _ k).0 (omega arith)

      each : (fs : List Flat) → AllByRecursion Rule fs → AllByRecursion (λ f. Parts (f ∷ []) (plan f)) fs
      each [] all = tt
      each (f ∷ fs) all = (one f all.0, each fs all.1)

  -- ---- cases
  abbrev case_short : Scope → Case → Bool
  case_short scope case = is_short (signatures_of program) scope case.0 && flat_short program case.1 scope

  abbrev Found : List Case → Plan → Type 0
  Found cases tree = Tames tree (λ scope. list_all (case_short scope) cases) (cases_registers (map pair_registers cases))

  abbrev case_code : Case → Plan
  case_code case = case_plan (of_term case.0 5, plan case.1)

  found-joined : (xs ys : List Case) (p q : Plan) → Found xs p → Found ys q → Found (xs ++ ys) (unless_found p q)
  found-joined xs ys p q f g scope few k regs =
      let ks = and_parts _ _ (sym (list_all-append (case_short scope) xs ys) ∙ k) in let e = need-append xs ys in
      tame-seq p (If 5 (Line []) q) (f scope few ks.0 (omega arith)) (tame-if 5 (Line []) q tame-none (g scope few ks.1 (omega arith)))

  found-one : (case : Case) → Rule case.1 → Found (case ∷ []) (case_code case)
  found-one case h scope few k regs =
      let ks = and_parts _ _ (and_parts _ _ k).0 in
      tame-seq (of_term case.0 5) (If 5 (Seq (plan case.1) (Line found)) (Line [])) (tame-term case.0 5 scope few ks.0 (omega arith) (omega arith))
      (tame-if 5 (Seq (plan case.1) (Line found)) (Line [])
      (tame-seq (plan case.1) (Line found) (h scope few ks.1 (omega arith)) (tame-touched untouched refl refl (λ o h. absurd cc) (Line found) found-touches)) tame-none)

  abbrev pair_plan : Case → ResolvedTerm × Plan
  pair_plan case = (case.0, plan case.1)

  same-plans : (cases : List Case) → map case_code cases ≡ map case_plan (map (guarded_plan of_term) (map pair_plan cases))
  same-plans [] = refl
  same-plans (case ∷ cases) = ap (λ ps. case_code case ∷ ps) (same-plans cases)

  tames-cases : (cases : List Case) (other : Flat) → AllByRecursion (λ (case : Case). Rule case.1) cases → Rule other
      → Tames (cases_plan (map (guarded_plan of_term) (map pair_plan cases)) (plan other)) (λ scope. list_all (case_short scope) cases && flat_short program other scope)
      (max (cases_registers (map pair_registers cases)) (flat_registers other))
  tames-cases [] other all h = λ scope few k regs. h scope few k (omega arith)
  tames-cases (case ∷ cases) other all h = λ scope few k regs.
      let ks = and_parts _ _ k in
      subst (λ ps. Tame (unless_found (halved unless_found deepest (case_code case) ps) (plan other))) (same-plans cases)
      (tame-seq (halved unless_found deepest (case_code case) (map case_code cases)) (If 5 (Line []) (plan other))
      (halved-holds unless_found Found found-joined deepest case_code case cases (found-one case all.0) (each cases all.1) scope few ks.0 (omega arith))
      (tame-if 5 (Line []) (plan other) tame-none (h scope few ks.1 (omega arith))))
    where
      each : (cases : List Case) → AllByRecursion (λ (case : Case). Rule case.1) cases → AllByRecursion (λ case. Found (case ∷ []) (case_code case)) cases
      each [] all = tt
      each (case ∷ cases) all = (found-one case all.0, each cases all.1)

  -- ---- all rules
  abbrev Sound : Type 0
  Sound = (flat : Flat) × Rule flat

  abbrev rule_of : Sound → Flat
  rule_of s = s.0

  all-parts : (ss : List Sound) → AllByRecursion Rule (map rule_of ss)
  all-parts [] = tt
  all-parts (s ∷ ss) = (s.1, all-parts ss)

  abbrev case_of : ResolvedTerm × Sound → Case
  case_of case = (case.0, rule_of case.1)

  all-cases : (list : List (ResolvedTerm × Sound)) → AllByRecursion (λ (case : Case). Rule case.1) (map case_of list)
  all-cases [] = tt
  all-cases (case ∷ list) = (case.1.1, all-cases list)

  abbrev Layer : Flat-F Flat → Type 0
  Layer x = Tames (rule_plan_by program placement tables (map-Flat Flat Plan plan x)) (flat_short_by program (map-Flat Flat (Scope → Bool) (flat_short program) x)) (flat_registers_by (map-Flat Flat ℕ flat_registers x))

  layer : (y : Flat-F Sound) → Layer (map-Flat Sound Flat rule_of y)
  layer Flat-F.Skip = λ scope few k regs. tame-none
  layer (Flat-F.Update fun args new) = tames-update fun args new (slice_get placement.signatures fun) refl
  layer (Flat-F.Par parts) = λ scope few k regs. tames-parts (map rule_of parts) (all-parts parts) scope few (sym (list_all-map _ _ (map rule_of parts)) ∙ k) regs
  layer (Flat-F.Cases list other) = λ scope few k regs.
      let cases : List Case = map case_of list in let p = and_parts _ _ k in
      tames-cases cases other.0 (all-cases list) other.1 scope few (and_from _ _ (sym (list_all-map _ _ cases) ∙ p.0) p.1) regs
  layer (Flat-F.Let b t body) = λ scope few k regs.
      let p = and_parts _ _ k in let q = and_parts _ _ p.0 in let w = and_parts _ _ p.1 in let u = and_parts _ _ w.0 in
      let below : b < program.binders = ltb-true b program.binders q.0 in
      let bind : Plan = Line (bind_line placement b) in
      tame-seq (of_term t 5) (Seq bind (plan body.0)) (tame-term t 5 scope few u.0 (omega arith) (omega arith))
      (tame-seq bind (plan body.0)
      (tame-touched (bound_footprint placement b (omega arith)) refl refl
      (λ o h. let w = between-parts (slot placement b) (slot placement b + 4) o h in let w1 = w.1 in between 0 (map_end placement program.binders) o (omega arith) (omega arith))
      bind (bind-touches placement b (omega arith)))
      (body.1 (scoped scope b (range (signatures_of program) scope t)) (more scope few b (range (signatures_of program) scope t) below) w.1 (omega arith)))
    where
      more : (scope : Scope) → Few scope → (b : ℕ) → (interval : _) → b < program.binders → Few (scoped scope b interval)
      more scope few b interval below other some =
          ⊎_elim (λ e. subst (λ n. n < program.binders) (sym (eqb-true other b e)) below) (λ e. few other (subst (λ t. is_some (if t then Some interval else scope other) ≡ true) e some)) (cases_Bool (other == b))

  rolled : (x : Flat-F Flat) → Layer x → Rule (roll-Flat x)
  rolled x h scope few k regs =
      subst Tame (sym (rule_plan_at x program placement tables))
      (h scope few (sym (flat_short_at x program scope) ∙ k) (let e = flat_registers_at x (roll-Flat x) refl in omega arith))

  pub rules-are-tame : (flat : Flat) → Rule flat
  rules-are-tame = ind-Flat Rule (λ x y is. subst (λ z. Rule (roll-Flat z)) is (rolled (map-Flat Sound Flat rule_of y) (layer y)))
