-- What the code of rules is made of, and how long it is.
use Rattle.std.proofs.Common.{◌≡◌, ℕ, ◌+◌, ◌≤◌, Bool, true, false, List, [], ◌∷◌, ◌++◌, map, Option, Some, None, refl, sym, ap, ◌∙◌, subst, arith}
use Rattle.std.specs.Prelude.{slice_get, if◌then◌else◌}
use Rattle.std.specs.List.{AllByRecursion}
use Rattle.asm_names.specs.declared.{program.Resolved.{Resolved}, resolved_term.ResolvedTerm.{ResolvedTerm}}
use Rattle.state_space.specs.{Locations.{is_state}, Sizes.{padded_count}, declared.signature.Signature.{Signature}}
use Rattle.trap_model.specs.declared.width.Width.TheVariants.{Word}
use Rattle.block_code.specs.Block.{IsBlock}
use Rattle.block_code.specs.Effect.{Holds}
use Rattle.block_code.specs.Plan.{If, Line, Loop, Plan, Scan, Seq, full, len, nest}
use Rattle.block_code.specs.Silent.{IsStorelessPlan}
use Rattle.state_layout.specs.Map.{Placement, slot}
use Rattle.bound_count.specs.{RuleWeights.{total}, TermWeights.{arguments_weight, term_weight}}
use Rattle.instr_select.specs.Terms.{index_plan, term_plan}
use Rattle.instr_select.proofs.{Selects.{terms-are-blocks}, TermCode.{indices-are-coded}}
use Rattle.staged_commit.specs.Code.{stage_line}
use Rattle.staged_commit.proofs.Lines.{stage-line, store-line}
use Rattle.rule_expand.specs.declared.flat.Flat.{Flat, Flat-F, ind-Flat, map-Flat, roll-Flat}
use Rattle.rule_expand.specs.{Expanding.{Case}, FlatWeights.{cases_weight, flat_weight, flat_weight_by}}
use Rattle.rule_expand.proofs.FlatLevels.{flat_weight_at}
use Rattle.rule_code.specs.Code.{all_plan, bind_line, case_plan, cases_plan, deepest, found, guarded_plan, halved, let_plan, rule_plan, rule_plan_by, unless_found, update_plan}
use Rattle.rule_code.proofs.{Halves.{halved-holds}, Levels.{rule_plan_at}, Marks.{found-line}}

-- a block without loops and scans, whose words and ticks are no more than these
pub record IsRuleCode (tree : Plan) (words : ℕ) : Type 0 where
  pub block : IsBlock tree
  pub holds : (size : ℕ) → Holds size tree
  pub few : len tree ≤ words
  pub quick : full tree ≤ words
  pub flat : nest tree ≡ 0

code-seq : (p q : Plan) (m n : ℕ) → IsRuleCode p m → IsRuleCode q n → IsRuleCode (Seq p q) (m + n)
code-seq p q m n a b =
    let a1 = a.few in let a2 = a.quick in let a3 = a.flat in let b1 = b.few in let b2 = b.quick in let b3 = b.flat in
    record { block = (a.block, b.block); holds = λ size. (a.holds size, b.holds size); few = omega arith; quick = omega arith; flat = omega arith }

code-if : (test : ℕ) (p q : Plan) (m n : ℕ) → IsRuleCode p m → IsRuleCode q n → IsRuleCode (If test p q) (3 + m + n)
code-if test p q m n a b =
    let a1 = a.few in let a2 = a.quick in let a3 = a.flat in let b1 = b.few in let b2 = b.quick in let b3 = b.flat in
    record { block = (a.block, b.block); holds = λ size. (a.holds size, b.holds size); few = omega arith; quick = omega arith; flat = omega arith }

code-more : (p : Plan) (m n : ℕ) → m ≤ n → IsRuleCode p m → IsRuleCode p n
code-more p m n h a = let a1 = a.few in let a2 = a.quick in record { block = a.block; holds = a.holds; few = omega arith; quick = omega arith; flat = a.flat }

code-none : (n : ℕ) → IsRuleCode (Line []) n
code-none n = record { block = tt; holds = λ size. tt; few = omega arith; quick = omega arith; flat = refl }

total-append : (xs ys : List ℕ) → total (xs ++ ys) ≡ total xs + total ys
total-append [] ys = omega arith
total-append (x ∷ xs) ys = let e = total-append xs ys in omega arith

map-joined : {A B : Type 0} (f : A → B) (xs ys : List A) → map f (xs ++ ys) ≡ map f xs ++ map f ys
map-joined f [] ys = refl
map-joined f (x ∷ xs) ys = ap (λ zs. f x ∷ zs) (map-joined f xs ys)

module _ (program : Resolved) (placement : Placement) (tables : ℕ) where
  abbrev of_term : ResolvedTerm → ℕ → Plan
  of_term = term_plan program placement tables

  abbrev plan : Flat → Plan
  plan = rule_plan program placement tables

  abbrev Rule : Flat → Type 0
  Rule flat = IsRuleCode (plan flat) (flat_weight flat)

  -- terms have no loops
  loopless : (tree : Plan) → IsStorelessPlan tree → nest tree ≡ 0
  loopless (Line instrs) h = refl
  loopless (Seq p q) h = let a = loopless p h.0 in let b = loopless q h.1 in omega arith
  loopless (If test p q) h = let a = loopless p h.0 in let b = loopless q h.1 in omega arith
  loopless (Loop count slot body) h = absurd h
  loopless (Scan count slot guard test found none) h = absurd h

  code-term : (t : ResolvedTerm) (r : ℕ) → r ≤ 21 → IsRuleCode (of_term t r) (term_weight t)
  code-term t r few =
      let b = terms-are-blocks program placement tables t r few in
      record { block = b.block; holds = b.holds; few = b.words; quick = b.ticks; flat = loopless (of_term t r) b.storeless }

  code-index : (signature : Signature) (args : List ResolvedTerm) → IsRuleCode (index_plan signature.args (map of_term args) 5) (2 + arguments_weight (map term_weight args))
  code-index signature args =
      let c = indices-are-coded program placement tables signature.args args 5 5 (omega arith) (omega arith) in let few = c.1 in let steady = c.0.steady in
      record { block = c.0.block; holds = c.0.holds; few = c.1; quick = omega arith; flat = loopless (index_plan signature.args (map of_term args) 5) c.0.storeless }

  code-stage : (fun count : ℕ) → IsRuleCode (Line (stage_line placement fun count)) 27
  code-stage fun count = record { block = stage-line placement fun count; holds = λ size. tt; few = omega arith; quick = omega arith; flat = refl }

  code-update : (fun : ℕ) (args : List ResolvedTerm) (new : ResolvedTerm) (o : Option Signature)
      → IsRuleCode (update_plan placement fun o (map of_term args) (of_term new)) (48 + (arguments_weight (map term_weight args) + term_weight new))
  code-update fun args new None = code-none _
  code-update fun args new (Some signature) = by_kind (is_state signature.kind)
    where
      staging : Plan
      staging = Seq (index_plan signature.args (map of_term args) 5) (Seq (of_term new 6) (Line (stage_line placement fun (padded_count signature.args))))

      by_kind : (b : Bool) → IsRuleCode (if b then staging else Line []) (48 + (arguments_weight (map term_weight args) + term_weight new))
      by_kind true =
          code-more staging _ _ (omega arith)
          (code-seq (index_plan signature.args (map of_term args) 5) (Seq (of_term new 6) (Line (stage_line placement fun (padded_count signature.args)))) _ _ (code-index signature args)
          (code-seq (of_term new 6) (Line (stage_line placement fun (padded_count signature.args))) _ _ (code-term new 6 (omega arith)) (code-stage fun (padded_count signature.args))))
      by_kind false = code-none _

  -- ---- parts
  abbrev Parts : List Flat → Plan → Type 0
  Parts fs tree = IsRuleCode tree (total (map flat_weight fs))

  parts-joined : (xs ys : List Flat) (p q : Plan) → Parts xs p → Parts ys q → Parts (xs ++ ys) (Seq p q)
  parts-joined xs ys p q a b =
      let e = ap total (map-joined flat_weight xs ys) ∙ total-append (map flat_weight xs) (map flat_weight ys) in
      code-more (Seq p q) _ _ (omega arith) (code-seq p q _ _ a b)

  code-parts : (fs : List Flat) → AllByRecursion Rule fs → Parts fs (all_plan (map plan fs))
  code-parts [] all = code-none _
  code-parts (f ∷ fs) all = halved-holds Seq Parts parts-joined deepest plan f fs (one f all.0) (each fs all.1)
    where
      one : (f : Flat) → Rule f → Parts (f ∷ []) (plan f)
      one f h = code-more (plan f) _ _ (omega arith) h

      each : (fs : List Flat) → AllByRecursion Rule fs → AllByRecursion (λ f. Parts (f ∷ []) (plan f)) fs
      each [] all = tt
      each (f ∷ fs) all = (one f all.0, each fs all.1)

  -- ---- cases: 7 words for each, of which the joints are 3
  abbrev pair_weight : Case → ResolvedTerm × ℕ
  pair_weight case = (case.0, flat_weight case.1)

  abbrev weight_of : List Case → ℕ
  weight_of cases = cases_weight (map pair_weight cases)

  weight-append : (xs ys : List Case) → weight_of (xs ++ ys) ≡ weight_of xs + weight_of ys
  weight-append [] ys = omega arith
  weight-append (x ∷ xs) ys = let e = weight-append xs ys in omega arith

  abbrev Found : List Case → Plan → Type 0
  Found cases tree = (words : ℕ) × IsRuleCode tree words × (words + 3 ≤ weight_of cases)

  abbrev case_code : Case → Plan
  case_code case = case_plan (of_term case.0 5, plan case.1)

  found-joined : (xs ys : List Case) (p q : Plan) → Found xs p → Found ys q → Found (xs ++ ys) (unless_found p q)
  found-joined xs ys p q (m, a, few) (n, b, less) =
      let e = weight-append xs ys in
      (m + (3 + 0 + n), code-seq p (If 5 (Line []) q) m (3 + 0 + n) a (code-if 5 (Line []) q 0 n (code-none 0) b), omega arith)

  found-one : (case : Case) → Rule case.1 → Found (case ∷ []) (case_code case)
  found-one case h =
      let w = flat_weight case.1 in let t = term_weight case.0 in (
        t + (3 + (w + 1) + 0),
        code-seq (of_term case.0 5) (If 5 (Seq (plan case.1) (Line found)) (Line [])) t (3 + (w + 1) + 0) (code-term case.0 5 (omega arith))
            (code-if 5 (Seq (plan case.1) (Line found)) (Line []) (w + 1) 0
            (code-seq (plan case.1) (Line found) w 1 h (record { block = found-line; holds = λ size. tt; few = omega arith; quick = omega arith; flat = refl })) (code-none 0)),
        omega arith,
      )

  abbrev pair_plan : Case → ResolvedTerm × Plan
  pair_plan case = (case.0, plan case.1)

  same-plans : (cases : List Case) → map case_code cases ≡ map case_plan (map (guarded_plan of_term) (map pair_plan cases))
  same-plans [] = refl
  same-plans (case ∷ cases) = ap (λ ps. case_code case ∷ ps) (same-plans cases)

  code-cases : (cases : List Case) (other : Flat) → AllByRecursion (λ (case : Case). Rule case.1) cases → Rule other
      → IsRuleCode (cases_plan (map (guarded_plan of_term) (map pair_plan cases)) (plan other)) (weight_of cases + flat_weight other)
  code-cases [] other all h = code-more (plan other) _ _ (omega arith) h
  code-cases (case ∷ cases) other all h =
      subst (λ ps. IsRuleCode (unless_found (halved unless_found deepest (case_code case) ps) (plan other)) (weight_of (case ∷ cases) + flat_weight other)) (same-plans cases)
      (joined (halved-holds unless_found Found found-joined deepest case_code case cases (found-one case all.0) (each cases all.1)))
    where
      each : (cases : List Case) → AllByRecursion (λ (case : Case). Rule case.1) cases → AllByRecursion (λ case. Found (case ∷ []) (case_code case)) cases
      each [] all = tt
      each (case ∷ cases) all = (found-one case all.0, each cases all.1)

      tree : Plan
      tree = halved unless_found deepest (case_code case) (map case_code cases)

      joined : Found (case ∷ cases) tree → IsRuleCode (unless_found tree (plan other)) (weight_of (case ∷ cases) + flat_weight other)
      joined (m, a, few) =
          code-more (unless_found tree (plan other)) (m + (3 + 0 + flat_weight other)) _ (omega arith)
          (code-seq tree (If 5 (Line []) (plan other)) m (3 + 0 + flat_weight other) a (code-if 5 (Line []) (plan other) 0 (flat_weight other) (code-none 0) h))

  -- ---- all rules
  abbrev Sound : Type 0
  Sound = (flat : Flat) × Rule flat

  abbrev rule_of : Sound → Flat
  rule_of s = s.0

  all-parts : (ss : List Sound) → AllByRecursion Rule (map rule_of ss)
  all-parts [] = tt
  all-parts (s ∷ ss) = (s.1, all-parts ss)

  abbrev case_of : ResolvedTerm × Sound → Case
  case_of case = (case.0, rule_of case.1)

  all-cases : (list : List (ResolvedTerm × Sound)) → AllByRecursion (λ (case : Case). Rule case.1) (map case_of list)
  all-cases [] = tt
  all-cases (case ∷ list) = (case.1.1, all-cases list)

  layer : (y : Flat-F Sound) → IsRuleCode (rule_plan_by program placement tables (map-Flat Flat Plan plan (map-Flat Sound Flat rule_of y))) (flat_weight_by (map-Flat Flat ℕ flat_weight (map-Flat Sound Flat rule_of y)))
  layer Flat-F.Skip = code-none _
  layer (Flat-F.Update fun args new) = code-update fun args new (slice_get placement.signatures fun)
  layer (Flat-F.Par parts) = code-parts (map rule_of parts) (all-parts parts)
  layer (Flat-F.Cases list other) = code-cases (map case_of list) other.0 (all-cases list) other.1
  layer (Flat-F.Let b t body) =
      code-more (let_plan placement b (of_term t) (plan body.0)) _ _ (omega arith)
      (code-seq (of_term t 5) (Seq (Line (bind_line placement b)) (plan body.0)) (term_weight t) (2 + flat_weight body.0) (code-term t 5 (omega arith))
      (code-seq (Line (bind_line placement b)) (plan body.0) 2 (flat_weight body.0)
      (record { block = store-line Word 5 (slot placement b); holds = λ size. tt; few = omega arith; quick = omega arith; flat = refl }) body.1))

  rolled : (x : Flat-F Flat) → IsRuleCode (rule_plan_by program placement tables (map-Flat Flat Plan plan x)) (flat_weight_by (map-Flat Flat ℕ flat_weight x)) → Rule (roll-Flat x)
  rolled x h =
      subst (λ tree. IsRuleCode tree (flat_weight (roll-Flat x))) (sym (rule_plan_at x program placement tables))
      (subst (λ n. IsRuleCode (rule_plan_by program placement tables (map-Flat Flat Plan plan x)) n) (sym (flat_weight_at x (roll-Flat x) refl)) h)

  -- the code of a rule is a block without loops, and it and its ticks are within the rule's weight
  pub rules-are-coded : (flat : Flat) → Rule flat
  rules-are-coded = ind-Flat Rule (λ x y is. subst (λ z. Rule (roll-Flat z)) is (rolled (map-Flat Sound Flat rule_of y) (layer y)))
