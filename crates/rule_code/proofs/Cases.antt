-- Cases stage the updates of the first whose guard holds, and register 5 says whether there is one.
use Rattle.std.proofs.Common.{◌≡◌, ◌≢◌, ℕ, ◌+◌, ◌*◌, ◌≤◌, ℤ, Bool, true, false, ◌&&◌, ◌||◌, max, List, [], ◌∷◌, ◌++◌, append-nil, map, refl, sym, ap, ◌∙◌, subst, arith}
use Rattle.std.specs.Prelude.{nat_lt, if◌then◌else◌}
use Rattle.std.specs.List.{AllByRecursion, list_all}
use Rattle.std.proofs.lemmas.{Bool.{and_parts}, Bool.Decides.{nat_tests}, List.Folds.{list_all-append}}
use Rattle.asm_names.specs.declared.{program.Resolved.{Resolved}, resolved_term.ResolvedTerm.{ResolvedTerm}}
use Rattle.asm_ranges.specs.{Ranges.{ReadsFit, Scope}, Values.{defined, holds, value}}
use Rattle.state_space.specs.Locations.{signatures_of}
use Rattle.block_code.specs.Effect.{moved, reg_at}
use Rattle.block_code.specs.Leads.{IsEntered, IsTruth, Leads}
use Rattle.block_code.specs.Moment.{Moment}
use Rattle.block_code.specs.Plan.{If, Line, Plan, Seq, len}
use Rattle.block_code.proofs.Leads.{leads-if, leads-more, leads-nil, leads-seq}
use Rattle.mask_guard.specs.Mask.{word_of}
use Rattle.state_layout.specs.Map.{Placement}
use Rattle.instr_select.specs.{SelectLaw.{HasValue}, Short.{is_short}, Terms.{term_plan}}
use Rattle.instr_select.proofs.{Arithmetic.{IsShort, set-word}, Entered.{enter-else, enter-first, enter-second, enter-then, if-room}, ShortValues.{short-values}}
use Rattle.update_sets.specs.Yields.{Updates}
use Rattle.rule_expand.specs.declared.flat.Flat.{Flat}
use Rattle.rule_expand.specs.{Expanding.{Case}, FlatDefined.{cases_defined, flat_defined}, FlatPlaces.{passes}, FlatUpdates.{first_case, flat_updates}, FlatWeights.{cases_registers, flat_registers}}
use Rattle.rule_code.specs.{Code.{case_plan, cases_plan, deepest, found, guarded_plan, halved, rule_plan, unless_found}, Short.{flat_short}, Within.{IsBound, IsSetting, IsWithin}}
use Rattle.rule_code.proofs.{Halves.{halved-holds}, Leading.{value-leads}, Marks.{found-leads}, Stages.{Stages, StagesRule}}

neither : (a b : Bool) → (a || b) ≡ false → (a ≡ false) × (b ≡ false)
neither true b h = absurd cc
neither false b h = (refl, h)

-- where a guard is decided, the decided part is met
decides : (t x y : Bool) → (if t then x else y) ≡ true → (t ≡ true → x ≡ true) × (t ≡ false → y ≡ true)
decides true x y h = (λ e. h, λ e. absurd cc)
decides false x y h = (λ e. absurd cc, λ e. h)

-- what a register says of a truth
truth-set : (b : Bool) (x : ℕ) → IsTruth b x → x ≢ 0 → b ≡ true
truth-set true x h k = refl
truth-set false x h k = absurd (k h)

truth-clear : (b : Bool) (x : ℕ) → IsTruth b x → x ≡ 0 → b ≡ false
truth-clear true x h k = absurd (h k)
truth-clear false x h k = refl

module _ (program : Resolved) (state inputs : List ℤ) where
  abbrev test : List ℤ → ResolvedTerm → Bool
  test env g = holds (value program state inputs env g)

  abbrev yields : Flat → List ℤ → Updates
  yields = flat_updates program state inputs

  -- the updates of the first case whose guard holds, and none where there is no such case
  abbrev pub found_updates : List Case → List ℤ → Updates
  found_updates [] env = []
  found_updates (case ∷ cases) env = if test env case.0 then yields case.1 env else found_updates cases env

  -- the guards up to the first that holds, and its rule, are defined
  abbrev pub found_met : List Case → List ℤ → Bool
  found_met [] env = true
  found_met (case ∷ cases) env = defined program state inputs env case.0 && (if test env case.0 then flat_defined program state inputs case.1 env else found_met cases env)

  abbrev any : List Case → List ℤ → Bool
  any cases env = passes program state inputs env cases

  found-append : (xs ys : List Case) (env : List ℤ) → found_updates (xs ++ ys) env ≡ (if any xs env then found_updates xs env else found_updates ys env)
  found-append [] ys env = refl
  found-append (x ∷ xs) ys env =
      ap (λ us. if test env x.0 then yields x.1 env else us) (found-append xs ys env) ∙ regroup (test env x.0) (any xs env) _ _ _
    where
      regroup : (a b : Bool) (p q r : Updates) → (if a then p else (if b then q else r)) ≡ (if (a || b) then (if a then p else q) else r)
      regroup true b p q r = refl
      regroup false b p q r = refl

  any-append : (xs ys : List Case) (env : List ℤ) → any (xs ++ ys) env ≡ (any xs env || any ys env)
  any-append [] ys env = refl
  any-append (x ∷ xs) ys env = ap (λ b. test env x.0 || b) (any-append xs ys env) ∙ regroup (test env x.0) (any xs env) (any ys env)
    where
      regroup : (a b c : Bool) → (a || (b || c)) ≡ ((a || b) || c)
      regroup true b c = refl
      regroup false b c = refl

  found-none : (xs : List Case) (env : List ℤ) → any xs env ≡ false → found_updates xs env ≡ []
  found-none [] env h = refl
  found-none (x ∷ xs) env h =
      let n = neither (test env x.0) (any xs env) h in
      ap (λ b. if b then yields x.1 env else found_updates xs env) n.0 ∙ found-none xs env n.1

  met-append : (xs ys : List Case) (env : List ℤ) → found_met (xs ++ ys) env ≡ true → (found_met xs env ≡ true) × (any xs env ≡ false → found_met ys env ≡ true)
  met-append [] ys env h = (refl, λ e. h)
  met-append (x ∷ xs) ys env h =
      let p = and_parts _ _ h in let w = decides (test env x.0) _ _ p.1 in (
        joined (defined program state inputs env x.0) (test env x.0) _ _ p.0 w.0 (λ e. (met-append xs ys env (w.1 e)).0),
        λ none. let n = neither (test env x.0) (any xs env) none in (met-append xs ys env (w.1 n.0)).1 n.1,
      )
    where
      joined : (d t p q : Bool) → d ≡ true → (t ≡ true → p ≡ true) → (t ≡ false → q ≡ true) → (d && (if t then p else q)) ≡ true
      joined true true p q d f g = f refl
      joined true false p q d f g = g refl
      joined false t p q d f g = absurd cc

  -- cases and the rule where none holds
  abbrev pair_defined : Case → ResolvedTerm × (List ℤ → Bool)
  pair_defined case = (case.0, flat_defined program state inputs case.1)

  abbrev pair_updates : Case → ResolvedTerm × (List ℤ → Updates)
  pair_updates case = (case.0, yields case.1)

  cases-met : (cases : List Case) (other : List ℤ → Bool) (env : List ℤ) → cases_defined (defined program state inputs env) (test env) (map pair_defined cases) other env ≡ true
      → (found_met cases env ≡ true) × (any cases env ≡ false → other env ≡ true)
  cases-met [] other env h = (refl, λ e. h)
  cases-met (x ∷ xs) other env h =
      let p = and_parts _ _ h in let w = decides (test env x.0) _ _ p.1 in (
        joined (defined program state inputs env x.0) (test env x.0) _ _ p.0 w.0 (λ e. (cases-met xs other env (w.1 e)).0),
        λ none. let n = neither (test env x.0) (any xs env) none in (cases-met xs other env (w.1 n.0)).1 n.1,
      )
    where
      joined : (d t p q : Bool) → d ≡ true → (t ≡ true → p ≡ true) → (t ≡ false → q ≡ true) → (d && (if t then p else q)) ≡ true
      joined true true p q d f g = f refl
      joined true false p q d f g = g refl
      joined false t p q d f g = absurd cc

  cases-yield : (cases : List Case) (other : List ℤ → Updates) (env : List ℤ)
      → first_case (test env) (map pair_updates cases) other env ≡ (if any cases env then found_updates cases env else other env)
  cases-yield [] other env = refl
  cases-yield (x ∷ xs) other env = ap (λ us. if test env x.0 then yields x.1 env else us) (cases-yield xs other env) ∙ regroup (test env x.0) (any xs env) _ _ _
    where
      regroup : (a b : Bool) (p q r : Updates) → (if a then p else (if b then q else r)) ≡ (if (a || b) then (if a then p else q) else r)
      regroup true b p q r = refl
      regroup false b p q r = refl

abbrev pub pair_registers : Case → ResolvedTerm × ℕ
pair_registers case = (case.0, flat_registers case.1)

pub need-append : (xs ys : List Case) → cases_registers (map pair_registers (xs ++ ys)) ≡ max (cases_registers (map pair_registers xs)) (cases_registers (map pair_registers ys))
need-append [] ys = omega arith
need-append (x ∷ xs) ys = let e = need-append xs ys in omega arith

module _ (rom : List ℕ) (size : ℕ) (program : Resolved) (placement : Placement) (tables : ℕ) (set : IsSetting rom size program placement tables) (state inputs : List ℤ) (reads : ReadsFit program state inputs) where
  abbrev of_term : ResolvedTerm → ℕ → Plan
  of_term = term_plan program placement tables

  abbrev plan : Flat → Plan
  plan = rule_plan program placement tables

  abbrev Rule : Flat → Type 0
  Rule = StagesRule rom size program placement tables set state inputs reads

  abbrev inside : Scope → List ℤ → Updates → List ℕ → Type 0
  inside scope env updates ram = IsWithin program placement state inputs env scope updates ram

  abbrev own : List Case → List ℤ → Updates
  own = found_updates program state inputs

  abbrev passing : List Case → List ℤ → Bool
  passing cases env = passes program state inputs env cases

  abbrev case_short : Scope → Case → Bool
  case_short scope case = is_short (signatures_of program) scope case.0 && flat_short program case.1 scope

  -- the updates of cases are staged, and register 5 says whether a guard holds
  abbrev IsFound : Scope → List ℤ → Updates → List Case → Moment → Type 0
  IsFound scope env updates cases e = inside scope env (updates ++ own cases env) e.hart.ram × IsTruth (passing cases env) (reg_at 5 e)

  abbrev pub Finds : List Case → Plan → Type 0
  Finds cases tree =
      (scope : Scope) (env : List ℤ) (updates : Updates) → IsBound program scope env → list_all (case_short scope) cases ≡ true → found_met program state inputs cases env ≡ true
      → cases_registers (map pair_registers cases) ≤ 16
      → (address : ℕ) (s : Moment) → IsEntered rom size address tree s → inside scope env updates s.hart.ram
      → Leads rom size address tree (IsFound scope env updates cases) s

  abbrev case_code : Case → Plan
  case_code case = case_plan (of_term case.0 5, plan case.1)

  finds-one : (case : Case) → Rule case.1 → Finds (case ∷ []) (case_code case)
  finds-one case h scope env updates bound k d few address s e within =
      let guard : Plan = of_term case.0 5 in
      let rule : Plan = plan case.1 in
      let then_part : Plan = Seq rule (Line found) in
      let ks = and_parts _ _ (and_parts _ _ k).0 in let ds = and_parts _ _ d in
      let v : ℤ = value program state inputs env case.0 in
      let t = test program state inputs env case.0 in
      let w = decides t _ _ ds.1 in
      let short : IsShort v = short-values program state inputs env scope reads bound.values case.0 ds.0 ks.0 in
      leads-seq rom size address guard (If 5 then_part (Line [])) s (HasValue 5 v s) (IsFound scope env updates (case ∷ []))
      (value-leads rom size program placement tables set state inputs reads scope env updates bound case.0 5 address s ds.0 ks.0 (omega arith) (omega arith)
      (enter-first rom size address guard _ s e) within)
      (λ m bm.
      let em = enter-second rom size address guard (If 5 then_part (Line [])) s e m bm in
      let at : ℕ = address + 4 * len guard in
      let here : inside scope env updates m.hart.ram = subst (inside scope env updates) (sym bm.good.ram) within in
      leads-if rom size at 5 then_part (Line []) m (IsFound scope env updates (case ∷ [])) (if-room rom size at 5 then_part (Line []) m em)
      (λ set.
      let is : t ≡ true = holding (reg_at 5 m) v bm.good.holds short set in
      let et = enter-then rom size at 5 then_part (Line []) m em in
      leads-seq rom size (at + 8) rule (Line found) (moved (at + 8) m) _ _
      (h scope env updates bound ks.1 (w.0 is) (omega arith) (at + 8) (moved (at + 8) m) (enter-first rom size (at + 8) rule (Line found) _ et) here)
      (λ n bn.
      leads-more rom size (at + 8 + 4 * len rule) (Line found) n _ _
      (found-leads rom size (at + 8 + 4 * len rule) n (enter-second rom size (at + 8) rule (Line found) _ et n bn))
      (λ z dz sets. (
        subst (λ us. inside scope env (updates ++ us) z.hart.ram) (sym (ap (λ b. if b then flat_updates program state inputs case.1 env else []) is))
            (subst (inside scope env (updates ++ flat_updates program state inputs case.1 env)) (sym sets.ram) bn.good),
        subst (λ b. IsTruth (b || false) (reg_at 5 z)) (sym is) (λ none. let one = sets.here in absurd (omega arith)),
      ))))
      (λ clear.
      let is : t ≡ false = failing (reg_at 5 m) v bm.good.holds short clear in
      let ee = enter-else rom size at 5 then_part (Line []) m em in
      leads-nil rom size (at + 12 + 4 * len then_part) (moved (at + 12 + 4 * len then_part) m) _ ee.valid refl (
        subst (λ us. inside scope env us m.hart.ram) (sym (ap (λ us. updates ++ us) (ap (λ b. if b then flat_updates program state inputs case.1 env else []) is) ∙ append-nil updates)) here,
        subst (λ b. IsTruth (b || false) (reg_at 5 m)) (sym is) clear,
      )))
    where
      holding : (x : ℕ) (v : ℤ) → x ≡ word_of v → IsShort v → x ≢ 0 → holds v ≡ true
      holding x v e f h = let set : nat_lt 0 x ≡ true = grind (arith, nat_tests) in sym (ap (nat_lt 0) e ∙ set-word v f) ∙ set

      failing : (x : ℕ) (v : ℤ) → x ≡ word_of v → IsShort v → x ≡ 0 → holds v ≡ false
      failing x v e f h = sym (ap (nat_lt 0) e ∙ set-word v f) ∙ ap (nat_lt 0) h

  -- what is done where nothing was found before
  module _ (xs : List Case) (p q : Plan) (f : Finds xs p) (scope : Scope) (env : List ℤ) (updates : Updates) (bound : IsBound program scope env)
      (k : list_all (case_short scope) xs ≡ true) (d : found_met program state inputs xs env ≡ true) (few : cases_registers (map pair_registers xs) ≤ 16)
      (address : ℕ) (s : Moment) (e : IsEntered rom size address (unless_found p q) s) (within : inside scope env updates s.hart.ram) where
    unless-leads : (Good : Moment → Type 0)
        → ((m : Moment) → passing xs env ≡ true → reg_at 5 m ≢ 0 → inside scope env (updates ++ own xs env) m.hart.ram → Good m)
        → ((at : ℕ) (m : Moment) → passing xs env ≡ false → IsEntered rom size at q m → inside scope env updates m.hart.ram → Leads rom size at q Good m)
        → Leads rom size address (unless_found p q) Good s
    unless-leads Good on off =
        leads-seq rom size address p (If 5 (Line []) q) s (IsFound scope env updates xs) Good
        (f scope env updates bound k d few address s (enter-first rom size address p (If 5 (Line []) q) s e) within)
        (λ m bm.
        let em = enter-second rom size address p (If 5 (Line []) q) s e m bm in
        let at : ℕ = address + 4 * len p in
        leads-if rom size at 5 (Line []) q m Good (if-room rom size at 5 (Line []) q m em)
        (λ set.
        let et = enter-then rom size at 5 (Line []) q m em in
        leads-nil rom size (at + 8) (moved (at + 8) m) _ et.valid refl
        (on (moved (at + 12 + 4 * 0 + 4 * len q) (moved (at + 8) m)) (truth-set (passing xs env) (reg_at 5 m) bm.good.1 set) set bm.good.0))
        (λ clear.
        let none = truth-clear (passing xs env) (reg_at 5 m) bm.good.1 clear in
        off (at + 12 + 4 * 0) (moved (at + 12 + 4 * 0) m) none (enter-else rom size at 5 (Line []) q m em)
        (subst (λ us. inside scope env us m.hart.ram) (ap (λ us. updates ++ us) (found-none program state inputs xs env none) ∙ append-nil updates) bm.good.0)))

  finds-joined : (xs ys : List Case) (p q : Plan) → Finds xs p → Finds ys q → Finds (xs ++ ys) (unless_found p q)
  finds-joined xs ys p q f g scope env updates bound k d few address s e within =
      let ks = and_parts _ _ (sym (list_all-append (case_short scope) xs ys) ∙ k) in
      let ds = met-append program state inputs xs ys env d in
      let need = need-append xs ys in
      unless-leads xs p q f scope env updates bound ks.0 ds.0 (omega arith) address s e within (IsFound scope env updates (xs ++ ys))
      (λ m some set good. (
        subst (λ us. inside scope env (updates ++ us) m.hart.ram) (sym (found-append program state inputs xs ys env ∙ ap (λ b. if b then own xs env else own ys env) some)) good,
        subst (λ b. IsTruth b (reg_at 5 m)) (sym (any-append program state inputs xs ys env ∙ ap (λ b. b || passing ys env) some)) set,
      ))
      (λ at m none em good.
      leads-more rom size at q m _ _ (g scope env updates bound ks.1 (ds.1 none) (omega arith) at m em good)
      (λ z dz h. (
        subst (λ us. inside scope env (updates ++ us) z.hart.ram) (sym (found-append program state inputs xs ys env ∙ ap (λ b. if b then own xs env else own ys env) none)) h.0,
        subst (λ b. IsTruth b (reg_at 5 z)) (sym (any-append program state inputs xs ys env ∙ ap (λ b. b || passing ys env) none)) h.1,
      )))

  -- the rule of the first case whose guard holds, and else another
  abbrev pub CasesStage : List Case → Flat → Plan → Type 0
  CasesStage cases other tree =
      Stages rom size program placement tables set state inputs reads tree
      (λ scope. list_all (case_short scope) cases && flat_short program other scope)
      (λ env. cases_defined (defined program state inputs env) (test program state inputs env) (map (pair_defined program state inputs) cases) (flat_defined program state inputs other) env)
      (max (cases_registers (map pair_registers cases)) (flat_registers other))
      (λ env. first_case (test program state inputs env) (map (pair_updates program state inputs) cases) (flat_updates program state inputs other) env)

  abbrev pair_plan : Case → ResolvedTerm × Plan
  pair_plan case = (case.0, plan case.1)

  same-plans : (cases : List Case) → map case_code cases ≡ map case_plan (map (guarded_plan of_term) (map pair_plan cases))
  same-plans [] = refl
  same-plans (case ∷ cases) = ap (λ ps. case_code case ∷ ps) (same-plans cases)

  pub stages-cases : (cases : List Case) (other : Flat) → AllByRecursion (λ (case : Case). Rule case.1) cases → Rule other
      → CasesStage cases other (cases_plan (map (guarded_plan of_term) (map pair_plan cases)) (plan other))
  stages-cases [] other all h = λ scope env updates bound k d few address s e within. h scope env updates bound k d (omega arith) address s e within
  stages-cases (case ∷ cases) other all h =
      subst (λ ps. CasesStage (case ∷ cases) other (unless_found (halved unless_found deepest (case_code case) ps) (plan other))) (same-plans cases)
      (λ scope env updates bound k d few address s e within.
      let ks = and_parts _ _ k in
      let ds = cases-met program state inputs (case ∷ cases) (flat_defined program state inputs other) env d in
      let yield = cases-yield program state inputs (case ∷ cases) (flat_updates program state inputs other) env in
      unless-leads (case ∷ cases) (halved unless_found deepest (case_code case) (map case_code cases)) (plan other)
      (halved-holds unless_found Finds finds-joined deepest case_code case cases (finds-one case all.0) (each cases all.1))
      scope env updates bound ks.0 ds.0 (omega arith) address s e within _
      (λ m some set good.
      subst (λ us. inside scope env (updates ++ us) m.hart.ram)
      (sym (yield ∙ ap (λ b. if b then own (case ∷ cases) env else flat_updates program state inputs other env) some)) good)
      (λ at m none em good.
      subst (λ us. Leads rom size at (plan other) (λ z. inside scope env (updates ++ us) z.hart.ram) m)
      (sym (yield ∙ ap (λ b. if b then own (case ∷ cases) env else flat_updates program state inputs other env) none))
      (h scope env updates bound ks.1 (ds.1 none) (omega arith) at m em good)))
    where
      each : (cases : List Case) → AllByRecursion (λ (case : Case). Rule case.1) cases → AllByRecursion (λ case. Finds (case ∷ []) (case_code case)) cases
      each [] all = tt
      each (case ∷ cases) all = (finds-one case all.0, each cases all.1)
