-- Plans that stage updates, and how they are joined.
use Rattle.std.proofs.Common.{◌≡◌, ℕ, ◌+◌, ◌*◌, ◌^◌, ◌<◌, ◌≤◌, ℤ, Bool, true, false, ◌&&◌, not, max, List, [], ◌∷◌, ◌++◌, append_assoc, append-nil, length, map, Option, Some, None, refl, sym, ap, ◌∙◌, subst, arith}
use Rattle.std.specs.Prelude.{is_some, nat_lt, slice_get, slice_set, if◌then◌else◌}
use Rattle.std.specs.List.{AllByRecursion, flat_map, list_all}
use Rattle.std.proofs.lemmas.{Bool.{and_parts, ltb-true}, Grind.{flat_map-append}, List.Folds.{list_all-append}}
use Rattle.asm_names.specs.declared.{program.Resolved.{Resolved}, resolved_term.ResolvedTerm.{ResolvedTerm}}
use Rattle.asm_ranges.specs.{Ranges.{ReadsFit, Scope, range, scoped, sums_fit}, Values.{defined, takes_args, value}}
use Rattle.asm_ranges.proofs.{Readings.{reads_in}, Terms.{value_in_range}}
use Rattle.state_space.specs.{Locations.{is_state, signatures_of}, Sizes.{padded_count}, declared.signature.Signature.{Signature}}
use Rattle.state_space.proofs.Places.{place-not-held}
use Rattle.block_code.specs.Leads.{IsEntered, Leads}
use Rattle.block_code.specs.Moment.{Moment}
use Rattle.block_code.specs.Plan.{Line, Plan, Seq, len}
use Rattle.block_code.proofs.Leads.{leads-more, leads-nil, leads-seq}
use Rattle.bound_count.specs.{RuleWeights.{greatest}, TermWeights.{arguments_registers, term_registers}}
use Rattle.rv_machine.specs.Memory.{stored}
use Rattle.mask_guard.specs.Mask.{word_of}
use Rattle.state_layout.specs.Map.{Placement, slot}
use Rattle.instr_select.specs.{Binders.{binder_domain}, SelectLaw.{HasValue}, Short.{is_short}, Terms.{index_plan, term_plan}}
use Rattle.instr_select.proofs.{Entered.{enter-first, enter-second}, Instructions.{reg-below}}
use Rattle.staged_commit.specs.Code.{stage_update}
use Rattle.update_sets.specs.Yields.{Updates, update_at, written}
use Rattle.rule_expand.specs.declared.flat.Flat.{Flat}
use Rattle.rule_expand.specs.{FlatDefined.{flat_defined, takes_value}, FlatUpdates.{flat_updates}, FlatWeights.{flat_registers}}
use Rattle.rule_code.specs.{Code.{all_plan, bind_line, deepest, let_plan, rule_plan, update_plan}, Short.{flat_short}, Within.{IsBound, IsSetting, IsWithin}}
use Rattle.rule_code.proofs.{Binding.{more-bound, within-less, within-more}, Halves.{halved-holds}, Leading.{update-leads, value-leads}, Marks.{BindPost, bind-leads}}

pub greatest-append : (xs ys : List ℕ) → greatest (xs ++ ys) ≡ max (greatest xs) (greatest ys)
greatest-append [] ys = omega arith
greatest-append (x ∷ xs) ys = let e = greatest-append xs ys in omega arith

no-met : (a b : Bool) → (a && (false && b)) ≡ true → ⊥
no-met true b h = absurd cc
no-met false b h = absurd cc

pub map-joined : {A B : Type 0} (f : A → B) (xs ys : List A) → map f (xs ++ ys) ≡ map f xs ++ map f ys
map-joined f [] ys = refl
map-joined f (x ∷ xs) ys = ap (λ zs. f x ∷ zs) (map-joined f xs ys)

module _ (rom : List ℕ) (size : ℕ) (program : Resolved) (placement : Placement) (tables : ℕ) (set : IsSetting rom size program placement tables) (state inputs : List ℤ) (reads : ReadsFit program state inputs) where
  abbrev of_term : ResolvedTerm → ℕ → Plan
  of_term = term_plan program placement tables

  abbrev worth : List ℤ → ResolvedTerm → ℤ
  worth env = value program state inputs env

  abbrev plan : Flat → Plan
  plan = rule_plan program placement tables

  abbrev inside : Scope → List ℤ → Updates → List ℕ → Type 0
  inside scope env updates ram = IsWithin program placement state inputs env scope updates ram

  -- a plan that stages updates, where its terms are short and all that is met is defined
  abbrev pub Stages : Plan → (Scope → Bool) → (List ℤ → Bool) → ℕ → (List ℤ → Updates) → Type 0
  Stages tree short met registers yields =
      (scope : Scope) (env : List ℤ) (updates : Updates) → IsBound program scope env → short scope ≡ true → met env ≡ true → registers ≤ 16
      → (address : ℕ) (s : Moment) → IsEntered rom size address tree s → inside scope env updates s.hart.ram
      → Leads rom size address tree (λ e. inside scope env (updates ++ yields env) e.hart.ram) s

  abbrev pub StagesRule : Flat → Type 0
  StagesRule flat = Stages (plan flat) (flat_short program flat) (flat_defined program state inputs flat) (flat_registers flat) (flat_updates program state inputs flat)

  -- the same under weaker premises
  pub stages-more : (tree : Plan) (short short' : Scope → Bool) (met met' : List ℤ → Bool) (registers registers' : ℕ) (yields yields' : List ℤ → Updates)
      → ((scope : Scope) → short' scope ≡ true → short scope ≡ true) → ((env : List ℤ) → met' env ≡ true → met env ≡ true) → registers ≤ registers'
      → ((env : List ℤ) → yields env ≡ yields' env) → Stages tree short met registers yields → Stages tree short' met' registers' yields'
  stages-more tree short short' met met' registers registers' yields yields' a b c d h scope env updates bound k m few address s e within =
      subst (λ us. Leads rom size address tree (λ z. inside scope env (updates ++ us) z.hart.ram) s) (d env) (h scope env updates bound (a scope k) (b env m) (omega arith) address s e within)

  -- an empty line stages nothing
  pub stages-none : (short : Scope → Bool) (met : List ℤ → Bool) (registers : ℕ) (none : List ℤ → Updates) → ((env : List ℤ) → met env ≡ true → none env ≡ [])
      → Stages (Line []) short met registers none
  stages-none short met registers none empty scope env updates bound k d few address s e within =
      leads-nil rom size address s _ e.valid e.here (subst (λ us. inside scope env us s.hart.ram) (sym (ap (λ us. updates ++ us) (empty env d) ∙ append-nil updates)) within)

  -- ---- one after another
  stages-seq : (p q : Plan) (short short' : Scope → Bool) (met met' : List ℤ → Bool) (registers registers' : ℕ) (yields yields' : List ℤ → Updates)
      → Stages p short met registers yields → Stages q short' met' registers' yields'
      → Stages (Seq p q) (λ scope. short scope && short' scope) (λ env. met env && met' env) (max registers registers') (λ env. yields env ++ yields' env)
  stages-seq p q short short' met met' registers registers' yields yields' f g scope env updates bound k d few address s e within =
      let ks = and_parts _ _ k in let ds = and_parts _ _ d in
      leads-seq rom size address p q s _ _ (f scope env updates bound ks.0 ds.0 (omega arith) address s (enter-first rom size address p q s e) within)
      (λ m b.
      subst (λ us. Leads rom size (address + 4 * len p) q (λ z. inside scope env us z.hart.ram) m) (append_assoc updates (yields env) (yields' env))
      (g scope env (updates ++ yields env) bound ks.1 ds.1 (omega arith) (address + 4 * len p) m (enter-second rom size address p q s e m b) b.good))

  abbrev PartsStage : List Flat → Plan → Type 0
  PartsStage fs tree =
      Stages tree (λ scope. list_all (λ f. flat_short program f scope) fs) (λ env. list_all (λ f. flat_defined program state inputs f env) fs) (greatest (map flat_registers fs))
      (λ env. flat_map (λ f. flat_updates program state inputs f env) fs)

  parts-one : (f : Flat) → StagesRule f → PartsStage (f ∷ []) (plan f)
  parts-one f h =
      stages-more (plan f) _ _ _ _ _ _ _ _ (λ scope k. (and_parts _ _ k).0) (λ env k. (and_parts _ _ k).0) (omega arith) (λ env. sym (append-nil (flat_updates program state inputs f env))) h

  parts-joined : (xs ys : List Flat) (p q : Plan) → PartsStage xs p → PartsStage ys q → PartsStage (xs ++ ys) (Seq p q)
  parts-joined xs ys p q f g =
      stages-more (Seq p q) _ _ _ _ _ _ _ _
      (λ scope k. sym (list_all-append _ xs ys) ∙ k) (λ env k. sym (list_all-append _ xs ys) ∙ k)
      (let e = ap greatest (map-joined flat_registers xs ys) ∙ greatest-append (map flat_registers xs) (map flat_registers ys) in omega arith)
      (λ env. sym (flat_map-append _ xs ys))
      (stages-seq p q _ _ _ _ _ _ _ _ f g)

  pub stages-parts : (fs : List Flat) → AllByRecursion StagesRule fs → PartsStage fs (all_plan (map plan fs))
  stages-parts [] all = stages-none _ _ _ _ (λ env d. refl)
  stages-parts (f ∷ fs) all = halved-holds Seq PartsStage parts-joined deepest plan f fs (parts-one f all.0) (each fs all.1)
    where
      each : (fs : List Flat) → AllByRecursion StagesRule fs → AllByRecursion (λ f. PartsStage (f ∷ []) (plan f)) fs
      each [] all = tt
      each (f ∷ fs) all = (parts-one f all.0, each fs all.1)

  -- ---- updates
  module _ (fun : ℕ) (args : List ResolvedTerm) (new : ResolvedTerm) where
    abbrev update_short : Scope → Bool
    update_short scope = list_all (is_short (signatures_of program) scope) args && is_short (signatures_of program) scope new

    abbrev update_met : Option Signature → List ℤ → Bool
    update_met o env =
        (list_all (defined program state inputs env) args && defined program state inputs env new)
        && (takes_args o (map (value program state inputs env) args) && takes_value o (value program state inputs env new))

    abbrev staging : Signature → Plan
    staging signature = stage_update placement fun (padded_count signature.args) (index_plan signature.args (map of_term args) 5) (of_term new 6)

    abbrev update_need : ℕ
    update_need = max (arguments_registers 0 (map term_registers args)) (1 + term_registers new)

    abbrev update_yields : List ℤ → Updates
    update_yields env = written program fun (map (value program state inputs env) args) (value program state inputs env new)

    stages-kind : (signature : Signature) → slice_get placement.signatures fun ≡ Some signature → (b : Bool) → is_state signature.kind ≡ b
        → Stages (update_plan placement fun (Some signature) (map of_term args) (of_term new)) update_short (update_met (Some signature)) update_need update_yields
    stages-kind signature here true kind scope env updates bound k d few address s =
        let ks = and_parts _ _ k in let ds = and_parts _ _ d in let own = and_parts _ _ ds.0 in let lands = and_parts _ _ ds.1 in
        subst (λ b. IsEntered rom size address (if b then staging signature else Line []) s → inside scope env updates s.hart.ram
        → Leads rom size address (if b then staging signature else Line []) (λ e. inside scope env (updates ++ update_yields env) e.hart.ram) s) (sym kind)
        (update-leads rom size program placement tables set state inputs reads fun signature args new here kind scope env updates bound own.0 own.1 lands.0 lands.1 ks.0 ks.1 few address s)
    stages-kind signature here false kind scope env updates bound k d few address s =
        subst (λ b. IsEntered rom size address (if b then staging signature else Line []) s → inside scope env updates s.hart.ram
        → Leads rom size address (if b then staging signature else Line []) (λ e. inside scope env (updates ++ update_yields env) e.hart.ram) s) (sym kind)
        (stages-none update_short (update_met (Some signature)) update_need update_yields (λ env d. none env) scope env updates bound k d few address s)
      where
        none : (env : List ℤ) → update_yields env ≡ []
        none env =
            ap (λ o. update_at o (value program state inputs env new))
            (sym (place-not-held is_state (signatures_of program) fun (map (value program state inputs env) args) signature (sym (ap (λ signatures. slice_get signatures fun) (sym set.mapped.signatures) ∙ here)) kind))

    stages-option : (o : Option Signature) → slice_get placement.signatures fun ≡ o → Stages (update_plan placement fun o (map of_term args) (of_term new)) update_short (update_met o) update_need update_yields
    stages-option None here = stages-none _ _ _ _ (λ env d. absurd (no-met _ (takes_value None (value program state inputs env new)) d))
    stages-option (Some signature) here = stages-kind signature here (is_state signature.kind) refl

    pub stages-update : Stages (update_plan placement fun (slice_get placement.signatures fun) (map of_term args) (of_term new)) update_short (update_met (slice_get (signatures_of program) fun)) update_need update_yields
    stages-update =
        subst (λ signatures. Stages (update_plan placement fun (slice_get placement.signatures fun) (map of_term args) (of_term new)) update_short (update_met (slice_get signatures fun)) update_need update_yields) set.mapped.signatures
        (stages-option (slice_get placement.signatures fun) refl)

  -- ---- a binder
  module _ (b : ℕ) (t : ResolvedTerm) (body : Flat) (h : StagesRule body) where
    abbrev let_short : Scope → Bool
    let_short scope =
        (nat_lt b program.binders && (not (is_some (scope b)) && not (is_some (binder_domain program.rule b))))
        && ((is_short (signatures_of program) scope t && sums_fit (signatures_of program) scope t) && flat_short program body (scoped scope b (range (signatures_of program) scope t)))

    abbrev let_met : List ℤ → Bool
    let_met env = defined program state inputs env t && flat_defined program state inputs body (slice_set env b (value program state inputs env t))

    pub stages-let : Stages (let_plan placement b (of_term t) (plan body)) let_short let_met (max (term_registers t) (flat_registers body))
        (λ env. flat_updates program state inputs body (slice_set env b (value program state inputs env t)))
    stages-let scope env updates bound k d few address s e within =
        let p = and_parts _ _ k in let q = and_parts _ _ p.0 in let r = and_parts _ _ q.1 in let w = and_parts _ _ p.1 in let u = and_parts _ _ w.0 in let ds = and_parts _ _ d in
        let v : ℤ = value program state inputs env t in
        let interval = range (signatures_of program) scope t in
        let below : b < program.binders = ltb-true b program.binders q.0 in
        let bind : Plan = Line (bind_line placement b) in
        let tail : Plan = Seq bind (plan body) in
        let wide = set.inside in let small = set.small in
        leads-seq rom size address (of_term t 5) tail s (HasValue 5 v s) _
        (value-leads rom size program placement tables set state inputs reads scope env updates bound t 5 address s ds.0 u.0 (omega arith) (omega arith) (enter-first rom size address (of_term t 5) tail s e) within)
        (λ m bm.
        let em = enter-second rom size address (of_term t 5) tail s e m bm in
        let at : ℕ = address + 4 * len (of_term t 5) in
        leads-seq rom size at bind (plan body) m (BindPost placement b (omega arith) size m) _
        (bind-leads placement b (omega arith) rom size at m (enter-first rom size at bind (plan body) m em) (omega arith))
        (λ n bn.
        let en = enter-second rom size at bind (plan body) m em n bn in
        let long : slot placement b + 4 ≤ length s.hart.ram = let count = e.valid.hart.ram.count in omega arith in
        let word : word_of v < 256 ^ 4 = let low = reg-below size 5 m bm.valid in let is = bm.good.holds in omega arith in
        let ram : n.hart.ram ≡ _ = bn.good.ram ∙ ap (λ x. stored 4 (slot placement b) x m.hart.ram) bm.good.holds ∙ ap (λ r. stored 4 (slot placement b) (word_of v) r) bm.good.ram in
        leads-more rom size (at + 4 * len bind) (plan body) n _ _
        (h (scoped scope b interval) (slice_set env b v) updates
        (more-bound program placement state inputs env scope b interval v r.0 r.1 bound below (value_in_range program state inputs env scope (reads_in program state inputs reads) bound.values t u.1 ds.0))
        w.1 ds.1 (omega arith) (at + 4 * len bind) n en
        (subst (IsWithin program placement state inputs (slice_set env b v) (scoped scope b interval) updates) (sym ram)
        (within-more program placement state inputs env scope b interval v r.0 r.1 bound below updates s.hart.ram long word within)))
        (λ z dz good. within-less program placement state inputs env scope b interval v r.0 r.1 bound below (updates ++ flat_updates program state inputs body (slice_set env b v)) z.hart.ram good)))
