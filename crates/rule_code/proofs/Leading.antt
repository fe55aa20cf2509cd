-- Where the code of terms and of an update leads while a rule runs.
use Rattle.std.proofs.Common.{◌≡◌, ℕ, suc, ◌+◌, ◌*◌, ◌<◌, ◌≤◌, ℤ, pos, ◌+ℤ◌, Bool, true, false, ◌||◌, not, cond, max, List, [], ◌∷◌, ◌++◌, length, map, Some, None, refl, sym, ap, ◌∙◌, subst, arith}
use Rattle.std.specs.Prelude.{FitsSigned, nat_lt, slice_get, slice_index}
use Rattle.std.specs.Int.{w32}
use Rattle.std.specs.List.{list_all, list_any, position, position_or_len}
use Rattle.std.proofs.lemmas.{Bool.Decides.{nat_tests}, Int.{ints}}
use Rattle.asm_tree.specs.declared.decl.Kind.{Kind}
use Rattle.asm_tree.specs.declared.decl.Kind.TheVariants as kinds
use Rattle.asm_names.specs.declared.{program.Resolved.{Resolved}, resolved_term.ResolvedTerm.{ResolvedTerm}}
use Rattle.asm_ranges.specs.{Ranges.{ReadsFit, Scope}, Values.{defined, lie_in, lies_in, value}}
use Rattle.asm_ranges.proofs.Readings.{location_in}
use Rattle.state_space.specs.{Codomains.{codomain_of}, Locations.{Location, is_state, located, place_among, same_location, signatures_of, state_locations}, Sizes.{padded_count}}
use Rattle.state_space.specs.declared.{signature.{Range.{Range}, Signature.{Signature}}, update.Update.{Update}}
use Rattle.block_code.specs.Effect.{reg_at}
use Rattle.block_code.specs.Leads.{IsEntered, IsSameOutside, Leads}
use Rattle.block_code.specs.Moment.{Moment}
use Rattle.block_code.specs.Plan.{Line, Plan, Seq, len}
use Rattle.block_code.specs.Silent.{IsStorelessPlan, Respects}
use Rattle.block_code.proofs.{Footprint.{outside-joined, outside-same, touches-outside}, Leads.{leads-more}, Silent.{keeps-ram, respects-seq}}
use Rattle.state_layout.specs.Map.{Placement, range_at}
use Rattle.state_layout.proofs.Places.{places-have-cells}
use Rattle.bound_count.specs.TermWeights.{arguments_registers, term_registers}
use Rattle.instr_select.specs.{SelectLaw.{HasValue, IsHeld}, Short.{is_short}, Terms.{index_plan, is_static, term_plan}}
use Rattle.instr_select.proofs.{Index.{lies-above, lies-below, place_in, placed}, Mapped.{few-held, signature-narrow}, ReadValues.{args-in, cell-is}, Selects.{index-leaves, terms-are-blocks, terms-leave-values}, TermCode.{indices-are-coded}}
use Rattle.staged_commit.specs.{Code.{stage_line, stage_update}, Law.{need}, Regions.{in_stage}, Staged.{IsIndexOf, IsUpdateOf, Staged}}
use Rattle.staged_commit.proofs.{Pieces.{entered-first, nil-touches}, Update.{stage-leads, stage-touches}}
use Rattle.update_sets.specs.Yields.{Updates, update_at, written}
use Rattle.rule_code.specs.{Within.{IsBound, IsSetting, IsWithin}}
use Rattle.rule_code.proofs.Frame.{stage-binders, stage-inputs, stage-state}
use Rattle.block_code.specs.Footprint.{only_in}

no-static : (kind : Kind) → is_state kind ≡ true → is_static kind ≡ false
no-static kinds.Controlled h = refl
no-static kinds.Output h = refl
no-static kinds.Input h = absurd cc
no-static kinds.Static h = absurd cc

first-there : {A : Type 0} (p : A → Bool) (xs : List A) → list_any p xs ≡ true → position_or_len p xs < length xs
first-there p [] h = absurd cc
first-there p (x ∷ xs) h = by_test (p x) h (first-there p xs)
  where
    by_test : (t : Bool) → (t || list_any p xs) ≡ true → (list_any p xs ≡ true → position_or_len p xs < length xs) → cond (not t) (1 + position_or_len p xs) 0 < suc (length xs)
    by_test true h rest = omega arith
    by_test false h rest = let less = rest h in omega arith

place-there : {A : Type 0} (p : A → Bool) (xs : List A) → list_any p xs ≡ true → position p xs ≡ Some (position_or_len p xs)
place-there p xs h =
    let e = first-there p xs h in let test : nat_lt (position_or_len p xs) (length xs) ≡ true = grind (arith, nat_tests) in ap (λ b. cond b (Some (position_or_len p xs)) None) test

module _ (rom : List ℕ) (size : ℕ) (program : Resolved) (placement : Placement) (tables : ℕ) (set : IsSetting rom size program placement tables) (state inputs : List ℤ) (reads : ReadsFit program state inputs) where
  abbrev pub of_term : ResolvedTerm → ℕ → Plan
  of_term = term_plan program placement tables

  abbrev pub worth : List ℤ → ResolvedTerm → ℤ
  worth env = value program state inputs env

  abbrev pub Within : Scope → List ℤ → Updates → List ℕ → Type 0
  Within scope env updates ram = IsWithin program placement state inputs env scope updates ram

  pub room : need placement ≤ size
  room = let inside = set.inside in omega arith

  -- what terms ask for
  held : (scope : Scope) (env : List ℤ) (updates : Updates) (ram : List ℕ) → IsBound program scope env → Within scope env updates ram → IsHeld rom size program placement tables ram inputs env scope
  held scope env updates ram bound within = record {
    inside = set.inside;
    kept = within.keeps;
    slots = within.binds;
    words = set.words;
    reads = subst (λ st. ReadsFit program st inputs) (sym within.decodes) reads;
    bound = bound.values;
    few = bound.few;
  }

  -- a term
  module _ (scope : Scope) (env : List ℤ) (updates : Updates) (bound : IsBound program scope env) where
    pub value-leads : (t : ResolvedTerm) (r address : ℕ) (s : Moment) → defined program state inputs env t ≡ true → is_short (signatures_of program) scope t ≡ true
        → 5 ≤ r → r + term_registers t ≤ 21 → IsEntered rom size address (of_term t r) s → Within scope env updates s.hart.ram
        → Leads rom size address (of_term t r) (HasValue r (worth env t) s) s
    value-leads t r address s d k low high e within =
        subst (λ st. defined program st inputs env t ≡ true → Leads rom size address (of_term t r) (HasValue r (value program st inputs env t) s) s) within.decodes
        (λ d. terms-leave-values rom size program placement tables s.hart.ram inputs env scope t set.mapped (held scope env updates s.hart.ram bound within) d k r address s low high e refl) d

    -- the index of arguments
    pub arguments-lead : (fun : ℕ) (signature : Signature) (args : List ResolvedTerm) (address : ℕ) (s : Moment) → slice_get placement.signatures fun ≡ Some signature → is_state signature.kind ≡ true
        → list_all (defined program state inputs env) args ≡ true → list_all (is_short (signatures_of program) scope) args ≡ true → lie_in signature.args (map (worth env) args) ≡ true
        → 5 + arguments_registers 0 (map term_registers args) ≤ 21 → IsEntered rom size address (index_plan signature.args (map of_term args) 5) s → Within scope env updates s.hart.ram
        → Leads rom size address (index_plan signature.args (map of_term args) 5) (λ m. (m.hart.ram ≡ s.hart.ram) × (reg_at 5 m ≡ placed signature.args (map (worth env) args))) s
    arguments-lead fun signature args address s here kind d k lies high e within =
        let index : Plan = index_plan signature.args (map of_term args) 5 in
        leads-more rom size address index s (λ m. reg_at 5 m ≡ placed signature.args (map (worth env) args)) _
        (subst (λ st. list_all (defined program st inputs env) args ≡ true → lie_in signature.args (map (value program st inputs env) args) ≡ true
        → Leads rom size address index (λ m. reg_at 5 m ≡ placed signature.args (map (value program st inputs env) args)) s) within.decodes
        (λ d lies. index-leaves rom size e.machine program placement tables s.hart.ram inputs env scope set.mapped (held scope env updates s.hart.ram bound within)
        signature.args args (signature-narrow program placement set.mapped fun signature here).0 (few-held program placement set.mapped fun signature here (no-static signature.kind kind))
        d (subst (λ signatures. list_all (is_short signatures scope) args ≡ true) (sym set.mapped.signatures) k) lies 4 (omega arith) high address s e refl) d lies)
        (λ m does good. ((keeps-ram index ((indices-are-coded program placement tables signature.args args 5 5 (omega arith) (omega arith)).0).storeless).does rom size address s m e does, good))

  -- ---- an update

  -- a value of a domain is counted from the least
  index-of : (range : Range) (v : ℤ) → lies_in range v ≡ true → (place_in range v < range.size) × (v ≡ (range.lo +ℤ pos (place_in range v)))
  index-of range v h = (lies-below range v h, lies-above range v h)

  module _ (fun : ℕ) (signature : Signature) (args : List ResolvedTerm) (new : ResolvedTerm) (here : slice_get placement.signatures fun ≡ Some signature) (kind : is_state signature.kind ≡ true) where
    abbrev pub index_code : Plan
    index_code = index_plan signature.args (map of_term args) 5

    abbrev pub update_code : Plan
    update_code = stage_update placement fun (padded_count signature.args) index_code (of_term new 6)

    -- terms leave RAM as it was
    storeless-same : (region : ℕ → Bool) (tree : Plan) → IsStorelessPlan tree → Respects (IsSameOutside region) tree
    storeless-same region tree storeless =
        let same = keeps-ram tree storeless in record {
          does = λ rom size at s s' e d. by_ram s s' (same.does rom size at s s' e d);
          stops = λ rom size at s s' e d. by_ram s s' (same.stops rom size at s s' e d);
        }
      where
        by_ram : (s s' : Moment) → s'.hart.ram ≡ s.hart.ram → IsSameOutside region s s'
        by_ram s s' same = record { bytes = λ o out. ap (λ r. slice_index r o) same; count = ap length same }

    abbrev region : ℕ → Bool
    region = in_stage placement fun (padded_count signature.args)

    -- nothing but the function's staged values and flags and the mark changes
    pub update-respects : Respects (IsSameOutside region) update_code
    update-respects =
        respects-seq (IsSameOutside region) (outside-same region) (outside-joined region) index_code (Seq (of_term new 6) line)
        (storeless-same region index_code ((indices-are-coded program placement tables signature.args args 5 5 (omega arith) (omega arith)).0).storeless)
        (respects-seq (IsSameOutside region) (outside-same region) (outside-joined region) (of_term new 6) line
        (storeless-same region (of_term new 6) (terms-are-blocks program placement tables new 6 (omega arith)).storeless)
        (touches-outside (only_in region) line (stage-touches placement set.coded fun signature here kind (Line []) (Line []) (nil-touches placement set.coded (only_in region)) (nil-touches placement set.coded (only_in region))).1.1))
      where
        line : Plan
        line = Line (stage_line placement fun (padded_count signature.args))

    module _ (scope : Scope) (env : List ℤ) (updates : Updates) (bound : IsBound program scope env)
        (d : list_all (defined program state inputs env) args ≡ true) (dn : defined program state inputs env new ≡ true) (lies : lie_in signature.args (map (worth env) args) ≡ true)
        (lands : lies_in signature.codomain (worth env new) ≡ true)
        (k : list_all (is_short (signatures_of program) scope) args ≡ true) (kn : is_short (signatures_of program) scope new ≡ true)
        (few : max (arguments_registers 0 (map term_registers args)) (1 + term_registers new) ≤ 16) where
      abbrev vs : List ℤ
      vs = map (worth env) args

      abbrev v : ℤ
      v = worth env new

      abbrev location : Location
      location = record { fun = fun; args = vs }

      abbrev place : ℕ
      place = position_or_len (same_location location) (located is_state 0 placement.signatures)

      abbrev update : Update
      update = record { place = place; value = v }

      found-place : place_among (located is_state 0 placement.signatures) location ≡ Some place
      found-place = place-there (same_location location) (located is_state 0 placement.signatures) (location_in is_state placement.signatures 0 fun fun signature vs (omega arith) here kind (args-in vs signature.args lies))

      written-one : written program fun vs v ≡ update ∷ []
      written-one = ap (λ signatures. update_at (place_among (state_locations signatures) location) v) (sym set.mapped.signatures) ∙ ap (λ o. update_at o v) found-place

      counted : IsIndexOf (range_at placement fun) (place_in signature.codomain v) v
      counted =
          let i = index-of signature.codomain v lands in
          subst (λ o. IsIndexOf (codomain_of o) (place_in signature.codomain v) v) (sym here) (record { below = i.0; counts = i.1 })

      is-update : IsUpdateOf placement (record { fun = fun; index = placed signature.args vs }) (place_in signature.codomain v) update
      is-update = record {
        here = places-have-cells is_state placement.signatures location place found-place ∙ ap Some (cell-is placement.signatures fun signature vs here lies);
        value = counted;
      }

      fits : FitsSigned w32 v
      fits =
          let n = (signature-narrow program placement set.mapped fun signature here).1 in let a = n.low in let b = n.high in let c = n.few in
          let i = index-of signature.codomain v lands in let below = i.0 in let counts = i.1 in grind (arith, ints)

      pub update-leads : (address : ℕ) (s : Moment) → IsEntered rom size address update_code s → Within scope env updates s.hart.ram
          → Leads rom size address update_code (λ e. Within scope env (updates ++ written program fun vs v) e.hart.ram) s
      update-leads address s e within =
          leads-more rom size address update_code s (λ z. Staged placement z.hart.ram (updates ++ update ∷ [])) _
          (stage-leads placement set.coded fun signature here kind index_code (of_term new 6) rom size address s updates update (placed signature.args vs) (place_in signature.codomain v) e room
          within.stages is-update fits
          (arguments-lead scope env updates bound fun signature args address s here kind d k lies (omega arith) (entered-first rom size address index_code _ s e) within)
          (λ m em same index.
          leads-more rom size (address + 4 * len index_code) (of_term new 6) m (HasValue 6 v m) _
          (value-leads scope env updates bound new 6 (address + 4 * len index_code) m dn kn (omega arith) (omega arith) em (subst (Within scope env updates) (sym same) within))
          (λ n dn h. (h.ram ∙ same, h.kept 5 (omega arith) (omega arith) ∙ index, h.holds))))
          (λ z dz staged.
          let outside = update-respects.does rom size address s z e dz in
          record {
            decodes = stage-state placement fun signature here kind s z outside ∙ within.decodes;
            keeps = stage-inputs placement fun signature here kind s z outside inputs within.keeps;
            binds = stage-binders placement fun signature here kind s z outside program scope env within.binds;
            stages = subst (λ us. Staged placement z.hart.ram (updates ++ us)) (sym written-one) staged;
          })
