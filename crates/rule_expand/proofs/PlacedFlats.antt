-- The parts of rules without loops, where binders have values.
use Rattle.std.proofs.Common.{◌≡◌, ◌&&◌, ℕ, ◌<◌, ℤ, Bool, true, false, ◌||◌, List, [], ◌∷◌, ◌++◌, map, length, refl, sym, ap, ◌∙◌, arith, length-set}
use Rattle.std.specs.Prelude.{slice_set, slice_get, if◌then◌else◌}
use Rattle.std.specs.List.{list_all, AllByRecursion}
use Rattle.std.proofs.lemmas.Bool.{and_parts, ltb-true}
use Rattle.std.proofs.lemmas.List.Folds.{list_all-map}
use Rattle.asm_names.specs.declared.program.Resolved.{Resolved}
use Rattle.asm_names.specs.declared.resolved_term.ResolvedTerm.{ResolvedTerm}
use Rattle.state_space.specs.Locations.{signatures_of}
use Rattle.asm_ranges.specs.Ranges.{scoped, unscoped, range, sums_fit, ReadsFit}
use Rattle.asm_ranges.specs.Places.{TermPlaced, TermsPlaced}
use Rattle.asm_ranges.specs.Values.{value, holds, defined, takes_args}
use Rattle.asm_ranges.proofs.{PlacedRules.{EnvFits-set}, Readings.{reads_in}, Terms.{value_in_range}}
use Rattle.rule_expand.specs.declared.flat.Flat.{Flat, Flat-F}
use Rattle.rule_expand.specs.declared.flat.Flat.TheVariants as flats
use Rattle.rule_expand.specs.Expanding.{Case}
use Rattle.rule_expand.specs.FlatSums.{flat_sums_fit}
use Rattle.rule_expand.specs.FlatDefined.{flat_defined, MeetsDefined, cases_defined, takes_value}
use Rattle.rule_expand.specs.FlatPlaces.{FlatPlaced, GuardsPlaced, passes}
use Rattle.rule_expand.specs.FlatUpdates.{flat_updates}
use Rattle.rule_expand.proofs.{FlatLevels.{sums_at, defined_at}, RuleUpdates.{first_yield}}
use Rattle.update_sets.specs.Yields.{Updates}

module _ (program : Resolved) (state inputs env : List ℤ) where
  -- the rule of a program, where no binder is bound
  pub placed-flat : ReadsFit program state inputs → (flat : Flat) → flat_sums_fit program flat unscoped ≡ true → MeetsDefined program flat → length env ≡ program.binders
      → FlatPlaced program state inputs flat env
  placed-flat reads flat sums met long = record { scope = unscoped; long = long; values = λ b. tt; fitting = sums; definite = met state inputs env reads long }

  abbrev test : ResolvedTerm → Bool
  test g = holds (value program state inputs env g)

  when : (b : Bool) (x y : Bool) → (if b then x else y) ≡ true → (b ≡ true → x ≡ true) × (b ≡ false → y ≡ true)
  when true x y h = (λ e. h, λ e. absurd cc)
  when false x y h = (λ e. absurd cc, λ e. h)

  module _ (flat : Flat) (placed : FlatPlaced program state inputs flat env) where
    term : (t : ResolvedTerm) → sums_fit (signatures_of program) placed.scope t ≡ true → defined program state inputs env t ≡ true → TermPlaced program state inputs t env
    term t h k = record { scope = placed.scope; values = placed.values; fitting = h; definite = k }

    part : (f : Flat) → flat_sums_fit program f placed.scope ≡ true → flat_defined program state inputs f env ≡ true → FlatPlaced program state inputs f env
    part f h k = record { scope = placed.scope; long = placed.long; values = placed.values; fitting = h; definite = k }

    -- the terms of an update, whose arguments lie in the domains and whose value lies in the codomain
    pub placed-update : (fun : ℕ) (args : List ResolvedTerm) (new : ResolvedTerm) → flat ≡ flats.Update fun args new
        → TermsPlaced program state inputs args env × TermPlaced program state inputs new env
        × (takes_args (slice_get (signatures_of program) fun) (map (value program state inputs env) args) ≡ true)
        × (takes_value (slice_get (signatures_of program) fun) (value program state inputs env new) ≡ true)
    placed-update fun args new e =
        let s = flats.rolls-Update fun args new ∙ sym e in
        let sums = and_parts _ _ (sym (sums_at (Flat-F.Update fun args new) flat s program placed.scope) ∙ placed.fitting) in
        let met = and_parts _ _ (sym (defined_at (Flat-F.Update fun args new) flat s program state inputs env) ∙ placed.definite) in
        let terms = and_parts _ _ met.0 in
        let taken = and_parts _ _ met.1 in
        (record { scope = placed.scope; values = placed.values; fitting = sums.0; definite = terms.0 }, term new sums.1 terms.1, taken.0, taken.1)

    each : (parts : List Flat) → list_all (λ f. flat_sums_fit program f placed.scope) parts ≡ true → list_all (λ f. flat_defined program state inputs f env) parts ≡ true
        → AllByRecursion (λ f. FlatPlaced program state inputs f env) parts
    each [] h k = tt
    each (f ∷ parts) h k =
        let p = and_parts _ _ h in
        let q = and_parts _ _ k in
        (part f p.0 q.0, each parts p.1 q.1)

    -- each part
    pub placed-parts : (parts : List Flat) → flat ≡ flats.Par parts → AllByRecursion (λ f. FlatPlaced program state inputs f env) parts
    placed-parts parts e =
        let s = flats.rolls-Par parts ∙ sym e in
        each parts (sym (list_all-map _ _ parts) ∙ sym (sums_at (Flat-F.Par parts) flat s program placed.scope) ∙ placed.fitting)
        (sym (list_all-map _ _ parts) ∙ sym (defined_at (Flat-F.Par parts) flat s program state inputs env) ∙ placed.definite)

    abbrev met_case : Case → ResolvedTerm × (List ℤ → Bool)
    met_case case = (case.0, flat_defined program state inputs case.1)

    guards : (cases : List Case) (other : Flat) → list_all (λ (case : Case). sums_fit (signatures_of program) placed.scope case.0 && flat_sums_fit program case.1 placed.scope) cases ≡ true
        → cases_defined (defined program state inputs env) test (map met_case cases) (flat_defined program state inputs other) env ≡ true
        → GuardsPlaced program state inputs env cases × (passes program state inputs env cases ≡ false → flat_defined program state inputs other env ≡ true)
    guards [] other h k = (tt, λ fails. k)
    guards (case ∷ cases) other h k =
        let p = and_parts _ _ h in
        let own = and_parts _ _ p.0 in
        let q = and_parts _ _ k in
        let w = when (test case.0) _ _ q.1 in (
          (term case.0 own.0 q.0, λ holds. part case.1 own.1 (w.0 holds), λ fails. (guards cases other p.1 (w.1 fails)).0),
          λ none. let o = neither (test case.0) (passes program state inputs env cases) none in (guards cases other p.1 (w.1 o.0)).1 o.1,
        )
      where
        neither : (a b : Bool) → (a || b) ≡ false → (a ≡ false) × (b ≡ false)
        neither true b h = absurd cc
        neither false b h = (refl, h)

    -- the guards of cases with their rules, and the other rule where no guard holds
    pub placed-cases : (cases : List Case) (other : Flat) → flat ≡ flats.Cases cases other
        → GuardsPlaced program state inputs env cases × (passes program state inputs env cases ≡ false → FlatPlaced program state inputs other env)
    placed-cases cases other e =
        let s = flats.rolls-Cases cases other ∙ sym e in
        let sums = and_parts _ _ (sym (sums_at (Flat-F.Cases cases other) flat s program placed.scope) ∙ placed.fitting) in
        let all = guards cases other (sym (list_all-map _ _ cases) ∙ sums.0) (sym (defined_at (Flat-F.Cases cases other) flat s program state inputs env) ∙ placed.definite) in
        (all.0, λ none. part other sums.1 (all.1 none))

    -- the term of a `let`, and the body where the binder has its value
    pub placed-local : ReadsFit program state inputs → (b : ℕ) (v : ResolvedTerm) (body : Flat) → flat ≡ flats.Let b v body
        → (b < length env) × TermPlaced program state inputs v env × FlatPlaced program state inputs body (slice_set env b (value program state inputs env v))
    placed-local reads b v body e =
        let s = flats.rolls-Let b v body ∙ sym e in
        let sums = and_parts _ _ (sym (sums_at (Flat-F.Let b v body) flat s program placed.scope) ∙ placed.fitting) in
        let own = and_parts _ _ sums.1 in
        let met = and_parts _ _ (sym (defined_at (Flat-F.Let b v body) flat s program state inputs env) ∙ placed.definite) in
        let room : b < length env = omega (arith, ltb-true b program.binders sums.0, placed.long) in
        let x = value program state inputs env v in
        let plain = value_in_range program state inputs env placed.scope (reads_in program state inputs reads) placed.values v own.0 met.0 in (
          room,
          term v own.0 met.0,
          record {
            scope = scoped placed.scope b (range (signatures_of program) placed.scope v);
            long = length-set env b x ∙ placed.long;
            values = EnvFits-set placed.scope env b (range (signatures_of program) placed.scope v) x room placed.values plain;
            fitting = own.1;
            definite = met.1;
          },
        )

  -- ---- cases by halves

  -- the guards of the first half, and those of the second where none of the first holds
  pub guards-append : (left right : List Case) → GuardsPlaced program state inputs env (left ++ right)
      → GuardsPlaced program state inputs env left × (passes program state inputs env left ≡ false → GuardsPlaced program state inputs env right)
  guards-append [] right h = (tt, λ none. h)
  guards-append (case ∷ left) right h = (
    (h.0, h.1, λ fails. (guards-append left right (h.2 fails)).0),
    λ none. let o = neither (test case.0) (passes program state inputs env left) none in (guards-append left right (h.2 o.0)).1 o.1,
  )
    where
      neither : (a b : Bool) → (a || b) ≡ false → (a ≡ false) × (b ≡ false)
      neither true b h = absurd cc
      neither false b h = (refl, h)

  -- the updates of the first half where one of its guards holds, and else those of the second
  pub yields-append : (left right : List Case) (other : Flat)
      → first_yield program state inputs (left ++ right) other env
      ≡ (if passes program state inputs env left then first_yield program state inputs left flats.Skip env else first_yield program state inputs right other env)
  yields-append [] right other = refl
  yields-append (case ∷ left) right other =
      ap (λ us. if test case.0 then flat_updates program state inputs case.1 env else us) (yields-append left right other)
      ∙ regroup (test case.0) (passes program state inputs env left) _ _ _
    where
      regroup : (a b : Bool) (x y z : Updates) → (if a then x else (if b then y else z)) ≡ (if (a || b) then (if a then x else y) else z)
      regroup true b x y z = refl
      regroup false b x y z = refl
