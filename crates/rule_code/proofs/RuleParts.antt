-- What the parts of a rule are, and what its code is made of.
use Rattle.std.proofs.Common.{◌≡◌, ℕ, ◌+◌, ◌<◌, ◌≤◌, ◌&&◌, Bool, true, List, [], ◌∷◌, map, Some, refl, sym, ap, ◌∙◌, subst, ⊎_elim, arith}
use Rattle.std.specs.{Prelude.{◌==◌, if◌then◌else◌, is_some, nat_lt, not, slice_get}, List.{AllByRecursion, list_all}}
use Rattle.std.proofs.lemmas.Bool.{and_from, and_parts, cases_Bool, eqb-true, ltb-true}
use Rattle.asm_names.specs.declared.{program.{Interval.{Interval}, Resolved.{Resolved}}, resolved_term.ResolvedTerm.{ResolvedTerm}}
use Rattle.asm_ranges.specs.Ranges.{Scope, range, scoped, sums_fit, unscoped}
use Rattle.state_space.specs.{Locations.{signatures_of}}
use Rattle.block_code.specs.Plan.{Line, Plan, Seq}
use Rattle.state_layout.specs.Map.{Placement}
use Rattle.bound_count.specs.{RuleWeights.{greatest, total}, TermWeights.{term_registers, term_weight}}
use Rattle.instr_select.specs.{Binders.{binder_domain}, FitLaw.{short_numbers}, Short.{is_short}, Terms.{binders_below, term_plan}, Writing.{IsWritable}}
use Rattle.staged_commit.specs.Code.{first, second}
use Rattle.rule_expand.specs.declared.flat.Flat.{Flat, Flat-F, map-Flat, roll-Flat}
use Rattle.rule_expand.specs.declared.flat.Flat.TheVariants as forms
use Rattle.rule_expand.specs.{Expanding.{Case}, FlatWeights.{cases_registers, cases_weight, flat_registers, flat_registers_by, flat_weight, flat_weight_by}}
use Rattle.rule_expand.proofs.FlatLevels.{flat_registers_at, flat_weight_at}
use Rattle.rule_code.specs.{Body.{IsWritable as IsRuleWritable}, Code.{all_plan, bind_line, case_code, case_plan, cases_plan, deepest, guarded_plan, rule_plan, rule_plan_by, unless_found, update_plan}}
use Rattle.rule_code.specs.{Codable.{IsCaseCodable, IsCodable, IsTermCodable, IsUpdateCodable}, Joining.{all_halved, unless_any}, Short.{flat_short, flat_short_by}}
use Rattle.rule_code.proofs.{Below.{short-below}, Levels.{flat_short_at, rule_plan_at}, Numbers.{short-numbered}}

module _ (program : Resolved) where
  -- a rule that is written for a program, where its code fits a block
  pub whole-codable : (placement : Placement) (flat : Flat) → IsRuleWritable program placement flat → flat_weight flat ≤ 262144 → IsCodable program flat
  whole-codable placement flat w light = record { scope = unscoped; few = λ b some. absurd cc; short = w.short; registers = w.registers; light = light }

  -- ---- terms in a scope
  module _ (scope : Scope) (few : (binder : ℕ) → is_some (scope binder) ≡ true → binder < program.binders) where
    abbrev Is : ResolvedTerm → Type 0
    Is t = is_short (signatures_of program) scope t ≡ true

    writable : (t : ResolvedTerm) (register : ℕ) → Is t → register + term_registers t ≤ 21 → IsWritable program t register
    writable t register short registers = record {
      below = short-below program.binders (signatures_of program) scope few t short;
      short = short-numbered (signatures_of program) scope t short;
      registers = registers;
    }

    args-below : (ts : List ResolvedTerm) → list_all (is_short (signatures_of program) scope) ts ≡ true → list_all (λ (b : Bool). b) (map (binders_below program.binders) ts) ≡ true
    args-below [] h = refl
    args-below (t ∷ ts) h =
        let p = and_parts (is_short (signatures_of program) scope t) (list_all (is_short (signatures_of program) scope) ts) h in
        and_from _ _ (short-below program.binders (signatures_of program) scope few t p.0) (args-below ts p.1)

    args-numbered : (ts : List ResolvedTerm) → list_all (is_short (signatures_of program) scope) ts ≡ true → list_all (λ (b : Bool). b) (map short_numbers ts) ≡ true
    args-numbered [] h = refl
    args-numbered (t ∷ ts) h =
        let p = and_parts (is_short (signatures_of program) scope t) (list_all (is_short (signatures_of program) scope) ts) h in
        and_from _ _ (short-numbered (signatures_of program) scope t p.0) (args-numbered ts p.1)

    term-codable : (t : ResolvedTerm) → Is t → term_registers t ≤ 16 → term_weight t ≤ 262144 → IsTermCodable program t
    term-codable t short registers light = record { writable = writable t first short (omega arith); light = light }

    codable : (flat : Flat) → flat_short program flat scope ≡ true → flat_registers flat ≤ 16 → flat_weight flat ≤ 262144 → IsCodable program flat
    codable flat short registers light = record { scope = scope; few = few; short = short; registers = registers; light = light }

    all-codable : (flats : List Flat) → list_all (λ (part : Scope → Bool). part scope) (map (flat_short program) flats) ≡ true → greatest (map flat_registers flats) ≤ 16
        → total (map flat_weight flats) ≤ 262144 → AllByRecursion (IsCodable program) flats
    all-codable [] h r w = tt
    all-codable (flat ∷ flats) h r w =
        let p = and_parts (flat_short program flat scope) (list_all (λ (part : Scope → Bool). part scope) (map (flat_short program) flats)) h in
        (codable flat p.0 (omega arith) (omega arith), all-codable flats p.1 (omega arith) (omega arith))

    abbrev is_case : ResolvedTerm × (Scope → Bool) → Bool
    is_case case = is_short (signatures_of program) scope case.0 && case.1 scope

    abbrev with_part : {A : Type 0} → (Flat → A) → Case → ResolvedTerm × A
    with_part f case = (case.0, f case.1)

    cases-codable : (cases : List Case) → list_all is_case (map (with_part (flat_short program)) cases) ≡ true → cases_registers (map (with_part flat_registers) cases) ≤ 16
        → cases_weight (map (with_part flat_weight) cases) ≤ 262144 → AllByRecursion (IsCaseCodable program) cases
    cases-codable [] h r w = tt
    cases-codable (case ∷ cases) h r w =
        let p = and_parts (is_case (with_part (flat_short program) case)) (list_all is_case (map (with_part (flat_short program)) cases)) h in
        let q = and_parts (is_short (signatures_of program) scope case.0) (flat_short program case.1 scope) p.0 in (
          record { guard = term-codable case.0 q.0 (omega arith) (omega arith); rule = codable case.1 q.1 (omega arith) (omega arith) },
          cases-codable cases p.1 (omega arith) (omega arith),
        )

    few-more : (binder : ℕ) (interval : Interval) → binder < program.binders → (other : ℕ) → is_some (scoped scope binder interval other) ≡ true → other < program.binders
    few-more binder interval known other some =
        ⊎_elim (λ e. subst (λ n. n < program.binders) (sym (eqb-true other binder e)) known)
        (λ e. few other (subst (λ b. is_some (if b then Some interval else scope other) ≡ true) e some)) (cases_Bool (other == binder))

  -- ---- the parts of a rule of each form
  module _ (flat : Flat) where
    -- one level of what is asked
    record Opened (x : Flat-F Flat) : Type 0 where
      pub scope : Scope
      pub few : (binder : ℕ) → is_some (scope binder) ≡ true → binder < program.binders
      pub short : flat_short_by program (map-Flat Flat (Scope → Bool) (flat_short program) x) scope ≡ true
      pub registers : flat_registers_by (map-Flat Flat ℕ flat_registers x) ≤ 16
      pub light : flat_weight_by (map-Flat Flat ℕ flat_weight x) ≤ 262144

    opened : (x : Flat-F Flat) → roll-Flat x ≡ flat → IsCodable program flat → Opened x
    opened x e c = record {
      scope = c.scope;
      few = c.few;
      short = sym (flat_short_at x program c.scope) ∙ ap (λ f. flat_short program f c.scope) e ∙ c.short;
      registers = subst (λ n. n ≤ 16) (flat_registers_at x flat e) c.registers;
      light = subst (λ n. n ≤ 262144) (flat_weight_at x flat e) c.light;
    }

    pub of-Update : (fun : ℕ) (args : List ResolvedTerm) (value : ResolvedTerm) → flat ≡ forms.Update fun args value → IsCodable program flat → IsUpdateCodable program args value
    of-Update fun args value e c =
        let o = opened (Flat-F.Update fun args value) (forms.rolls-Update fun args value ∙ sym e) c in
        let p = and_parts (list_all (is_short (signatures_of program) o.scope) args) (is_short (signatures_of program) o.scope value) o.short in
        let r = o.registers in
        record {
          index = record { below = args-below o.scope o.few args p.0; short = args-numbered o.scope o.few args p.0; registers = omega arith };
          written = writable o.scope o.few value second p.1 (omega arith);
          light = o.light;
        }

    pub of-Par : (parts : List Flat) → flat ≡ forms.Par parts → IsCodable program flat → AllByRecursion (IsCodable program) parts
    of-Par parts e c = let o = opened (Flat-F.Par parts) (forms.rolls-Par parts ∙ sym e) c in all-codable o.scope o.few parts o.short o.registers o.light

    pub of-Cases : (list : List Case) (other : Flat) → flat ≡ forms.Cases list other → IsCodable program flat → AllByRecursion (IsCaseCodable program) list × IsCodable program other
    of-Cases list other e c =
        let o = opened (Flat-F.Cases list other) (forms.rolls-Cases list other ∙ sym e) c in
        let r = o.registers in let l = o.light in
        let p = and_parts (list_all (is_case o.scope o.few) (map (with_part o.scope o.few (flat_short program)) list)) (flat_short program other o.scope) o.short in
        (cases-codable o.scope o.few list p.0 (omega arith) (omega arith), codable o.scope o.few other p.1 (omega arith) (omega arith))

    -- the binder is one of the program's
    pub record IsLetCodable (binder : ℕ) (value : ResolvedTerm) (body : Flat) : Type 0 where
      pub known : binder < program.binders
      pub term : IsTermCodable program value
      pub rule : IsCodable program body

    pub of-Let : (binder : ℕ) (value : ResolvedTerm) (body : Flat) → flat ≡ forms.Let binder value body → IsCodable program flat → IsLetCodable binder value body
    of-Let binder value body e c =
        let o = opened (Flat-F.Let binder value body) (forms.rolls-Let binder value body ∙ sym e) c in
        let r = o.registers in let l = o.light in
        let inner = scoped o.scope binder (range (signatures_of program) o.scope value) in
        let p = and_parts (nat_lt binder program.binders && (not (is_some (o.scope binder)) && not (is_some (binder_domain program.rule binder))))
        ((is_short (signatures_of program) o.scope value && sums_fit (signatures_of program) o.scope value) && flat_short program body inner) o.short in
        let q = and_parts (nat_lt binder program.binders) (not (is_some (o.scope binder)) && not (is_some (binder_domain program.rule binder))) p.0 in
        let s = and_parts (is_short (signatures_of program) o.scope value && sums_fit (signatures_of program) o.scope value) (flat_short program body inner) p.1 in
        let t = and_parts (is_short (signatures_of program) o.scope value) (sums_fit (signatures_of program) o.scope value) s.0 in
        let known : binder < program.binders = ltb-true binder program.binders q.0 in
        record {
          known = known;
          term = term-codable o.scope o.few value t.0 (omega arith) (omega arith);
          rule = record { scope = inner; few = few-more o.scope o.few binder (range (signatures_of program) o.scope value) known; short = s.1; registers = omega arith; light = omega arith };
        }

-- ---- the code of a rule of each form
module _ (program : Resolved) (placement : Placement) (tables : ℕ) where
  abbrev T : ResolvedTerm → ℕ → Plan
  T = term_plan program placement tables

  abbrev P : Flat → Plan
  P = rule_plan program placement tables

  abbrev C : Case → Plan
  C = case_code program placement tables

  abbrev cases : List Case → List (Plan × Plan)
  cases list = map (guarded_plan T) (map (λ (case : Case). (case.0, P case.1)) list)

  with_code : (list : List Case) → map case_plan (cases list) ≡ map C list
  with_code [] = refl
  with_code (case ∷ list) = ap (λ plans. C case ∷ plans) (with_code list)

  cases-joined : (list : List (ResolvedTerm × Plan)) (other : Plan) → unless_any (all_halved unless_found deepest (map case_plan (map (guarded_plan T) list))) other ≡ cases_plan (map (guarded_plan T) list) other
  cases-joined [] other = refl
  cases-joined (case ∷ list) other = refl

  module _ (flat : Flat) where
    at : (x : Flat-F Flat) → roll-Flat x ≡ flat → rule_plan_by program placement tables (map-Flat Flat Plan P x) ≡ P flat
    at x e = sym (rule_plan_at x program placement tables) ∙ ap P e

    pub plan-Skip : flat ≡ forms.Skip → Line [] ≡ P flat
    plan-Skip e = at Flat-F.Skip (forms.rolls-Skip ∙ sym e)

    pub plan-Update : (fun : ℕ) (args : List ResolvedTerm) (value : ResolvedTerm) → flat ≡ forms.Update fun args value
        → update_plan placement fun (slice_get placement.signatures fun) (map T args) (T value) ≡ P flat
    plan-Update fun args value e = at (Flat-F.Update fun args value) (forms.rolls-Update fun args value ∙ sym e)

    pub plan-Par : (parts : List Flat) → flat ≡ forms.Par parts → all_plan (map P parts) ≡ P flat
    plan-Par parts e = at (Flat-F.Par parts) (forms.rolls-Par parts ∙ sym e)

    pub plan-Cases : (list : List Case) (other : Flat) → flat ≡ forms.Cases list other → (cs : List Plan) (o : Plan) → cs ≡ map C list → o ≡ P other
        → unless_any (all_halved unless_found deepest cs) o ≡ P flat
    plan-Cases list other e cs o h k =
        ap (λ plans. unless_any (all_halved unless_found deepest plans) o) (h ∙ sym (with_code list)) ∙ ap (unless_any (all_halved unless_found deepest (map case_plan (cases list)))) k
        ∙ cases-joined (map (λ (case : Case). (case.0, P case.1)) list) (P other) ∙ at (Flat-F.Cases list other) (forms.rolls-Cases list other ∙ sym e)

    pub plan-Let : (binder : ℕ) (value : ResolvedTerm) (body : Flat) → flat ≡ forms.Let binder value body → (v b : Plan) → v ≡ T value first → b ≡ P body
        → Seq v (Seq (Line (bind_line placement binder)) b) ≡ P flat
    plan-Let binder value body e v b h k =
        ap (λ p. Seq p (Seq (Line (bind_line placement binder)) b)) h ∙ ap (λ p. Seq (T value first) (Seq (Line (bind_line placement binder)) p)) k
        ∙ at (Flat-F.Let binder value body) (forms.rolls-Let binder value body ∙ sym e)
