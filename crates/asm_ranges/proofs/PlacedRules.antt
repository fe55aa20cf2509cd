-- The parts of rules that stand where binders have values.
use Rattle.std.proofs.Common.{◌≡◌, ℕ, ◌<◌, ◌≤◌, ℤ, pos, Bool, true, false, List, [], ◌∷◌, map, length, Option, Some, refl, sym, ap, ◌∙◌, subst, arith, inl, inr, get_or-set_same, get_or-set_other, length-set, ◌==◌, eq-eqb, ◌+◌, suc}
use Rattle.std.{specs.{Prelude.{slice_get, slice_set, slice_index_or, is_some, IfSome}, List.{list_all, AllByRecursion, Contains}}, proofs.{lemmas.{List.{length-map}, Bool.{and_from, and_parts, cases_Bool, eqb-true, both_ways}, Option.{slice_get-map}}}}
use Rattle.asm_names.specs.declared.{program.{Resolved.{Resolved}, Interval.{Interval}}, resolved_term.ResolvedTerm.{ResolvedTerm}, resolved_rule.ResolvedRule.{ResolvedRule, ResolvedRule-F}}
use Rattle.asm_names.specs.WellFormed.{may_be_updated}
use Rattle.state_space.specs.{declared.signature.Signature.{Signature}, Locations.{signatures_of, signature_of}, Codomains.{In, codomain_range, whole}}
use Rattle.asm_ranges.specs.{Ranges.{Scope, scoped, range, sums_fit, EnvFits, ReadsFit, domain_interval}, Facts.{Facts, Held, Failed, Bounded, refined}, Keeping.{IsChecked}, Values.{value, defined, holds, takes_args}}
use Rattle.asm_ranges.specs.Places.{Place, outermost, held, failed, over, guarded_by, bound_to, StandsRule, StandsTerm, the_rule, then_of, else_of, part_of, forall_of, choose_of, none_of, let_of, the_legal, AreTrue, TermPlaced, TermsPlaced, RulePlaced, RulesPlaced, ElementsPlaced}
use Rattle.asm_ranges.proofs.{Agreement.{AgreeOn, alike}, Intervals.{inside-in}, Readings.{reads_in}, Terms.{value_in_range}, Definite.{FactsFit, args-taken, all-fine, need-inside}, Placed.{few-args}}
use Rattle.asm_ranges.proofs.{Standing.{SoundRule, SoundTerm, at-layer, term-sound, sound-If, sound-Forall, sound-Choose, sound-Let}, Stands.{stands-rule, stands-term, sound-args, sound-new, new-faultless, update-taken}}
use Rattle.asm_names.specs.declared.resolved_rule.ResolvedRule.TheVariants as rules

-- a binder is bound to a number of its interval
pub EnvFits-set : (scope : Scope) (env : List ℤ) (b : ℕ) (i : Interval) (v : ℤ) → b < length env → EnvFits scope env → In i v → EnvFits (scoped scope b i) (slice_set env b v)
EnvFits-set scope env b i v room fit h k = elim (cases_Bool (k == b)) [
  | inl e ↦
      rw e (subst (λ j. In i (slice_index_or (slice_set env b v) j (pos 0))) (sym (eqb-true k b e)) (subst (λ w. In i w) (sym (get_or-set_same env b v (pos 0) room)) h))
  | inr e ↦
      rw e (subst (λ w. IfSome (scope k) (λ n. In n w)) (sym (get_or-set_other env b k v (pos 0) (λ same. both_ways _ e (rw same (refl-same b))))) (fit k))
]
  where
    refl-same : (n : ℕ) → (n == n) ≡ true
    refl-same n = eq-eqb n n refl

module _ (program : Resolved) (state inputs : List ℤ) where
  -- what is known stays true where a binder that isn't in scope has another value
  agree-new : (scope : Scope) (env : List ℤ) (b : ℕ) (v : ℤ) → is_some (scope b) ≡ false → AgreeOn scope (slice_set env b v) env
  agree-new scope env b v none k h = get_or-set_other env b k v (pos 0) (λ same. both_ways _ none (ap (λ j. is_some (scope j)) (sym same) ∙ h))

  true-new : (scope : Scope) (env : List ℤ) (b : ℕ) (v : ℤ) → is_some (scope b) ≡ false → (facts : Facts) → FactsFit (signatures_of program) scope facts → AreTrue program state inputs env facts
      → AreTrue program state inputs (slice_set env b v) facts
  true-new scope env b v none [] fit known = tt
  true-new scope env b v none (Held g ∷ facts) fit known =
      (ap holds (alike program state inputs (slice_set env b v) env scope (agree-new scope env b v none) g fit.0).0 ∙ known.0, true-new scope env b v none facts fit.1 known.1)
  true-new scope env b v none (Failed g ∷ facts) fit known =
      (ap holds (alike program state inputs (slice_set env b v) env scope (agree-new scope env b v none) g fit.0).0 ∙ known.0, true-new scope env b v none facts fit.1 known.1)
  true-new scope env b v none (Bounded k i ∷ facts) fit known =
      (subst (λ w. In i w) (sym (agree-new scope env b v none k fit.0)) known.0, true-new scope env b v none facts fit.1 known.1)

  module _ (checked : IsChecked program) (reads : ReadsFit program state inputs) (env : List ℤ) where
    -- a term that stands in the program, where what is known is true
    pub placed-term : (term : ResolvedTerm) (place : Place) → SoundTerm program term place → EnvFits place.scope env → AreTrue program state inputs env place.facts → TermPlaced program state inputs term env
    placed-term term place t values known =
        let s = term-sound program term place t in
        record { scope = place.scope; values = values; fitting = s.0; definite = (s.1 state inputs env reads values known).0 }

    placed-terms : (terms : List ResolvedTerm) (place : Place) → AllByRecursion (λ t. SoundTerm program t place) terms → EnvFits place.scope env → AreTrue program state inputs env place.facts
        → TermsPlaced program state inputs terms env
    placed-terms terms place all values known = let p = each terms all in record { scope = place.scope; values = values; fitting = p.0; definite = p.1 }
      where
        each : (ts : List ResolvedTerm) → AllByRecursion (λ t. SoundTerm program t place) ts → (list_all (sums_fit (signatures_of program) place.scope) ts ≡ true) × (list_all (defined program state inputs env) ts ≡ true)
        each [] all = (refl, refl)
        each (t ∷ ts) all =
            let s = term-sound program t place all.0 in
            let r = each ts all.1 in
            (and_from _ _ s.0 r.0, and_from _ _ (s.1 state inputs env reads values known).0 r.1)

    -- a term of the program
    pub standing-term : (term : ResolvedTerm) (place : Place) → StandsTerm program term place → EnvFits place.scope env → AreTrue program state inputs env place.facts → TermPlaced program state inputs term env
    standing-term term place s = placed-term term place (stands-term program checked term place s)

    module _ (rule : ResolvedRule) (placed : RulePlaced program state inputs rule env) where
      abbrev place : Place
      place = placed.place

      stands-as : (whole : ResolvedRule) → rule ≡ whole → StandsRule program whole place
      stands-as whole e = subst (λ r. StandsRule program r place) e placed.stands

      sound-as : (whole : ResolvedRule) → rule ≡ whole → SoundRule program whole place
      sound-as whole e = stands-rule program checked whole place (stands-as whole e)

      taken-by : (fun : ℕ) (args : List ResolvedTerm) (new : ResolvedTerm) → rule ≡ rules.Update fun args new
          → takes_args (slice_get (signatures_of program) fun) (map (value program state inputs env) args) ≡ true
      taken-by fun args new e =
          let r = sound-as (rules.Update fun args new) e in
          let u = update-taken program place fun args new r in
          let all = all-fine program place.scope r.bound (λ b h. r.sited.same b ∙ h) args in
          let f = (args-taken program place.scope r.bound (λ b h. r.sited.same b ∙ h) (slice_get program.funs fun) args place.facts (r.at + 2) all r.sited.fit u.0 u.1 u.2).1 state inputs env
          (record { reads = reads_in program state inputs reads; values = placed.values; good = r.sited.good state inputs env reads placed.values placed.known }) in
          subst (λ (o : Option Signature). takes_args o (map (value program state inputs env) args) ≡ true) (sym (slice_get-map (signature_of program.domains) program.funs fun)) f.1

      -- the function of an update may be updated
      pub changing-Update : (fun : ℕ) (args : List ResolvedTerm) (new : ResolvedTerm) → rule ≡ rules.Update fun args new → may_be_updated (slice_get program.funs fun) ≡ true
      changing-Update fun args new e = (and_parts _ _ (at-layer program place (ResolvedRule-F.Update fun args new) _ (rules.rolls-Update fun args new) (sound-as (rules.Update fun args new) e)).0).0

      -- the terms of an update, its at most three arguments, whose values the function takes, and its value, which lies in the codomain
      pub placed-Update : (fun : ℕ) (args : List ResolvedTerm) (new : ResolvedTerm) → rule ≡ rules.Update fun args new
          → TermsPlaced program state inputs args env × TermPlaced program state inputs new env × (length args ≤ 3)
      placed-Update fun args new e =
          let r = sound-as (rules.Update fun args new) e in (
            placed-terms args place (sound-args program place fun args new r) placed.values placed.known,
            placed-term new place (sound-new program place fun args new r) placed.values placed.known,
            omega (arith, (few-args program program.funs fun _ checked.well_formed.funs (taken-by fun args new e)).0, length-map args (value program state inputs env)),
          )

      pub taken-Update : (fun : ℕ) (args : List ResolvedTerm) (new : ResolvedTerm) → rule ≡ rules.Update fun args new
          → takes_args (slice_get (signatures_of program) fun) (map (value program state inputs env) args) ≡ true
      taken-Update = taken-by

      -- the value that is written lies in the codomain
      pub placed-write : (fun : ℕ) (args : List ResolvedTerm) (new : ResolvedTerm) → rule ≡ rules.Update fun args new
          → In (codomain_range (slice_get (signatures_of program) fun)) (value program state inputs env new)
      placed-write fun args new e =
          let r = sound-as (rules.Update fun args new) e in
          let s = term-sound program new place (sound-new program place fun args new r) in
          inside-in _ _ _ (need-inside (signatures_of program) place.scope new place.facts (codomain_range (slice_get (signatures_of program) fun)) _ (new-faultless program place fun args new r))
          (s.1 state inputs env reads placed.values placed.known).1

      -- the guard of an `if`, and the rule that it decides for
      pub placed-guard : (g : ResolvedTerm) (t s : ResolvedRule) (w : Bool) → rule ≡ rules.If g t s w → TermPlaced program state inputs g env
      placed-guard g t s w e = placed-term g place (sound-If program place g t s w (sound-as _ e)).0 placed.values placed.known

      pub placed-then : (g : ResolvedTerm) (t s : ResolvedRule) (w : Bool) → rule ≡ rules.If g t s w → holds (value program state inputs env g) ≡ true → RulePlaced program state inputs t env
      placed-then g t s w e h = record { place = held g place; stands = then_of g t s w place (stands-as _ e); long = placed.long; values = placed.values; known = (h, placed.known) }

      pub placed-else : (g : ResolvedTerm) (t s : ResolvedRule) (w : Bool) → rule ≡ rules.If g t s w → holds (value program state inputs env g) ≡ false → RulePlaced program state inputs s env
      placed-else g t s w e h = record { place = failed g place; stands = else_of g t s w place (stands-as _ e); long = placed.long; values = placed.values; known = (h, placed.known) }

      -- each part of a `par`
      pub placed-Par : (parts : List ResolvedRule) → rule ≡ rules.Par parts → RulesPlaced program state inputs parts env
      placed-Par parts e = each parts (λ r c. c)
        where
          each : (rs : List ResolvedRule) → ((r : ResolvedRule) → Contains rs r → Contains parts r) → AllByRecursion (λ r. RulePlaced program state inputs r env) rs
          each [] f = tt
          each (r ∷ rs) f = (
            record { place = place; stands = part_of parts r place (f r (0, omega arith, refl)) (stands-as (rules.Par parts) e); long = placed.long; values = placed.values; known = placed.known },
            each rs (λ s c. f s (suc c.0, omega (arith, c.1), c.2)),
          )

      elements : (b d : ℕ) (g : ResolvedTerm) (body : ResolvedRule) → SoundTerm program g (over program b d place) → (next : Place) → StandsRule program body next
          → (next.scope ≡ (over program b d place).scope)
          → ((e : ℤ) → holds (value program state inputs (slice_set env b e) g) ≡ true → AreTrue program state inputs (slice_set env b e) place.facts → AreTrue program state inputs (slice_set env b e) next.facts)
          → is_some (place.scope b) ≡ false → b < program.binders → FactsFit (signatures_of program) place.scope place.facts
          → ElementsPlaced program state inputs b d g body env
      elements b d g body guard next stands same more none less fit =
          let room : b < length env = omega (arith, less, placed.long) in
          record {
            room = room;
            guards = λ e inside. (
                let s = term-sound program g (over program b d place) guard in
                let values = EnvFits-set place.scope env b (domain_interval program d) e room placed.values inside in
                let known = true-new place.scope env b e none place.facts fit placed.known in
                record { scope = (over program b d place).scope; values = values; fitting = s.0; definite = (s.1 state inputs (slice_set env b e) reads values known).0 }
                );
            bodies = λ e inside h. record {
              place = next;
              stands = stands;
              long = length-set env b e ∙ placed.long;
              values = subst (λ (s : Scope). EnvFits s (slice_set env b e)) (sym same) (EnvFits-set place.scope env b (domain_interval program d) e room placed.values inside);
              known = more e h (true-new place.scope env b e none place.facts fit placed.known);
            };
          }

      -- the guard and the body of a `forall` for each element
      pub placed-Forall : (b d : ℕ) (g : ResolvedTerm) (gd : Bool) (body : ResolvedRule) → rule ≡ rules.Forall b d g gd body → ElementsPlaced program state inputs b d g body env
      placed-Forall b d g gd body e =
          let r = sound-as (rules.Forall b d g gd body) e in
          let s = sound-Forall program place b d g gd body r in
          elements b d g body s.0 (guarded_by gd g (over program b d place)) (forall_of b d g gd body place (stands-as _ e)) refl (behind gd) s.2 s.3 r.sited.fit
        where
          behind : (has : Bool) (e : ℤ) → holds (value program state inputs (slice_set env b e) g) ≡ true → AreTrue program state inputs (slice_set env b e) place.facts
              → AreTrue program state inputs (slice_set env b e) (guarded_by has g (over program b d place)).facts
          behind false e h known = known
          behind true e h known = (h, known)

      -- the guard and the body of a `choose` for each element, and the rule where none passes
      pub placed-Choose : (b d : ℕ) (g : ResolvedTerm) (body otherwise : ResolvedRule) (w : Bool) → rule ≡ rules.Choose b d g body otherwise w
          → ElementsPlaced program state inputs b d g body env × RulePlaced program state inputs otherwise env
      placed-Choose b d g body otherwise w e =
          let r = sound-as (rules.Choose b d g body otherwise w) e in
          let s = sound-Choose program place b d g body otherwise w r in (
            elements b d g body s.0 (held g (over program b d place)) (choose_of b d g body otherwise w place (stands-as _ e)) refl (λ e h known. (h, known)) s.3 s.4 r.sited.fit,
            record { place = place; stands = none_of b d g body otherwise w place (stands-as _ e); long = placed.long; values = placed.values; known = placed.known },
          )

      -- the term of a `let`, and the body where the binder has its value
      pub placed-Let : (b : ℕ) (v : ResolvedTerm) (body : ResolvedRule) → rule ≡ rules.Let b v body
          → (b < length env) × TermPlaced program state inputs v env × RulePlaced program state inputs body (slice_set env b (value program state inputs env v))
      placed-Let b v body e =
          let r = sound-as (rules.Let b v body) e in
          let s = sound-Let program place b v body r in
          let room : b < length env = omega (arith, s.3, placed.long) in
          let t = placed-term v place s.0 placed.values placed.known in
          let sound = term-sound program v place s.0 in
          let m = sound.1 state inputs env reads placed.values placed.known in
          let x = value program state inputs env v in
          let plain = value_in_range program state inputs env place.scope (reads_in program state inputs reads) placed.values v sound.0 m.0 in (
            room,
            t,
            record {
              place = bound_to program b v place;
              stands = let_of b v body place (stands-as _ e);
              long = length-set env b x ∙ placed.long;
              values = EnvFits-set place.scope env b (range (signatures_of program) place.scope v) x room placed.values plain;
              known = (
                subst (λ w. In (refined (signatures_of program) place.scope v place.facts) w) (sym (get_or-set_same env b x (pos 0) room)) m.1,
                true-new place.scope env b x s.2 place.facts r.sited.fit placed.known,
              );
            },
          )

    -- the program's rule, where no binder is bound
    pub placed-program : length env ≡ program.binders → RulePlaced program state inputs program.rule env
    placed-program long = record { place = outermost; stands = the_rule; long = long; values = λ b. tt; known = tt }

    -- the program's legal term
    pub placed-legal : (term : ResolvedTerm) → program.legal ≡ Some term → TermPlaced program state inputs term env
    placed-legal term e = standing-term term outermost (the_legal term e) (λ b. tt) tt
