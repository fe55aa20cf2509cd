-- What stands in a checked program has no fault where it stands.
use Rattle.std.proofs.Common.{◌≡◌, ℕ, zero, suc, ◌+◌, ◌<◌, true, not, List, [], ◌∷◌, ◌++◌, map, length, Option, Some, None, refl, sym, ap, ◌∙◌, subst, arith}
use Rattle.std.{proofs.lemmas.{Bool.{and_parts}, Option.{slice_get-map}}, specs.{Prelude.{slice_get, slice_index_or, is_some, MatchOption}, List.{list_all, AllByRecursion, Contains}, Option.{option_map}}}
use Rattle.asm_tree.specs.declared.term.Op.{Op}
use Rattle.asm_names.specs.declared.{program.{Resolved.{Resolved}}, resolved_term.ResolvedTerm.{ResolvedTerm, ResolvedTerm-F, roll-ResolvedTerm, map-ResolvedTerm}}
use Rattle.asm_names.specs.declared.resolved_rule.ResolvedRule.{ResolvedRule, ResolvedRule-F}
use Rattle.asm_names.specs.{Places.{in_parentheses}, ResolvedPlaces.{resolved_term_tokens}}
use Rattle.asm_names.specs.WellFormed.{Sort, truth, thing, Bound, sort_of, sort_by, is_thing, is_truth, takes}
use Rattle.asm_names.proofs.ResolvedLevels.{sort_at}
use Rattle.state_space.specs.{declared.signature.{Range.{Range}, Signature.{Signature}}, Locations.{signature_of, signatures_of}, Codomains.{codomain_range, whole}}
use Rattle.asm_ranges.specs.{Ranges.{range, sum_fits, binary_range, truths}, Facts.{Held}, Faults.{fault}, Keeping.{IsChecked}}
use Rattle.asm_ranges.specs.RangeFaults.{FaultyTerm, args_faults, domains_of, term_faults, term_faults_by, faulty_term, outside_faults, legal_faults, legal_at, tables_faults}
use Rattle.asm_ranges.specs.Places.{Place, outermost, held, failed, StandsRule, StandsTerm, the_rule, then_of, else_of, part_of, forall_of, choose_of, none_of, let_of, the_legal, arg_of_update, new_of, guard_of_if, guard_of_forall, guard_of_choose, value_of, arg_of, left_of, right_of, inner_of, min_first_of, min_second_of, max_first_of, max_second_of, test_of, first_of, second_of}
use Rattle.asm_ranges.proofs.{Levels.{faults_at}, Definite.{nil-parts, thing-some, truth-some, if-some, binary-some}}
use Rattle.asm_ranges.proofs.Standing.{if-thing, Sited, SoundRule, SoundTerm, at-layer, sited-held, sited-failed, sound-If, sound-Par, sound-Forall, sound-Choose, sound-Let}
use Rattle.asm_names.specs.declared.resolved_rule.ResolvedRule.TheVariants as rules
use Rattle.asm_names.specs.declared.resolved_term.ResolvedTerm.TheVariants as terms
use Rattle.asm_ranges.specs.declared.fault.RangeEnd.TheVariants as ends

pub contained : {A : Type 0} (P : A → Type 0) (xs : List A) (x : A) → AllByRecursion P xs → Contains xs x → P x
contained {A} P xs x all c = at xs all c.0 c.1 c.2
  where
    at : (xs : List A) → AllByRecursion P xs → (k : ℕ) → k < length xs → slice_index_or xs k x ≡ x → P x
    at [] all k h e = absurd (omega arith)
    at (y ∷ ys) all zero h e = subst P e all.0
    at (y ∷ ys) all (suc k) h e = at ys all.1 k (omega arith) e

module _ (program : Resolved) where
  abbrev signatures : List Signature
  signatures = signatures_of program

  abbrev Sound : ResolvedTerm → Place → Type 0
  Sound = SoundTerm program

  args-sound : (bound : Bound) (place : Place) (needs : List Range) (ts : List ResolvedTerm) (at : ℕ) → Sited program bound place → list_all is_thing (map (sort_of program.funs bound) ts) ≡ true
      → args_faults needs (map (faulty_term signatures place.scope) ts) place.facts at ≡ [] → AllByRecursion (λ t. Sound t place) ts
  args-sound bound place needs [] at sited h k = tt
  args-sound bound place [] (t ∷ ts) at sited h k =
      let p = and_parts _ _ h in
      let q = nil-parts (term_faults signatures place.scope t place.facts None at) _ k in
      (record { bound = bound; at = at; need = None; sited = sited; sorted = thing-some _ p.0; faultless = q.0 }, args-sound bound place [] ts (at + resolved_term_tokens t + 1) sited p.1 q.1)
  args-sound bound place (d ∷ ds) (t ∷ ts) at sited h k =
      let p = and_parts _ _ h in
      let q = nil-parts (term_faults signatures place.scope t place.facts (Some (whole d)) at) _ k in
      (record { bound = bound; at = at; need = Some (whole d); sited = sited; sorted = thing-some _ p.0; faultless = q.0 }, args-sound bound place ds ts (at + resolved_term_tokens t + 1) sited p.1 q.1)

  -- ---- the terms of an update

  module _ (place : Place) (fun : ℕ) (args : List ResolvedTerm) (new : ResolvedTerm) (r : SoundRule program (rules.Update fun args new) place) where
    update-layer : (list_all is_thing (map (sort_of program.funs r.bound) args) ≡ true) × (takes (slice_get program.funs fun) (length (map (sort_of program.funs r.bound) args)) ≡ true)
        × (is_thing (sort_of program.funs r.bound new) ≡ true) × (args_faults (domains_of (slice_get signatures fun)) (map (faulty_term signatures place.scope) args) place.facts (r.at + 2) ≡ [])
        × (term_faults signatures place.scope new place.facts (Some (codomain_range (slice_get signatures fun))) (r.at + 1 + in_parentheses (map resolved_term_tokens args) + 1) ≡ [])
    update-layer =
        let l = at-layer program place (ResolvedRule-F.Update fun args new) _ (rules.rolls-Update fun args new) r in
        let p = and_parts _ _ (and_parts _ _ l.0).1 in
        let q = and_parts _ _ (if-thing _ p.0) in
        let f = nil-parts (args_faults (domains_of (slice_get signatures fun)) (map (faulty_term signatures place.scope) args) place.facts (r.at + 2)) _ l.1 in
        (q.0, q.1, p.1, f.0, f.1)

    pub sound-args : AllByRecursion (λ t. Sound t place) args
    sound-args = let l = update-layer in args-sound r.bound place (domains_of (slice_get signatures fun)) args (r.at + 2) r.sited l.0 l.3

    pub new-faultless : term_faults signatures place.scope new place.facts (Some (codomain_range (slice_get signatures fun))) (r.at + 1 + in_parentheses (map resolved_term_tokens args) + 1) ≡ []
    new-faultless = update-layer.4

    pub sound-new : Sound new place
    sound-new = let l = update-layer in record { bound = r.bound; at = r.at + 1 + in_parentheses (map resolved_term_tokens args) + 1; need = Some (codomain_range (slice_get signatures fun)); sited = r.sited; sorted = thing-some _ l.2; faultless = l.4 }

    -- as many arguments as the function takes, each of which is a thing without a fault
    pub update-taken : (takes (slice_get program.funs fun) (length (map (sort_of program.funs r.bound) args)) ≡ true) × (list_all is_thing (map (sort_of program.funs r.bound) args) ≡ true)
        × (args_faults (domains_of (option_map (signature_of program.domains) (slice_get program.funs fun))) (map (faulty_term signatures place.scope) args) place.facts (r.at + 2) ≡ [])
    update-taken =
        let l = update-layer in
        let same = slice_get-map (signature_of program.domains) program.funs fun in
        (l.1, l.0, subst (λ (o : Option Signature). args_faults (domains_of o) (map (faulty_term signatures place.scope) args) place.facts (r.at + 2) ≡ []) same l.3)

  -- ---- the parts of a term

  module _ (place : Place) where
    term-layer : (x : ResolvedTerm-F ResolvedTerm) (t : ResolvedTerm) (e : roll-ResolvedTerm x ≡ t) (s : Sound t place)
        → (is_some (sort_by program.funs s.bound (map-ResolvedTerm ResolvedTerm (Option Sort) (sort_of program.funs s.bound) x)) ≡ true)
        × (term_faults_by signatures place.scope (map-ResolvedTerm ResolvedTerm FaultyTerm (faulty_term signatures place.scope) x) place.facts s.need s.at ≡ [])
    term-layer x t e s = (sym (ap is_some (sort_at x t e program.funs s.bound)) ∙ s.sorted, sym (faults_at x t e signatures place.scope place.facts s.need s.at) ∙ s.faultless)

    two : (l r : ResolvedTerm) (bound : Bound) (at after : ℕ) → Sited program bound place → (is_some (sort_of program.funs bound l) ≡ true) × (is_some (sort_of program.funs bound r) ≡ true)
        → term_faults signatures place.scope l place.facts None at ++ term_faults signatures place.scope r place.facts None after ≡ [] → Sound l place × Sound r place
    two l r bound at after sited p k =
        let q = nil-parts (term_faults signatures place.scope l place.facts None at) _ k in (
          record { bound = bound; at = at; need = None; sited = sited; sorted = p.0; faultless = q.0 },
          record { bound = bound; at = after; need = None; sited = sited; sorted = p.1; faultless = q.1 },
        )

    pub sound-Read : (fun : ℕ) (args : List ResolvedTerm) → Sound (terms.Read fun args) place → AllByRecursion (λ t. Sound t place) args
    sound-Read fun args s =
        let l = term-layer (ResolvedTerm-F.Read fun args) _ (terms.rolls-Read fun args) s in
        let p = and_parts _ _ (if-some _ thing l.0) in
        args-sound s.bound place (domains_of (slice_get signatures fun)) args (s.at + 2) s.sited p.0 (nil-parts (outside_faults _ s.need s.at) _ l.1).1

    pub sound-Binary : (op : Op) (l r : ResolvedTerm) → Sound (terms.Binary op l r) place → Sound l place × Sound r place
    sound-Binary op l r s =
        let y = term-layer (ResolvedTerm-F.Binary op l r) _ (terms.rolls-Binary op l r) s in
        let own = nil-parts (fault (ends.Wide s.at) (not (sum_fits op (binary_range op (range signatures place.scope l) (range signatures place.scope r))))) _ y.1 in
        two l r s.bound _ _ s.sited (binary-some op _ _ y.0) (nil-parts (outside_faults _ s.need s.at) _ own.1).1

    pub sound-Not : (t : ResolvedTerm) → Sound (terms.Not t) place → Sound t place
    sound-Not t s =
        let y = term-layer (ResolvedTerm-F.Not t) _ (terms.rolls-Not t) s in
        record { bound = s.bound; at = s.at + 1; need = None; sited = s.sited; sorted = truth-some _ (if-some _ truth y.0); faultless = (nil-parts (outside_faults truths s.need s.at) _ y.1).1 }

    pub sound-Min : (l r : ResolvedTerm) → Sound (terms.Min l r) place → Sound l place × Sound r place
    sound-Min l r s =
        let y = term-layer (ResolvedTerm-F.Min l r) _ (terms.rolls-Min l r) s in
        let p = and_parts _ _ (if-some _ thing y.0) in
        two l r s.bound _ _ s.sited (thing-some _ p.0, thing-some _ p.1) (nil-parts (outside_faults _ s.need s.at) _ y.1).1

    pub sound-Max : (l r : ResolvedTerm) → Sound (terms.Max l r) place → Sound l place × Sound r place
    sound-Max l r s =
        let y = term-layer (ResolvedTerm-F.Max l r) _ (terms.rolls-Max l r) s in
        let p = and_parts _ _ (if-some _ thing y.0) in
        two l r s.bound _ _ s.sited (thing-some _ p.0, thing-some _ p.1) (nil-parts (outside_faults _ s.need s.at) _ y.1).1

    pub sound-Cond : (g l r : ResolvedTerm) → Sound (terms.Cond g l r) place → Sound g place × Sound l (held g place) × Sound r (failed g place)
    sound-Cond g l r s =
        let y = term-layer (ResolvedTerm-F.Cond g l r) _ (terms.rolls-Cond g l r) s in
        let p = and_parts _ _ (if-some _ thing y.0) in
        let w = and_parts _ _ p.1 in
        let inner = nil-parts (term_faults signatures place.scope g place.facts None (s.at + 2)) _ (nil-parts (outside_faults _ s.need s.at) _ y.1).1 in
        let branches = nil-parts (term_faults signatures place.scope l (Held g ∷ place.facts) None _) _ inner.1 in
        let guard : Sound g place = record { bound = s.bound; at = s.at + 2; need = None; sited = s.sited; sorted = truth-some _ p.0; faultless = inner.0 } in (
          guard,
          record { bound = s.bound; at = _; need = None; sited = sited-held program s.bound g place guard s.sited; sorted = thing-some _ w.0; faultless = branches.0 },
          record { bound = s.bound; at = _; need = None; sited = sited-failed program s.bound g place guard s.sited; sorted = thing-some _ w.1; faultless = branches.1 },
        )

  -- ---- all that stands in a checked program

  module _ (checked : IsChecked program) where
    start : Sited program [] outermost
    start = record { same = λ b. refl; fit = tt; good = λ s i e reads values known. tt }

    rule-start : SoundRule program program.rule outermost
    rule-start =
        let later = nil-parts (tables_faults program.domains program.source.decls program.funs 3) _ checked.faultless in
        record {
          bound = [];
          before = 0;
          at = _;
          sited = start;
          is_named = checked.well_formed.rule;
          faultless = (nil-parts (legal_faults signatures program.legal (legal_at program)) _ later.1).1;
        }

    legal-start : (term : ResolvedTerm) → program.legal ≡ Some term → Sound term outermost
    legal-start term e =
        let later = nil-parts (tables_faults program.domains program.source.decls program.funs 3) _ checked.faultless in
        by program.legal e checked.well_formed.legal (nil-parts (legal_faults signatures program.legal (legal_at program)) _ later.1).0
      where
        by : (o : Option ResolvedTerm) → o ≡ Some term → MatchOption o (Unit {0}) (λ t. is_truth (sort_of program.funs [] t) ≡ true) → legal_faults signatures o (legal_at program) ≡ [] → Sound term outermost
        by None e h k = absurd cc
        by (Some t) e h k =
            let same : t ≡ term = cc in
            subst (λ u. Sound u outermost) same (record { bound = []; at = legal_at program + 1; need = None; sited = start; sorted = truth-some _ h; faultless = k })

    -- a rule that stands in the program has no fault there
    pub stands-rule : (rule : ResolvedRule) (place : Place) → StandsRule program rule place → SoundRule program rule place
    stands-rule rule place the_rule = rule-start
    stands-rule rule place (then_of g t o has p s) = (sound-If program p g t o has (stands-rule _ p s)).1
    stands-rule rule place (else_of g t o has p s) = (sound-If program p g t o has (stands-rule _ p s)).2
    stands-rule rule place (part_of parts part p c s) = contained (λ r. SoundRule program r p) parts part (sound-Par program p parts (stands-rule _ p s)) c
    stands-rule rule place (forall_of b d g guarded body p s) = (sound-Forall program p b d g guarded body (stands-rule _ p s)).1
    stands-rule rule place (choose_of b d g body o has p s) = (sound-Choose program p b d g body o has (stands-rule _ p s)).1
    stands-rule rule place (none_of b d g body o has p s) = (sound-Choose program p b d g body o has (stands-rule _ p s)).2
    stands-rule rule place (let_of b v body p s) = (sound-Let program p b v body (stands-rule _ p s)).1

    -- a term that stands in the program has no fault there
    pub stands-term : (term : ResolvedTerm) (place : Place) → StandsTerm program term place → Sound term place
    stands-term term place (the_legal t e) = legal-start t e
    stands-term term place (arg_of_update fun args new arg p c s) = contained (λ t. Sound t p) args arg (sound-args p fun args new (stands-rule _ p s)) c
    stands-term term place (new_of fun args new p s) = sound-new p fun args new (stands-rule _ p s)
    stands-term term place (guard_of_if g t o has p s) = (sound-If program p g t o has (stands-rule _ p s)).0
    stands-term term place (guard_of_forall b d g guarded body p s) = (sound-Forall program p b d g guarded body (stands-rule _ p s)).0
    stands-term term place (guard_of_choose b d g body o has p s) = (sound-Choose program p b d g body o has (stands-rule _ p s)).0
    stands-term term place (value_of b v body p s) = (sound-Let program p b v body (stands-rule _ p s)).0
    stands-term term place (arg_of fun args arg p c s) = contained (λ t. Sound t p) args arg (sound-Read p fun args (stands-term _ p s)) c
    stands-term term place (left_of op l r p s) = (sound-Binary p op l r (stands-term _ p s)).0
    stands-term term place (right_of op l r p s) = (sound-Binary p op l r (stands-term _ p s)).1
    stands-term term place (inner_of t p s) = sound-Not p t (stands-term _ p s)
    stands-term term place (min_first_of l r p s) = (sound-Min p l r (stands-term _ p s)).0
    stands-term term place (min_second_of l r p s) = (sound-Min p l r (stands-term _ p s)).1
    stands-term term place (max_first_of l r p s) = (sound-Max p l r (stands-term _ p s)).0
    stands-term term place (max_second_of l r p s) = (sound-Max p l r (stands-term _ p s)).1
    stands-term term place (test_of g l r p s) = (sound-Cond p g l r (stands-term _ p s)).0
    stands-term term place (first_of g l r p s) = (sound-Cond p g l r (stands-term _ p s)).1
    stands-term term place (second_of g l r p s) = (sound-Cond p g l r (stands-term _ p s)).2
