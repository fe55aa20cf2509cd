-- What is known of terms and rules that stand in a checked program.
use Rattle.std.proofs.Common.{◌≡◌, ℕ, ◌+◌, ◌<◌, ℤ, pos, Bool, true, false, not, List, [], ◌∷◌, map, Option, Some, None, refl, sym, ap, ◌∙◌, subst, inl, inr, ◌==◌, eq-eqb}
use Rattle.std.{proofs.lemmas.{Bool.{and_parts, cases_Bool, eqb-true, ltb-true}}, specs.{Prelude.{slice_index_or, is_some, IfSome}, List.{AllByRecursion}}}
use Rattle.asm_names.specs.declared.{program.{Interval.{Interval}, Resolved.{Resolved}}, resolved_term.ResolvedTerm.{ResolvedTerm, ResolvedTerm-F}}
use Rattle.asm_names.specs.declared.resolved_rule.ResolvedRule.{ResolvedRule, ResolvedRule-F, roll-ResolvedRule, map-ResolvedRule}
use Rattle.asm_names.specs.{ResolvedPlaces.{resolved_term_tokens, resolved_rule_tokens, resolved_rule_binders, led_if}}
use Rattle.asm_names.specs.WellFormed.{Bound, in_scope, sort_of, sort_if, is_thing, thing, named_by, rule_named, each_named, new_binder, guard_stands, else_stands, RulePart}
use Rattle.asm_names.specs.Rules.{always}
use Rattle.asm_names.proofs.{Absent.{absent_guard, absent_else}, ResolvedLevels.{named, named_at}}
use Rattle.state_space.specs.{declared.signature.Signature.{Signature}, Locations.{signatures_of}, Codomains.{In}}
use Rattle.asm_ranges.specs.{Ranges.{Scope, scoped, range, sums_fit, EnvFits, ReadsFit, domain_interval}, Facts.{Fact, Facts, Held, Failed, Bounded, refined}, Values.{value, defined}}
use Rattle.asm_ranges.specs.RangeFaults.{FaultyRule, term_faults, guard_faults, else_faults, each_rule_faults, rule_faults, rule_faults_by}
use Rattle.asm_ranges.specs.Places.{Place, held, failed, over, guarded_by, bound_to, AreTrue}
use Rattle.asm_ranges.proofs.{Levels.{rule_faults_at, faulty_rule, faults_at}, Agreement.{Extends, wider}, Readings.{reads_in}}
use Rattle.asm_ranges.proofs.Definite.{nil-parts, thing-some, truth-some, FactFits, FactsFit, AllGood, term-fine}
use Rattle.asm_tree.specs.declared.term.Op.TheVariants as ops
use Rattle.asm_names.specs.declared.resolved_rule.ResolvedRule.TheVariants as rules
use Rattle.asm_names.specs.declared.resolved_term.ResolvedTerm.TheVariants as terms

pub if-thing : (b : Bool) → is_thing (sort_if b thing) ≡ true → b ≡ true
if-thing true h = refl
if-thing false h = absurd cc

module _ (program : Resolved) where
  abbrev signatures : List Signature
  signatures = signatures_of program

  -- where a scope has exactly the binders that are bound, the guards that are known have their binders in it, and are defined
  -- where what is known is true
  pub record Sited (bound : Bound) (place : Place) : Type 0 where
    pub same : (b : ℕ) → is_some (place.scope b) ≡ in_scope bound b
    pub fit : FactsFit signatures place.scope place.facts
    pub good : (state inputs env : List ℤ) → ReadsFit program state inputs → EnvFits place.scope env → AreTrue program state inputs env place.facts
        → AllGood program state inputs env place.facts

  -- a rule without a fault at a place
  pub record SoundRule (rule : ResolvedRule) (place : Place) : Type 0 where
    pub bound : Bound
    pub before : ℕ
    pub at : ℕ
    pub sited : Sited bound place
    pub is_named : rule_named program rule bound before ≡ true
    pub faultless : rule_faults program.domains signatures rule place.scope place.facts at ≡ []

  -- a term without a fault at a place
  pub record SoundTerm (term : ResolvedTerm) (place : Place) : Type 0 where
    pub bound : Bound
    pub at : ℕ
    pub need : Option Interval
    pub sited : Sited bound place
    pub sorted : is_some (sort_of program.funs bound term) ≡ true
    pub faultless : term_faults signatures place.scope term place.facts need at ≡ []

  abbrev Meaning : ResolvedTerm → Place → Type 0
  Meaning term place =
      (state inputs env : List ℤ) → ReadsFit program state inputs → EnvFits place.scope env → AreTrue program state inputs env place.facts
      → (defined program state inputs env term ≡ true) × In (refined signatures place.scope term place.facts) (value program state inputs env term)

  -- its sums fit, and where what is known is true, it is defined, and its value lies in its refined range
  pub term-sound : (term : ResolvedTerm) (place : Place) → SoundTerm term place → (sums_fit signatures place.scope term ≡ true) × Meaning term place
  term-sound term place t =
      let fine = term-fine program place.scope t.bound (λ b h. t.sited.same b ∙ h) term t.sorted place.facts t.need t.at t.sited.fit t.faultless in (
        fine.0,
        λ s i e reads values known. fine.1 s i e (record { reads = reads_in program s i reads; values = values; good = t.sited.good s i e reads values known }),
      )

  -- ---- places

  all-extend : (P Q : Fact → Type 0) (facts : Facts) → ((fact : Fact) → P fact → Q fact) → AllByRecursion P facts → AllByRecursion Q facts
  all-extend P Q [] f all = tt
  all-extend P Q (x ∷ facts) f all = (f x all.0, all-extend P Q facts f all.1)

  fits-wider : (scope more : Scope) → Extends scope more → (fact : Fact) → FactFits signatures scope fact → FactFits signatures more fact
  fits-wider scope more extends (Held g) h = (wider signatures scope more extends g h).1
  fits-wider scope more extends (Failed g) h = (wider signatures scope more extends g h).1
  fits-wider scope more extends (Bounded b i) h = ap is_some (extends b h) ∙ h

  -- an outer scope
  pub outer-fits : (scope more : Scope) (env : List ℤ) → Extends scope more → EnvFits more env → EnvFits scope env
  outer-fits scope more env extends h k = by (scope k) (more k) (extends k) (h k)
    where
      by : (o m : Option Interval) → (is_some o ≡ true → m ≡ o) → IfSome m (λ i. In i (slice_index_or env k (pos 0))) → IfSome o (λ i. In i (slice_index_or env k (pos 0)))
      by None m e h = tt
      by (Some i) m e h = subst (λ o. IfSome o (λ i. In i (slice_index_or env k (pos 0)))) (e refl) h

  new-none : (bound : Bound) (before b : ℕ) (place : Place) → Sited bound place → new_binder program bound before b ≡ true → is_some (place.scope b) ≡ false
  new-none bound before b place sited h = sited.same b ∙ flip _ (and_parts _ _ (and_parts _ _ h).1).1
    where
      flip : (x : Bool) → not x ≡ true → x ≡ false
      flip true k = absurd cc
      flip false k = refl

  pub extends-new : (scope : Scope) (b : ℕ) (i : Interval) → is_some (scope b) ≡ false → Extends scope (scoped scope b i)
  extends-new scope b i none k h = elim (cases_Bool (k == b)) [
    | inl e ↦ absurd (no (sym none ∙ (ap (λ j. is_some (scope j)) (sym (eqb-true k b e)) ∙ h)))
    | inr e ↦ rw e refl
  ]
    where
      no : false ≡ true → ⊥
      no e = cc

  same-new : (bound : Bound) (scope : Scope) (b : ℕ) (i : Interval) → ((k : ℕ) → is_some (scope k) ≡ in_scope bound k) → (k : ℕ) → is_some (scoped scope b i k) ≡ in_scope (b ∷ bound) k
  same-new bound scope b i same k = elim (cases_Bool (k == b)) [
    | inl e ↦ rw e refl
    | inr e ↦ rw e (same k)
  ]

  -- a binder has the values of a domain
  sited-over : (bound : Bound) (before b d : ℕ) (place : Place) → Sited bound place → new_binder program bound before b ≡ true → Sited (b ∷ bound) (over program b d place)
  sited-over bound before b d place sited new =
      let extends = extends-new place.scope b (domain_interval program d) (new-none bound before b place sited new) in
      record {
        same = same-new bound place.scope b (domain_interval program d) sited.same;
        fit = all-extend _ _ place.facts (fits-wider place.scope _ extends) sited.fit;
        good = λ s i e reads values known. sited.good s i e reads (outer-fits place.scope _ e extends values) known;
      }

  -- a guard holds
  pub sited-held : (bound : Bound) (g : ResolvedTerm) (place : Place) → SoundTerm g place → Sited bound place → Sited bound (held g place)
  sited-held bound g place t sited =
      let sound = term-sound g place t in
      record {
        same = sited.same;
        fit = (sound.0, sited.fit);
        good = λ s i e reads values known. (((sound.1 s i e reads values known.1).0, known.0), sited.good s i e reads values known.1);
      }

  -- a guard fails
  pub sited-failed : (bound : Bound) (g : ResolvedTerm) (place : Place) → SoundTerm g place → Sited bound place → Sited bound (failed g place)
  sited-failed bound g place t sited =
      let sound = term-sound g place t in
      record {
        same = sited.same;
        fit = (sound.0, sited.fit);
        good = λ s i e reads values known. (((sound.1 s i e reads values known.1).0, known.0), sited.good s i e reads values known.1);
      }

  -- a binder has a term's value
  sited-let : (bound : Bound) (before b : ℕ) (v : ResolvedTerm) (place : Place) → Sited bound place → new_binder program bound before b ≡ true → Sited (b ∷ bound) (bound_to program b v place)
  sited-let bound before b v place sited new =
      let i = range signatures place.scope v in
      let extends = extends-new place.scope b i (new-none bound before b place sited new) in
      record {
        same = same-new bound place.scope b i sited.same;
        fit = (rw (eq-eqb b b refl) refl, all-extend _ _ place.facts (fits-wider place.scope _ extends) sited.fit);
        good = λ s j e reads values known. (known.0, sited.good s j e reads (outer-fits place.scope _ e extends values) known.1);
      }

  -- ---- what the text hasn't

  always-faultless : (scope : Scope) (facts : Facts) (at : ℕ) → term_faults signatures scope always facts None at ≡ []
  always-faultless scope facts at =
      faults_at (ResolvedTerm-F.Binary ops.Eq (terms.Number (pos 0)) (terms.Number (pos 0))) _ (terms.rolls-Binary ops.Eq (terms.Number (pos 0)) (terms.Number (pos 0))) signatures scope facts None at
      ∙ rw (zero (at + 1), zero (at + 1 + resolved_term_tokens (terms.Number (pos 0)) + 1)) refl
    where
      zero : (n : ℕ) → term_faults signatures scope (terms.Number (pos 0)) facts None n ≡ []
      zero n = faults_at (ResolvedTerm-F.Number (pos 0)) _ (terms.rolls-Number (pos 0)) signatures scope facts None n

  guard-faultless : (guarded : Bool) (scope : Scope) (facts : Facts) (guard : ResolvedTerm) (at : ℕ) → guard_stands guarded guard ≡ true → guard_faults guarded signatures scope facts guard at ≡ []
      → term_faults signatures scope guard facts None at ≡ []
  guard-faultless true scope facts guard at stands none = none
  guard-faultless false scope facts guard at stands none = ap (λ g. term_faults signatures scope g facts None at) (absent_guard guard stands) ∙ always-faultless scope facts at

  skip-faultless : (other : ResolvedRule) → else_stands false other ≡ true → (scope : Scope) (facts : Facts) (at : ℕ) → rule_faults program.domains signatures other scope facts at ≡ []
  skip-faultless other stands scope facts at = rule_faults_at ResolvedRule-F.Skip other (rules.rolls-Skip ∙ sym (absent_else other stands)) program.domains signatures scope facts at

  else-faultless : (has : Bool) (other : ResolvedRule) (scope : Scope) (facts : Facts) (at : ℕ) → else_stands has other ≡ true
      → else_faults has (faulty_rule program.domains signatures other) scope facts at ≡ [] → (n : ℕ) × (rule_faults program.domains signatures other scope facts n ≡ [])
  else-faultless true other scope facts at stands none = (at + 1, none)
  else-faultless false other scope facts at stands none = (at, skip-faultless other stands scope facts at)

  -- ---- rules, form by form

  module _ (place : Place) where
    pub at-layer : (x : ResolvedRule-F ResolvedRule) (rule : ResolvedRule) (e : roll-ResolvedRule x ≡ rule) (r : SoundRule rule place)
        → (named_by program (map-ResolvedRule ResolvedRule RulePart (named program) x) r.bound r.before ≡ true)
        × (rule_faults_by program.domains signatures (map-ResolvedRule ResolvedRule FaultyRule (faulty_rule program.domains signatures) x) place.scope place.facts r.at ≡ [])
    at-layer x rule e r = (sym (named_at x rule e program r.bound r.before) ∙ r.is_named, sym (rule_faults_at x rule e program.domains signatures place.scope place.facts r.at) ∙ r.faultless)

    pub sound-If : (g : ResolvedTerm) (t o : ResolvedRule) (has : Bool) → SoundRule (rules.If g t o has) place → SoundTerm g place × SoundRule t (held g place) × SoundRule o (failed g place)
    sound-If g t o has r =
        let l = at-layer (ResolvedRule-F.If g t o has) _ (rules.rolls-If g t o has) r in
        let p = and_parts _ _ l.0 in
        let q = and_parts _ _ p.1 in
        let w = and_parts _ _ q.1 in
        let f = nil-parts (term_faults signatures place.scope g place.facts None (r.at + 1)) _ l.1 in
        let k = nil-parts (rule_faults program.domains signatures t place.scope (Held g ∷ place.facts) (r.at + 1 + resolved_term_tokens g + 1)) _ f.1 in
        let guard : SoundTerm g place = record { bound = r.bound; at = r.at + 1; need = None; sited = r.sited; sorted = truth-some _ q.0; faultless = f.0 } in
        let other = else-faultless has o place.scope (Failed g ∷ place.facts) _ p.0 k.1 in (
          guard,
          record { bound = r.bound; before = r.before; at = r.at + 1 + resolved_term_tokens g + 1; sited = sited-held r.bound g place guard r.sited; is_named = w.0; faultless = k.0 },
          record { bound = r.bound; before = r.before + resolved_rule_binders t; at = other.0; sited = sited-failed r.bound g place guard r.sited; is_named = w.1; faultless = other.1 },
        )

    parts-sound : (parts : List ResolvedRule) (bound : Bound) (before at : ℕ) → Sited bound place → each_named (map (named program) parts) bound before ≡ true
        → each_rule_faults (map (faulty_rule program.domains signatures) parts) place.scope place.facts at ≡ [] → AllByRecursion (λ part. SoundRule part place) parts
    parts-sound [] bound before at sited h k = tt
    parts-sound (r ∷ parts) bound before at sited h k =
        let p = and_parts _ _ h in
        let q = nil-parts (rule_faults program.domains signatures r place.scope place.facts (at + 1)) _ k in (
          record { bound = bound; before = before; at = at + 1; sited = sited; is_named = p.0; faultless = q.0 },
          parts-sound parts bound (before + resolved_rule_binders r) (at + 1 + resolved_rule_tokens r) sited p.1 q.1,
        )

    pub sound-Par : (parts : List ResolvedRule) → SoundRule (rules.Par parts) place → AllByRecursion (λ part. SoundRule part place) parts
    sound-Par parts r =
        let l = at-layer (ResolvedRule-F.Par parts) _ (rules.rolls-Par parts) r in
        parts-sound parts r.bound r.before r.at r.sited l.0 l.1

    pub sound-Forall : (b d : ℕ) (g : ResolvedTerm) (guarded : Bool) (body : ResolvedRule) → SoundRule (rules.Forall b d g guarded body) place
        → SoundTerm g (over program b d place) × SoundRule body (guarded_by guarded g (over program b d place)) × (is_some (place.scope b) ≡ false) × (b < program.binders)
    sound-Forall b d g guarded body r =
        let l = at-layer (ResolvedRule-F.Forall b d g guarded body) _ (rules.rolls-Forall b d g guarded body) r in
        let p = and_parts _ _ l.0 in
        let q = and_parts _ _ p.1 in
        let w = and_parts _ _ q.1 in
        let s = and_parts _ _ w.1 in
        let inner = sited-over r.bound r.before b d place r.sited q.0 in
        let f = nil-parts (guard_faults guarded signatures (over program b d place).scope place.facts g (r.at + 5)) _ l.1 in
        let guard : SoundTerm g (over program b d place) = record {
          bound = b ∷ r.bound;
          at = r.at + 5;
          need = None;
          sited = inner;
          sorted = truth-some _ s.0;
          faultless = guard-faultless guarded (over program b d place).scope place.facts g (r.at + 5) p.0 f.0;
        } in (
          guard,
          record {
            bound = b ∷ r.bound;
            before = r.before + 1;
            at = r.at + 4 + led_if guarded (resolved_term_tokens g) + 1;
            sited = behind guarded guard inner;
            is_named = s.1;
            faultless = f.1;
          },
          new-none r.bound r.before b place r.sited q.0,
          ltb-true _ _ (and_parts _ _ (and_parts _ _ q.0).1).0,
        )
      where
        behind : (has : Bool) {bound : Bound} → SoundTerm g (over program b d place) → Sited bound (over program b d place) → Sited bound (guarded_by has g (over program b d place))
        behind false guard sited = sited
        behind true guard sited = sited-held _ g (over program b d place) guard sited

    pub sound-Choose : (b d : ℕ) (g : ResolvedTerm) (body o : ResolvedRule) (has : Bool) → SoundRule (rules.Choose b d g body o has) place
        → SoundTerm g (over program b d place) × SoundRule body (held g (over program b d place)) × SoundRule o place × (is_some (place.scope b) ≡ false) × (b < program.binders)
    sound-Choose b d g body o has r =
        let l = at-layer (ResolvedRule-F.Choose b d g body o has) _ (rules.rolls-Choose b d g body o has) r in
        let p = and_parts _ _ l.0 in
        let q = and_parts _ _ p.1 in
        let w = and_parts _ _ q.1 in
        let s = and_parts _ _ w.1 in
        let m = and_parts _ _ s.1 in
        let inner = sited-over r.bound r.before b d place r.sited q.0 in
        let f = nil-parts (term_faults signatures (over program b d place).scope g place.facts None (r.at + 5)) _ l.1 in
        let k = nil-parts (rule_faults program.domains signatures body (over program b d place).scope (Held g ∷ place.facts) (r.at + 5 + resolved_term_tokens g + 1)) _ f.1 in
        let guard : SoundTerm g (over program b d place) = record { bound = b ∷ r.bound; at = r.at + 5; need = None; sited = inner; sorted = truth-some _ s.0; faultless = f.0 } in
        let other = else-faultless has o place.scope place.facts _ p.0 k.1 in (
          guard,
          record {
            bound = b ∷ r.bound;
            before = r.before + 1;
            at = r.at + 5 + resolved_term_tokens g + 1;
            sited = sited-held (b ∷ r.bound) g (over program b d place) guard inner;
            is_named = m.0;
            faultless = k.0;
          },
          record { bound = r.bound; before = r.before + 1 + resolved_rule_binders body; at = other.0; sited = r.sited; is_named = m.1; faultless = other.1 },
          new-none r.bound r.before b place r.sited q.0,
          ltb-true _ _ (and_parts _ _ (and_parts _ _ q.0).1).0,
        )

    pub sound-Let : (b : ℕ) (v : ResolvedTerm) (body : ResolvedRule) → SoundRule (rules.Let b v body) place
        → SoundTerm v place × SoundRule body (bound_to program b v place) × (is_some (place.scope b) ≡ false) × (b < program.binders)
    sound-Let b v body r =
        let l = at-layer (ResolvedRule-F.Let b v body) _ (rules.rolls-Let b v body) r in
        let p = and_parts _ _ l.0 in
        let q = and_parts _ _ p.1 in
        let f = nil-parts (term_faults signatures place.scope v place.facts None (r.at + 3)) _ l.1 in (
          record { bound = r.bound; at = r.at + 3; need = None; sited = r.sited; sorted = thing-some _ q.0; faultless = f.0 },
          record {
            bound = b ∷ r.bound;
            before = r.before + 1;
            at = r.at + 3 + resolved_term_tokens v + 1;
            sited = sited-let r.bound r.before b v place r.sited p.0;
            is_named = q.1;
            faultless = f.1;
          },
          new-none r.bound r.before b place r.sited p.0,
          ltb-true _ _ (and_parts _ _ (and_parts _ _ p.0).1).0,
        )
