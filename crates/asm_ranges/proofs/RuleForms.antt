-- What is found of a rule follows from what is found of its parts.
use Rattle.std.proofs.Common.{◌≡◌, ℕ, zero, suc, ◌+◌, ◌<◌, ◌≤◌, ◌^◌, Bool, true, false, ◌&&◌, List, [], ◌∷◌, ◌++◌, Some, None, Result, Ok, Err, refl, ap, sym, ◌∙◌, subst, arith, Bor, length}
use Rattle.std.{proofs.lemmas.{Bool.{and_parts, and_from, ltb-true, lt-ltb}}, specs.{Prelude.{slice_set, nat_le, nat_lt}}}
use Rattle.asm_names.specs.declared.{program.{Domain.{Domain}, Interval.{Interval}}, resolved_term.ResolvedTerm.{ResolvedTerm}}
use Rattle.asm_names.specs.declared.resolved_rule.ResolvedRule.{ResolvedRule, ResolvedRule-F, roll-ResolvedRule, fold-roll-ResolvedRule}
use Rattle.asm_names.specs.{ResolvedPlaces.{resolved_term_tokens, resolved_rule_tokens, led_if}}
use Rattle.asm_names.proofs.ResolvedLevels.{rule_tokens_of}
use Rattle.state_space.specs.declared.signature.Signature.{Signature}
use Rattle.asm_ranges.specs.{declared.fault.RangeEnd.{RangeEnd}, Faults.{first_fault, Judges}, Ranges.{Scope, scoped, range, words}, Rows.{Row, intervals_after, intervals_after_by, after_else}}
use Rattle.asm_ranges.specs.Facts.{Facts, Held as HeldFact, Failed as FailedFact, Bounded as BoundedFact, refined}
use Rattle.asm_ranges.specs.RangeFaults.{rule_faults, term_faults, else_faults, guard_faults, guarded_facts, interval_of}
use Rattle.asm_ranges.specs.Contexts.{IsPart, IsWord, below, context_fits, facts_of, is_part, legible, legible_by, scope_of, small_numbers}
use Rattle.asm_ranges.specs.FindingRules.{IsAbove, JudgesRule, JudgesRuleLayer, Passes, all_words, faulty_rule, layer_after, layer_faults, layer_legible, rule_layer_tokens}
use Rattle.asm_ranges.specs.declared.context.Context.{Context, Held, Failed, Over, Bounded}
use Rattle.asm_ranges.proofs.{Definite.{nil-parts}, Contexts.{scope-Held, facts-Held, scope-Failed, facts-Failed, scope-Over, facts-Over, fits-Over, scope-Bounded, facts-Bounded, fits-Bounded}, Cuts.{is-at-most}, Levels.{rule_faults_at}, RuleLists.{stopped}}

-- ---- one level

module _ (x : ResolvedRule-F ResolvedRule) (r : ResolvedRule) (e : roll-ResolvedRule x ≡ r) where
  pub legible_of : (domains : List Domain) (from : ℕ) → legible domains r from ≡ layer_legible domains x from
  unfolding legible
  legible_of domains from = ap (λ q. legible domains q from) (sym e) ∙ ap (λ f. f from) (fold-roll-ResolvedRule (ℕ → Bool) (legible_by domains) x)

  pub after_of : (domains : List Domain) (signatures : List Signature) (scope : Scope) (row : Row) → intervals_after domains signatures r scope row ≡ layer_after domains signatures x scope row
  unfolding intervals_after
  after_of domains signatures scope row = ap (λ q. intervals_after domains signatures q scope row) (sym e) ∙ ap (λ f. f scope row) (fold-roll-ResolvedRule (Scope → Row → Row) (intervals_after_by domains signatures) x)

  -- what is judged by its parts is judged
  pub whole_rule : (domains : List Domain) (signatures : List Signature) (context : Context) (old : Row) (at : ℕ) (outcome : Result ℕ RangeEnd) (new : Row)
      → JudgesRuleLayer domains signatures context x old at outcome new → JudgesRule domains signatures context r old at outcome new
  whole_rule domains signatures context old at (Ok n) new h = (
    rule_faults_at x r e domains signatures (scope_of context) (facts_of context) at ∙ h.0,
    record {
      place = h.1.place ∙ ap (λ k. at + k) (sym (rule_tokens_of x r e));
      row = h.1.row ∙ sym (after_of domains signatures (scope_of context) old);
      words = h.1.words;
    },
  )
  whole_rule domains signatures context old at (Err end) new h = ap first_fault (rule_faults_at x r e domains signatures (scope_of context) (facts_of context) at) ∙ h

  -- what a function that reads a rule needs of its parts
  pub handed_rule : (domains : List Domain) (context : Context) (at : ℕ) → IsAbove context (legible domains r) → at + resolved_rule_tokens r ≤ 2 ^ 31
      → (resolved_rule_tokens r ≡ rule_layer_tokens x) × IsAbove context (layer_legible domains x) × (at + rule_layer_tokens x ≤ 2 ^ 31)
  handed_rule domains context at a room =
      let tokens = rule_tokens_of x r e in
      (tokens, record { from = a.from; above = a.above; holds = sym (legible_of domains a.from) ∙ a.holds }, omega (arith, tokens))

  -- an update was judged, which has no binders
  pub updated : (domains : List Domain) (signatures : List Signature) (context : Context) (old : Row) (at : ℕ) (outcome : Result ℕ RangeEnd) → all_words old ≡ true
      → ((row : Row) → layer_after domains signatures x (scope_of context) row ≡ row)
      → Judges (layer_faults domains signatures x (scope_of context) (facts_of context) at) outcome (λ after. after ≡ at + rule_layer_tokens x) → JudgesRule domains signatures context r old at outcome old
  updated domains signatures context old at (Ok n) wordy same h = whole_rule domains signatures context old at (Ok n) old (h.0, record { place = h.1; row = sym (same old); words = wordy })
  updated domains signatures context old at (Err e) _ same h = whole_rule domains signatures context old at (Err e) old h

-- ---- contexts

-- what holds of a rule in turn, of numbers from which it holds
pub above-map : (context : Context) (P Q : ℕ → Bool) → ((n : ℕ) → P n ≡ true → Q n ≡ true) → IsAbove context P → IsAbove context Q
above-map context P Q f a = record { from = a.from; above = a.above; holds = f a.from a.holds }

below-more : (n m : ℕ) (facts : Facts) → n ≤ m → below n facts ≡ true → below m facts ≡ true
below-more n m [] less h = refl
below-more n m (HeldFact g ∷ facts) less h = below-more n m facts less h
below-more n m (FailedFact g ∷ facts) less h = below-more n m facts less h
below-more n m (BoundedFact b i ∷ facts) less h =
    let p = and_parts _ _ h in
    let lower : b < n = ltb-true b n p.0 in
    and_from _ _ (lt-ltb b m (omega arith)) (below-more n m facts less p.1)

module _ (o : Bor Context) (P : ℕ → Bool) where
  pub above-Held : (g : Bor ResolvedTerm) → IsAbove o.now P → IsAbove (Held g o) P
  above-Held g a = record { from = a.from; above = ap (below a.from) (facts-Held g o) ∙ a.above; holds = a.holds }

  pub above-Failed : (g : Bor ResolvedTerm) → IsAbove o.now P → IsAbove (Failed g o) P
  above-Failed g a = record { from = a.from; above = ap (below a.from) (facts-Failed g o) ∙ a.above; holds = a.holds }

  pub above-Over : (b from : ℕ) (i : Interval) → below from (facts_of o.now) ≡ true → from ≤ b → P (b + 1) ≡ true → IsAbove (Over b i o) P
  above-Over b from i above less holds = record { from = b + 1; above = ap (below (b + 1)) (facts-Over b i o) ∙ below-more from (b + 1) (facts_of o.now) (omega arith) above; holds = holds }

  pub above-Bounded : (b from : ℕ) (i k : Interval) → below from (facts_of o.now) ≡ true → from ≤ b → P (b + 1) ≡ true → IsAbove (Bounded b i k o) P
  above-Bounded b from i k above less holds = record {
    from = b + 1;
    above = ap (below (b + 1)) (facts-Bounded b i k o) ∙ and_from _ _ (lt-ltb b (b + 1) (omega arith)) (below-more from (b + 1) (facts_of o.now) (omega arith) above);
    holds = holds;
  }

is-part-of : (a b : Interval) → IsPart a b → is_part a b ≡ true
is-part-of a b p = and_from _ _ (and_from _ _ (is-at-most b.lo a.lo p.low) (is-at-most a.hi b.hi p.high)) (is-at-most a.lo a.hi p.some)

pub is-word-of : (a : Interval) → IsWord a → is_part a words ≡ true
is-word-of a w = is-part-of a words (record { low = w.low; some = w.some; high = w.high })

module _ (b from : ℕ) (i : Interval) (o : Bor Context) (above : below from (facts_of o.now) ≡ true) (less : from ≤ b) (fits : context_fits o.now ≡ true) (word : IsWord i) where
  pub fits-in-Over : context_fits (Over b i o) ≡ true
  fits-in-Over = fits-Over b i o ∙ and_from _ _ (and_from _ _ (is-word-of i word) (below-more from b (facts_of o.now) less above)) fits

  pub fits-in-Bounded : (k : Interval) → IsPart k i → context_fits (Bounded b i k o) ≡ true
  fits-in-Bounded k part = fits-Bounded b i k o ∙ and_from _ _ (and_from _ _ (is-word-of i word) (is-part-of k i part)) (and_from _ _ (below-more from b (facts_of o.now) less above) fits)

-- ---- rows

-- an interval of 32 bits is put into a row of such
pub set-word : (row : Row) (b : ℕ) (i : Interval) → all_words row ≡ true → IsWord i → all_words (slice_set row b i) ≡ true
set-word [] b i all word = refl
set-word (x ∷ row) zero i all word = and_from _ _ (is-word-of i word) (and_parts _ _ all).1
set-word (x ∷ row) (suc b) i all word = let p = and_parts _ _ all in and_from _ _ p.0 (set-word row b i p.1 word)

-- ---- rules under a guard or behind a binder

-- a rule was judged, by what is in scope and what is known
abbrev pub JudgesIn : List Domain → List Signature → ResolvedRule → Row → ℕ → Result ℕ RangeEnd → Row → Scope → Facts → Type 0
JudgesIn domains signatures rule old at outcome new scope facts =
    Judges (rule_faults domains signatures rule scope facts at) outcome (λ after. Passes (resolved_rule_tokens rule) (intervals_after domains signatures rule scope old) at after new)

module _ (domains : List Domain) (signatures : List Signature) (o : Bor Context) (r : ResolvedRule) (old : Row) (at : ℕ) (outcome : Result ℕ RangeEnd) (new : Row) where
  moved : (c : Context) (scope : Scope) (facts : Facts) → scope_of c ≡ scope → facts_of c ≡ facts → JudgesRule domains signatures c r old at outcome new → JudgesIn domains signatures r old at outcome new scope facts
  moved c scope facts s f h =
      subst (λ (k : Facts). JudgesIn domains signatures r old at outcome new scope k) f (subst (λ (q : Scope). JudgesIn domains signatures r old at outcome new q (facts_of c)) s h)

  pub rule-Held : (g : Bor ResolvedTerm) → JudgesRule domains signatures (Held g o) r old at outcome new → JudgesIn domains signatures r old at outcome new (scope_of o.now) (HeldFact g.now ∷ facts_of o.now)
  rule-Held g h = moved (Held g o) _ _ (scope-Held g o) (facts-Held g o) h

  pub rule-Bounded : (b : ℕ) (i k : Interval) → JudgesRule domains signatures (Bounded b i k o) r old at outcome new
      → JudgesIn domains signatures r old at outcome new (scoped (scope_of o.now) b i) (BoundedFact b k ∷ facts_of o.now)
  rule-Bounded b i k h = moved (Bounded b i k o) _ _ (scope-Bounded b i k o) (facts-Bounded b i k o) h

-- a guard without a fault, and a rule behind it
pub held-judged : (domains : List Domain) (signatures : List Signature) (scope : Scope) (facts : Facts) (g : ResolvedTerm) (body : ResolvedRule) (old : Row) (at after : ℕ) (outcome : Result ℕ RangeEnd) (new : Row)
    → term_faults signatures scope g facts None (at + 1) ≡ [] → after ≡ at + 1 + resolved_term_tokens g → JudgesIn domains signatures body old (after + 1) outcome new scope (HeldFact g ∷ facts)
    → Judges (term_faults signatures scope g facts None (at + 1) ++ rule_faults domains signatures body scope (HeldFact g ∷ facts) (at + 1 + resolved_term_tokens g + 1)) outcome
    (λ n. Passes (1 + resolved_term_tokens g + 1 + resolved_rule_tokens body) (intervals_after domains signatures body scope old) at n new)
held-judged domains signatures scope facts g body old at after (Ok n) new none place h = (
  rw none (ap (λ k. rule_faults domains signatures body scope (HeldFact g ∷ facts) (k + 1)) (sym place) ∙ h.0),
  record { place = omega (arith, h.1.place, place); row = h.1.row; words = h.1.words },
)
held-judged domains signatures scope facts g body old at after (Err e) new none place h = rw none (ap (λ k. first_fault (rule_faults domains signatures body scope (HeldFact g ∷ facts) (k + 1))) (sym place) ∙ h)

-- ---- one part behind another

-- the fault of the first part, or of the second, of two that stand before a third
pub stopped-inside : (f g h : List RangeEnd) (e : RangeEnd) → first_fault (f ++ g) ≡ Some e → first_fault (f ++ (g ++ h)) ≡ Some e
unfolding first_fault
stopped-inside [] g h e s = stopped (g ++ h) g h e refl s
stopped-inside (x ∷ f) g h e s = s

pub stopped-behind : (f g h : List RangeEnd) (e : RangeEnd) → f ++ g ≡ [] → first_fault h ≡ Some e → first_fault (f ++ (g ++ h)) ≡ Some e
stopped-behind f g h e none s = let p = nil-parts f g none in rw (p.0, p.1) s

none-behind : (f g h : List RangeEnd) → f ++ g ≡ [] → h ≡ [] → f ++ (g ++ h) ≡ []
none-behind f g h none last = let p = nil-parts f g none in rw (p.0, p.1) last

-- a body behind a guard, if the text has one
module _ (domains : List Domain) (signatures : List Signature) (scope : Scope) (facts : Facts) (g : ResolvedTerm) (body : ResolvedRule) (old : Row) (at : ℕ) (outcome : Result ℕ RangeEnd) (new : Row) where
  abbrev pub JudgesGuarded : Bool → Type 0
  JudgesGuarded has =
      Judges (guard_faults has signatures scope facts g (at + 1) ++ rule_faults domains signatures body scope (guarded_facts has g facts) (at + led_if has (resolved_term_tokens g) + 1)) outcome
      (λ n. Passes (led_if has (resolved_term_tokens g) + 1 + resolved_rule_tokens body) (intervals_after domains signatures body scope old) at n new)

  abbrev pub JudgesHeld : Type 0
  JudgesHeld =
      Judges (term_faults signatures scope g facts None (at + 1) ++ rule_faults domains signatures body scope (HeldFact g ∷ facts) (at + 1 + resolved_term_tokens g + 1)) outcome
      (λ n. Passes (1 + resolved_term_tokens g + 1 + resolved_rule_tokens body) (intervals_after domains signatures body scope old) at n new)

module _ (domains : List Domain) (signatures : List Signature) (scope : Scope) (facts : Facts) (g : ResolvedTerm) (body : ResolvedRule) (old : Row) (at : ℕ) where
  pub guarded-held : (outcome : Result ℕ RangeEnd) (new : Row) (has : Bool) → has ≡ true → JudgesHeld domains signatures scope facts g body old at outcome new → JudgesGuarded domains signatures scope facts g body old at outcome new has
  guarded-held outcome new false e h = absurd cc
  guarded-held (Ok n) new true e h =
      let place : at + 1 + resolved_term_tokens g + 1 ≡ at + (1 + resolved_term_tokens g) + 1 = omega arith in
      (ap (λ k. term_faults signatures scope g facts None (at + 1) ++ rule_faults domains signatures body scope (HeldFact g ∷ facts) k) (sym place) ∙ h.0, record { place = omega (arith, h.1.place); row = h.1.row; words = h.1.words })
  guarded-held (Err x) new true e h =
      let place : at + 1 + resolved_term_tokens g + 1 ≡ at + (1 + resolved_term_tokens g) + 1 = omega arith in
      ap (λ k. first_fault (term_faults signatures scope g facts None (at + 1) ++ rule_faults domains signatures body scope (HeldFact g ∷ facts) k)) (sym place) ∙ h

  pub guarded-free : (outcome : Result ℕ RangeEnd) (new : Row) (has : Bool) → has ≡ false → JudgesIn domains signatures body old (at + 1) outcome new scope facts → JudgesGuarded domains signatures scope facts g body old at outcome new has
  guarded-free outcome new true e h = absurd cc
  guarded-free (Ok n) new false e h =
      let place : at + 1 ≡ at + 0 + 1 = omega arith in
      (ap (rule_faults domains signatures body scope facts) (sym place) ∙ h.0, record { place = omega (arith, h.1.place); row = h.1.row; words = h.1.words })
  guarded-free (Err x) new false e h =
      let place : at + 1 ≡ at + 0 + 1 = omega arith in
      ap (λ k. first_fault (rule_faults domains signatures body scope facts k)) (sym place) ∙ h

-- a rule behind `else`, if the text has one
abbrev pub JudgesElse : List Domain → List Signature → Bool → ResolvedRule → Row → ℕ → Result ℕ RangeEnd → Row → Scope → Facts → Type 0
JudgesElse domains signatures has rule old at outcome new scope facts =
    Judges (else_faults has (faulty_rule domains signatures rule) scope facts at) outcome
    (λ after. Passes (led_if has (resolved_rule_tokens rule)) (after_else has (intervals_after domains signatures rule) scope old) at after new)

pub else-Failed : (domains : List Domain) (signatures : List Signature) (o : Bor Context) (g : Bor ResolvedTerm) (has : Bool) (r : ResolvedRule) (old : Row) (at : ℕ) (outcome : Result ℕ RangeEnd) (new : Row)
    → JudgesElse domains signatures has r old at outcome new (scope_of (Failed g o)) (facts_of (Failed g o)) → JudgesElse domains signatures has r old at outcome new (scope_of o.now) (FailedFact g.now ∷ facts_of o.now)
else-Failed domains signatures o g has r old at outcome new h =
    subst (λ (k : Facts). JudgesElse domains signatures has r old at outcome new (scope_of o.now) k) (facts-Failed g o)
    (subst (λ (q : Scope). JudgesElse domains signatures has r old at outcome new q (facts_of (Failed g o))) (scope-Failed g o) h)

-- behind a binder that ranges over a domain
module _ (domains : List Domain) (signatures : List Signature) (o : Bor Context) (b : ℕ) (i : Interval) (g : ResolvedTerm) (body : ResolvedRule) (old : Row) (at : ℕ) (outcome : Result ℕ RangeEnd) (new : Row) where
  pub held-Over : JudgesHeld domains signatures (scope_of (Over b i o)) (facts_of (Over b i o)) g body old at outcome new → JudgesHeld domains signatures (scoped (scope_of o.now) b i) (facts_of o.now) g body old at outcome new
  held-Over h =
      subst (λ (k : Facts). JudgesHeld domains signatures (scoped (scope_of o.now) b i) k g body old at outcome new) (facts-Over b i o)
      (subst (λ (q : Scope). JudgesHeld domains signatures q (facts_of (Over b i o)) g body old at outcome new) (scope-Over b i o) h)

  pub guarded-Over : (has : Bool) → JudgesGuarded domains signatures (scope_of (Over b i o)) (facts_of (Over b i o)) g body old at outcome new has
      → JudgesGuarded domains signatures (scoped (scope_of o.now) b i) (facts_of o.now) g body old at outcome new has
  guarded-Over has h =
      subst (λ (k : Facts). JudgesGuarded domains signatures (scoped (scope_of o.now) b i) k g body old at outcome new has) (facts-Over b i o)
      (subst (λ (q : Scope). JudgesGuarded domains signatures q (facts_of (Over b i o)) g body old at outcome new has) (scope-Over b i o) h)

-- ---- form by form

module _ (domains : List Domain) (signatures : List Signature) (scope : Scope) (facts : Facts) (old : Row) (at : ℕ) where
  pub if-ok : (g : ResolvedTerm) (t o : ResolvedRule) (has : Bool) (m n : ℕ) (middle new : Row) → JudgesHeld domains signatures scope facts g t old at (Ok m) middle
      → JudgesElse domains signatures has o middle m (Ok n) new scope (FailedFact g ∷ facts)
      → (layer_faults domains signatures (ResolvedRule-F.If g t o has) scope facts at ≡ []) × Passes (rule_layer_tokens (ResolvedRule-F.If g t o has)) (layer_after domains signatures (ResolvedRule-F.If g t o has) scope old) at (n + 1) new
  if-ok g t o has m n middle new h j =
      let place : m ≡ at + 1 + resolved_term_tokens g + 1 + resolved_rule_tokens t = omega (arith, h.1.place) in (
        none-behind _ _ _ h.0 (ap (else_faults has (faulty_rule domains signatures o) scope (FailedFact g ∷ facts)) (sym place) ∙ j.0),
        record { place = omega (arith, j.1.place, place); row = j.1.row ∙ ap (after_else has (intervals_after domains signatures o) scope) h.1.row; words = j.1.words },
      )

  pub if-first : (g : ResolvedTerm) (t o : ResolvedRule) (has : Bool) (e : RangeEnd) (middle : Row) → JudgesHeld domains signatures scope facts g t old at (Err e) middle
      → first_fault (layer_faults domains signatures (ResolvedRule-F.If g t o has) scope facts at) ≡ Some e
  if-first g t o has e middle h =
      stopped-inside (term_faults signatures scope g facts None (at + 1)) (rule_faults domains signatures t scope (HeldFact g ∷ facts) (at + 1 + resolved_term_tokens g + 1))
      (else_faults has (faulty_rule domains signatures o) scope (FailedFact g ∷ facts) (at + 1 + resolved_term_tokens g + 1 + resolved_rule_tokens t)) e h

  pub if-second : (g : ResolvedTerm) (t o : ResolvedRule) (has : Bool) (m : ℕ) (e : RangeEnd) (middle new : Row) → JudgesHeld domains signatures scope facts g t old at (Ok m) middle
      → JudgesElse domains signatures has o middle m (Err e) new scope (FailedFact g ∷ facts)
      → first_fault (layer_faults domains signatures (ResolvedRule-F.If g t o has) scope facts at) ≡ Some e
  if-second g t o has m e middle new h j =
      let place : m ≡ at + 1 + resolved_term_tokens g + 1 + resolved_rule_tokens t = omega (arith, h.1.place) in
      stopped-behind _ _ _ e h.0 (ap (λ k. first_fault (else_faults has (faulty_rule domains signatures o) scope (FailedFact g ∷ facts) k)) (sym place) ∙ j)

  module _ (b d : ℕ) (g : ResolvedTerm) (body : ResolvedRule) where
    abbrev inner : Scope
    inner = scoped scope b (interval_of domains d)

    abbrev within : Row
    within = slice_set old b (interval_of domains d)

    five : at + 4 + 1 ≡ at + 5
    five = omega arith

    pub forall-ok : (has : Bool) (n : ℕ) (new : Row) → JudgesGuarded domains signatures inner facts g body within (at + 4) (Ok n) new has
        → (layer_faults domains signatures (ResolvedRule-F.Forall b d g has body) scope facts at ≡ [])
        × Passes (rule_layer_tokens (ResolvedRule-F.Forall b d g has body)) (layer_after domains signatures (ResolvedRule-F.Forall b d g has body) scope old) at (n + 1) new
    forall-ok has n new h = (rw five at h.0, record { place = omega (arith, h.1.place); row = h.1.row; words = h.1.words })

    pub forall-err : (has : Bool) (e : RangeEnd) (new : Row) → JudgesGuarded domains signatures inner facts g body within (at + 4) (Err e) new has
        → first_fault (layer_faults domains signatures (ResolvedRule-F.Forall b d g has body) scope facts at) ≡ Some e
    forall-err has e new h = rw five at h

    abbrev choose_faults : ResolvedRule → Bool → List RangeEnd
    choose_faults o has = layer_faults domains signatures (ResolvedRule-F.Choose b d g body o has) scope facts at

    pub choose-ok : (o : ResolvedRule) (has : Bool) (m n : ℕ) (middle new : Row) → JudgesHeld domains signatures inner facts g body within (at + 4) (Ok m) middle
        → JudgesElse domains signatures has o middle m (Ok n) new scope facts
        → (choose_faults o has ≡ []) × Passes (rule_layer_tokens (ResolvedRule-F.Choose b d g body o has)) (layer_after domains signatures (ResolvedRule-F.Choose b d g body o has) scope old) at (n + 1) new
    choose-ok o has m n middle new h j =
        let place : m ≡ at + 5 + resolved_term_tokens g + 1 + resolved_rule_tokens body = omega (arith, h.1.place) in (
          none-behind _ _ _ (rw five at h.0) (ap (else_faults has (faulty_rule domains signatures o) scope facts) (sym place) ∙ j.0),
          record { place = omega (arith, j.1.place, place); row = j.1.row ∙ ap (after_else has (intervals_after domains signatures o) scope) h.1.row; words = j.1.words },
        )

    pub choose-first : (o : ResolvedRule) (has : Bool) (e : RangeEnd) (middle : Row) → JudgesHeld domains signatures inner facts g body within (at + 4) (Err e) middle → first_fault (choose_faults o has) ≡ Some e
    choose-first o has e middle h =
        stopped-inside (term_faults signatures inner g facts None (at + 5)) (rule_faults domains signatures body inner (HeldFact g ∷ facts) (at + 5 + resolved_term_tokens g + 1))
        (else_faults has (faulty_rule domains signatures o) scope facts (at + 5 + resolved_term_tokens g + 1 + resolved_rule_tokens body)) e (rw five at h)

    pub choose-second : (o : ResolvedRule) (has : Bool) (m : ℕ) (e : RangeEnd) (middle new : Row) → JudgesHeld domains signatures inner facts g body within (at + 4) (Ok m) middle
        → JudgesElse domains signatures has o middle m (Err e) new scope facts → first_fault (choose_faults o has) ≡ Some e
    choose-second o has m e middle new h j =
        let place : m ≡ at + 5 + resolved_term_tokens g + 1 + resolved_rule_tokens body = omega (arith, h.1.place) in
        stopped-behind _ _ _ e (rw five at h.0) (ap (λ k. first_fault (else_faults has (faulty_rule domains signatures o) scope facts k)) (sym place) ∙ j)

  module _ (b : ℕ) (v : ResolvedTerm) (body : ResolvedRule) (plain known : Interval) (after : ℕ) (clean : term_faults signatures scope v facts None (at + 3) ≡ [])
      (place : after ≡ at + 3 + resolved_term_tokens v) (p : plain ≡ range signatures scope v) (k : known ≡ refined signatures scope v facts) where
    pub let-ok : (n : ℕ) (new : Row) → JudgesIn domains signatures body (slice_set old b plain) (after + 1) (Ok n) new (scoped scope b plain) (BoundedFact b known ∷ facts)
        → (layer_faults domains signatures (ResolvedRule-F.Let b v body) scope facts at ≡ []) × Passes (rule_layer_tokens (ResolvedRule-F.Let b v body)) (layer_after domains signatures (ResolvedRule-F.Let b v body) scope old) at (n + 1) new
    let-ok n new h =
        let j = rw (place, p, k) at h in
        (rw clean j.0, record { place = omega (arith, j.1.place); row = j.1.row; words = j.1.words })

    pub let-err : (e : RangeEnd) (new : Row) → JudgesIn domains signatures body (slice_set old b plain) (after + 1) (Err e) new (scoped scope b plain) (BoundedFact b known ∷ facts)
        → first_fault (layer_faults domains signatures (ResolvedRule-F.Let b v body) scope facts at) ≡ Some e
    let-err e new h = rw clean (rw (place, p, k) at h)

-- the fault of a first term is that of the rule
pub held-err : (domains : List Domain) (signatures : List Signature) (scope : Scope) (facts : Facts) (g : ResolvedTerm) (body : ResolvedRule) (at : ℕ) (e : RangeEnd) → first_fault (term_faults signatures scope g facts None (at + 1)) ≡ Some e
    → first_fault (term_faults signatures scope g facts None (at + 1) ++ rule_faults domains signatures body scope (HeldFact g ∷ facts) (at + 1 + resolved_term_tokens g + 1)) ≡ Some e
held-err domains signatures scope facts g body at e h =
    stopped _ (term_faults signatures scope g facts None (at + 1)) (rule_faults domains signatures body scope (HeldFact g ∷ facts) (at + 1 + resolved_term_tokens g + 1)) e refl h

pub let-first : (domains : List Domain) (signatures : List Signature) (scope : Scope) (facts : Facts) (at b : ℕ) (v : ResolvedTerm) (body : ResolvedRule) (e : RangeEnd) → first_fault (term_faults signatures scope v facts None (at + 3)) ≡ Some e
    → first_fault (layer_faults domains signatures (ResolvedRule-F.Let b v body) scope facts at) ≡ Some e
let-first domains signatures scope facts at b v body e h =
    stopped _ (term_faults signatures scope v facts None (at + 3))
    (rule_faults domains signatures body (scoped scope b (range signatures scope v)) (BoundedFact b (refined signatures scope v facts) ∷ facts) (at + 3 + resolved_term_tokens v + 1)) e refl h

-- the rule behind `else` is legible
pub choose-else : (domains : List Domain) (b d : ℕ) (g : ResolvedTerm) (body o : ResolvedRule) (has : Bool) (n : ℕ) → layer_legible domains (ResolvedRule-F.Choose b d g body o has) n ≡ true → legible domains o n ≡ true
choose-else domains b d g body o has n h =
    let p = and_parts (nat_lt d (length domains) && nat_le n b) (small_numbers g && (legible domains body (b + 1) && legible domains o n)) h in
    let q = and_parts (small_numbers g) (legible domains body (b + 1) && legible domains o n) p.1 in
    (and_parts (legible domains body (b + 1)) (legible domains o n) q.1).1
