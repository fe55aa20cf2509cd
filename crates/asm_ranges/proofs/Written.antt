-- What stands in a checked program has the intervals of the row in scope, and few tokens.
use Rattle.std.proofs.Common.{◌≡◌, ℕ, zero, suc, ◌+◌, ◌<◌, ◌^◌, Bool, true, false, List, [], ◌∷◌, map, length, sum, Some, refl, sym, ap, ◌∙◌, subst, arith, inl, inr, ◌==◌, pos}
use Rattle.std.{proofs.lemmas.{Bool.{and_parts, cases_Bool, eqb-true, ltb-true, leb-true}, List.{length-replicate}, List.Sums.{sum_by-cons}}, specs.{Prelude.{slice_get, slice_set, is_some}, List.{list_all, AllByRecursion, Contains}}}
use Rattle.asm_names.specs.declared.{program.{Domain.{Domain}, Interval.{Interval}, Resolved.{Resolved}}, resolved_term.ResolvedTerm.{ResolvedTerm, ResolvedTerm-F}}
use Rattle.asm_names.specs.declared.resolved_rule.ResolvedRule.{ResolvedRule, ResolvedRule-F, roll-ResolvedRule, ind-ResolvedRule, map-ResolvedRule}
use Rattle.asm_names.specs.{Places.{parted, led}, ResolvedPlaces.{resolved_term_tokens, resolved_rule_tokens, resolved_rule_binders, led_if}}
use Rattle.asm_names.specs.WellFormed.{Bound, RulePart, named_by, rule_named, each_named, guard_stands, else_stands}
use Rattle.asm_names.proofs.{Absent.{absent_guard, absent_else}, ResolvedLevels.{named, named_at, binders_of, rule_tokens_of, term_tokens_of}, Separated.{parted-in_parentheses}}
use Rattle.asm_names.specs.Rules.{always}
use Rattle.state_space.specs.{declared.signature.Signature.{Signature}, Locations.{signatures_of}}
use Rattle.asm_ranges.specs.{Contexts.{legible}, FindingRules.{layer_after, layer_legible}, Keeping.{IsChecked}, Ranges.{Scope, scoped, range, domain_interval}, RangeFaults.{legal_tokens}, Rows.{Row, after_each, after_else, intervals_after, known, no_intervals, program_intervals}}
use Rattle.asm_ranges.specs.Places.{Place, held, failed, over, guarded_by, bound_to, StandsRule, StandsTerm, the_rule, then_of, else_of, part_of, forall_of, choose_of, none_of, let_of, the_legal, arg_of_update, new_of, guard_of_if, guard_of_forall, guard_of_choose, value_of, arg_of, left_of, right_of, inner_of, min_first_of, min_second_of, max_first_of, max_second_of, test_of, first_of, second_of}
use Rattle.asm_ranges.proofs.{Agreement.{Extends}, Legible.{named-legible-from, intervals-long, set-long}, RuleForms.{after_of, legible_of}, Stands.{contained}}
use Rattle.asm_names.specs.declared.resolved_rule.ResolvedRule.TheVariants as rules
use Rattle.asm_names.specs.declared.resolved_term.ResolvedTerm.TheVariants as terms
use Rattle.asm_tree.specs.declared.term.Op.TheVariants as ops

-- ---- rows

set-same : (row : Row) (b : ℕ) (i : Interval) → b < length row → slice_get (slice_set row b i) b ≡ Some i
set-same [] b i h = absurd (omega arith)
set-same (x ∷ row) zero i h = refl
set-same (x ∷ row) (suc b) i h = set-same row b i (omega arith)

set-below : (row : Row) (b k : ℕ) (i : Interval) → k < b → slice_get (slice_set row b i) k ≡ slice_get row k
set-below [] b k i h = refl
set-below (x ∷ row) zero k i h = absurd (omega arith)
set-below (x ∷ row) (suc b) zero i h = refl
set-below (x ∷ row) (suc b) (suc k) i h = set-below row b k i (omega arith)

module _ (domains : List Domain) (signatures : List Signature) where
  abbrev after : ResolvedRule → Scope → Row → Row
  after = intervals_after domains signatures

  -- a rule leaves the intervals of the binders before it
  abbrev Untouched : ResolvedRule → Type 0
  Untouched r = (from : ℕ) → legible domains r from ≡ true → (scope : Scope) (row : Row) (k : ℕ) → k < from → slice_get (after r scope row) k ≡ slice_get row k

  abbrev Calm : Type 0
  Calm = (r : ResolvedRule) × Untouched r

  abbrev rule_of : Calm → ResolvedRule
  rule_of c = c.0

  each : (rs : List Calm) (from : ℕ) → list_all (λ (rule : ℕ → Bool). rule from) (map (legible domains) (map rule_of rs)) ≡ true → (scope : Scope) (row : Row) (k : ℕ) → k < from
      → slice_get (after_each (map after (map rule_of rs)) scope row) k ≡ slice_get row k
  each [] from h scope row k below = refl
  each (r ∷ rs) from h scope row k below = let p = and_parts _ _ h in each rs from p.1 scope (after r.0 scope row) k below ∙ r.1 from p.0 scope row k below

  pub behind : (has : Bool) (r : ResolvedRule) → Untouched r → (from : ℕ) → legible domains r from ≡ true → (scope : Scope) (row : Row) (k : ℕ) → k < from
      → slice_get (after_else has (after r) scope row) k ≡ slice_get row k
  behind false r calm from h scope row k below = refl
  behind true r calm from h scope row k below = calm from h scope row k below

  layer : (x : ResolvedRule-F Calm) (from : ℕ) → layer_legible domains (map-ResolvedRule Calm ResolvedRule rule_of x) from ≡ true → (scope : Scope) (row : Row) (k : ℕ) → k < from
      → slice_get (layer_after domains signatures (map-ResolvedRule Calm ResolvedRule rule_of x) scope row) k ≡ slice_get row k
  layer ResolvedRule-F.Skip from h scope row k below = refl
  layer (ResolvedRule-F.Update fun args value) from h scope row k below = refl
  layer (ResolvedRule-F.If g t o has) from h scope row k below =
      let q = and_parts _ _ (and_parts _ _ h).1 in
      behind has o.0 o.1 from q.1 scope (after t.0 scope row) k below ∙ t.1 from q.0 scope row k below
  layer (ResolvedRule-F.Par rs) from h scope row k below = each rs from h scope row k below
  layer (ResolvedRule-F.Forall b d g guarded body) from h scope row k below =
      let p = and_parts _ _ h in
      let new = leb-true from b (and_parts _ _ p.0).1 in
      body.1 (b + 1) (and_parts _ _ p.1).1 _ _ k (omega (arith, new, below)) ∙ set-below row b k _ (omega (arith, new, below))
  layer (ResolvedRule-F.Choose b d g body o has) from h scope row k below =
      let p = and_parts _ _ h in
      let new = leb-true from b (and_parts _ _ p.0).1 in
      let q = and_parts _ _ (and_parts _ _ p.1).1 in
      behind has o.0 o.1 from q.1 scope _ k below ∙ body.1 (b + 1) q.0 _ _ k (omega (arith, new, below)) ∙ set-below row b k _ (omega (arith, new, below))
  layer (ResolvedRule-F.Let b v body) from h scope row k below =
      let p = and_parts _ _ h in
      let new = leb-true from b p.0 in
      body.1 (b + 1) (and_parts _ _ p.1).1 _ _ k (omega (arith, new, below)) ∙ set-below row b k _ (omega (arith, new, below))

  rolled : (x : ResolvedRule-F Calm) → Untouched (roll-ResolvedRule (map-ResolvedRule Calm ResolvedRule rule_of x))
  rolled x from h scope row k below =
      let y = map-ResolvedRule Calm ResolvedRule rule_of x in
      ap (λ r. slice_get r k) (after_of y (roll-ResolvedRule y) refl domains signatures scope row)
      ∙ layer x from (sym (legible_of y (roll-ResolvedRule y) refl domains from) ∙ h) scope row k below

  pub untouched : (r : ResolvedRule) → Untouched r
  untouched = ind-ResolvedRule Untouched (λ x y is. subst (λ z. Untouched (roll-ResolvedRule z)) is (rolled y))

  -- an absent rule is `skip`
  else-done : (has : Bool) (r : ResolvedRule) → else_stands has r ≡ true → (scope : Scope) (row : Row) → after_else has (after r) scope row ≡ after r scope row
  else-done true r h scope row = refl
  else-done false r h scope row = sym (after_of ResolvedRule-F.Skip r (rules.rolls-Skip ∙ sym (absent_else r h)) domains signatures scope row)

else-few : (has : Bool) (r : ResolvedRule) → else_stands has r ≡ true → led_if has (resolved_rule_tokens r) < 2 ^ 31 → resolved_rule_tokens r < 2 ^ 31
else-few true r h few = omega (arith, few)
else-few false r h few = omega (arith, rule_tokens_of ResolvedRule-F.Skip r (rules.rolls-Skip ∙ sym (absent_else r h)))

guard-few : (guarded : Bool) (g : ResolvedTerm) → guard_stands guarded g ≡ true → led_if guarded (resolved_term_tokens g) < 2 ^ 31 → resolved_term_tokens g < 2 ^ 31
guard-few true g h few = omega (arith, few)
guard-few false g h few =
    let zero-term = terms.Number (pos 0) in
    omega (
      arith,
      ap resolved_term_tokens (absent_guard g h),
      term_tokens_of (ResolvedTerm-F.Binary ops.Eq zero-term zero-term) always (terms.rolls-Binary ops.Eq zero-term zero-term),
      term_tokens_of (ResolvedTerm-F.Number (pos 0)) zero-term (terms.rolls-Number (pos 0)),
    )

args-few : (ts : List ResolvedTerm) (n : ℕ) → parted (map resolved_term_tokens ts) < n → AllByRecursion (λ t. resolved_term_tokens t < n) ts
args-few [] n h = tt
args-few (t ∷ ts) n h = (omega (arith, h), args-few ts n (omega (arith, h)))

module _ (program : Resolved) where
  abbrev signatures : List Signature
  signatures = signatures_of program

  abbrev made : ResolvedRule → Scope → Row → Row
  made = intervals_after program.domains signatures

  abbrev final : Row
  final = program_intervals program

  -- the binders in scope have their intervals in a row, and are before this one
  abbrev Written : Scope → Row → ℕ → Type 0
  Written scope row before = (b : ℕ) → is_some (scope b) ≡ true → (b < before) × (slice_get row b ≡ scope b)

  -- A rule that stands in the program: the row before it, and that the intervals of its binders stay as it leaves them.
  record Numbered (rule : ResolvedRule) (place : Place) : Type 0 where
    pub bound : Bound
    pub before : ℕ
    pub is_named : rule_named program rule bound before ≡ true
    pub row : Row
    pub long : length row ≡ program.binders
    pub written : Written place.scope row before
    pub stays : (b : ℕ) → b < before + resolved_rule_binders rule → slice_get final b ≡ slice_get (made rule place.scope row) b
    pub few : resolved_rule_tokens rule < 2 ^ 31

  legible-from : (r : ResolvedRule) (bound : Bound) (before : ℕ) → rule_named program r bound before ≡ true → legible program.domains r before ≡ true
  legible-from r bound before h = named-legible-from program r bound before before h (omega arith)

  -- a rule leaves what is written before it
  past : (r : ResolvedRule) (bound : Bound) (before : ℕ) → rule_named program r bound before ≡ true → (scope : Scope) (row : Row) (k : ℕ) → k < before → slice_get (made r scope row) k ≡ slice_get row k
  past r bound before h scope row k below = untouched program.domains signatures r before (legible-from r bound before h) scope row k below

  past-else : (has : Bool) (r : ResolvedRule) (bound : Bound) (before : ℕ) → rule_named program r bound before ≡ true → (scope : Scope) (row : Row) (k : ℕ) → k < before
      → slice_get (after_else has (made r) scope row) k ≡ slice_get row k
  past-else has r bound before h scope row k below = behind program.domains signatures has r (untouched program.domains signatures r) before (legible-from r bound before h) scope row k below

  past-each : (rs : List ResolvedRule) (bound : Bound) (before : ℕ) → each_named (map (named program) rs) bound before ≡ true → (scope : Scope) (row : Row) (k : ℕ) → k < before
      → slice_get (after_each (map made rs) scope row) k ≡ slice_get row k
  past-each [] bound before h scope row k below = refl
  past-each (r ∷ rs) bound before h scope row k below =
      let p = and_parts _ _ h in
      past-each rs bound (before + resolved_rule_binders r) p.1 scope (made r scope row) k (omega arith) ∙ past r bound before p.0 scope row k below

  written-past : (r : ResolvedRule) (bound : Bound) (before more : ℕ) → rule_named program r bound before ≡ true → (scope inner : Scope) (row : Row) → Written scope row before → Written scope (made r inner row) (before + more)
  written-past r bound before more h scope inner row written b some =
      let w = written b some in
      (omega (arith, w.0), past r bound before h inner row b w.0 ∙ w.1)

  -- a binder was written
  written-new : (b : ℕ) (i : Interval) (scope : Scope) (row : Row) → b < length row → Written scope row b → Written (scoped scope b i) (slice_set row b i) (b + 1)
  written-new b i scope row room written k some = elim (cases_Bool (k == b)) [
    | inl e ↦ let same : k ≡ b = eqb-true k b e in (omega (arith, same), ap (slice_get (slice_set row b i)) same ∙ set-same row b i room ∙ rw e refl)
    | inr e ↦ let w = written k (rw e at some) in (omega (arith, w.0), set-below row b k i w.0 ∙ w.1 ∙ rw e refl)
  ]

  -- what is known of a rule by its parts
  layer-named : (x : ResolvedRule-F ResolvedRule) (rule : ResolvedRule) (e : roll-ResolvedRule x ≡ rule) (place : Place) (n : Numbered rule place)
      → named_by program (map-ResolvedRule ResolvedRule RulePart (named program) x) n.bound n.before ≡ true
  layer-named x rule e place n = sym (named_at x rule e program n.bound n.before) ∙ n.is_named

  layer-stays : (x : ResolvedRule-F ResolvedRule) (rule : ResolvedRule) (e : roll-ResolvedRule x ≡ rule) (place : Place) (n : Numbered rule place) (b : ℕ) → b < n.before + resolved_rule_binders rule
      → slice_get final b ≡ slice_get (layer_after program.domains signatures x place.scope n.row) b
  layer-stays x rule e place n b h = n.stays b h ∙ ap (λ r. slice_get r b) (after_of x rule e program.domains signatures place.scope n.row)

  numbered-If : (g : ResolvedTerm) (t o : ResolvedRule) (has : Bool) (place : Place) → Numbered (rules.If g t o has) place → Numbered t (held g place) × Numbered o (failed g place)
  numbered-If g t o has place n =
      let x = ResolvedRule-F.If g t o has in
      let e = rules.rolls-If g t o has in
      let l = and_parts _ _ (layer-named x _ e place n) in
      let w = and_parts _ _ (and_parts _ _ l.1).1 in
      let more = binders_of x _ e in
      let tokens = rule_tokens_of x _ e in
      let few = n.few in
      let row = made t place.scope n.row in (
        record {
          bound = n.bound;
          before = n.before;
          is_named = w.0;
          row = n.row;
          long = n.long;
          written = n.written;
          stays = λ b h. layer-stays x _ e place n b (omega (arith, more, h)) ∙ past-else has o n.bound (n.before + resolved_rule_binders t) w.1 place.scope row b h;
          few = omega (arith, tokens, few);
        },
        record {
          bound = n.bound;
          before = n.before + resolved_rule_binders t;
          is_named = w.1;
          row = row;
          long = intervals-long program.domains signatures t place.scope n.row ∙ n.long;
          written = written-past t n.bound n.before (resolved_rule_binders t) w.0 place.scope place.scope n.row n.written;
          stays = λ b h. layer-stays x _ e place n b (omega (arith, more, h)) ∙ ap (λ r. slice_get r b) (else-done program.domains signatures has o l.0 place.scope row);
          few = else-few has o l.0 (omega (arith, tokens, few));
        },
      )

  numbered-parts : (place : Place) (parts : List ResolvedRule) (bound : Bound) (before : ℕ) (row : Row) → each_named (map (named program) parts) bound before ≡ true → length row ≡ program.binders
      → Written place.scope row before
      → ((b : ℕ) → b < before + sum (map resolved_rule_binders parts) → slice_get final b ≡ slice_get (after_each (map made parts) place.scope row) b)
      → led (map resolved_rule_tokens parts) < 2 ^ 31 → AllByRecursion (λ part. Numbered part place) parts
  numbered-parts place [] bound before row h long written stays few = tt
  numbered-parts place (r ∷ parts) bound before row h long written stays few =
      let p = and_parts _ _ h in
      let total = sum_by-cons (λ (n : ℕ). n) (resolved_rule_binders r) (map resolved_rule_binders parts) in (
        record {
          bound = bound;
          before = before;
          is_named = p.0;
          row = row;
          long = long;
          written = written;
          stays = λ b k. stays b (omega (arith, total, k)) ∙ past-each parts bound (before + resolved_rule_binders r) p.1 place.scope (made r place.scope row) b k;
          few = omega (arith, few);
        },
        numbered-parts place parts bound (before + resolved_rule_binders r) (made r place.scope row) p.1 (intervals-long program.domains signatures r place.scope row ∙ long)
            (written-past r bound before (resolved_rule_binders r) p.0 place.scope place.scope row written) (λ b k. stays b (omega (arith, total, k))) (omega (arith, few)),
      )

  numbered-Par : (parts : List ResolvedRule) (place : Place) → Numbered (rules.Par parts) place → AllByRecursion (λ part. Numbered part place) parts
  numbered-Par parts place n =
      let x = ResolvedRule-F.Par parts in
      let e = rules.rolls-Par parts in
      let more = binders_of x _ e in
      let few = n.few in
      numbered-parts place parts n.bound n.before n.row (layer-named x _ e place n) n.long n.written (λ b h. layer-stays x _ e place n b (omega (arith, more, h))) (omega (arith, rule_tokens_of x _ e, few))

  numbered-Forall : (b d : ℕ) (g : ResolvedTerm) (guarded : Bool) (body : ResolvedRule) (place : Place) → Numbered (rules.Forall b d g guarded body) place
      → Numbered body (guarded_by guarded g (over program b d place)) × (resolved_term_tokens g < 2 ^ 31)
  numbered-Forall b d g guarded body place n =
      let x = ResolvedRule-F.Forall b d g guarded body in
      let e = rules.rolls-Forall b d g guarded body in
      let l = and_parts _ _ (layer-named x _ e place n) in
      let q = and_parts _ _ l.1 in
      let same : n.before ≡ b = sym (eqb-true b n.before (and_parts _ _ q.0).0) in
      let inside : b < program.binders = ltb-true _ _ (and_parts _ _ (and_parts _ _ q.0).1).0 in
      let more = binders_of x _ e in
      let tokens = rule_tokens_of x _ e in
      let few = n.few in
      let i = domain_interval program d in (
        record {
          bound = b ∷ n.bound;
          before = n.before + 1;
          is_named = (and_parts _ _ (and_parts _ _ q.1).1).1;
          row = slice_set n.row b i;
          long = set-long n.row b i ∙ n.long;
          written = rw same (written-new b i place.scope n.row (omega (arith, inside, n.long)) (rw same at n.written));
          stays = λ k h. layer-stays x _ e place n k (omega (arith, more, h));
          few = omega (arith, tokens, few);
        },
        guard-few guarded g l.0 (omega (arith, tokens, few)),
      )

  numbered-Choose : (b d : ℕ) (g : ResolvedTerm) (body o : ResolvedRule) (has : Bool) (place : Place) → Numbered (rules.Choose b d g body o has) place
      → Numbered body (held g (over program b d place)) × Numbered o place
  numbered-Choose b d g body o has place n =
      let x = ResolvedRule-F.Choose b d g body o has in
      let e = rules.rolls-Choose b d g body o has in
      let l = and_parts _ _ (layer-named x _ e place n) in
      let q = and_parts _ _ l.1 in
      let m = and_parts _ _ (and_parts _ _ (and_parts _ _ q.1).1).1 in
      let same : n.before ≡ b = sym (eqb-true b n.before (and_parts _ _ q.0).0) in
      let inside : b < program.binders = ltb-true _ _ (and_parts _ _ (and_parts _ _ q.0).1).0 in
      let more = binders_of x _ e in
      let tokens = rule_tokens_of x _ e in
      let few = n.few in
      let i = domain_interval program d in
      let inner = scoped place.scope b i in
      let row = slice_set n.row b i in
      let written : Written inner row (n.before + 1) = rw same (written-new b i place.scope n.row (omega (arith, inside, n.long)) (rw same at n.written)) in
      let passed : Written place.scope row (n.before + 1) = λ k some. let w = n.written k some in (omega (arith, w.0), set-below n.row b k i (omega (arith, w.0, same)) ∙ w.1) in (
        record {
          bound = b ∷ n.bound;
          before = n.before + 1;
          is_named = m.0;
          row = row;
          long = set-long n.row b i ∙ n.long;
          written = written;
          stays = λ k h. layer-stays x _ e place n k (omega (arith, more, h)) ∙ past-else has o n.bound (n.before + 1 + resolved_rule_binders body) m.1 place.scope (made body inner row) k h;
          few = omega (arith, tokens, few);
        },
        record {
          bound = n.bound;
          before = n.before + 1 + resolved_rule_binders body;
          is_named = m.1;
          row = made body inner row;
          long = intervals-long program.domains signatures body inner row ∙ set-long n.row b i ∙ n.long;
          written = written-past body (b ∷ n.bound) (n.before + 1) (resolved_rule_binders body) m.0 place.scope inner row passed;
          stays = λ k h. layer-stays x _ e place n k (omega (arith, more, h)) ∙ ap (λ r. slice_get r k) (else-done program.domains signatures has o l.0 place.scope (made body inner row));
          few = else-few has o l.0 (omega (arith, tokens, few));
        },
      )

  numbered-Let : (b : ℕ) (v : ResolvedTerm) (body : ResolvedRule) (place : Place) → Numbered (rules.Let b v body) place → Numbered body (bound_to program b v place)
  numbered-Let b v body place n =
      let x = ResolvedRule-F.Let b v body in
      let e = rules.rolls-Let b v body in
      let l = and_parts _ _ (layer-named x _ e place n) in
      let same : n.before ≡ b = sym (eqb-true b n.before (and_parts _ _ l.0).0) in
      let inside : b < program.binders = ltb-true _ _ (and_parts _ _ (and_parts _ _ l.0).1).0 in
      let more = binders_of x _ e in
      let few = n.few in
      let i = range signatures place.scope v in
      record {
        bound = b ∷ n.bound;
        before = n.before + 1;
        is_named = (and_parts _ _ l.1).1;
        row = slice_set n.row b i;
        long = set-long n.row b i ∙ n.long;
        written = rw same (written-new b i place.scope n.row (omega (arith, inside, n.long)) (rw same at n.written));
        stays = λ k h. layer-stays x _ e place n k (omega (arith, more, h));
        few = omega (arith, rule_tokens_of x _ e, few);
      }

  module _ (checked : IsChecked program) where
    numbered : (rule : ResolvedRule) (place : Place) → StandsRule program rule place → Numbered rule place
    numbered rule place the_rule = record {
      bound = [];
      before = 0;
      is_named = checked.well_formed.rule;
      row = no_intervals program;
      long = length-replicate program.binders _;
      written = λ b some. absurd cc;
      stays = λ b h. refl;
      few = let room = checked.room in omega (arith, room);
    }
    numbered rule place (then_of g t o has p s) = (numbered-If g t o has p (numbered _ p s)).0
    numbered rule place (else_of g t o has p s) = (numbered-If g t o has p (numbered _ p s)).1
    numbered rule place (part_of parts part p c s) = contained (λ r. Numbered r p) parts part (numbered-Par parts p (numbered _ p s)) c
    numbered rule place (forall_of b d g guarded body p s) = (numbered-Forall b d g guarded body p (numbered _ p s)).0
    numbered rule place (choose_of b d g body o has p s) = (numbered-Choose b d g body o has p (numbered _ p s)).0
    numbered rule place (none_of b d g body o has p s) = (numbered-Choose b d g body o has p (numbered _ p s)).1
    numbered rule place (let_of b v body p s) = numbered-Let b v body p (numbered _ p s)

    -- what is in scope where a rule stands has its interval in the row of the program
    pub rule-extends : (rule : ResolvedRule) (place : Place) → StandsRule program rule place → Extends place.scope (known final)
    rule-extends rule place s b some =
        let n = numbered rule place s in
        let w = n.written b some in
        n.stays b (omega (arith, w.0)) ∙ past rule n.bound n.before n.is_named place.scope n.row b w.0 ∙ w.1

    -- what is in scope where a term stands has its interval in the row of the program, and the term has few tokens
    pub record Found (term : ResolvedTerm) (place : Place) : Type 0 where
      pub extends : Extends place.scope (known final)
      pub few : resolved_term_tokens term < 2 ^ 31

    -- a term in a rule that stands
    in-rule : (rule : ResolvedRule) (term : ResolvedTerm) (place : Place) → StandsRule program rule place → resolved_term_tokens term < resolved_rule_tokens rule → Found term place
    in-rule rule term place s less = let few = (numbered rule place s).few in record { extends = rule-extends rule place s; few = omega (arith, less, few) }

    -- a guard changes nothing of what is in scope
    outer-held : {g term : ResolvedTerm} {place : Place} → Found term place → Found term (held g place)
    outer-held f = record { extends = f.extends; few = f.few }

    outer-failed : {g term : ResolvedTerm} {place : Place} → Found term place → Found term (failed g place)
    outer-failed f = record { extends = f.extends; few = f.few }

    -- a part of a term
    part : (whole term : ResolvedTerm) (place : Place) → resolved_term_tokens term < resolved_term_tokens whole → Found whole place → Found term place
    part whole term place less f = let few = f.few in record { extends = f.extends; few = omega (arith, less, few) }

    arg-of : (args : List ResolvedTerm) (arg : ResolvedTerm) → Contains args arg → parted (map resolved_term_tokens args) < 2 ^ 31 → resolved_term_tokens arg < 2 ^ 31
    arg-of args arg c few = contained (λ t. resolved_term_tokens t < 2 ^ 31) args arg (args-few args (2 ^ 31) few) c

    pub found : (term : ResolvedTerm) (place : Place) → StandsTerm program term place → Found term place
    found term place (the_legal t e) = let room = checked.room in record { extends = λ b some. absurd cc; few = omega (arith, room, ap legal_tokens e) }
    found term place (arg_of_update fun args new arg p c s) =
        let few = (numbered _ p s).few in
        record {
          extends = rule-extends _ p s;
          few = arg-of args arg c (omega (arith, few, rule_tokens_of (ResolvedRule-F.Update fun args new) _ (rules.rolls-Update fun args new), parted-in_parentheses (map resolved_term_tokens args)));
        }
    found term place (new_of fun args new p s) = in-rule _ new p s (omega (arith, rule_tokens_of (ResolvedRule-F.Update fun args new) _ (rules.rolls-Update fun args new)))
    found term place (guard_of_if g t o has p s) = in-rule _ g p s (omega (arith, rule_tokens_of (ResolvedRule-F.If g t o has) _ (rules.rolls-If g t o has)))
    found term place (guard_of_forall b d g guarded body p s) = record {
      extends = rule-extends body _ (forall_of b d g guarded body p s);
      few = (numbered-Forall b d g guarded body p (numbered _ p s)).1;
    }
    found term place (guard_of_choose b d g body o has p s) =
        let few = (numbered _ p s).few in
        record {
          extends = rule-extends body _ (choose_of b d g body o has p s);
          few = omega (arith, few, rule_tokens_of (ResolvedRule-F.Choose b d g body o has) _ (rules.rolls-Choose b d g body o has));
        }
    found term place (value_of b v body p s) = in-rule _ v p s (omega (arith, rule_tokens_of (ResolvedRule-F.Let b v body) _ (rules.rolls-Let b v body)))
    found term place (arg_of fun args arg p c s) =
        let whole = found _ p s in
        let few = whole.few in
        record {
          extends = whole.extends;
          few = arg-of args arg c (omega (arith, few, term_tokens_of (ResolvedTerm-F.Read fun args) _ (terms.rolls-Read fun args), parted-in_parentheses (map resolved_term_tokens args)));
        }
    found term place (left_of op l r p s) = part _ l p (omega (arith, term_tokens_of (ResolvedTerm-F.Binary op l r) _ (terms.rolls-Binary op l r))) (found _ p s)
    found term place (right_of op l r p s) = part _ r p (omega (arith, term_tokens_of (ResolvedTerm-F.Binary op l r) _ (terms.rolls-Binary op l r))) (found _ p s)
    found term place (inner_of t p s) = part _ t p (omega (arith, term_tokens_of (ResolvedTerm-F.Not t) _ (terms.rolls-Not t))) (found _ p s)
    found term place (min_first_of l r p s) = part _ l p (omega (arith, term_tokens_of (ResolvedTerm-F.Min l r) _ (terms.rolls-Min l r))) (found _ p s)
    found term place (min_second_of l r p s) = part _ r p (omega (arith, term_tokens_of (ResolvedTerm-F.Min l r) _ (terms.rolls-Min l r))) (found _ p s)
    found term place (max_first_of l r p s) = part _ l p (omega (arith, term_tokens_of (ResolvedTerm-F.Max l r) _ (terms.rolls-Max l r))) (found _ p s)
    found term place (max_second_of l r p s) = part _ r p (omega (arith, term_tokens_of (ResolvedTerm-F.Max l r) _ (terms.rolls-Max l r))) (found _ p s)
    found term place (test_of g l r p s) = part _ g p (omega (arith, term_tokens_of (ResolvedTerm-F.Cond g l r) _ (terms.rolls-Cond g l r))) (found _ p s)
    found term place (first_of g l r p s) = part _ l (held g p) (omega (arith, term_tokens_of (ResolvedTerm-F.Cond g l r) _ (terms.rolls-Cond g l r))) (outer-held (found _ p s))
    found term place (second_of g l r p s) = part _ r (failed g p) (omega (arith, term_tokens_of (ResolvedTerm-F.Cond g l r) _ (terms.rolls-Cond g l r))) (outer-failed (found _ p s))
