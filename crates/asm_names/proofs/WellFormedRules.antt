-- A rule without faults is well formed in numbers, and has as many tokens and binders.
use Rattle.asm_names.proofs.Common.{◌≡◌, ℕ, ◌+◌, ◌<◌, ◌≤◌, pos, Bool, true, false, is_some, nat_eq, ◌&&◌, List, [], ◌∷◌, map, length, Option, Some, None, refl, sym, ap, ◌∙◌, subst, arith, slice_get}
use Rattle.asm_names.proofs.Common.{IfSome, sum, AllByRecursion, option_map, and_parts, and_from, or_left, or_right, or_from, lt-ltb, eq-eqb, ne_eqb, not_from_false, length-map, sum_by-cons}
use Rattle.asm_names.proofs.Common.{term_fits, all_fit, option_fits, some_fit, rule_fits_by, Kind, Term, Rule, Rule-F, roll-Rule, map-Rule, ind-Rule, fold-roll-Rule, Values, Fun, Resolved, Sort, Need}
use Rattle.asm_names.proofs.Common.{ResolvedTerm, ResolvedTerm-F, ResolvedRule, ResolvedRule-F, roll-ResolvedRule, map-ResolvedRule, Meaning, Function, Binder, Scope, meaning_of, number_of}
use Rattle.asm_names.proofs.Common.{sort_of_domain, term_tokens, rule_tokens, rule_binders, in_parentheses, with_tokens, led, term_sort, term_faults, Faulty, is_fixed, target_faults, target_need}
use Rattle.asm_names.proofs.Common.{target_sorts, domain_faults, bound_in, guard_faults, each_rule_faults, rule_faults, rule_faults_by, resolved_term, Made, always, resolved_guard, resolved_each}
use Rattle.asm_names.proofs.Common.{resolved_rule, resolved_rule_by, faulty, made, rule_layer_tokens, rule_layer_binders, resolved_term_tokens, led_if, resolved_rule_tokens, resolved_rule_tokens_by}
use Rattle.asm_names.proofs.Common.{resolved_rule_binders, resolved_rule_binders_by, Form, truth, thing, Bound, in_scope, is_truth, is_thing, read_sort, sort_of, is_changing, is_zero_by, is_always_by}
use Rattle.asm_names.proofs.Common.{guard_stands, is_skip_by, else_stands, new_binder, Named, named_by, each_named, rule_named}
use Rattle.asm_tree.specs.Forms.{rule_fits}
use Rattle.asm_names.proofs.RuleLevels.{tokens_of, binders_of, resolved_at, faults_at}
use Rattle.asm_names.proofs.ResolvedLevels.{term_out_of, rule_out_of, sort_at, named, rule_tokens_of, binders_of as resolved_binders_of, named_at}
use Rattle.asm_names.proofs.Known.{parts_clean, three_clean, unmet, formed, wants, same-wants, IsThing, Known, AllKnown, known_at, names_domain, all-append}
use Rattle.asm_names.proofs.WellFormedTerms.{Claim as TermClaim, counted, read, each, as_wanted, term_judged, tokens_kept}
use Rattle.asm_tree.specs.declared.decl.Kind.TheVariants as kinds
use Rattle.asm_tree.specs.declared.term.Op.TheVariants as ops
use Rattle.asm_names.specs.declared.fault.NameFault.TheVariants as causes
use Rattle.asm_names.specs.declared.sort.Sort.TheVariants as sorts
use Rattle.asm_names.specs.declared.sort.Need.TheVariants as needs
use Rattle.asm_names.specs.declared.resolved_term.ResolvedTerm.TheVariants as resolved_terms
use Rattle.asm_names.specs.declared.resolved_rule.ResolvedRule.TheVariants as resolved_rules

-- ---- binders

-- each of these binders comes before
abbrev AllBefore : ℕ → Bound → Type 0
AllBefore before bound = AllByRecursion (λ binder. binder < before) bound

later : (before after : ℕ) (bound : Bound) → before ≤ after → AllBefore before bound → AllBefore after bound
later before after [] order h = tt
later before after (b ∷ bound) order h = (omega (arith, order, h.0), later before after bound order h.1)

fresh : (before : ℕ) (bound : Bound) → AllBefore before bound → in_scope bound before ≡ false
fresh before [] h = refl
fresh before (b ∷ bound) h = or_from _ _ (ne_eqb before b (λ e. omega (arith, e, h.0))) (fresh before bound h.1)

inside_before : (before : ℕ) (bound : Bound) → AllBefore before bound → AllBefore (before + 1) (before ∷ bound)
inside_before before bound h = (omega arith, later before (before + 1) bound (omega arith) h)

room_inside : (before n total : ℕ) → before + (1 + n) ≤ total → before + 1 + n ≤ total
room_inside before n total room = omega (arith, room)

-- ---- terms and names in rules

all_claims : (names : Scope) (domains : List Values) (funs : List Fun) (bound : Bound) (ts : List Term) → AllByRecursion (TermClaim names domains funs bound) ts
all_claims names domains funs bound [] = tt
all_claims names domains funs bound (t ∷ ts) = (term_judged names domains funs bound t, all_claims names domains funs bound ts)

abbrev zero_term : ResolvedTerm
zero_term = resolved_terms.Number (pos 0)

always_stands : guard_stands false always ≡ true
always_stands =
    let zero_is = ap is_zero_by (term_out_of (ResolvedTerm-F.Number (pos 0)) zero_term (resolved_terms.rolls-Number (pos 0))) in
    ap is_always_by (term_out_of (ResolvedTerm-F.Binary ops.Eq zero_term zero_term) _ (resolved_terms.rolls-Binary _ _ _)) ∙ and_from _ _ zero_is zero_is

free : (kind : Kind) → is_fixed kind ≡ false → is_changing kind ≡ true
free kinds.Input h = cc
free kinds.Static h = cc
free _ h = refl

module _ (program : Resolved) where
  abbrev IsKnown : Bound → Scope → Type 0
  IsKnown = AllKnown program.domains program.funs

  still_known : (b : ℕ) (bound : Bound) (m : Meaning) → Known program.domains program.funs bound m → Known program.domains program.funs (b ∷ bound) m
  still_known b bound (Binder n s) h = (or_right (nat_eq n b) (in_scope bound n) h.0, h.1)
  still_known b bound _ h = h

  still_all : (b : ℕ) (bound : Bound) (names : Scope) → IsKnown bound names → IsKnown (b ∷ bound) names
  still_all b bound [] h = tt
  still_all b bound (e ∷ names) h = (still_known b bound e.1 h.0, still_all b bound names h.1)

  -- the names in the scope of a binder
  inside : (before : ℕ) (bound : Bound) (names : Scope) (w : List ℕ) (s : Option Sort) → IsThing s → IsKnown bound names → IsKnown (before ∷ bound) (bound_in names w before s)
  inside before bound names w s is h =
      all-append (λ e. Known program.domains program.funs (before ∷ bound) e.1) names _ (still_all before bound names h) ((or_left _ (in_scope bound before) (eq-eqb before before refl), is), tt)

  new : (before n : ℕ) (bound : Bound) → AllBefore before bound → before + (1 + n) ≤ program.binders → new_binder program bound before before ≡ true
  new before n bound h room =
      and_from _ _ (eq-eqb before before refl) (and_from _ _ (lt-ltb before program.binders (omega (arith, room))) (not_from_false _ (fresh before bound h)))

  -- ---- what is said of a rule

  -- well formed, where the rule has a text
  abbrev pub Holds : Scope → ℕ → ResolvedRule → ℕ → Bool → Type 0
  Holds names before resolved binders fits =
      (bound : Bound) → IsKnown bound names → AllBefore before bound → before + binders ≤ program.binders → fits ≡ true → rule_named program resolved bound before ≡ true

  -- what the place asks for is what the term is, and its sort
  as_asked : (names : Scope) (t : Term) (need : Need) (at : ℕ) → term_faults names t need at ≡ [] → (bound : Bound) (f : Form) → wants need ≡ Some f → IsKnown bound names → term_fits t ≡ true
      → (formed (term_sort names t) ≡ Some f) × (sort_of program.funs bound (resolved_term names t) ≡ Some f)
  as_asked names t need at h bound f w known fits =
      as_wanted names program.domains program.funs bound (term_judged names program.domains program.funs bound t need at h) f w known fits

  -- the guard `(0 = 0)` in the place of none
  always_true : (bound : Bound) → sort_of program.funs bound always ≡ Some truth
  always_true bound =
      let zero_is : sort_of program.funs bound zero_term ≡ Some thing = sort_at (ResolvedTerm-F.Number (pos 0)) _ (resolved_terms.rolls-Number (pos 0)) program.funs bound in
      sort_at (ResolvedTerm-F.Binary ops.Eq zero_term zero_term) _ (resolved_terms.rolls-Binary _ _ _) program.funs bound ∙ rw zero_is refl

  guarded : (names : Scope) (g : Option Term) (at : ℕ) → guard_faults names g at ≡ [] → (bound : Bound) → IsKnown bound names → option_fits (option_map term_fits g) ≡ true
      → sort_of program.funs bound (resolved_guard names g) ≡ Some truth
  guarded names None at h bound known fits = always_true bound
  guarded names (Some g) at h bound known fits = (as_asked names g (needs.Only sorts.Truth) at h bound truth refl known fits).1

  -- a name of a function that may be updated at so many arguments
  record Updated (m : Option Meaning) (many : ℕ) : Type 0 where
    pub entry : Fun
    pub there : slice_get program.funs (number_of m) ≡ Some entry
    pub count : length entry.args ≡ many
    pub changing : is_changing entry.kind ≡ true
    pub arguments : AllByRecursion IsThing (target_sorts m)
    pub as_many : length (target_sorts m) ≡ many
    pub value : wants (target_need m) ≡ Some thing

  updated : (m : Option Meaning) (bound : Bound) (many at : ℕ) → IfSome m (Known program.domains program.funs bound) → target_faults m many at ≡ [] → Updated m many
  updated (Some (Function n kind args values)) bound many at k h =
      let p = parts_clean _ _ h in
      let same : length args ≡ many = counted (length args) many at p.0 in
      record {
        entry = k.entry;
        there = k.there;
        count = k.count ∙ same;
        changing = rw k.same_kind (free kind (unmet causes.NotUpdatable at _ p.1));
        arguments = k.arguments;
        as_many = same;
        value = same-wants values ∙ k.things;
      }
  updated _ bound many at k h = cc

-- ---- rules

-- a guard has as many tokens behind `with`, and is `(0 = 0)` where there is none
guard_kept : (names : Scope) (g : Option Term) (at : ℕ) → guard_faults names g at ≡ []
    → (led_if (is_some g) (resolved_term_tokens (resolved_guard names g)) ≡ with_tokens g) × (guard_stands (is_some g) (resolved_guard names g) ≡ true)
guard_kept names None at h = (refl, always_stands)
guard_kept names (Some g) at h = (ap (λ n. 1 + n) (tokens_kept names g (needs.Only sorts.Truth) at h), refl)

abbrev Judged : Scope → ℕ → ResolvedRule → ℕ → ℕ → Bool → Type 0
Judged names before resolved tokens binders fits = (resolved_rule_tokens resolved ≡ tokens) × (resolved_rule_binders resolved ≡ binders) × ((program : Resolved) → Holds program names before resolved binders fits)

abbrev Claim : Rule → Type 0
Claim r = (names : Scope) (at before : ℕ) → rule_faults r names at before ≡ [] → Judged names before (resolved_rule r names before) (rule_tokens r) (rule_binders r) (rule_fits r)

abbrev LayerClaim : Rule-F Rule → Type 0
LayerClaim x =
    (names : Scope) (at before : ℕ) → rule_faults_by (map-Rule Rule Faulty faulty x) names at before ≡ []
    → Judged names before (resolved_rule_by (map-Rule Rule Made made x) names before) (rule_layer_tokens x) (rule_layer_binders x) (rule_fits_by (map-Rule Rule Bool rule_fits x))

abbrev Sound : Type 0
Sound = (r : Rule) × Claim r

abbrev rule : Sound → Rule
rule s = s.0

claims : (rs : List Sound) → AllByRecursion Claim (map rule rs)
claims [] = tt
claims (r ∷ rs) = (r.1, claims rs)

-- a rule in numbers with known parts
built : (names : Scope) (before : ℕ) {k n : ℕ} {b : Bool} (x : ResolvedRule-F ResolvedRule) (r : ResolvedRule) → roll-ResolvedRule x ≡ r
    → resolved_rule_tokens_by (map-ResolvedRule ResolvedRule ℕ resolved_rule_tokens x) ≡ k → resolved_rule_binders_by (map-ResolvedRule ResolvedRule ℕ resolved_rule_binders x) ≡ n
    → ((program : Resolved) (bound : Bound) → IsKnown program bound names → AllBefore before bound → before + n ≤ program.binders → b ≡ true → named_by program (map-ResolvedRule ResolvedRule Named (named program) x) bound before ≡ true)
    → Judged names before r k n b
built names before x r e tokens binders holds =
    (rule_tokens_of x r e ∙ tokens, resolved_binders_of x r e ∙ binders, λ program bound known order room fits. named_at x r e program bound before ∙ holds program bound known order room fits)

skip : (names : Scope) (before : ℕ) → Judged names before resolved_rules.Skip 1 0 true
skip names before = built names before ResolvedRule-F.Skip _ resolved_rules.rolls-Skip refl refl (λ program bound known order room fits. refl)

-- a rule behind `else`, where there is one
abbrev ElseJudged : Scope → ℕ → ResolvedRule → Bool → ℕ → ℕ → Bool → Type 0
ElseJudged names before resolved there tokens binders fits =
    (led_if there (resolved_rule_tokens resolved) ≡ tokens) × (resolved_rule_binders resolved ≡ binders) × ((program : Resolved) → Holds program names before resolved binders fits)
    × (else_stands there resolved ≡ true)

no_else : (names : Scope) (before : ℕ) → ElseJudged names before resolved_rules.Skip false 0 0 true
no_else names before = (refl, (skip names before).1, (skip names before).2, ap is_skip_by (rule_out_of ResolvedRule-F.Skip _ resolved_rules.rolls-Skip))

some_else : (names : Scope) (before : ℕ) (r : ResolvedRule) (k n : ℕ) (b : Bool) → Judged names before r k n b → ElseJudged names before r true (1 + k) n b
some_else names before r k n b other = (ap (λ i. 1 + i) other.0, other.1, other.2, refl)

conditional : (names : Scope) (at before : ℕ) (g : Term) (t e : ResolvedRule) (there : Bool) (k j n m : ℕ) (b c : Bool)
    → term_faults names g (needs.Only sorts.Truth) at ≡ [] → Judged names before t k n b → ElseJudged names (before + n) e there j m c
    → Judged names before (resolved_rules.If (resolved_term names g) t e there) (1 + term_tokens g + 1 + k + j + 1) (n + m) (term_fits g && (b && c))
conditional names at before g t e there k j n m b c clean one other =
    built names before (ResolvedRule-F.If (resolved_term names g) t e there) _ (resolved_rules.rolls-If _ _ _ _) (rw (tokens_kept names g (needs.Only sorts.Truth) at clean, one.0, other.0) refl) (rw (one.1, other.1) refl)
    (λ program bound known order room fits.
    let u = and_parts _ _ fits in
    let v = and_parts _ _ u.1 in
    and_from _ _ other.3
    (and_from _ _ (ap is_truth (as_asked program names g (needs.Only sorts.Truth) at clean bound truth refl known u.0).1)
    (and_from _ _ (one.2 program bound known order (omega (arith, room)) v.0)
    (subst (λ i. rule_named program e bound (before + i) ≡ true) (sym one.1)
    (other.2 program bound known (later before (before + n) bound (omega arith) order) (omega (arith, room)) v.1)))))

choosing : (names : Scope) (at guard_at before : ℕ) (v d : List ℕ) (g : Term) (t e : ResolvedRule) (there : Bool) (k j n m : ℕ) (b c : Bool) → domain_faults names d at ≡ []
    → term_faults (bound_in names v before (sort_of_domain (meaning_of names d))) g (needs.Only sorts.Truth) guard_at ≡ []
    → Judged (bound_in names v before (sort_of_domain (meaning_of names d))) (before + 1) t k n b → ElseJudged names (before + 1 + n) e there j m c
    → Judged names before (resolved_rules.Choose before (number_of (meaning_of names d)) (resolved_term (bound_in names v before (sort_of_domain (meaning_of names d))) g) t e there)
    (5 + term_tokens g + 1 + k + j + 1) (1 + n + m) (term_fits g && (b && c))
choosing names at guard_at before v d g t e there k j n m b c ranges clean one other =
    let inner = bound_in names v before (sort_of_domain (meaning_of names d)) in
    built names before (ResolvedRule-F.Choose before (number_of (meaning_of names d)) (resolved_term inner g) t e there) _ (resolved_rules.rolls-Choose _ _ _ _ _ _)
    (rw (tokens_kept inner g (needs.Only sorts.Truth) guard_at clean, one.0, other.0) refl) (rw (one.1, other.1) refl)
    (λ program bound known order room fits.
    let u = and_parts _ _ fits in
    let w = and_parts _ _ u.1 in
    let domain = names_domain program.domains program.funs bound names d at known ranges in
    let known_inside = inside program before bound names v _ domain.things known in
    and_from _ _ other.3
    (and_from _ _ (new program before (n + m) bound order (omega (arith, room)))
    (and_from _ _ (lt-ltb _ _ domain.inside)
    (and_from _ _ (ap is_truth (as_asked program inner g (needs.Only sorts.Truth) guard_at clean (before ∷ bound) truth refl known_inside u.0).1)
    (and_from _ _ (one.2 program (before ∷ bound) known_inside (inside_before before bound order) (omega (arith, room)) w.0)
    (subst (λ i. rule_named program e bound (before + 1 + i) ≡ true) (sym one.1)
    (other.2 program bound known (later before (before + 1 + n) bound (omega arith) order) (omega (arith, room)) w.1)))))))

record AllJudged (names : Scope) (before : ℕ) (rs : List Rule) : Type 0 where
  pub tokens_kept : map resolved_rule_tokens (resolved_each names (map made rs) before) ≡ map rule_tokens rs
  pub binders_kept : map resolved_rule_binders (resolved_each names (map made rs) before) ≡ map rule_binders rs
  pub holds : (program : Resolved) (bound : Bound) → IsKnown program bound names → AllBefore before bound → before + sum (map rule_binders rs) ≤ program.binders → all_fit (map rule_fits rs) ≡ true
      → each_named (map (named program) (resolved_each names (map made rs) before)) bound before ≡ true

in_turn : (rs : List Rule) (names : Scope) (at before : ℕ) → AllByRecursion Claim rs → each_rule_faults names (map faulty rs) at before ≡ [] → AllJudged names before rs
in_turn [] names at before claims h = record { tokens_kept = refl; binders_kept = refl; holds = λ program bound known order room fits. refl }
in_turn (r ∷ rs) names at before claims h =
    let p = parts_clean _ _ h in
    let one = claims.0 names (at + 1) before p.0 in
    let rest = in_turn rs names (at + 1 + rule_tokens r) (before + rule_binders r) claims.1 p.1 in
    record {
      tokens_kept = rw (one.0, rest.tokens_kept) refl;
      binders_kept = rw (one.1, rest.binders_kept) refl;
      holds = λ program bound known order room fits.
          let u = and_parts _ _ fits in
          let total = sum_by-cons (λ k. k) (rule_binders r) (map rule_binders rs) in
          and_from _ _ (one.2 program bound known order (omega (arith, room, total)) u.0)
          (subst (λ i. each_named (map (named program) (resolved_each names (map made rs) (before + rule_binders r))) bound (before + i) ≡ true) (sym one.1)
          (rest.holds program bound known (later before (before + rule_binders r) bound (omega arith) order) (omega (arith, room, total)) u.1));
    }

all_of_some : (bs : List Bool) → some_fit bs ≡ true → all_fit bs ≡ true
all_of_some [] h = refl
all_of_some (b ∷ bs) h = h

-- ---- one level

layer-in : (x : Rule-F Sound) → LayerClaim (map-Rule Sound Rule rule x)
layer-in Rule-F.Skip names at before h = skip names before
layer-in (Rule-F.Update w ts v) names at before h =
    let m = meaning_of names w in
    let p = three_clean _ _ _ h in
    let value_at = at + 1 + in_parentheses (map term_tokens ts) + 1 in
    let args = λ (domains : List Values) (funs : List Fun) (bound : Bound). each names domains funs bound (target_sorts m) ts (at + 2) (all_claims names domains funs bound ts) p.1 in
    built names before (ResolvedRule-F.Update (number_of m) (map (resolved_term names) ts) (resolved_term names v)) _ (resolved_rules.rolls-Update _ _ _)
    (rw ((args [] [] []).tokens_kept, tokens_kept names v (target_need m) value_at p.2) refl) refl
    (λ program bound known order room fits.
    let u = and_parts _ _ fits in
    let f = updated program m bound (length ts) at (known_at program.domains program.funs bound names w known) p.0 in
    let sorts = map (sort_of program.funs bound) (map (resolved_term names) ts) in
    let many : length sorts ≡ length ts = length-map (map (resolved_term names) ts) (sort_of program.funs bound) ∙ length-map ts (resolved_term names) in
    let all = (args program.domains program.funs bound).sorted known u.0 f.arguments f.as_many in
    let reads : read_sort (slice_get program.funs (number_of m)) sorts ≡ Some thing = rw f.there (read f.entry sorts all (f.count ∙ sym many)) in
    and_from _ _ (rw f.there f.changing)
    (and_from _ _ (ap is_thing reads)
    (ap is_thing (as_asked program names v (target_need m) value_at p.2 bound thing f.value known u.1).1)))
layer-in (Rule-F.If g t None) names at before h =
    let p = three_clean _ _ _ h in
    conditional names (at + 1) before g _ resolved_rules.Skip false _ _ _ _ _ _ p.0 (t.1 names (at + 1 + term_tokens g + 1) before p.1) (no_else names (before + rule_binders t.0))
layer-in (Rule-F.If g t (Some o)) names at before h =
    let p = three_clean _ _ _ h in
    let other = o.1 names (at + 1 + term_tokens g + 1 + rule_tokens t.0 + 1) (before + rule_binders t.0) p.2 in
    conditional names (at + 1) before g _ _ true _ _ _ _ _ _ p.0 (t.1 names (at + 1 + term_tokens g + 1) before p.1) (some_else names _ _ _ _ _ other)
layer-in (Rule-F.Par rs) names at before h =
    let all = in_turn (map rule rs) names at before (claims rs) h in
    built names before (ResolvedRule-F.Par (resolved_each names (map made (map rule rs)) before)) _ (resolved_rules.rolls-Par _) (ap (λ ns. led ns + 1) all.tokens_kept) (ap sum all.binders_kept)
    (λ program bound known order room fits. all.holds program bound known order room (all_of_some (map rule_fits (map rule rs)) fits))
layer-in (Rule-F.Forall v d g b) names at before h =
    let p = three_clean _ _ _ h in
    let u = parts_clean _ _ p.2 in
    let inner = bound_in names v before (sort_of_domain (meaning_of names d)) in
    let guard = guard_kept inner g (at + 5) u.0 in
    let body = b.1 inner (at + 4 + with_tokens g + 1) (before + 1) u.1 in
    built names before (ResolvedRule-F.Forall before (number_of (meaning_of names d)) (resolved_guard inner g) (is_some g) (resolved_rule b.0 inner (before + 1))) _ (resolved_rules.rolls-Forall _ _ _ _ _)
    (rw (guard.0, body.0) refl) (ap (λ n. 1 + n) body.1)
    (λ program bound known order room fits.
    let w = and_parts _ _ fits in
    let domain = names_domain program.domains program.funs bound names d (at + 3) known p.1 in
    let known_inside = inside program before bound names v _ domain.things known in
    and_from _ _ guard.1
    (and_from _ _ (new program before (rule_binders b.0) bound order room)
    (and_from _ _ (lt-ltb _ _ domain.inside)
    (and_from _ _ (ap is_truth (guarded program inner g (at + 5) u.0 (before ∷ bound) known_inside w.0))
    (body.2 program (before ∷ bound) known_inside (inside_before before bound order) (room_inside before (rule_binders b.0) program.binders room) w.1)))))
layer-in (Rule-F.Choose v d g b None) names at before h =
    let p = three_clean _ _ _ h in
    let u = three_clean _ _ _ p.2 in
    let inner = bound_in names v before (sort_of_domain (meaning_of names d)) in
    choosing names (at + 3) (at + 5) before v d g _ resolved_rules.Skip false _ _ _ _ _ _ p.1 u.0 (b.1 inner (at + 5 + term_tokens g + 1) (before + 1) u.1) (no_else names (before + 1 + rule_binders b.0))
layer-in (Rule-F.Choose v d g b (Some o)) names at before h =
    let p = three_clean _ _ _ h in
    let u = three_clean _ _ _ p.2 in
    let inner = bound_in names v before (sort_of_domain (meaning_of names d)) in
    let body_at = at + 5 + term_tokens g + 1 in
    let other = o.1 names (body_at + rule_tokens b.0 + 1) (before + 1 + rule_binders b.0) u.2 in
    choosing names (at + 3) (at + 5) before v d g _ _ true _ _ _ _ _ _ p.1 u.0 (b.1 inner body_at (before + 1) u.1) (some_else names _ _ _ _ _ other)
layer-in (Rule-F.Let v t b) names at before h =
    let p = three_clean _ _ _ h in
    let inner = bound_in names v before (term_sort names t) in
    let body = b.1 inner (at + 3 + term_tokens t + 1) (before + 1) p.2 in
    built names before (ResolvedRule-F.Let before (resolved_term names t) (resolved_rule b.0 inner (before + 1))) _ (resolved_rules.rolls-Let _ _ _)
    (rw (tokens_kept names t needs.NotTruth (at + 3) p.1, body.0) refl) (ap (λ n. 1 + n) body.1)
    (λ program bound known order room fits.
    let w = and_parts _ _ fits in
    let value = as_asked program names t needs.NotTruth (at + 3) p.1 bound thing refl known w.0 in
    and_from _ _ (new program before (rule_binders b.0) bound order room)
    (and_from _ _ (ap is_thing value.1)
    (body.2 program (before ∷ bound) (inside program before bound names v _ value.0 known) (inside_before before bound order) (room_inside before (rule_binders b.0) program.binders room) w.1)))

rolled : (x : Rule-F Rule) → LayerClaim x → Claim (roll-Rule x)
unfolding rule_fits
rolled x layer names at before h =
    rw (resolved_at x (roll-Rule x) refl names before, tokens_of x (roll-Rule x) refl, binders_of x (roll-Rule x) refl, fold-roll-Rule Bool rule_fits_by x)
    (layer names at before (sym (faults_at x (roll-Rule x) refl names at before) ∙ h))

pub rule_judged : (r : Rule) → Claim r
rule_judged = ind-Rule Claim (λ x y is. subst (λ z. Claim (roll-Rule z)) is (rolled (map-Rule Sound Rule rule y) (layer-in y)))

-- a rule without faults has as many tokens in numbers
pub rule_tokens_kept : (r : Rule) (names : Scope) (at before : ℕ) → rule_faults r names at before ≡ [] → resolved_rule_tokens (resolved_rule r names before) ≡ rule_tokens r
rule_tokens_kept r names at before h = (rule_judged r names at before h).0
