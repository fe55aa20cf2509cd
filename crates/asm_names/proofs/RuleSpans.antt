-- The faults of a rule are in order.
use Rattle.asm_names.proofs.Common.{◌≡◌, ℕ, suc, ◌+◌, ◌≤◌, true, not, is_some, nat_eq, List, [], ◌∷◌, map, length, Option, Some, None, arith, Term, Rule, Rule-F, map-Rule, Sort, Meaning, Function}
use Rattle.asm_names.proofs.Common.{Scope, meaning_of, sort_of_domain, term_tokens, rule_tokens, rule_binders, in_parentheses, led, with_tokens, Spans, each_faults, term_sort, Faulty, parts, is_fixed}
use Rattle.asm_names.proofs.Common.{target_faults, target_need, target_sorts, bound, guard_faults, each_rule_faults, rule_faults, rule_faults_by, faulty, rule_layer_tokens}
use Rattle.asm_names.proofs.RuleLevels.{tokens_of, faults_at, by_tokens}
use Rattle.asm_names.proofs.Spans.{none, wider, single, double, seq, arguments, term_spans}
use Rattle.asm_names.specs.declared.fault.NameFault.TheVariants as causes
use Rattle.asm_names.specs.declared.sort.Sort.TheVariants as sorts
use Rattle.asm_names.specs.declared.sort.Need.TheVariants as needs

target : (m : Option Meaning) (count at : ℕ) → Spans at (at + 1) (target_faults m count at)
target (Some (Function number kind args values)) count at = double at causes.Count causes.NotUpdatable (not (nat_eq (length args) count)) (is_fixed kind) (omega arith)
target _ count at = single at causes.Unknown true

terms : (names : Scope) (ss : List (Option Sort)) (ts : List Term) (at : ℕ) → Spans (at + 1) (at + (1 + in_parentheses (map term_tokens ts))) (each_faults ss (parts names ts) (at + 2))
terms names ss ts at = arguments names (in_parentheses (map term_tokens ts)) (λ t h need place. term_spans names t need place) ss ts at (omega arith)

guarded : (names : Scope) (g : Option Term) (at place : ℕ) → place ≡ at + 1 → Spans at (at + with_tokens g) (guard_faults names g place)
guarded names None at place e = none at (at + 0) (omega arith)
guarded names (Some g) at place e = wider (term_spans names g (needs.Only sorts.Truth) place) (omega arith) (omega arith)

module _ (n : ℕ) (below : (r : Rule) → rule_tokens r ≤ n → (names : Scope) (at binders : ℕ) → Spans at (at + rule_tokens r) (rule_faults r names at binders)) where
  each : (names : Scope) (rs : List Rule) (at binders : ℕ) → led (map rule_tokens rs) ≤ n → Spans at (at + led (map rule_tokens rs)) (each_rule_faults names (map faulty rs) at binders)
  each names [] at binders small = none at (at + 0) (omega arith)
  each names (r ∷ rs) at binders small =
      wider (seq (below r (omega arith) names (at + 1) binders) (each names rs (at + 1 + rule_tokens r) (binders + rule_binders r) (omega arith)) (omega arith)) (omega arith) (omega arith)

  level : (x : Rule-F Rule) → rule_layer_tokens x ≤ suc n → (names : Scope) (at binders : ℕ) → Spans at (at + rule_layer_tokens x) (rule_faults_by (map-Rule Rule Faulty faulty x) names at binders)
  level Rule-F.Skip small names at binders = none at (at + 1) (omega arith)
  level (Rule-F.Update w ts v) small names at binders =
      let m = meaning_of names w in
      wider (seq (target m (length ts) at)
      (seq (terms names (target_sorts m) ts at) (term_spans names v (target_need m) (at + 1 + in_parentheses (map term_tokens ts) + 1)) (omega arith)) (omega arith)) (omega arith) (omega arith)
  level (Rule-F.If g t None) small names at binders =
      let then_at = at + 1 + term_tokens g + 1 in
      wider (seq (term_spans names g (needs.Only sorts.Truth) (at + 1))
      (seq (below t (omega arith) names then_at binders) (none (then_at + rule_tokens t) (then_at + rule_tokens t) (omega arith)) (omega arith)) (omega arith)) (omega arith) (omega arith)
  level (Rule-F.If g t (Some o)) small names at binders =
      let then_at = at + 1 + term_tokens g + 1 in
      wider (seq (term_spans names g (needs.Only sorts.Truth) (at + 1))
      (seq (below t (omega arith) names then_at binders) (below o (omega arith) names (then_at + rule_tokens t + 1) (binders + rule_binders t)) (omega arith)) (omega arith)) (omega arith) (omega arith)
  level (Rule-F.Par rs) small names at binders = wider (each names rs at binders (omega arith)) (omega arith) (omega arith)
  level (Rule-F.Forall v d g b) small names at binders =
      let inner = bound names v binders (sort_of_domain (meaning_of names d)) in
      wider (seq (single (at + 1) causes.Repeated (is_some (meaning_of names v)))
      (seq (single (at + 3) causes.Unknown (not (is_some (sort_of_domain (meaning_of names d)))))
      (seq (guarded inner g (at + 4) (at + 5) (omega arith)) (below b (omega arith) inner (at + 4 + with_tokens g + 1) (binders + 1)) (omega arith)) (omega arith)) (omega arith)) (omega arith) (omega arith)
  level (Rule-F.Choose v d g b None) small names at binders =
      let inner = bound names v binders (sort_of_domain (meaning_of names d)) in
      let body_at = at + 5 + term_tokens g + 1 in
      wider (seq (single (at + 1) causes.Repeated (is_some (meaning_of names v)))
      (seq (single (at + 3) causes.Unknown (not (is_some (sort_of_domain (meaning_of names d)))))
      (seq (term_spans inner g (needs.Only sorts.Truth) (at + 5))
      (seq (below b (omega arith) inner body_at (binders + 1)) (none (body_at + rule_tokens b) (body_at + rule_tokens b) (omega arith)) (omega arith)) (omega arith)) (omega arith)) (omega arith)) (omega arith) (omega arith)
  level (Rule-F.Choose v d g b (Some o)) small names at binders =
      let inner = bound names v binders (sort_of_domain (meaning_of names d)) in
      let body_at = at + 5 + term_tokens g + 1 in
      wider (seq (single (at + 1) causes.Repeated (is_some (meaning_of names v)))
      (seq (single (at + 3) causes.Unknown (not (is_some (sort_of_domain (meaning_of names d)))))
      (seq (term_spans inner g (needs.Only sorts.Truth) (at + 5))
      (seq (below b (omega arith) inner body_at (binders + 1)) (below o (omega arith) names (body_at + rule_tokens b + 1) (binders + 1 + rule_binders b)) (omega arith)) (omega arith)) (omega arith)) (omega arith)) (omega arith) (omega arith)
  level (Rule-F.Let v t b) small names at binders =
      wider (seq (single (at + 1) causes.Repeated (is_some (meaning_of names v)))
      (seq (term_spans names t needs.NotTruth (at + 3)) (below b (omega arith) (bound names v binders (term_sort names t)) (at + 3 + term_tokens t + 1) (binders + 1)) (omega arith)) (omega arith)) (omega arith) (omega arith)

-- the faults of a rule are in order, at its tokens
pub rule_spans : (r : Rule) (names : Scope) (at binders : ℕ) → Spans at (at + rule_tokens r) (rule_faults r names at binders)
rule_spans = by_tokens (λ r. (names : Scope) (at binders : ℕ) → Spans at (at + rule_tokens r) (rule_faults r names at binders)) (λ n below x r e small names at binders. rw (faults_at x r e names at binders, tokens_of x r e) (level n below x small names at binders))
