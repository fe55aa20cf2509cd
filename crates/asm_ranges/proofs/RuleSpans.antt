-- The faults of a rule and of a program are in order.
use Rattle.std.proofs.Common.{◌≡◌, ℕ, zero, suc, ◌+◌, ◌<◌, ℤ, Bool, true, false, List, [], ◌∷◌, ◌++◌, map, Option, Some, None, arith}
use Rattle.std.specs.Prelude.{slice_get}
use Rattle.asm_tree.specs.declared.decl.{Const.{Const}, Decl.{Decl}}
use Rattle.asm_names.specs.declared.{program.{Domain.{Domain}, Fun.{Fun}, Interval.{Interval}, Resolved.{Resolved}}, resolved_term.ResolvedTerm.{ResolvedTerm}}
use Rattle.asm_names.specs.declared.resolved_rule.ResolvedRule.{ResolvedRule, out-ResolvedRule, roll-out-ResolvedRule, ResolvedRule-F, map-ResolvedRule}
use Rattle.asm_names.specs.{Places.{in_parentheses, led, const_tokens, consts_tokens, decl_tokens, decls_tokens, names_tokens}, ResolvedPlaces.{resolved_term_tokens, resolved_rule_tokens, resolved_rule_tokens_by, led_if}}
use Rattle.asm_names.proofs.ResolvedLevels.{rule_tokens_of}
use Rattle.state_space.specs.{declared.signature.Signature.{Signature}, Locations.{signatures_of}, Codomains.{codomain_range, just}}
use Rattle.asm_ranges.specs.{Faults.{Spans, Ascending}, Ranges.{Scope, scoped, unscoped, range}, Facts.{Facts, Held, Failed, Bounded, refined}}
use Rattle.asm_ranges.specs.RangeFaults.{FaultyRule, args_faults, term_faults, domains_of, faulty_term, guard_faults, guarded_facts, else_faults, each_rule_faults, interval_of}
use Rattle.asm_ranges.specs.RangeFaults.{rule_faults, rule_faults_by, constants_faults, table_faults, funs_behind, tables_faults, legal_faults, legal_tokens, legal_at, range_faults}
use Rattle.asm_ranges.proofs.{Levels.{rule_faults_at, faulty_rule}, Spans.{none, wider, seq, outside-one, arguments, term_spans}}
use Rattle.asm_tree.specs.declared.decl.Decl.TheVariants as decls
use Rattle.asm_tree.specs.declared.decl.Kind.TheVariants as kinds

-- how many tokens a rule has, by its parts
abbrev rule_layer_tokens : ResolvedRule-F ResolvedRule → ℕ
rule_layer_tokens x = resolved_rule_tokens_by (map-ResolvedRule ResolvedRule ℕ resolved_rule_tokens x)

module _ (ds : List Domain) (ss : List Signature) where
  terms : (scope : Scope) (facts : Facts) (fun : ℕ) (ts : List ResolvedTerm) (at : ℕ)
      → Spans (at + 1) (at + (1 + in_parentheses (map resolved_term_tokens ts))) (args_faults (domains_of (slice_get ss fun)) (map (faulty_term ss scope) ts) facts (at + 2))
  terms scope facts fun ts at =
      arguments ss scope (in_parentheses (map resolved_term_tokens ts)) (λ t h known need place. term_spans ss scope t known need place) (domains_of (slice_get ss fun)) ts facts at (omega arith)

  guarded : (has : Bool) (scope : Scope) (facts : Facts) (g : ResolvedTerm) (at place : ℕ) → place ≡ at + 1 → Spans at (at + led_if has (resolved_term_tokens g)) (guard_faults has ss scope facts g place)
  guarded false scope facts g at place e = none at (at + 0)
  guarded true scope facts g at place e = wider (term_spans ss scope g facts None place) (omega arith)

  module _ (n : ℕ) (below : (r : ResolvedRule) → resolved_rule_tokens r < n → (scope : Scope) (facts : Facts) (at : ℕ) → Spans at (at + resolved_rule_tokens r) (rule_faults ds ss r scope facts at)) where
    each : (rs : List ResolvedRule) (scope : Scope) (facts : Facts) (at : ℕ) → led (map resolved_rule_tokens rs) < suc n
        → Spans at (at + led (map resolved_rule_tokens rs)) (each_rule_faults (map (faulty_rule ds ss) rs) scope facts at)
    each [] scope facts at small = none at (at + 0)
    each (r ∷ rs) scope facts at small = seq (below r (omega arith) scope facts (at + 1)) (each rs scope facts (at + 1 + resolved_rule_tokens r) (omega arith)) (omega arith)

    other : (has : Bool) (r : ResolvedRule) (scope : Scope) (facts : Facts) (at : ℕ) → led_if has (resolved_rule_tokens r) < suc n
        → Spans at (at + led_if has (resolved_rule_tokens r)) (else_faults has (faulty_rule ds ss r) scope facts at)
    other false r scope facts at small = none at (at + 0)
    other true r scope facts at small = wider (below r (omega arith) scope facts (at + 1)) (omega arith)

    -- a term, a rule behind the token after it, and a rule behind `else`
    branch : (g : ResolvedTerm) (t o : ResolvedRule) (has : Bool) (scope outer : Scope) (facts held failed : Facts) (at : ℕ) → resolved_rule_tokens t + led_if has (resolved_rule_tokens o) < n
        → Spans at (at + resolved_term_tokens g + 1 + resolved_rule_tokens t + led_if has (resolved_rule_tokens o)) (term_faults ss scope g facts None at
        ++ (rule_faults ds ss t scope held (at + resolved_term_tokens g + 1) ++ else_faults has (faulty_rule ds ss o) outer failed (at + resolved_term_tokens g + 1 + resolved_rule_tokens t)))
    branch g t o has scope outer facts held failed at small =
        let then_at = at + resolved_term_tokens g + 1 in
        seq {c = then_at} {d = then_at + resolved_rule_tokens t + led_if has (resolved_rule_tokens o)} (term_spans ss scope g facts None at)
        (seq (below t (omega arith) scope held then_at) (other has o outer failed (then_at + resolved_rule_tokens t) (omega arith)) (omega arith)) (omega arith)

    level : (x : ResolvedRule-F ResolvedRule) → rule_layer_tokens x < suc n → (scope : Scope) (facts : Facts) (at : ℕ)
        → Spans at (at + rule_layer_tokens x) (rule_faults_by ds ss (map-ResolvedRule ResolvedRule FaultyRule (faulty_rule ds ss) x) scope facts at)
    level ResolvedRule-F.Skip small scope facts at = none at (at + 1)
    level (ResolvedRule-F.Update fun ts v) small scope facts at =
        seq (terms scope facts fun ts at) (term_spans ss scope v facts (Some (codomain_range (slice_get ss fun))) (at + 1 + in_parentheses (map resolved_term_tokens ts) + 1)) (omega arith)
    level (ResolvedRule-F.If g t o has) small scope facts at = wider (branch g t o has scope scope facts (Held g ∷ facts) (Failed g ∷ facts) (at + 1) (omega arith)) (omega arith)
    level (ResolvedRule-F.Par rs) small scope facts at = wider (each rs scope facts at (omega arith)) (omega arith)
    level (ResolvedRule-F.Forall b d g has body) small scope facts at =
        let inner = scoped scope b (interval_of ds d) in
        seq (guarded has inner facts g (at + 4) (at + 5) (omega arith)) (below body (omega arith) inner (guarded_facts has g facts) (at + 4 + led_if has (resolved_term_tokens g) + 1)) (omega arith)
    level (ResolvedRule-F.Choose b d g body o has) small scope facts at =
        wider (branch g body o has (scoped scope b (interval_of ds d)) scope facts (Held g ∷ facts) facts (at + 5) (omega arith)) (omega arith)
    level (ResolvedRule-F.Let b v body) small scope facts at =
        seq (term_spans ss scope v facts None (at + 3))
        (below body (omega arith) (scoped scope b (range ss scope v)) (Bounded b (refined ss scope v facts) ∷ facts) (at + 3 + resolved_term_tokens v + 1)) (omega arith)

  at_depth : (n : ℕ) (r : ResolvedRule) → resolved_rule_tokens r < n → (scope : Scope) (facts : Facts) (at : ℕ) → Spans at (at + resolved_rule_tokens r) (rule_faults ds ss r scope facts at)
  at_depth zero r small scope facts at = absurd (omega arith)
  at_depth (suc n) r small scope facts at =
      let x = out-ResolvedRule r in
      let e = roll-out-ResolvedRule r in
      rw (rule_faults_at x r e ds ss scope facts at, rule_tokens_of x r e) (level n (at_depth n) x (omega (arith, rule_tokens_of x r e)) scope facts at)

  -- the faults of a rule are in order, at its tokens
  pub rule_spans : (r : ResolvedRule) (scope : Scope) (facts : Facts) (at : ℕ) → Spans at (at + resolved_rule_tokens r) (rule_faults ds ss r scope facts at)
  rule_spans r = at_depth (suc (resolved_rule_tokens r)) r (omega arith)

-- ---- programs

constants : (d : Interval) (vs : List ℤ) (cs : List Const) (at : ℕ) → Spans at (at + consts_tokens cs) (constants_faults d vs cs at)
constants d vs [] at = none at _
constants d [] (k ∷ cs) at = none at _
constants d (v ∷ vs) (k ∷ cs) at =
    seq (outside-one (just v) (Some d) at) (constants d vs cs (at + const_tokens k + 1)) (omega arith)

table : (ds : List Domain) (decl : Decl) (funs : List Fun) (at : ℕ) → Spans at (at + decl_tokens decl) (table_faults ds decl funs at)
table ds (decls.Fun kind name args codomain cs) [] at = none at _
table ds (decls.Fun kinds.Static name args codomain cs) (f ∷ funs) at = wider (constants (interval_of ds f.codomain) f.table cs (at + 6 + names_tokens args)) (omega arith)
table ds decl funs at = none at _

tables : (ds : List Domain) (xs : List Decl) (funs : List Fun) (at : ℕ) → Spans at (at + decls_tokens xs) (tables_faults ds xs funs at)
tables ds [] funs at = none at (at + 0)
tables ds (x ∷ xs) funs at = seq (table ds x funs at) (tables ds xs (funs_behind x funs) (at + decl_tokens x)) (omega arith)

legal : (ss : List Signature) (o : Option ResolvedTerm) (at : ℕ) → Spans at (at + legal_tokens o) (legal_faults ss o at)
legal ss None at = none at (at + 0)
legal ss (Some t) at = wider (term_spans ss unscoped t [] None (at + 1)) (omega arith)

-- the faults of a program are in order
pub ordered : (p : Resolved) → Ascending (range_faults p)
ordered p =
    let rule_at = legal_at p + legal_tokens p.legal + 1 in
    let end = rule_at + resolved_rule_tokens p.rule in
    let spans : Spans 3 end (range_faults p) = seq {c = legal_at p} {d = end} (tables p.domains p.source.decls p.funs 3)
    (seq (legal (signatures_of p) p.legal (legal_at p)) (rule_spans p.domains (signatures_of p) p.rule unscoped [] rule_at) (omega arith)) (omega arith) in
    spans.ascending
