-- A well-formed rule has small numbers, domains that are there, and binders from a number on, and leaves the length of the row.
use Rattle.std.proofs.Common.{◌≡◌, ℕ, zero, suc, ◌+◌, ◌<◌, ◌≤◌, Bool, true, false, ◌&&◌, List, [], ◌∷◌, map, length, Option, Some, None, is_some, refl, ap, sym, ◌∙◌, arith}
use Rattle.std.{proofs.lemmas.{Bool.{and_parts, and_from, eqb-true, le-leb}, List.Folds.{list_all-map}}, specs.{Prelude.{slice_set, MatchOption}, List.{list_all}}}
use Rattle.asm_tree.specs.declared.term.Op.{Op}
use Rattle.asm_names.specs.declared.{program.{Domain.{Domain}, Fun.{Fun}, Interval.{Interval}, Resolved.{Resolved}}, resolved_term.ResolvedTerm.{ResolvedTerm, ResolvedTerm-F, roll-ResolvedTerm, out-ResolvedTerm, roll-out-ResolvedTerm, fold-roll-ResolvedTerm, map-ResolvedTerm}}
use Rattle.asm_names.specs.declared.resolved_rule.ResolvedRule.{ResolvedRule, ResolvedRule-F, roll-ResolvedRule, out-ResolvedRule, roll-out-ResolvedRule, para-roll-ResolvedRule, map-ResolvedRule}
use Rattle.asm_names.specs.{Places.{parted, led}, ResolvedPlaces.{resolved_term_tokens, resolved_term_tokens_by, resolved_rule_tokens, resolved_rule_tokens_by, resolved_rule_binders, led_if}}
use Rattle.asm_names.specs.WellFormed.{Bound, RulePart, Sort, truth, thing, binary_sort, each_named, is_thing, is_truth, named_by, rule_named, is_skip_by, else_stands, sort_by, sort_if, sort_of}
use Rattle.asm_names.proofs.{ResolvedLevels.{term_tokens_of, rule_tokens_of}, Separated.{parted-in_parentheses}}
use Rattle.state_space.specs.declared.signature.Signature.{Signature}
use Rattle.asm_ranges.specs.{Contexts.{legible, small_numbers, small_numbers_by}, FindingRules.{layer_after, layer_legible}, Ranges.{Scope}, Rows.{Row, after_each, after_else, intervals_after}}
use Rattle.asm_ranges.proofs.{Measures.{small_of}, RuleForms.{legible_of, after_of}}
use Rattle.asm_tree.specs.declared.term.Op.TheVariants as ops

-- ---- terms

thing-some : (o : Option Sort) → is_thing o ≡ true → is_some o ≡ true
thing-some None h = h
thing-some (Some s) h = refl

truth-some : (o : Option Sort) → is_truth o ≡ true → is_some o ≡ true
truth-some None h = h
truth-some (Some s) h = refl

if-some : (b : Bool) (s : Sort) → is_some (sort_if b s) ≡ true → b ≡ true
if-some true s h = refl
if-some false s h = h

things : (l r : Option Sort) → (is_thing l && is_thing r) ≡ true → (is_some l ≡ true) × (is_some r ≡ true)
things l r h = let p = and_parts _ _ h in (thing-some l p.0, thing-some r p.1)

truths : (l r : Option Sort) → (is_truth l && is_truth r) ≡ true → (is_some l ≡ true) × (is_some r ≡ true)
truths l r h = let p = and_parts _ _ h in (truth-some l p.0, truth-some r p.1)

binary-parts : (op : Op) (l r : Option Sort) → is_some (binary_sort op l r) ≡ true → (is_some l ≡ true) × (is_some r ≡ true)
binary-parts ops.And l r h = truths l r (if-some _ truth h)
binary-parts ops.Or l r h = truths l r (if-some _ truth h)
binary-parts ops.Add l r h = things l r (if-some _ thing h)
binary-parts ops.Sub l r h = things l r (if-some _ thing h)
binary-parts _ l r h = things l r (if-some _ truth h)

module _ (funs : List Fun) (bound : Bound) where
  sort_at : (x : ResolvedTerm-F ResolvedTerm) (t : ResolvedTerm) → roll-ResolvedTerm x ≡ t → sort_of funs bound t ≡ sort_by funs bound (map-ResolvedTerm ResolvedTerm (Option Sort) (sort_of funs bound) x)
  unfolding sort_of
  sort_at x t e = ap (sort_of funs bound) (sym e) ∙ fold-roll-ResolvedTerm (Option Sort) (sort_by funs bound) x

  module _ (n : ℕ) (below : (t : ResolvedTerm) → resolved_term_tokens t < n → is_some (sort_of funs bound t) ≡ true → small_numbers t ≡ true) where
    each-small : (ts : List ResolvedTerm) → parted (map resolved_term_tokens ts) < n → list_all is_thing (map (sort_of funs bound) ts) ≡ true → list_all small_numbers ts ≡ true
    each-small [] room h = refl
    each-small (t ∷ ts) room h = let p = and_parts _ _ h in and_from _ _ (below t (omega arith) (thing-some _ p.0)) (each-small ts (omega arith) p.1)

    layer-small : (x : ResolvedTerm-F ResolvedTerm) → resolved_term_tokens_by (map-ResolvedTerm ResolvedTerm ℕ resolved_term_tokens x) < suc n
        → is_some (sort_by funs bound (map-ResolvedTerm ResolvedTerm (Option Sort) (sort_of funs bound) x)) ≡ true → small_numbers_by (map-ResolvedTerm ResolvedTerm Bool small_numbers x) ≡ true
    layer-small (ResolvedTerm-F.Number v) room h = if-some _ thing h
    layer-small (ResolvedTerm-F.Var b) room h = refl
    layer-small (ResolvedTerm-F.Read fun args) room h =
        list_all-map (λ small. small) small_numbers args ∙ each-small args (omega (arith, parted-in_parentheses (map resolved_term_tokens args))) (and_parts _ _ (if-some _ thing h)).0
    layer-small (ResolvedTerm-F.Binary op l r) room h =
        let p = binary-parts op (sort_of funs bound l) (sort_of funs bound r) h in
        and_from _ _ (below l (omega arith) p.0) (below r (omega arith) p.1)
    layer-small (ResolvedTerm-F.Not t) room h = below t (omega arith) (truth-some _ (if-some _ truth h))
    layer-small (ResolvedTerm-F.Min l r) room h = let p = things _ _ (if-some _ thing h) in and_from _ _ (below l (omega arith) p.0) (below r (omega arith) p.1)
    layer-small (ResolvedTerm-F.Max l r) room h = let p = things _ _ (if-some _ thing h) in and_from _ _ (below l (omega arith) p.0) (below r (omega arith) p.1)
    layer-small (ResolvedTerm-F.Cond g l r) room h =
        let q = and_parts _ _ (if-some _ thing h) in
        let p = things _ _ q.1 in
        and_from _ _ (below g (omega arith) (truth-some _ q.0)) (and_from _ _ (below l (omega arith) p.0) (below r (omega arith) p.1))

  small-depth : (n : ℕ) (t : ResolvedTerm) → resolved_term_tokens t < n → is_some (sort_of funs bound t) ≡ true → small_numbers t ≡ true
  small-depth zero t room h = absurd (omega arith)
  small-depth (suc n) t room h =
      let x = out-ResolvedTerm t in
      let e = roll-out-ResolvedTerm t in
      small_of x t e ∙ layer-small n (small-depth n) x (omega (arith, room, term_tokens_of x t e)) (ap is_some (sym (sort_at x t e)) ∙ h)

  -- a term that has a sort has small numbers
  pub sorted-small : (t : ResolvedTerm) → is_some (sort_of funs bound t) ≡ true → small_numbers t ≡ true
  sorted-small t h = small-depth (suc (resolved_term_tokens t)) t (omega arith) h

  things-small : (ts : List ResolvedTerm) → list_all is_thing (map (sort_of funs bound) ts) ≡ true → list_all small_numbers ts ≡ true
  things-small [] h = refl
  things-small (t ∷ ts) h = let p = and_parts _ _ h in and_from _ _ (sorted-small t (thing-some _ p.0)) (things-small ts p.1)

  truth-small : (t : ResolvedTerm) → is_truth (sort_of funs bound t) ≡ true → small_numbers t ≡ true
  truth-small t h = sorted-small t (truth-some _ h)

pub legal-small : (funs : List Fun) (o : Option ResolvedTerm) → MatchOption o (Unit {0}) (λ t. is_truth (sort_of funs [] t) ≡ true) → MatchOption o (Unit {0}) (λ t. small_numbers t ≡ true)
legal-small funs None h = tt
legal-small funs (Some t) h = truth-small funs [] t h

-- ---- rules

module _ (program : Resolved) where
  abbrev named_part : ResolvedRule → RulePart
  named_part r = (r, rule_named program r)

  named_at : (x : ResolvedRule-F ResolvedRule) (r : ResolvedRule) → roll-ResolvedRule x ≡ r → (bound : Bound) (before : ℕ)
      → rule_named program r bound before ≡ named_by program (map-ResolvedRule ResolvedRule RulePart named_part x) bound before
  unfolding rule_named
  named_at x r e bound before = ap (λ q. rule_named program q bound before) (sym e) ∙ ap (λ f. f bound before) (para-roll-ResolvedRule (Bound → ℕ → Bool) (named_by program) x)

  abbrev ds : List Domain
  ds = program.domains

  abbrev tokens : ResolvedRule-F ResolvedRule → ℕ
  tokens x = resolved_rule_tokens_by (map-ResolvedRule ResolvedRule ℕ resolved_rule_tokens x)

  module _ (n : ℕ) (below : (r : ResolvedRule) → resolved_rule_tokens r < n → (bound : Bound) (before from : ℕ) → rule_named program r bound before ≡ true → from ≤ before → legible ds r from ≡ true) where
    each-legible : (rs : List ResolvedRule) → led (map resolved_rule_tokens rs) < n → (bound : Bound) (before from : ℕ) → each_named (map named_part rs) bound before ≡ true → from ≤ before
        → list_all (λ (rule : ℕ → Bool). rule from) (map (legible ds) rs) ≡ true
    each-legible [] room bound before from h less = refl
    each-legible (r ∷ rs) room bound before from h less =
        let p = and_parts _ _ h in
        and_from _ _ (below r (omega arith) bound before from p.0 less) (each-legible rs (omega arith) bound (before + resolved_rule_binders r) from p.1 (omega (arith, less)))

    skip-legible : (x : ResolvedRule-F ResolvedRule) (from : ℕ) → is_skip_by x ≡ true → layer_legible ds x from ≡ true
    skip-legible ResolvedRule-F.Skip from h = refl
    skip-legible (ResolvedRule-F.Update fun args value) from h = absurd cc
    skip-legible (ResolvedRule-F.If g t o has) from h = absurd cc
    skip-legible (ResolvedRule-F.Par rs) from h = absurd cc
    skip-legible (ResolvedRule-F.Forall b d g has body) from h = absurd cc
    skip-legible (ResolvedRule-F.Choose b d g body o has) from h = absurd cc
    skip-legible (ResolvedRule-F.Let b v body) from h = absurd cc

    else-legible : (has : Bool) (r : ResolvedRule) → led_if has (resolved_rule_tokens r) < suc n → else_stands has r ≡ true → (bound : Bound) (before from : ℕ) → rule_named program r bound before ≡ true → from ≤ before
        → legible ds r from ≡ true
    else-legible true r room stands bound before from h less = below r (omega arith) bound before from h less
    else-legible false r room stands bound before from h less = legible_of (out-ResolvedRule r) r (roll-out-ResolvedRule r) ds from ∙ skip-legible (out-ResolvedRule r) from stands

    layer : (x : ResolvedRule-F ResolvedRule) → tokens x < suc n → (bound : Bound) (before from : ℕ) → named_by program (map-ResolvedRule ResolvedRule RulePart named_part x) bound before ≡ true → from ≤ before
        → layer_legible ds x from ≡ true
    layer ResolvedRule-F.Skip room bound before from h less = refl
    layer (ResolvedRule-F.Update fun args value) room bound before from h less =
        let p = and_parts _ _ (and_parts _ _ h).1 in
        let args_sorted = and_parts _ _ (if-some _ thing (thing-some _ p.0)) in
        and_from _ _ (things-small program.funs bound args args_sorted.0) (sorted-small program.funs bound value (thing-some _ p.1))
    layer (ResolvedRule-F.If g t o has) room bound before from h less =
        let p = and_parts _ _ h in
        let q = and_parts _ _ p.1 in
        let r = and_parts _ _ q.1 in
        and_from _ _ (truth-small program.funs bound g q.0)
        (and_from _ _ (below t (omega arith) bound before from r.0 less) (else-legible has o (omega arith) p.0 bound (before + resolved_rule_binders t) from r.1 (omega (arith, less))))
    layer (ResolvedRule-F.Par rs) room bound before from h less = each-legible rs (omega arith) bound before from h less
    layer (ResolvedRule-F.Forall b d g has body) room bound before from h less =
        let p = and_parts _ _ (and_parts _ _ h).1 in
        let new = and_parts _ _ p.0 in
        let same : b ≡ before = eqb-true b before new.0 in
        let q = and_parts _ _ p.1 in
        let r = and_parts _ _ q.1 in
        and_from _ _ (and_from _ _ q.0 (le-leb from b (omega (arith, same, less)))) (and_from _ _ (truth-small program.funs (b ∷ bound) g r.0) (below body (omega arith) (b ∷ bound) (before + 1) (b + 1) r.1 (omega (arith, same))))
    layer (ResolvedRule-F.Choose b d g body o has) room bound before from h less =
        let all = and_parts _ _ h in
        let p = and_parts _ _ all.1 in
        let new = and_parts _ _ p.0 in
        let same : b ≡ before = eqb-true b before new.0 in
        let q = and_parts _ _ p.1 in
        let r = and_parts _ _ q.1 in
        let s = and_parts _ _ r.1 in
        and_from _ _ (and_from _ _ q.0 (le-leb from b (omega (arith, same, less))))
        (and_from _ _ (truth-small program.funs (b ∷ bound) g r.0)
        (and_from _ _ (below body (omega arith) (b ∷ bound) (before + 1) (b + 1) s.0 (omega (arith, same)))
        (else-legible has o (omega arith) all.0 bound (before + 1 + resolved_rule_binders body) from s.1 (omega (arith, less)))))
    layer (ResolvedRule-F.Let b v body) room bound before from h less =
        let p = and_parts _ _ h in
        let new = and_parts _ _ p.0 in
        let same : b ≡ before = eqb-true b before new.0 in
        let q = and_parts _ _ p.1 in
        and_from _ _ (le-leb from b (omega (arith, same, less))) (and_from _ _ (sorted-small program.funs bound v (thing-some _ q.0)) (below body (omega arith) (b ∷ bound) (before + 1) (b + 1) q.1 (omega (arith, same))))

  depth : (n : ℕ) (r : ResolvedRule) → resolved_rule_tokens r < n → (bound : Bound) (before from : ℕ) → rule_named program r bound before ≡ true → from ≤ before → legible ds r from ≡ true
  depth zero r room bound before from h less = absurd (omega arith)
  depth (suc n) r room bound before from h less =
      let x = out-ResolvedRule r in
      let e = roll-out-ResolvedRule r in
      legible_of x r e ds from ∙ layer n (depth n) x (omega (arith, room, rule_tokens_of x r e)) bound before from (sym (named_at x r e bound before) ∙ h) less

  -- a rule with its binders in text order is legible from the first of them on
  pub named-legible-from : (r : ResolvedRule) (bound : Bound) (before from : ℕ) → rule_named program r bound before ≡ true → from ≤ before → legible ds r from ≡ true
  named-legible-from r = depth (suc (resolved_rule_tokens r)) r (omega arith)

  -- the rule of a well-formed program is legible from its first binder on
  pub named-legible : (r : ResolvedRule) → rule_named program r [] 0 ≡ true → legible ds r 0 ≡ true
  named-legible r h = named-legible-from r [] 0 0 h (omega arith)

-- ---- rows

pub set-long : (row : Row) (b : ℕ) (i : Interval) → length (slice_set row b i) ≡ length row
set-long [] b i = refl
set-long (x ∷ row) zero i = refl
set-long (x ∷ row) (suc b) i = ap (λ n. suc n) (set-long row b i)

module _ (domains : List Domain) (signatures : List Signature) where
  abbrev Long : ResolvedRule → Type 0
  Long r = (scope : Scope) (row : Row) → length (intervals_after domains signatures r scope row) ≡ length row

  module _ (n : ℕ) (below : (r : ResolvedRule) → resolved_rule_tokens r < n → Long r) where
    each-long : (rs : List ResolvedRule) → led (map resolved_rule_tokens rs) < n → (scope : Scope) (row : Row) → length (after_each (map (intervals_after domains signatures) rs) scope row) ≡ length row
    each-long [] room scope row = refl
    each-long (r ∷ rs) room scope row = each-long rs (omega arith) scope (intervals_after domains signatures r scope row) ∙ below r (omega arith) scope row

    else-long : (has : Bool) (r : ResolvedRule) → led_if has (resolved_rule_tokens r) < suc n → (scope : Scope) (row : Row) → length (after_else has (intervals_after domains signatures r) scope row) ≡ length row
    else-long false r room scope row = refl
    else-long true r room scope row = below r (omega arith) scope row

    layer-long : (x : ResolvedRule-F ResolvedRule) → resolved_rule_tokens_by (map-ResolvedRule ResolvedRule ℕ resolved_rule_tokens x) < suc n → (scope : Scope) (row : Row) → length (layer_after domains signatures x scope row) ≡ length row
    layer-long ResolvedRule-F.Skip room scope row = refl
    layer-long (ResolvedRule-F.Update fun args value) room scope row = refl
    layer-long (ResolvedRule-F.If g t o has) room scope row = else-long has o (omega arith) scope (intervals_after domains signatures t scope row) ∙ below t (omega arith) scope row
    layer-long (ResolvedRule-F.Par rs) room scope row = each-long rs (omega arith) scope row
    layer-long (ResolvedRule-F.Forall b d g has body) room scope row = below body (omega arith) _ _ ∙ set-long row b _
    layer-long (ResolvedRule-F.Choose b d g body o has) room scope row = else-long has o (omega arith) scope _ ∙ (below body (omega arith) _ _ ∙ set-long row b _)
    layer-long (ResolvedRule-F.Let b v body) room scope row = below body (omega arith) _ _ ∙ set-long row b _

  depth-long : (n : ℕ) (r : ResolvedRule) → resolved_rule_tokens r < n → Long r
  depth-long zero r room scope row = absurd (omega arith)
  depth-long (suc n) r room scope row =
      let x = out-ResolvedRule r in
      let e = roll-out-ResolvedRule r in
      ap length (after_of x r e domains signatures scope row) ∙ layer-long n (depth-long n) x (omega (arith, room, rule_tokens_of x r e)) scope row

  -- the row is as long as before
  pub intervals-long : (r : ResolvedRule) → Long r
  intervals-long r = depth-long (suc (resolved_rule_tokens r)) r (omega arith)
