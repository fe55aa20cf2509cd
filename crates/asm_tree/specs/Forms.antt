-- How deep terms and rules are, and which of them have a text.
use Rattle.std.specs.Prelude.{◌≡◌, ℕ, ◌+◌, ◌≤◌, max, Bool, true, false, ◌&&◌, nat_le, List, [], ◌∷◌, map, Option, Some, None}
use Rattle.std.specs.Option.{option_map}
use Rattle.asm_tree.specs.declared.term.Term.{Term, Term-F}
use Rattle.asm_tree.specs.declared.term.Term.TheFolds.{fold-Term}
use Rattle.asm_tree.specs.declared.rule.Rule.{Rule, Rule-F}
use Rattle.asm_tree.specs.declared.rule.Rule.TheFolds.{fold-Rule}

-- the greatest of these numbers, and 0 where there is none
abbrev pub greatest : List ℕ → ℕ
greatest [] = 0
greatest (n ∷ ns) = max n (greatest ns)

-- One term, with the depth of each part in its place. A number and a name alone have depth 1.
abbrev pub term_depth_by : Term-F ℕ → ℕ
term_depth_by (Term-F.Number value) = 1
term_depth_by (Term-F.Apply name args) = 1 + greatest args
term_depth_by (Term-F.Binary op left right) = 1 + max left right
term_depth_by (Term-F.Not inner) = 1 + inner
term_depth_by (Term-F.Min first second) = 1 + max first second
term_depth_by (Term-F.Max first second) = 1 + max first second
term_depth_by (Term-F.Cond guard first second) = 1 + max guard (max first second)

-- how deep a term is: 1, or 1 more than the deepest of its parts
unfoldable pub term_depth : Term → ℕ
term_depth = fold-Term ℕ term_depth_by

-- whether the answer is true for all
abbrev pub all_fit : List Bool → Bool
all_fit [] = true
all_fit (b ∷ bs) = b && all_fit bs

-- One term, with the answer for each part in its place.
abbrev pub term_fits_by : Term-F Bool → Bool
term_fits_by (Term-F.Number value) = nat_le value 2147483647
term_fits_by (Term-F.Apply name args) = all_fit args
term_fits_by (Term-F.Binary op left right) = left && right
term_fits_by (Term-F.Not inner) = inner
term_fits_by (Term-F.Min first second) = first && second
term_fits_by (Term-F.Max first second) = first && second
term_fits_by (Term-F.Cond guard first second) = guard && (first && second)

-- each number in a term is at most 2147483647
unfoldable pub term_fits : Term → Bool
term_fits = fold-Term Bool term_fits_by

-- a term no deeper than this, each number of which has a text
pub record IsTermWithin (depth : ℕ) (t : Term) : Type 0 where
  pub deep : term_depth t ≤ depth
  pub fits : term_fits t ≡ true

-- whether a term is within a depth, as a test
unfoldable pub term_within : ℕ → Term → Bool
term_within depth t = nat_le (term_depth t) depth && term_fits t

-- whether each of these terms is within a depth
abbrev pub terms_within : ℕ → List Term → Bool
terms_within depth [] = true
terms_within depth (t ∷ ts) = term_within depth t && terms_within depth ts

-- ---- rules

-- the depth of a part that may be absent
abbrev pub option_depth : Option ℕ → ℕ
option_depth None = 0
option_depth (Some n) = n

-- One rule, with the depth of each part in its place.
abbrev pub rule_depth_by : Rule-F ℕ → ℕ
rule_depth_by Rule-F.Skip = 1
rule_depth_by (Rule-F.Update name args value) = 1 + max (greatest (map term_depth args)) (term_depth value)
rule_depth_by (Rule-F.If guard then_rule else_rule) = 1 + max (term_depth guard) (max then_rule (option_depth else_rule))
rule_depth_by (Rule-F.Par parts) = 1 + greatest parts
rule_depth_by (Rule-F.Forall var domain guard body) = 1 + max (option_depth (option_map term_depth guard)) body
rule_depth_by (Rule-F.Choose var domain guard body else_rule) = 1 + max (term_depth guard) (max body (option_depth else_rule))
rule_depth_by (Rule-F.Let var value body) = 1 + max (term_depth value) body

-- how deep a rule is: 1, or 1 more than the deepest of its terms and rules
unfoldable pub rule_depth : Rule → ℕ
rule_depth = fold-Rule ℕ rule_depth_by

-- the answer for a part that may be absent
abbrev pub option_fits : Option Bool → Bool
option_fits None = true
option_fits (Some b) = b

-- whether there is a part, and the answer is true for all
abbrev pub some_fit : List Bool → Bool
some_fit [] = false
some_fit (b ∷ bs) = all_fit (b ∷ bs)

-- One rule, with the answer for each part in its place.
abbrev pub rule_fits_by : Rule-F Bool → Bool
rule_fits_by Rule-F.Skip = true
rule_fits_by (Rule-F.Update name args value) = all_fit (map term_fits args) && term_fits value
rule_fits_by (Rule-F.If guard then_rule else_rule) = term_fits guard && (then_rule && option_fits else_rule)
rule_fits_by (Rule-F.Par parts) = some_fit parts
rule_fits_by (Rule-F.Forall var domain guard body) = option_fits (option_map term_fits guard) && body
rule_fits_by (Rule-F.Choose var domain guard body else_rule) = term_fits guard && (body && option_fits else_rule)
rule_fits_by (Rule-F.Let var value body) = term_fits value && body

-- each number in a rule is at most 2147483647, and no `par` is empty
unfoldable pub rule_fits : Rule → Bool
rule_fits = fold-Rule Bool rule_fits_by

-- a rule no deeper than this that has a text
pub record IsRuleWithin (depth : ℕ) (r : Rule) : Type 0 where
  pub deep : rule_depth r ≤ depth
  pub fits : rule_fits r ≡ true

-- whether a rule is within a depth, as a test
unfoldable pub rule_within : ℕ → Rule → Bool
rule_within depth r = nat_le (rule_depth r) depth && rule_fits r

-- whether each of these rules is within a depth
abbrev pub rules_within : ℕ → List Rule → Bool
rules_within depth [] = true
rules_within depth (r ∷ rs) = rule_within depth r && rules_within depth rs

-- whether a guard that may be absent is within a depth
abbrev pub guard_within : ℕ → Option Term → Bool
guard_within depth None = true
guard_within depth (Some guard) = term_within depth guard

-- whether a rule that may be absent is within a depth
abbrev pub else_within : ℕ → Option Rule → Bool
else_within depth None = true
else_within depth (Some other) = rule_within depth other
