-- The faults of names and sorts in rules. `binders` is the number of binders before the rule.
use Rattle.std.specs.Prelude.{ℕ, ◌+◌, Bool, true, false, not, is_some, nat_eq, List, [], ◌∷◌, ◌++◌, length, map, Option, Some, None}
use Rattle.asm_tree.specs.declared.decl.Kind.{Kind}
use Rattle.asm_tree.specs.declared.decl.Kind.TheVariants as kinds
use Rattle.asm_tree.specs.declared.term.Term.{Term}
use Rattle.asm_tree.specs.declared.rule.Rule.{Rule, Rule-F}
use Rattle.asm_tree.specs.declared.rule.Rule.TheFolds.{para-Rule}
use Rattle.asm_names.specs.declared.fault.NameFault.TheVariants as causes
use Rattle.asm_names.specs.declared.sort.Sort.{Sort}
use Rattle.asm_names.specs.declared.sort.Sort.TheVariants as sorts
use Rattle.asm_names.specs.declared.sort.Need.{Need}
use Rattle.asm_names.specs.declared.sort.Need.TheVariants as needs
use Rattle.asm_names.specs.Faults.{Fault, fault}
use Rattle.asm_names.specs.Sorts.{same_as}
use Rattle.asm_names.specs.Meanings.{Meaning, Function, Binder, Scope, meaning_of, sort_of_domain}
use Rattle.asm_names.specs.Places.{term_tokens, rule_tokens, rule_binders, in_parentheses, with_tokens}
use Rattle.asm_names.specs.TermFaults.{Part, each_faults, term_sort, term_faults}

-- terms with their faults
abbrev pub parts : Scope → List Term → List Part
parts scope = map (λ t. (t, term_faults scope t))

-- ---- updates

-- whether no rule may update functions of this kind
abbrev pub is_fixed : Kind → Bool
is_fixed kinds.Input = true
is_fixed kinds.Static = true
is_fixed _ = false

-- faults of the name of an updated function, with so many terms behind it
abbrev pub target_faults : Option Meaning → ℕ → ℕ → List Fault
target_faults (Some (Function number kind args values)) count at =
    fault causes.Count at (not (nat_eq (length args) count)) ++ fault causes.NotUpdatable at (is_fixed kind)
target_faults _ count at = fault causes.Unknown at true

-- what the updated function needs of its new value
abbrev pub target_need : Option Meaning → Need
target_need (Some (Function number kind args values)) = same_as values
target_need _ = needs.Anything

-- the sorts of the terms of an updated function
abbrev pub target_sorts : Option Meaning → List (Option Sort)
target_sorts (Some (Function number kind args values)) = args
target_sorts _ = []

-- ---- binders

-- the fault of a name that is declared or bound here
abbrev pub declared_faults : Scope → List ℕ → ℕ → List Fault
declared_faults scope name at = fault causes.Repeated at (is_some (meaning_of scope name))

-- the fault of a name in the place of a domain
abbrev pub domain_faults : Scope → List ℕ → ℕ → List Fault
domain_faults scope name at = fault causes.Unknown at (not (is_some (sort_of_domain (meaning_of scope name))))

-- the names in the scope of a binder, which come after those before it
abbrev pub bound : Scope → List ℕ → ℕ → Option Sort → Scope
bound scope var number sort = scope ++ (var, Binder number sort) ∷ []

-- ---- rules

-- a rule with its faults by the names in scope, the number of its first token and the number of binders before it
abbrev pub RulePart : Type 0
RulePart = Rule × (Scope → ℕ → ℕ → List Fault)

-- the faults of a guard whose first token has this number, if there is one
abbrev pub guard_faults : Scope → Option Term → ℕ → List Fault
guard_faults scope None at = []
guard_faults scope (Some guard) at = term_faults scope guard (needs.Only sorts.Truth) at

-- a rule behind `else`, which is the token at this number
abbrev pub else_faults : Scope → Option RulePart → ℕ → ℕ → List Fault
else_faults scope None at binders = []
else_faults scope (Some other) at binders = other.1 scope (at + 1) binders

-- rules in turn, the token before the first of which has this number
abbrev pub each_rule_faults : Scope → List RulePart → ℕ → ℕ → List Fault
each_rule_faults scope [] at binders = []
each_rule_faults scope (rule ∷ others) at binders =
    rule.1 scope (at + 1) binders
    ++ each_rule_faults scope others (at + 1 + rule_tokens rule.0) (binders + rule_binders rule.0)

-- One rule, with the faults of each part in its place.
abbrev pub rule_faults_by : Rule-F RulePart → Scope → ℕ → ℕ → List Fault
rule_faults_by Rule-F.Skip scope at binders = []
rule_faults_by (Rule-F.Update name args value) scope at binders =
    target_faults (meaning_of scope name) (length args) at
    ++ (each_faults (target_sorts (meaning_of scope name)) (parts scope args) (at + 2)
    ++ term_faults scope value (target_need (meaning_of scope name)) (at + 1 + in_parentheses (map term_tokens args) + 1))
rule_faults_by (Rule-F.If guard then_rule else_rule) scope at binders =
    let then_at = at + 1 + term_tokens guard + 1 in
    term_faults scope guard (needs.Only sorts.Truth) (at + 1)
    ++ (then_rule.1 scope then_at binders
    ++ else_faults scope else_rule (then_at + rule_tokens then_rule.0) (binders + rule_binders then_rule.0))
rule_faults_by (Rule-F.Par rules) scope at binders = each_rule_faults scope rules at binders
rule_faults_by (Rule-F.Forall var domain guard body) scope at binders =
    let inner = bound scope var binders (sort_of_domain (meaning_of scope domain)) in
    declared_faults scope var (at + 1)
    ++ (domain_faults scope domain (at + 3)
    ++ (guard_faults inner guard (at + 5)
    ++ body.1 inner (at + 4 + with_tokens guard + 1) (binders + 1)))
rule_faults_by (Rule-F.Choose var domain guard body else_rule) scope at binders =
    let inner = bound scope var binders (sort_of_domain (meaning_of scope domain)) in
    let body_at = at + 5 + term_tokens guard + 1 in
    declared_faults scope var (at + 1)
    ++ (domain_faults scope domain (at + 3)
    ++ (term_faults inner guard (needs.Only sorts.Truth) (at + 5)
    ++ (body.1 inner body_at (binders + 1)
    ++ else_faults scope else_rule (body_at + rule_tokens body.0) (binders + 1 + rule_binders body.0))))
rule_faults_by (Rule-F.Let var value body) scope at binders =
    declared_faults scope var (at + 1)
    ++ (term_faults scope value needs.NotTruth (at + 3)
    ++ body.1 (bound scope var binders (term_sort scope value)) (at + 3 + term_tokens value + 1) (binders + 1))

-- the faults of a rule whose first token has this number, with so many binders before it
unfoldable pub rule_faults : Rule → Scope → ℕ → ℕ → List Fault
rule_faults = para-Rule (Scope → ℕ → ℕ → List Fault) rule_faults_by
