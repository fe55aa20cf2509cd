-- The binders of a rule, and what each is.
use Rattle.std.specs.Prelude.{ℕ, nat_eq, List, [], ◌∷◌, ◌++◌, map, Option}
use Rattle.std.specs.Map.{lookup}
use Rattle.asm_names.specs.declared.binders.Binder.{Binder}
use Rattle.asm_names.specs.declared.binders.Binder.TheVariants.{Element, Local}
use Rattle.asm_names.specs.declared.resolved_rule.ResolvedRule.{ResolvedRule, ResolvedRule-F}
use Rattle.asm_names.specs.declared.resolved_rule.ResolvedRule.TheFolds.{fold-ResolvedRule}

-- binders with their numbers
abbrev pub Numbered : Type 0
Numbered = List (ℕ × Binder)

-- lists one after another
abbrev pub joined : {A : Type 0} → List (List A) → List A
joined [] = []
joined (xs ∷ others) = xs ++ joined others

-- One rule, with the binders of each part in its place.
abbrev pub binders_by : ResolvedRule-F Numbered → Numbered
binders_by ResolvedRule-F.Skip = []
binders_by (ResolvedRule-F.Update fun args value) = []
binders_by (ResolvedRule-F.If guard then_rule else_rule has_else) = then_rule ++ else_rule
binders_by (ResolvedRule-F.Par parts) = joined parts
binders_by (ResolvedRule-F.Forall binder domain guard guarded body) = (binder, Element domain) ∷ body
binders_by (ResolvedRule-F.Choose binder domain guard body else_rule has_else) = (binder, Element domain) ∷ body ++ else_rule
binders_by (ResolvedRule-F.Let binder value body) = (binder, Local) ∷ body

-- the binders of a rule, in the order of the text
unfoldable pub binders_in : ResolvedRule → Numbered
binders_in = fold-ResolvedRule Numbered binders_by

-- what the binder with this number is, by the `forall`, `choose` or `let` of the rule that binds it
abbrev pub binder_of : ResolvedRule → ℕ → Option Binder
binder_of rule number = lookup (nat_eq number) (binders_in rule)

-- what each binder of a rule is, in the order of the text
unfoldable pub kinds_in : ResolvedRule → List Binder
kinds_in rule = map (λ entry. entry.1) (binders_in rule)
