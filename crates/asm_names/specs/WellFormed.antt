-- What the resolution of names makes sure of. Every number names something that is declared, functions have as many
-- arguments as are given, sorts agree as far as truth goes, binders are numbered in the order of the text, and static
-- tables have as many values as their arguments have tuples.
use Rattle.std.specs.Prelude.{◌≡◌, ℕ, ◌+◌, ◌*◌, ◌<◌, ◌≤◌, ℤ, pos, negsuc, ◌+ℤ◌, ◌≤ℤ◌, nat_abs, Bool, true, false, not, ◌&&◌, ◌||◌, ◌==◌, nat_eq, nat_le, nat_lt, List, [], ◌∷◌, map, length, slice_get, Option, Some, None, MatchOption, ◌⊎◌}
use Rattle.std.specs.List.{list_all, list_any, AllByRecursion}
use Rattle.asm_tree.specs.declared.decl.Kind.{Kind}
use Rattle.asm_tree.specs.declared.decl.Kind.TheVariants as kinds
use Rattle.asm_tree.specs.declared.term.Op.{Op}
use Rattle.asm_tree.specs.declared.term.Op.TheVariants as ops
use Rattle.asm_names.specs.declared.program.Domain.{Domain}
use Rattle.asm_names.specs.declared.program.Fun.{Fun}
use Rattle.asm_names.specs.declared.program.Resolved.{Resolved}
use Rattle.asm_names.specs.declared.resolved_term.ResolvedTerm.{ResolvedTerm, ResolvedTerm-F, out-ResolvedTerm}
use Rattle.asm_names.specs.declared.resolved_term.ResolvedTerm.TheFolds.{fold-ResolvedTerm}
use Rattle.asm_names.specs.declared.resolved_rule.ResolvedRule.{ResolvedRule, ResolvedRule-F, out-ResolvedRule}
use Rattle.asm_names.specs.declared.resolved_rule.ResolvedRule.TheFolds.{para-ResolvedRule}
use Rattle.asm_names.specs.ResolvedPlaces.{resolved_rule_binders}

-- ---- terms

-- What the values of a term are: truth values, or things, which are numbers and enumerators.
pub data Sort : Type 0 where
  truth : Sort
  thing : Sort

-- whether a term is a truth value
abbrev pub is_truth : Option Sort → Bool
is_truth None = false
is_truth (Some truth) = true
is_truth (Some thing) = false

-- whether a term is a thing
abbrev pub is_thing : Option Sort → Bool
is_thing None = false
is_thing (Some truth) = false
is_thing (Some thing) = true

-- the sort, where the test passes
abbrev pub sort_if : Bool → Sort → Option Sort
sort_if true sort = Some sort
sort_if false sort = None

-- The numbers of the binders in scope, the innermost first.
abbrev pub Bound : Type 0
Bound = List ℕ

-- whether the binder with this number is in scope
abbrev pub in_scope : Bound → ℕ → Bool
in_scope bound binder = list_any (nat_eq binder) bound

-- whether a number is from 0 to 2147483647
abbrev pub is_number : ℤ → Bool
is_number (pos n) = nat_le n 2147483647
is_number (negsuc n) = false

-- whether a function is there and has so many arguments
abbrev pub takes : Option Fun → ℕ → Bool
takes None count = false
takes (Some fun) count = length fun.args == count

-- the sort of two terms with this operator between them
abbrev pub binary_sort : Op → Option Sort → Option Sort → Option Sort
binary_sort ops.Add left right = sort_if (is_thing left && is_thing right) thing
binary_sort ops.Sub left right = sort_if (is_thing left && is_thing right) thing
binary_sort ops.Eq left right = sort_if (is_thing left && is_thing right) truth
binary_sort ops.Ne left right = sort_if (is_thing left && is_thing right) truth
binary_sort ops.Lt left right = sort_if (is_thing left && is_thing right) truth
binary_sort ops.Le left right = sort_if (is_thing left && is_thing right) truth
binary_sort ops.Gt left right = sort_if (is_thing left && is_thing right) truth
binary_sort ops.Ge left right = sort_if (is_thing left && is_thing right) truth
binary_sort ops.And left right = sort_if (is_truth left && is_truth right) truth
binary_sort ops.Or left right = sort_if (is_truth left && is_truth right) truth

-- the sort of a function's value at arguments of these sorts
abbrev pub read_sort : Option Fun → List (Option Sort) → Option Sort
read_sort fun args = sort_if (list_all is_thing args && takes fun (length args)) thing

-- One term, with the sort of each part in its place.
abbrev pub sort_by : List Fun → Bound → ResolvedTerm-F (Option Sort) → Option Sort
sort_by funs bound (ResolvedTerm-F.Number value) = sort_if (is_number value) thing
sort_by funs bound (ResolvedTerm-F.Var binder) = sort_if (in_scope bound binder) thing
sort_by funs bound (ResolvedTerm-F.Read fun args) = read_sort (slice_get funs fun) args
sort_by funs bound (ResolvedTerm-F.Binary op left right) = binary_sort op left right
sort_by funs bound (ResolvedTerm-F.Not inner) = sort_if (is_truth inner) truth
sort_by funs bound (ResolvedTerm-F.Min first second) = sort_if (is_thing first && is_thing second) thing
sort_by funs bound (ResolvedTerm-F.Max first second) = sort_if (is_thing first && is_thing second) thing
sort_by funs bound (ResolvedTerm-F.Cond guard first second) = sort_if (is_truth guard && (is_thing first && is_thing second)) thing

-- The sort of a term. It has none where a binder isn't in scope, a function isn't there or has another count of
-- arguments, a number is out of range, or a part is of the wrong sort.
unfoldable pub sort_of : List Fun → Bound → ResolvedTerm → Option Sort
sort_of funs bound = fold-ResolvedTerm (Option Sort) (sort_by funs bound)

-- ---- rules

-- whether rules may update functions of this kind
abbrev pub is_changing : Kind → Bool
is_changing kinds.Controlled = true
is_changing kinds.Output = true
is_changing kinds.Input = false
is_changing kinds.Static = false

-- whether a function is there and rules may update it
abbrev pub may_be_updated : Option Fun → Bool
may_be_updated None = false
may_be_updated (Some fun) = is_changing fun.kind

-- whether a term is the number 0
abbrev pub is_zero_by : ResolvedTerm-F ResolvedTerm → Bool
is_zero_by (ResolvedTerm-F.Number (pos n)) = n == 0
is_zero_by _ = false

-- whether a term is `(0 = 0)`
abbrev pub is_always_by : ResolvedTerm-F ResolvedTerm → Bool
is_always_by (ResolvedTerm-F.Binary ops.Eq left right) = is_zero_by (out-ResolvedTerm left) && is_zero_by (out-ResolvedTerm right)
is_always_by _ = false

-- whether a guard is `(0 = 0)` where the text has none
abbrev pub guard_stands : Bool → ResolvedTerm → Bool
guard_stands guarded guard = guarded || is_always_by (out-ResolvedTerm guard)

-- whether a rule is `skip`
abbrev pub is_skip_by : ResolvedRule-F ResolvedRule → Bool
is_skip_by ResolvedRule-F.Skip = true
is_skip_by _ = false

-- whether the rule behind `else` is `skip` where the text has none
abbrev pub else_stands : Bool → ResolvedRule → Bool
else_stands has_else else_rule = has_else || is_skip_by (out-ResolvedRule else_rule)

-- whether a binder's number is that of the binders before it in the text, below that of all binders, and not in scope
abbrev pub new_binder : Resolved → Bound → ℕ → ℕ → Bool
new_binder program bound before binder = nat_eq binder before && (nat_lt binder program.binders && not (in_scope bound binder))

-- whether a domain is there
abbrev pub has_domain : Resolved → ℕ → Bool
has_domain program domain = nat_lt domain (length program.domains)

-- a rule with whether it is well formed, by the binders in scope and the number of binders before it in the text
abbrev pub RulePart : Type 0
RulePart = ResolvedRule × (Bound → ℕ → Bool)

-- rules in turn
abbrev pub each_named : List RulePart → Bound → ℕ → Bool
each_named [] bound before = true
each_named (rule ∷ others) bound before = rule.1 bound before && each_named others bound (before + resolved_rule_binders rule.0)

-- One rule, with the answer for each part in its place.
abbrev pub named_by : Resolved → ResolvedRule-F RulePart → Bound → ℕ → Bool
named_by program ResolvedRule-F.Skip bound before = true
named_by program (ResolvedRule-F.Update fun args value) bound before =
    may_be_updated (slice_get program.funs fun)
    && (is_thing (read_sort (slice_get program.funs fun) (map (sort_of program.funs bound) args))
    && is_thing (sort_of program.funs bound value))
named_by program (ResolvedRule-F.If guard then_rule else_rule has_else) bound before =
    else_stands has_else else_rule.0
    && (is_truth (sort_of program.funs bound guard)
    && (then_rule.1 bound before
    && else_rule.1 bound (before + resolved_rule_binders then_rule.0)))
named_by program (ResolvedRule-F.Par rules) bound before = each_named rules bound before
named_by program (ResolvedRule-F.Forall binder domain guard guarded body) bound before =
    guard_stands guarded guard
    && (new_binder program bound before binder
    && (has_domain program domain
    && (is_truth (sort_of program.funs (binder ∷ bound) guard)
    && body.1 (binder ∷ bound) (before + 1))))
named_by program (ResolvedRule-F.Choose binder domain guard body else_rule has_else) bound before =
    else_stands has_else else_rule.0
    && (new_binder program bound before binder
    && (has_domain program domain
    && (is_truth (sort_of program.funs (binder ∷ bound) guard)
    && (body.1 (binder ∷ bound) (before + 1)
    && else_rule.1 bound (before + 1 + resolved_rule_binders body.0)))))
named_by program (ResolvedRule-F.Let binder value body) bound before =
    new_binder program bound before binder
    && (is_thing (sort_of program.funs bound value)
    && body.1 (binder ∷ bound) (before + 1))

-- Whether a rule is well formed, by the binders in scope and the number of binders before it in the text.
unfoldable pub rule_named : Resolved → ResolvedRule → Bound → ℕ → Bool
rule_named program = para-ResolvedRule (Bound → ℕ → Bool) (named_by program)

-- ---- declarations

-- how many values a domain has, where it is there
abbrev pub size_in : Option Domain → ℕ
size_in None = 0
size_in (Some domain) = domain.size

-- how many values the domain with this number has
abbrev pub size_of : List Domain → ℕ → ℕ
size_of domains number = size_in (slice_get domains number)

-- the product of numbers
abbrev pub product : List ℕ → ℕ
product [] = 1
product (n ∷ ns) = n * product ns

-- From 1 to 65,536 values, whose bounds are at most 1,048,576 from 0. A list domain counts its names from 0.
pub record IsDomain (domain : Domain) : Type 0 where
  pub some : 1 ≤ domain.size
  pub few : domain.size ≤ 65536
  pub low : negsuc 1048575 ≤ℤ domain.lo
  pub high : (domain.lo +ℤ pos domain.size) ≤ℤ pos 1048577
  pub names : (domain.items ≡ []) ⊎ ((length domain.items ≡ domain.size) × (domain.lo ≡ pos 0))

-- how many constants a function has: a static one has one for each tuple of arguments
abbrev pub table_length : Kind → List Domain → List ℕ → ℕ
table_length kinds.Controlled domains args = 0
table_length kinds.Output domains args = 0
table_length kinds.Input domains args = 0
table_length kinds.Static domains args = product (map (size_of domains) args)

-- At most three arguments, over domains that are there, and as many constants as the kind asks for, each from
-- -2147483647 to 2147483647.
pub record IsFun (domains : List Domain) (fun : Fun) : Type 0 where
  pub few : length fun.args ≤ 3
  pub args : AllByRecursion (λ domain. domain < length domains) fun.args
  pub codomain : fun.codomain < length domains
  pub table : length fun.table ≡ table_length fun.kind domains fun.args
  pub constants : AllByRecursion (λ constant. nat_abs constant ≤ 2147483647) fun.table

-- ---- programs

-- The legal term is a truth value and has no binders, and there is an interval for each binder of the rule.
pub record IsWellFormed (program : Resolved) : Type 0 where
  pub domains : AllByRecursion IsDomain program.domains
  pub funs : AllByRecursion (IsFun program.domains) program.funs
  pub legal : MatchOption program.legal (Unit {0}) (λ term. is_truth (sort_of program.funs [] term) ≡ true)
  pub binders : program.binders ≡ resolved_rule_binders program.rule
  pub intervals : length program.intervals ≡ program.binders
  pub rule : rule_named program program.rule [] 0 ≡ true
