-- Plain ranges: bounds of the value of each defined term, whatever guards stand around it, and what fits such intervals.
use Rattle.std.specs.Prelude.{ℕ, ℤ, pos, negsuc, ◌+ℤ◌, ◌-ℤ◌, Bool, true, ◌&&◌, ◌==◌, List, int_le, slice_index_or, slice_get, if◌then◌else◌, Option, Some, None, is_some, IfSome}
use Rattle.std.specs.{List.{list_all, AllZip, AllByRecursion}, Option.{unwrap_or}, Int.{int_min, int_max}}
use Rattle.asm_tree.specs.declared.{decl.Kind.{Kind}, term.Op.{Op}}
use Rattle.state_space.specs.{Locations.{range_of, tuples, state_locations, input_locations, signature_of, signatures_of}, declared.signature.{Signature.{Signature}}}
use Rattle.asm_names.specs.declared.{program.{Resolved.{Resolved}, Interval.{Interval}}, resolved_term.ResolvedTerm.{ResolvedTerm, ResolvedTerm-F, fold-ResolvedTerm, para-ResolvedTerm}}
use Rattle.asm_tree.specs.declared.decl.Kind.TheVariants as kinds
use Rattle.asm_tree.specs.declared.term.Op.TheVariants as ops
pub use Rattle.state_space.specs.Codomains.{In, just, whole, codomain_range, LocationsFit}

-- the intervals of the binders in scope, by number
abbrev pub Scope : Type 0
Scope = ℕ → Option Interval

-- no binder is in scope
abbrev pub unscoped : Scope
unscoped binder = None

-- one more binder is in scope
abbrev pub scoped : Scope → ℕ → Interval → Scope
scoped scope binder interval other = if other == binder then Some interval else scope other

abbrev pub truths : Interval
truths = record { lo = pos 0; hi = pos 1 }

abbrev pub hull : Interval → Interval → Interval
hull a b = record { lo = int_min a.lo b.lo; hi = int_max a.hi b.hi }

abbrev pub binary_range : Op → Interval → Interval → Interval
binary_range ops.Add a b = record { lo = a.lo +ℤ b.lo; hi = a.hi +ℤ b.hi }
binary_range ops.Sub a b = record { lo = a.lo -ℤ b.hi; hi = a.hi -ℤ b.lo }
binary_range _ a b = truths

abbrev pub lesser_range : Interval → Interval → Interval
lesser_range a b = record { lo = int_min a.lo b.lo; hi = int_min a.hi b.hi }

abbrev pub greater_range : Interval → Interval → Interval
greater_range a b = record { lo = int_max a.lo b.lo; hi = int_max a.hi b.hi }

-- the interval of a binder
abbrev pub binder_range : Scope → ℕ → Interval
binder_range scope binder = unwrap_or (scope binder) (just (pos 0))

-- one term, with the plain range of each part in its place
abbrev pub range_by : List Signature → Scope → ResolvedTerm-F Interval → Interval
range_by signatures scope (ResolvedTerm-F.Number value) = just value
range_by signatures scope (ResolvedTerm-F.Var binder) = binder_range scope binder
range_by signatures scope (ResolvedTerm-F.Read fun args) = codomain_range (slice_get signatures fun)
range_by signatures scope (ResolvedTerm-F.Binary op left right) = binary_range op left right
range_by signatures scope (ResolvedTerm-F.Not inner) = truths
range_by signatures scope (ResolvedTerm-F.Min first second) = lesser_range first second
range_by signatures scope (ResolvedTerm-F.Max first second) = greater_range first second
range_by signatures scope (ResolvedTerm-F.Cond guard first second) = hull first second

-- the plain range of a term: no guard around it counts
unfoldable pub range : List Signature → Scope → ResolvedTerm → Interval
range signatures scope = fold-ResolvedTerm Interval (range_by signatures scope)

-- one interval is inside another
abbrev pub inside : Interval → Interval → Bool
inside a b = int_le b.lo a.lo && int_le a.hi b.hi

-- the numbers of 32 bits
abbrev pub words : Interval
words = record { lo = negsuc 2147483647; hi = pos 2147483647 }

-- whether a term with this operator and this plain range is no sum or difference, or passes no 32 signed bits
abbrev pub sum_fits : Op → Interval → Bool
sum_fits ops.Add sum = inside sum words
sum_fits ops.Sub sum = inside sum words
sum_fits _ sum = true

-- a term with what is found of it
abbrev pub Part : Type 0
Part = ResolvedTerm × Bool

-- one term, with each part and whether its sums fit
abbrev pub sums_fit_by : List Signature → Scope → ResolvedTerm-F Part → Bool
sums_fit_by signatures scope (ResolvedTerm-F.Number value) = true
sums_fit_by signatures scope (ResolvedTerm-F.Var binder) = is_some (scope binder)
sums_fit_by signatures scope (ResolvedTerm-F.Read fun args) = list_all (λ part. part.1) args
sums_fit_by signatures scope (ResolvedTerm-F.Binary op left right) =
    (left.1 && right.1) && sum_fits op (binary_range op (range signatures scope left.0) (range signatures scope right.0))
sums_fit_by signatures scope (ResolvedTerm-F.Not inner) = inner.1
sums_fit_by signatures scope (ResolvedTerm-F.Min first second) = first.1 && second.1
sums_fit_by signatures scope (ResolvedTerm-F.Max first second) = first.1 && second.1
sums_fit_by signatures scope (ResolvedTerm-F.Cond guard first second) = guard.1 && (first.1 && second.1)

-- whether each binder in a term is in scope, and no sum's plain range passes 32 signed bits
unfoldable pub sums_fit : List Signature → Scope → ResolvedTerm → Bool
sums_fit signatures scope = para-ResolvedTerm Bool (sums_fit_by signatures scope)

-- each binder in scope has a value in its interval
abbrev pub EnvFits : Scope → List ℤ → Type 0
EnvFits scope env = (binder : ℕ) → IfSome (scope binder) (λ interval. In interval (slice_index_or env binder (pos 0)))

-- each value of a static function's table lies in its codomain
abbrev pub TableFits : Signature → List ℤ → Type 0
TableFits signature table = AllZip (λ args value. In (whole signature.codomain) value) (tuples signature.args) table

abbrev pub IfStatic : Kind → Type 0 → Type 0
IfStatic kinds.Controlled P = Unit {0}
IfStatic kinds.Output P = Unit {0}
IfStatic kinds.Input P = Unit {0}
IfStatic kinds.Static P = P

-- the tables of static functions lie in their codomains
abbrev pub TablesFit : Resolved → Type 0
TablesFit program = AllByRecursion (λ fun. IfStatic fun.kind (TableFits (signature_of program.domains fun) fun.table)) program.funs

-- what is read lies in the codomains
pub record ReadsFit (program : Resolved) (state inputs : List ℤ) : Type 0 where
  pub states : LocationsFit (signatures_of program) (state_locations (signatures_of program)) state
  pub readings : LocationsFit (signatures_of program) (input_locations (signatures_of program)) inputs
  pub tables : TablesFit program

-- the interval of a domain
abbrev pub domain_interval : Resolved → ℕ → Interval
domain_interval program domain = whole (range_of program.domains domain)
