-- What the guards around a place of a program say there.
use Rattle.std.specs.Prelude.{ℕ, ℤ, pos, ◌+ℤ◌, ◌-ℤ◌, Bool, true, false, not, ◌&&◌, ◌==◌, List, [], ◌∷◌, map, int_le, slice_get, if◌then◌else◌}
use Rattle.std.specs.{Int.{int_min, int_max}, Ordering.{int_eq}}
use Rattle.asm_tree.specs.declared.term.Op.{Op}
use Rattle.asm_tree.specs.contracts.term.Op as op
use Rattle.asm_names.specs.declared.{program.Interval.{Interval}, resolved_term.ResolvedTerm.{ResolvedTerm, ResolvedTerm-F, out-ResolvedTerm, fold-ResolvedTerm, para-ResolvedTerm}}
use Rattle.state_space.specs.declared.signature.Signature.{Signature}
use Rattle.asm_ranges.specs.Ranges.{Scope, range, binder_range, codomain_range, just, truths, hull, binary_range, lesser_range, greater_range}
use Rattle.asm_tree.specs.declared.term.Op.TheVariants as ops
use Rattle.asm_names.specs.declared.resolved_term.ResolvedTerm.TheVariants as terms
use denote.Enum.Bare.{sameb}

-- That a guard holds, that it fails, or that a `let` binder has a value in an interval.
pub data Fact : Type 0 where
  Held : ResolvedTerm → Fact
  Failed : ResolvedTerm → Fact
  Bounded : ℕ → Interval → Fact

-- what is known at a place, the innermost fact first
abbrev pub Facts : Type 0
Facts = List Fact

-- ---- equal terms

unfoldable pub same_op : Op → Op → Bool
same_op = sameb op.the_type

-- lists of equal terms
abbrev pub each_same : List (ResolvedTerm → Bool) → List ResolvedTerm → Bool
each_same [] [] = true
each_same [] (other ∷ others) = false
each_same (term ∷ terms) [] = false
each_same (term ∷ terms) (other ∷ others) = term other && each_same terms others

-- one term, each of whose parts tells what it is the same as
abbrev pub same_by : ResolvedTerm-F (ResolvedTerm → Bool) → ResolvedTerm-F ResolvedTerm → Bool
same_by (ResolvedTerm-F.Number value) (ResolvedTerm-F.Number other) = int_eq value other
same_by (ResolvedTerm-F.Var binder) (ResolvedTerm-F.Var other) = binder == other
same_by (ResolvedTerm-F.Read fun args) (ResolvedTerm-F.Read other others) = (fun == other) && each_same args others
same_by (ResolvedTerm-F.Binary op left right) (ResolvedTerm-F.Binary other first second) = same_op op other && (left first && right second)
same_by (ResolvedTerm-F.Not inner) (ResolvedTerm-F.Not other) = inner other
same_by (ResolvedTerm-F.Min left right) (ResolvedTerm-F.Min first second) = left first && right second
same_by (ResolvedTerm-F.Max left right) (ResolvedTerm-F.Max first second) = left first && right second
same_by (ResolvedTerm-F.Cond guard left right) (ResolvedTerm-F.Cond other first second) = guard other && (left first && right second)
same_by _ _ = false

-- whether two terms are the same tree
unfoldable pub same : ResolvedTerm → ResolvedTerm → Bool
same = fold-ResolvedTerm (ResolvedTerm → Bool) (λ x other. same_by x (out-ResolvedTerm other))

-- ---- cuts

-- the comparison that holds where this one fails
abbrev pub opposite : Op → Op
opposite ops.Eq = ops.Ne
opposite ops.Ne = ops.Eq
opposite ops.Lt = ops.Ge
opposite ops.Ge = ops.Lt
opposite ops.Gt = ops.Le
opposite ops.Le = ops.Gt
opposite ops.Add = ops.Add
opposite ops.Sub = ops.Sub
opposite ops.And = ops.And
opposite ops.Or = ops.Or

-- the comparison with its sides exchanged
abbrev pub mirrored : Op → Op
mirrored ops.Eq = ops.Eq
mirrored ops.Ne = ops.Ne
mirrored ops.Lt = ops.Gt
mirrored ops.Ge = ops.Le
mirrored ops.Gt = ops.Lt
mirrored ops.Le = ops.Ge
mirrored ops.Add = ops.Add
mirrored ops.Sub = ops.Sub
mirrored ops.And = ops.And
mirrored ops.Or = ops.Or

-- an interval without a number that is one of its ends; of two such ends the greatest goes
abbrev pub without : ℤ → Interval → Interval
without value found =
    if int_eq found.hi value then record { lo = found.lo; hi = found.hi -ℤ pos 1 } else (if int_eq found.lo value then record { lo = found.lo +ℤ pos 1; hi = found.hi } else found)

-- an interval cut by what a comparison with values of another says of those on its left
abbrev pub compared : Op → Interval → Interval → Interval
compared ops.Eq other found = record { lo = int_max found.lo other.lo; hi = int_min found.hi other.hi }
compared ops.Ne other found = if int_eq other.lo other.hi then without other.lo found else found
compared ops.Lt other found = record { lo = found.lo; hi = int_min found.hi (other.hi -ℤ pos 1) }
compared ops.Le other found = record { lo = found.lo; hi = int_min found.hi other.hi }
compared ops.Gt other found = record { lo = int_max found.lo (other.lo +ℤ pos 1); hi = found.hi }
compared ops.Ge other found = record { lo = int_max found.lo other.lo; hi = found.hi }
compared _ other found = found

-- a cut that would leave no value isn't made
abbrev pub cut_to : Interval → Interval → Interval
cut_to found cut = if int_le cut.lo cut.hi then cut else found

-- the left side's interval after a comparison, where it is the atom
abbrev pub cut_left : List Signature → Scope → ResolvedTerm → Op → ResolvedTerm → ResolvedTerm → Interval → Interval
cut_left signatures scope atom op left right found = if same left atom then cut_to found (compared op (range signatures scope right) found) else found

-- a comparison cuts its left side, and then its right side as the mirrored comparison does
abbrev pub cut_sides : List Signature → Scope → ResolvedTerm → Op → ResolvedTerm → ResolvedTerm → Interval → Interval
cut_sides signatures scope atom op left right found = cut_left signatures scope atom (mirrored op) right left (cut_left signatures scope atom op left right found)

-- a term with its cut, where the term has this truth
abbrev pub Cutting : Type 0
Cutting = ResolvedTerm × (Bool → Interval → Interval)

-- Two terms with an operator between them: what holds on both sides of `and` cuts in turn, and so does what fails on both
-- sides of `or`.
abbrev pub cut_binary : List Signature → Scope → ResolvedTerm → Op → Cutting → Cutting → Bool → Interval → Interval
cut_binary signatures scope atom ops.And left right true found = right.1 true (left.1 true found)
cut_binary signatures scope atom ops.And left right false found = found
cut_binary signatures scope atom ops.Or left right true found = found
cut_binary signatures scope atom ops.Or left right false found = right.1 false (left.1 false found)
cut_binary signatures scope atom op left right true found = cut_sides signatures scope atom op left.0 right.0 found
cut_binary signatures scope atom op left right false found = cut_sides signatures scope atom (opposite op) left.0 right.0 found

-- one guard, with the cut of each part in its place
abbrev pub cut_by : List Signature → Scope → ResolvedTerm → ResolvedTerm-F Cutting → Bool → Interval → Interval
cut_by signatures scope atom (ResolvedTerm-F.Binary op left right) truth found = cut_binary signatures scope atom op left right truth found
cut_by signatures scope atom (ResolvedTerm-F.Not inner) truth found = inner.1 (not truth) found
cut_by signatures scope atom _ truth found = found

-- an atom's interval, cut by a guard that has this truth
unfoldable pub cut : List Signature → Scope → ResolvedTerm → ResolvedTerm → Bool → Interval → Interval
cut signatures scope atom = para-ResolvedTerm (Bool → Interval → Interval) (cut_by signatures scope atom)

-- an atom's interval, cut by one fact
abbrev pub cut_by_fact : List Signature → Scope → ResolvedTerm → Fact → Interval → Interval
cut_by_fact signatures scope atom (Held guard) found = cut signatures scope atom guard true found
cut_by_fact signatures scope atom (Failed guard) found = cut signatures scope atom guard false found
cut_by_fact signatures scope atom (Bounded binder interval) found = found

-- an atom's interval, cut by all facts, the outermost first
abbrev pub cut_by_facts : List Signature → Scope → ResolvedTerm → Facts → Interval → Interval
cut_by_facts signatures scope atom [] found = found
cut_by_facts signatures scope atom (fact ∷ outer) found = cut_by_fact signatures scope atom fact (cut_by_facts signatures scope atom outer found)

-- ---- refined ranges

-- a binder's interval before any cut: what its `let` bound it to, or else its plain range
abbrev pub begun : Scope → ℕ → Facts → Interval
begun scope binder [] = binder_range scope binder
begun scope binder (Held guard ∷ outer) = begun scope binder outer
begun scope binder (Failed guard ∷ outer) = begun scope binder outer
begun scope binder (Bounded other interval ∷ outer) = if other == binder then interval else begun scope binder outer

-- a term with its refined range, by the facts that are known where it stands
abbrev pub Refining : Type 0
Refining = ResolvedTerm × (Facts → Interval)

-- one term, with each part and its refined range
abbrev pub refined_by : List Signature → Scope → ResolvedTerm-F Refining → Facts → Interval
refined_by signatures scope (ResolvedTerm-F.Number value) facts = just value
refined_by signatures scope (ResolvedTerm-F.Var binder) facts = cut_by_facts signatures scope (terms.Var binder) facts (begun scope binder facts)
refined_by signatures scope (ResolvedTerm-F.Read fun args) facts =
    cut_by_facts signatures scope (terms.Read fun (map (λ arg. arg.0) args)) facts (codomain_range (slice_get signatures fun))
refined_by signatures scope (ResolvedTerm-F.Binary op left right) facts = binary_range op (left.1 facts) (right.1 facts)
refined_by signatures scope (ResolvedTerm-F.Not inner) facts = truths
refined_by signatures scope (ResolvedTerm-F.Min first second) facts = lesser_range (first.1 facts) (second.1 facts)
refined_by signatures scope (ResolvedTerm-F.Max first second) facts = greater_range (first.1 facts) (second.1 facts)
refined_by signatures scope (ResolvedTerm-F.Cond guard first second) facts = hull (first.1 (Held guard.0 ∷ facts)) (second.1 (Failed guard.0 ∷ facts))

-- the refined range of a term, by the facts that are known where it stands
unfoldable pub refined : List Signature → Scope → ResolvedTerm → Facts → Interval
refined signatures scope = para-ResolvedTerm (Facts → Interval) (refined_by signatures scope)
