-- Terms whose ranges are of 32 signed bits.
use Rattle.std.specs.{Prelude.{Bool, true, ◌&&◌, List, is_some}, List.{list_all}}
use Rattle.asm_names.specs.declared.{program.Interval.{Interval}, resolved_term.ResolvedTerm.{ResolvedTerm, ResolvedTerm-F, map-ResolvedTerm, para-ResolvedTerm}}
use Rattle.state_space.specs.declared.signature.Signature.{Signature}
use Rattle.asm_ranges.specs.Ranges.{Part, Scope, inside, range, range_by, words}

-- one term, with each part and whether it is short in its place
abbrev pub short_parts : List Signature → Scope → ResolvedTerm-F Part → Bool
short_parts signatures scope (ResolvedTerm-F.Number number) = true
short_parts signatures scope (ResolvedTerm-F.Var binder) = is_some (scope binder)
short_parts signatures scope (ResolvedTerm-F.Read fun args) = list_all (λ part. part.1) args
short_parts signatures scope (ResolvedTerm-F.Binary op left right) = left.1 && right.1
short_parts signatures scope (ResolvedTerm-F.Not inner) = inner.1
short_parts signatures scope (ResolvedTerm-F.Min first second) = first.1 && second.1
short_parts signatures scope (ResolvedTerm-F.Max first second) = first.1 && second.1
short_parts signatures scope (ResolvedTerm-F.Cond guard first second) = guard.1 && (first.1 && second.1)

abbrev pub part_range : List Signature → Scope → Part → Interval
part_range signatures scope part = range signatures scope part.0

abbrev pub short_by : List Signature → Scope → ResolvedTerm-F Part → Bool
short_by signatures scope layer = inside (range_by signatures scope (map-ResolvedTerm Part Interval (part_range signatures scope) layer)) words && short_parts signatures scope layer

-- Whether binders are in scope, and the plain range of the term and of each part is of 32 signed bits.
unfoldable pub is_short : List Signature → Scope → ResolvedTerm → Bool
is_short signatures scope = para-ResolvedTerm Bool (short_by signatures scope)
