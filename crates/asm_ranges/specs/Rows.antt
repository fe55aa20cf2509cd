-- The intervals of all binders of a program, by number.
use Rattle.std.specs.Prelude.{pos, Bool, true, false, List, [], ◌∷◌, replicate, slice_set, slice_get}
use Rattle.asm_names.specs.declared.program.{Domain.{Domain}, Interval.{Interval}, Resolved.{Resolved}}
use Rattle.asm_names.specs.declared.resolved_rule.ResolvedRule.{ResolvedRule, ResolvedRule-F, fold-ResolvedRule}
use Rattle.state_space.specs.{declared.signature.Signature.{Signature}, Locations.{signatures_of}}
use Rattle.asm_ranges.specs.{Ranges.{Scope, scoped, unscoped, range, just}, RangeFaults.{interval_of}}

-- the intervals of the binders by number, as far as they are found
abbrev pub Row : Type 0
Row = List Interval

-- where each of them is in scope
abbrev pub known : Row → Scope
known row binder = slice_get row binder

-- the row after rules in turn
abbrev pub after_each : List (Scope → Row → Row) → Scope → Row → Row
after_each [] scope row = row
after_each (rule ∷ others) scope row = after_each others scope (rule scope row)

-- the row after a rule behind `else`, if the text has one
abbrev pub after_else : Bool → (Scope → Row → Row) → Scope → Row → Row
after_else false other scope row = row
after_else true other scope row = other scope row

-- One rule, with what each part does to the row, by what is in scope at its place.
abbrev pub intervals_after_by : List Domain → List Signature → ResolvedRule-F (Scope → Row → Row) → Scope → Row → Row
intervals_after_by domains signatures ResolvedRule-F.Skip scope row = row
intervals_after_by domains signatures (ResolvedRule-F.Update fun args value) scope row = row
intervals_after_by domains signatures (ResolvedRule-F.If guard then_rule else_rule has_else) scope row = after_else has_else else_rule scope (then_rule scope row)
intervals_after_by domains signatures (ResolvedRule-F.Par rules) scope row = after_each rules scope row
intervals_after_by domains signatures (ResolvedRule-F.Forall binder domain guard guarded body) scope row =
    let interval = interval_of domains domain in
    body (scoped scope binder interval) (slice_set row binder interval)
intervals_after_by domains signatures (ResolvedRule-F.Choose binder domain guard body else_rule has_else) scope row =
    let interval = interval_of domains domain in
    after_else has_else else_rule scope (body (scoped scope binder interval) (slice_set row binder interval))
intervals_after_by domains signatures (ResolvedRule-F.Let binder value body) scope row =
    let interval = range signatures scope value in
    body (scoped scope binder interval) (slice_set row binder interval)

-- The row after a rule: each of its binders has an interval, that of its domain, or the plain range of its value.
unfoldable pub intervals_after : List Domain → List Signature → ResolvedRule → Scope → Row → Row
intervals_after domains signatures = fold-ResolvedRule (Scope → Row → Row) (intervals_after_by domains signatures)

-- the row before the rule of a program
abbrev pub no_intervals : Resolved → Row
no_intervals program = replicate program.binders (just (pos 0))

-- the intervals of the binders of a program, by number
abbrev pub program_intervals : Resolved → Row
program_intervals program = intervals_after program.domains (signatures_of program) program.rule unscoped (no_intervals program)
