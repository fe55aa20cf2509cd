-- The rules without loops that code is written for.
use Rattle.std.specs.Prelude.{Bool, true, ◌&&◌, not, nat_lt, is_some}
use Rattle.std.specs.List.{list_all}
use Rattle.asm_names.specs.declared.program.Resolved.{Resolved}
use Rattle.state_space.specs.Locations.{signatures_of}
use Rattle.asm_ranges.specs.Ranges.{Scope, range, scoped, sums_fit}
use Rattle.instr_select.specs.{Binders.{binder_domain}, Short.{is_short}}
use Rattle.rule_expand.specs.declared.flat.Flat.{Flat, Flat-F}
use Rattle.rule_expand.specs.declared.flat.Flat.TheFolds.{fold-Flat}

-- one rule, with what is found of each part in its place
abbrev pub flat_short_by : Resolved → Flat-F (Scope → Bool) → Scope → Bool
flat_short_by program Flat-F.Skip scope = true
flat_short_by program (Flat-F.Update fun args value) scope = list_all (is_short (signatures_of program) scope) args && is_short (signatures_of program) scope value
flat_short_by program (Flat-F.Par parts) scope = list_all (λ part. part scope) parts
flat_short_by program (Flat-F.Cases list other) scope = list_all (λ case. is_short (signatures_of program) scope case.0 && case.1 scope) list && other scope
flat_short_by program (Flat-F.Let binder value body) scope =
    (nat_lt binder program.binders && (not (is_some (scope binder)) && not (is_some (binder_domain program.rule binder))))
    && ((is_short (signatures_of program) scope value && sums_fit (signatures_of program) scope value) && body (scoped scope binder (range (signatures_of program) scope value)))

-- Whether, where the binders of the scope are bound, all numbers in each term of a rule are of 32 signed bits, and each `let`
-- binder is one of the program's, not in scope, and no loop's.
unfoldable pub flat_short : Resolved → Flat → Scope → Bool
flat_short program = fold-Flat (Scope → Bool) (flat_short_by program)
