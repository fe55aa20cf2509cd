-- The rules without loops whose sums fit.
use Rattle.std.specs.Prelude.{Bool, true, ◌&&◌, nat_lt}
use Rattle.std.specs.List.{list_all}
use Rattle.asm_names.specs.declared.program.Resolved.{Resolved}
use Rattle.state_space.specs.Locations.{signatures_of}
use Rattle.asm_ranges.specs.Ranges.{Scope, scoped, range, sums_fit}
use Rattle.rule_expand.specs.declared.flat.Flat.{Flat, Flat-F}
use Rattle.rule_expand.specs.declared.flat.Flat.TheFolds.{fold-Flat}

-- one rule, with what is found of each part in its place
abbrev pub flat_sums_fit_by : Resolved → Flat-F (Scope → Bool) → Scope → Bool
flat_sums_fit_by program Flat-F.Skip scope = true
flat_sums_fit_by program (Flat-F.Update fun args value) scope =
    list_all (sums_fit (signatures_of program) scope) args && sums_fit (signatures_of program) scope value
flat_sums_fit_by program (Flat-F.Par parts) scope = list_all (λ part. part scope) parts
flat_sums_fit_by program (Flat-F.Cases list else_rule) scope =
    list_all (λ case. sums_fit (signatures_of program) scope case.0 && case.1 scope) list && else_rule scope
flat_sums_fit_by program (Flat-F.Let binder value body) scope =
    nat_lt binder program.binders && (sums_fit (signatures_of program) scope value && body (scoped scope binder (range (signatures_of program) scope value)))

-- Whether, where the binders of the scope are bound, the sums of each term in a rule fit. No term has a binder that isn't in
-- its scope, and each `let` binder is one of the program's.
unfoldable pub flat_sums_fit : Resolved → Flat → Scope → Bool
flat_sums_fit program = fold-Flat (Scope → Bool) (flat_sums_fit_by program)
