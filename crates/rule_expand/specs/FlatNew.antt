-- The rules without loops whose numbers are short and whose `let` binders are new.
use Rattle.std.specs.Prelude.{Bool, true, false, not, ◌&&◌, Option, Some, None, is_some}
use Rattle.std.specs.List.{list_all}
use Rattle.asm_names.specs.declared.program.Resolved.{Resolved}
use Rattle.asm_names.specs.declared.binders.Binder.{Binder}
use Rattle.asm_names.specs.declared.binders.Binder.TheVariants.{Element, Local}
use Rattle.asm_names.specs.Binders.{binder_of}
use Rattle.state_space.specs.Locations.{signatures_of}
use Rattle.asm_ranges.specs.Ranges.{Scope, scoped, range}
use Rattle.bound_count.specs.ShortNumbers.{short_numbers}
use Rattle.rule_expand.specs.declared.flat.Flat.{Flat, Flat-F}
use Rattle.rule_expand.specs.declared.flat.Flat.TheFolds.{fold-Flat}

-- whether a `let` binds the binder
abbrev pub is_local : Option Binder → Bool
is_local None = false
is_local (Some (Element domain)) = false
is_local (Some Local) = true

-- one rule, with what is found of each part in its place
abbrev pub flat_new_by : Resolved → Flat-F (Scope → Bool) → Scope → Bool
flat_new_by program Flat-F.Skip scope = true
flat_new_by program (Flat-F.Update fun args value) scope = list_all short_numbers args && short_numbers value
flat_new_by program (Flat-F.Par parts) scope = list_all (λ part. part scope) parts
flat_new_by program (Flat-F.Cases list else_rule) scope = list_all (λ case. short_numbers case.0 && case.1 scope) list && else_rule scope
flat_new_by program (Flat-F.Let binder value body) scope =
    (not (is_some (scope binder)) && is_local (binder_of program.rule binder))
    && (short_numbers value && body (scoped scope binder (range (signatures_of program) scope value)))

-- Whether, where the binders of the scope are bound, each number in a rule is of 32 signed bits, and each `let` binder is not in
-- scope, and one that a `let` of the program binds.
unfoldable pub flat_new : Resolved → Flat → Scope → Bool
flat_new program = fold-Flat (Scope → Bool) (flat_new_by program)
