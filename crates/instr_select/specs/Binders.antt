-- Over which domain a rule binds a binder.
use Rattle.std.specs.Prelude.{ℕ, Option, Some, None}
use Rattle.std.specs.Option.{option_map}
use Rattle.asm_names.specs.Binders.{binder_of}
use Rattle.asm_names.specs.declared.{binders.Binder.{Binder}, program.Resolved.{Resolved}, resolved_rule.ResolvedRule.{ResolvedRule}}
use Rattle.asm_names.specs.declared.binders.Binder.TheVariants.{Element, Local}
use Rattle.state_space.specs.{declared.signature.Range.{Range}, Locations.{range_of}}

-- the number of the domain whose elements a binder stands for; none where a `let` binds it
abbrev pub element_domain : Option Binder → Option ℕ
element_domain None = None
element_domain (Some Local) = None
element_domain (Some (Element domain)) = Some domain

-- the number of the domain over which a `forall` or a `choose` of the rule binds the binder; none where a `let` binds it
unfoldable pub binder_domain : ResolvedRule → ℕ → Option ℕ
binder_domain rule binder = element_domain (binder_of rule binder)

-- that domain's values
abbrev pub binder_range : Resolved → ℕ → Option Range
binder_range program binder = option_map (range_of program.domains) (binder_domain program.rule binder)
