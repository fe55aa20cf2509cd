-- What a program in numbers needs is one thing, and the machine has it or not.
use Rattle.std.proofs.Common.{◌≡◌, ◌∙◌, Result, Ok, Err, refl, sym, ap}
use Rattle.asm_names.specs.Resolving.{Resolves}
use Rattle.asm_names.specs.declared.program.Resolved.{Resolved}
use Rattle.asm_tree.specs.Programs.{Parts}
use Rattle.bound_count.specs.Refusals.{needs_of}
use Rattle.bound_count.specs.declared.numbers.NeedEnd.{NeedEnd}
use Rattle.bound_count.specs.declared.numbers.Numbers.{Numbers}
use Rattle.bound_count.specs.declared.shape.Shape.TheVariants.{Unrolled}
use Rattle.state_layout.specs.declared.layout.Layout.TheVariants.{Words}
use Rattle.round_spec.specs.Round.{Compiled}
use Rattle.rule_code.specs.CompileEnds.{AnswersNeeds}
use Rattle.rule_code.specs.declared.compiling.CompileEnd.{CompileEnd}
use Rattle.rule_code.specs.declared.compiling.CompileEnd.TheVariants.{Needs}
use Rattle.stab_cli.specs.CompileVerdict.{IsBuildable, machine_needs, needs_found}
use Rattle.stab_cli.specs.Stages.{IsOne}
use Rattle.stab_cli.specs.declared.machine_sizes.TheConstants.{RAM_BYTES, ROM_BYTES}
use Rattle.stab_cli.specs.declared.refusal.Refusal.{Refusal}
use Rattle.stab_cli.specs.declared.refusal.Refusal.TheVariants.{TooMuch}

-- the source of what the code finds
abbrev pub source_in : Resolved × Compiled → Parts
source_in found = found.0.source

-- the needs are those of the calls
pub needs-are : (numbers : Resolved) → machine_needs numbers ≡ needs_of ROM_BYTES RAM_BYTES Unrolled Words numbers
unfolding machine_needs
needs-are numbers = refl

one_need : (parts : Parts) (first second : Resolved) → Resolves parts first → Resolves parts second → machine_needs first ≡ machine_needs second
unfolding machine_needs
one_need parts first second one two = rw (one.domains, one.funs, one.binders, one.rule, two.domains, two.funs, two.binders, two.rule) refl

module _ (numbers : Resolved) (resolves : Resolves numbers.source numbers) where
  one_built : (found : Result Parts Refusal) → found ≡ needs_found numbers.source (machine_needs numbers) → IsOne (IsBuildable numbers.source) found
  one_built found says = (
    record { numbers = numbers; resolves = resolves; says = says },
    λ other is. is.says ∙ ap (needs_found numbers.source) (one_need numbers.source is.numbers numbers is.resolves resolves) ∙ sym says,
  )

  is_buildable : (has : Numbers) → machine_needs numbers ≡ Ok has → IsOne (IsBuildable numbers.source) (Ok numbers.source)
  is_buildable has is = one_built (Ok numbers.source) (rw is refl)

  needs_too_much : (end : NeedEnd) → machine_needs numbers ≡ Err end → IsOne (IsBuildable numbers.source) (Err (TooMuch end))
  needs_too_much end is = one_built (Err (TooMuch end)) (rw is refl)

  -- what is compiled is buildable
  pub built_is_buildable : (answer : Result Numbers NeedEnd) → machine_needs numbers ≡ answer → (built : Compiled) → AnswersNeeds answer (Ok built) → IsOne (IsBuildable numbers.source) (Ok numbers.source)
  built_is_buildable (Ok has) is built answers = is_buildable has is
  built_is_buildable (Err end) is built answers = absurd (cc)

  -- what isn't for its needs is refused for them
  pub needs_refuse : (answer : Result Numbers NeedEnd) → machine_needs numbers ≡ answer → (found : CompileEnd) (end : NeedEnd) → found ≡ Needs end
      → AnswersNeeds answer (Err found) → IsOne (IsBuildable numbers.source) (Err (TooMuch end))
  needs_refuse (Ok has) is found end same answers = absurd (cc)
  needs_refuse (Err need) is found end same answers = let e : need ≡ end = cc in needs_too_much end (is ∙ ap Err e)
