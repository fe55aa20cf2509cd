use Rattle.std.proofs.Common.{ℤ, Option, None, sym, ap, ◌∙◌, subst}
use Rattle.std.specs.Prelude.{if◌then◌else◌, is_some}
use Rattle.state_space.specs.{Codomains.{In}, Locations.{signatures_of}}
use Rattle.asm_ranges.specs.{Facts.{refined}, Instances.{numbered_env, without_numbers}}
use Rattle.asm_ranges.proofs.{InstanceValues.{instance_value}, InstanceSums.{instance_defined, instance_narrow}, Standing.{term-sound}, Stands.{stands-term}}
use Rattle.asm_ranges.proofs.laws.instances_have_values.Goals as goal

pub returns-clause-values : goal.returns-clause-values
returns-clause-values c program state inputs env numbers term = (instance_value program state inputs env numbers term, instance_defined program state inputs env numbers term)

pub returns-clause-there : goal.returns-clause-there
returns-clause-there c program state inputs env numbers term place checked reads stands values known =
    let sound = (term-sound program term place (stands-term program checked term place stands)).1 state inputs (numbered_env numbers env) reads values known in (
      instance_defined program state inputs env numbers term ∙ sound.0,
      subst (λ v. In (refined (signatures_of program) place.scope term place.facts) v) (sym (instance_value program state inputs env numbers term)) sound.1,
    )

pub returns-clause-sums : goal.returns-clause-sums
returns-clause-sums c program scope numbers term fit sums =
    (instance_narrow (signatures_of program) scope (without_numbers numbers scope) numbers fit (λ b none. ap (λ (n : Option ℤ). if is_some n then None else scope b) none) term sums).1
