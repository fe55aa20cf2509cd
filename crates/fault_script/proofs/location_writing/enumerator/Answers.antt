use Rattle.std.proofs.Common.{◌≡◌, ℤ, pos, negsuc, [], None, refl, ap, ◌∙◌}
use Rattle.asm_names.specs.declared.program.Domain.{Domain}
use Rattle.state_space.specs.Locations.{no_domain}
use Rattle.state_space.proofs.Positions.{no_item}
use Rattle.fault_script.specs.StateText.{enumerator}
use Rattle.fault_script.proofs.location_writing.enumerator.Goals as goal

without : (value : ℤ) → None ≡ enumerator [] value
without (pos k) = refl
without (negsuc k) = refl

pub returns-in-None : goal.returns-in-None
returns-in-None c =
    without c.args.value ∙ ap (λ (d : Domain). enumerator d.items c.args.value) (no_item c.args.domains.now c.args.number no_domain c.in-None.ensures)
