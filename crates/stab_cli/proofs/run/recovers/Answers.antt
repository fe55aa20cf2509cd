use Rattle.std.proofs.Common.{subst}
use Rattle.std.specs.List.{AllByRecursion}
use Rattle.fault_script.specs.Standings.{started}
use Rattle.state_space.specs.Locations.{signatures_of}
use Rattle.state_space.specs.Sizes.{IsSized}
use Rattle.stab_cli.specs.declared.machine_sizes.TheConstants.{RAM_BYTES, ROM_BYTES}
use Rattle.stab_cli.proofs.Traces.{memory_sized, stable}
use Rattle.stab_cli.proofs.run.recovers.Goals as goal

pub returns : goal.returns
returns c =
    let program = c.args.program.now in
    let built = c.args.image.now in
    let start = started c.args.hart.now c.args.readings.now in
    let is = stable program built c.requires in
    let sized = subst (λ p. AllByRecursion IsSized (signatures_of p)) c.resolved.ensures.program c.resolved_functions_are_sized.ensures in
    record {
      bounds = c.plays_keep_bounds.ensures ROM_BYTES RAM_BYTES program built start memory_sized is c.pc.ensures.valid;
      legal = c.plays_become_legal.ensures ROM_BYTES RAM_BYTES program built start memory_sized is c.pc.ensures.valid sized;
    }
