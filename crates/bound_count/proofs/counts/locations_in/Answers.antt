use Rattle.std.proofs.Common.{refl}
use Rattle.state_space.proofs.Padding.{signature_read, sized_from}
use Rattle.bound_count.specs.Groups.{of_group}
use Rattle.bound_count.proofs.Counting.{counted-all}
use Rattle.bound_count.proofs.counts.locations_in.Goals as goal

pub locations_own-requires : goal.locations_own-requires
locations_own-requires c = sized_from _ _ _ c.requires (signature_read c.args.domains.now _ _ _ _ refl c.function-item.is c.loop-function-test.true)

pub returns : goal.returns
returns c =
    counted-all (of_group c.args.group) c.args.domains.now c.args.functions.now c.loop-function.function-index c.loop-function.total
    c.loop-function-test.false c.loop-function.invariant
