use Rattle.std.proofs.Common.{refl}
use Rattle.state_space.proofs.Padding.{signature_read, sized_from}
use Rattle.bound_count.proofs.counts.padded_in.Goals as goal

pub padded_own-requires : goal.padded_own-requires
padded_own-requires c = sized_from _ _ _ c.requires (signature_read c.args.domains.now _ _ _ _ refl c.function-item.is c.loop-function-test.true)
