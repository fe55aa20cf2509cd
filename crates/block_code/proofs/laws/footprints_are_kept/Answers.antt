use Rattle.block_code.proofs.Footprint.{footprint-kept}
use Rattle.block_code.proofs.laws.footprints_are_kept.Goals as goal

pub returns : goal.returns
returns c = footprint-kept
