use Rattle.block_code.proofs.Footprint.{footprint-keeps-slots}
use Rattle.block_code.proofs.laws.footprints_keep_slots.Goals as goal

pub returns : goal.returns
returns c = footprint-keeps-slots
