use Rattle.block_code.proofs.Footprint.{parts-touch-only, portless-touch-nothing}
use Rattle.block_code.proofs.laws.parts_touch_only.Goals as goal

pub returns-clause-parts : goal.returns-clause-parts
returns-clause-parts c = parts-touch-only

pub returns-clause-portless : goal.returns-clause-portless
returns-clause-portless c = portless-touch-nothing
