use Rattle.block_code.proofs.Leads.{led-round}
use Rattle.block_code.proofs.laws.led_blocks_go_round.Goals as goal

pub returns : goal.returns
returns c = led-round
