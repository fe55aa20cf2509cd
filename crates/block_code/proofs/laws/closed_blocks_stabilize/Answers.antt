use Rattle.block_code.proofs.Home.{comes-home, comes-home-soon, goes-round}
use Rattle.block_code.proofs.laws.closed_blocks_stabilize.Goals as goal

pub returns-clause-comes_home : goal.returns-clause-comes_home
returns-clause-comes_home c = comes-home

pub returns-clause-comes_soon : goal.returns-clause-comes_soon
returns-clause-comes_soon c = comes-home-soon

pub returns-clause-goes_round : goal.returns-clause-goes_round
returns-clause-goes_round c = goes-round
