use Rattle.block_code.proofs.Home.{table-falls-through}
use Rattle.block_code.proofs.laws.table_words_fall_through.Goals as goal

pub returns : goal.returns
returns c = table-falls-through
