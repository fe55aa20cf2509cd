use Rattle.block_code.proofs.Frame.{keeps-spared}
use Rattle.block_code.proofs.laws.spared_words_are_kept.Goals as goal

pub returns : goal.returns
returns c = keeps-spared
