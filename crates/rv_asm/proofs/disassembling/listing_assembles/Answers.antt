use Rattle.rv_asm.proofs.Back.{assembles_back}
use Rattle.rv_asm.proofs.disassembling.listing_assembles.Goals as goal

pub returns : goal.returns
returns c = assembles_back c.listing_is_line.ensures c.listing_reads.ensures
