use Rattle.rv_line.proofs.Listing.{line_reads}
use Rattle.rv_line.proofs.laws.listing_reads.Goals as goal

pub returns : goal.returns
returns c = line_reads
