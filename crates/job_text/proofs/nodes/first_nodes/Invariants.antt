use Rattle.std.proofs.Common.{◌≡◌, length}
use Rattle.text_core.specs.Lines.{lines}
use Rattle.job_text.specs.JobFaults.{first_nodes}
use Rattle.job_text.proofs.nodes.first_nodes.Given as goal

abbrev pub invariant-seeking : goal.invariant-seeking
invariant-seeking l = first_nodes (lines l.rest) ≡ first_nodes (lines l.bytes)

abbrev pub decreases-seeking : goal.decreases-seeking
decreases-seeking l = length l.rest
