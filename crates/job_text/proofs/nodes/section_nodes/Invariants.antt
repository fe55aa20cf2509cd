use Rattle.std.proofs.Common.{◌≡◌, length}
use Rattle.text_core.specs.Lines.{lines}
use Rattle.job_text.specs.JobFaults.{section_nodes}
use Rattle.job_text.proofs.nodes.section_nodes.Given as goal

abbrev pub invariant-seeking : goal.invariant-seeking
invariant-seeking l = section_nodes (lines l.rest) ≡ section_nodes (lines l.text)

abbrev pub decreases-seeking : goal.decreases-seeking
decreases-seeking l = length l.rest
