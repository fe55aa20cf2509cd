use Rattle.std.proofs.Common.{append_assoc, rules}
use Rattle.job_text.proofs.Generator.{after_next, generated_next}
use Rattle.job_text.proofs.start.generate.Goals as goal

pub loop-index-preserved : goal.loop-index-preserved
loop-index-preserved c = search (rules, append_assoc, generated_next, after_next)
