use Rattle.job_text.specs.Jobs.{start_state}
use Rattle.job_text.proofs.Starts.{start_holds}
use Rattle.job_text.proofs.start.start_of.Goals as goal

pub returns-in-Ok-clause-whole : goal.returns-in-Ok-clause-whole
returns-in-Ok-clause-whole c = start_holds c.args.mode _ (start_state c.in-Ok.start) c.in-Ok.ensures
