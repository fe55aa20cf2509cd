use Rattle.std.proofs.Common.{◌∙◌, sym}
use Rattle.job_text.specs.Jobs.{job_state}
use Rattle.stab_cli.proofs.ReadJobs.{built, unbuilt, unread}
use Rattle.stab_cli.proofs.built_job.built_job.Goals as goal

pub returns-in-Err-clause-judged : goal.returns-in-Err-clause-judged
returns-in-Err-clause-judged c = rw c.from.ensures (unread c.args.mode c.args.bytes.now c.in-Err.end c.in-Err.ensures.answer)

pub returns-in-Ok-clause-judged : goal.returns-in-Ok-clause-judged
returns-in-Ok-clause-judged c =
    built c.args.mode c.args.bytes.now (job_state c.in-Ok.job) c.in-Ok.ensures.answer (sym c.is_built.ensures ∙ c.if-is_built.true)

pub returns-in-Ok-2-clause-judged : goal.returns-in-Ok-2-clause-judged
returns-in-Ok-2-clause-judged c =
    unbuilt c.args.mode c.args.bytes.now (job_state c.in-Ok.job) c.in-Ok.ensures.answer (sym c.is_built.ensures ∙ c.if-is_built.false)
