use Rattle.stab_cli.specs.ImageJob.{rom_words}
use Rattle.stab_cli.proofs.ReadJobs.{unjudged}
use Rattle.stab_cli.proofs.image_words.job_words.Goals as goal

pub returns-in-Err-clause-err : goal.returns-in-Err-clause-err
returns-in-Err-clause-err c = unjudged c.args.mode c.args.bytes.now (rom_words c.args.bytes.now) c.in-Err.end c.in-Err.ensures.judged
