use Rattle.rule_code.proofs.Stepping.{round-code-fits, round-code-runs-steps}
use Rattle.rule_code.proofs.laws.round_code_runs_steps.Goals as goal

pub returns-clause-fits : goal.returns-clause-fits
returns-clause-fits c = round-code-fits

pub returns-clause-steps : goal.returns-clause-steps
returns-clause-steps c = round-code-runs-steps
