use Rattle.stab_cli.specs.ByMode.{IsText, IsVerdict}
use Rattle.stab_cli.proofs.decision.text.Goals as goal

pub returns-in-Check : goal.returns-in-Check
unfolding IsVerdict IsText
returns-in-Check c = rw c.in-Check.is c.text.ensures

pub returns-in-Compile : goal.returns-in-Compile
unfolding IsVerdict IsText
returns-in-Compile c = rw c.in-Compile.is c.text-in-Compile.ensures

pub returns-in-Model : goal.returns-in-Model
unfolding IsVerdict IsText
returns-in-Model c = rw c.in-Model.is c.text-in-Model.ensures
