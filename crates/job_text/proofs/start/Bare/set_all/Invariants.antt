use Rattle.std.proofs.Common.{◌≡◌, drop}
use Rattle.job_text.specs.Start.{with_edits}
use Rattle.job_text.proofs.start.Bare.set_all.Given as goal

abbrev pub invariant-loop-edit : goal.invariant-loop-edit
invariant-loop-edit l = with_edits l.self (drop l.edit-index l.edits) ≡ with_edits l.initial.self l.edits
