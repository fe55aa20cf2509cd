use Rattle.std.proofs.Common.{◌≡◌, ◌++◌, drop}
use Rattle.job_text.proofs.start.words_of.Given as goal

abbrev pub invariant-loop-value : goal.invariant-loop-value
invariant-loop-value l = l.words ++ drop l.value-index l.values ≡ l.values
