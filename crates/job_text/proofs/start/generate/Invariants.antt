use Rattle.std.proofs.Common.{◌≡◌, ◌-◌, ◌++◌}
use Rattle.job_text.specs.Start.{after, generated}
use Rattle.job_text.proofs.start.generate.Given as goal

abbrev pub invariant-loop-index : goal.invariant-loop-index
invariant-loop-index l = record {
  values : l.values.items ++ generated (l.count - l.index) l.last ≡ generated l.count l.value;
  last : after (l.count - l.index) l.last ≡ after l.count l.value;
}
