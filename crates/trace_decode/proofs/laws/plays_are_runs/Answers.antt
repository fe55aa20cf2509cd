use Rattle.trace_decode.proofs.Running.{play-is-run}
use Rattle.trace_decode.proofs.laws.plays_are_runs.Goals as goal

pub returns : goal.returns
returns c = λ rom rounds size script m feed events faults play. play-is-run rom rounds size script m feed events faults play
