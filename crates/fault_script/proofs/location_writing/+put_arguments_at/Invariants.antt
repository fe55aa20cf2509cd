use Rattle.std.proofs.Common.{length}
use Rattle.fault_script.proofs.location_writing.+put_arguments_at.Given as goal

abbrev pub decreases-put_arguments_at : goal.decreases-put_arguments_at
decreases-put_arguments_at l = length l.numbers.now
