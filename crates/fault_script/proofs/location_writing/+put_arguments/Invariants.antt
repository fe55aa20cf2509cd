use Rattle.std.proofs.Common.{length}
use Rattle.fault_script.proofs.location_writing.+put_arguments.Given as goal

abbrev pub decreases-put_arguments : goal.decreases-put_arguments
decreases-put_arguments l = length l.numbers.now
