use Rattle.std.proofs.Common.{◌≡◌, take}
use Rattle.staged_commit.specs.Code as code
use Rattle.staged_commit.proofs.output.send_line.Given as goal

abbrev pub invariant-loop-port : goal.invariant-loop-port
invariant-loop-port l = l.line ≡ code.send_cells l.map 0 (take l.port (code.output_cells l.map.signatures))
