use Rattle.std.proofs.Common.{◌≡◌, ◌++◌, drop, take}
use Rattle.rv_line.specs.Pieces.{without_comment}
use Rattle.rv_line.proofs.reading.without_comment.Given as goal

abbrev pub invariant-loop-index : goal.invariant-loop-index
invariant-loop-index l = take l.index l.line ++ without_comment (drop l.index l.line) ≡ without_comment l.line
