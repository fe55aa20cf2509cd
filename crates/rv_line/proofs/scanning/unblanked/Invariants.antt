use Rattle.std.proofs.Common.{◌≡◌, length}
use Rattle.rv_line.specs.Pieces.{unblanked}
use Rattle.rv_line.proofs.scanning.unblanked.Given as goal

abbrev pub invariant-blanks : goal.invariant-blanks
invariant-blanks l = unblanked l.rest ≡ unblanked l.text

abbrev pub decreases-blanks : goal.decreases-blanks
decreases-blanks l = length l.rest
