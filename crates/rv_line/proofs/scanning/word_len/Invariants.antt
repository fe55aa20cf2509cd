use Rattle.std.proofs.Common.{◌≡◌, ◌+◌, drop}
use Rattle.rv_line.specs.Pieces.{word_len}
use Rattle.rv_line.proofs.scanning.word_len.Given as goal

abbrev pub invariant-loop-index : goal.invariant-loop-index
invariant-loop-index l = l.index + word_len (drop l.index l.text) ≡ word_len l.text
