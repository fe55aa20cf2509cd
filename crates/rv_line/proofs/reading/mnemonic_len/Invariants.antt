use Rattle.std.proofs.Common.{◌≡◌, ◌++◌, drop, take}
use Rattle.rv_line.specs.Lines.{mnemonic_front}
use Rattle.rv_line.proofs.reading.mnemonic_len.Given as goal

abbrev pub invariant-loop-index : goal.invariant-loop-index
invariant-loop-index l = take l.index l.word ++ mnemonic_front (drop l.index l.word) ≡ mnemonic_front l.word
