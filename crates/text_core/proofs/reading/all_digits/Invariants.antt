use Rattle.std.proofs.Common.{◌≡◌, drop}
use Rattle.text_core.specs.Numbers.{all_digits}
use Rattle.text_core.proofs.reading.all_digits.Given as goal

abbrev pub invariant-loop-byte : goal.invariant-loop-byte
invariant-loop-byte l = all_digits (drop l.byte-index l.text) ≡ all_digits l.text
