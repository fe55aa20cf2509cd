use Rattle.std.proofs.Common.{◌≡◌, drop, take}
use Rattle.text_core.specs.Numbers.{value_from, value_of}
use Rattle.text_core.proofs.reading.value_of.Given as goal

abbrev pub invariant-loop-byte : goal.invariant-loop-byte
invariant-loop-byte l = record {
  rest : value_from l.value (drop l.byte-index l.text) ≡ value_of l.text;
  front : l.value ≡ value_of (take l.byte-index l.text);
}
