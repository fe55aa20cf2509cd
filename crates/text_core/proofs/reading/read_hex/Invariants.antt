use Rattle.std.proofs.Common.{◌≡◌, ◌^◌, ◌<◌, drop}
use Rattle.text_core.specs.Hexadecimal.{hexadecimal_from}
use Rattle.text_core.proofs.reading.read_hex.Given as goal

abbrev pub invariant-loop-byte : goal.invariant-loop-byte
invariant-loop-byte l = record {
  rest : hexadecimal_from l.value (drop l.byte-index l.text) ≡ hexadecimal_from 0 l.text;
  small : l.value < 16 ^ l.byte-index;
}
