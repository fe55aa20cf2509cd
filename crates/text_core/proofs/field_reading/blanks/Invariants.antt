use Rattle.std.proofs.Common.{◌≡◌, ◌+◌, drop}
use Rattle.std.specs.List.{prefix_len}
use Rattle.text_core.specs.Fields.{is_blank}
use Rattle.text_core.proofs.field_reading.blanks.Given as goal

abbrev pub invariant-loop-index : goal.invariant-loop-index
invariant-loop-index l = l.index + prefix_len is_blank (drop l.index l.line) ≡ prefix_len is_blank l.line
