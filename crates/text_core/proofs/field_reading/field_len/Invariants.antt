use Rattle.std.proofs.Common.{◌≡◌, ◌+◌, not, drop}
use Rattle.std.specs.List.{prefix_len}
use Rattle.text_core.specs.Fields.{is_blank}
use Rattle.text_core.proofs.field_reading.field_len.Given as goal

abbrev pub invariant-loop-index : goal.invariant-loop-index
invariant-loop-index l = l.index + prefix_len (λ byte. not (is_blank byte)) (drop l.index l.line) ≡ prefix_len (λ byte. not (is_blank byte)) l.line
