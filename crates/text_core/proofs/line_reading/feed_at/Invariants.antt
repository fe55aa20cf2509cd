use Rattle.std.proofs.Common.{◌≡◌, ◌+◌, ◌==◌, not, drop}
use Rattle.std.specs.List.{prefix_len}
use Rattle.text_core.proofs.line_reading.feed_at.Given as goal

abbrev pub invariant-loop-index : goal.invariant-loop-index
invariant-loop-index l = l.index + prefix_len (λ byte. not (byte == 10)) (drop l.index l.text) ≡ prefix_len (λ byte. not (byte == 10)) l.text
