use Rattle.std.proofs.Common.{◌≤◌, ◌+◌, length}
use Rattle.text_core.specs.Lines.{lines}
use Rattle.rv_asm.specs.Assembly.{items_from}
use Rattle.rv_asm.proofs.Steps.{IsFront}
use Rattle.rv_asm.proofs.turns.words.Given as goal

abbrev pub invariant-words : goal.invariant-words
invariant-words l = record {
  front : IsFront l.words (items_from l.labels l.count l.cursor.number (lines l.cursor.left)) (items_from l.labels 0 l.first_line (lines l.text));
  room : l.count + length l.cursor.left ≤ length l.text;
}

abbrev pub decreases-words : goal.decreases-words
decreases-words l = length l.cursor.left
