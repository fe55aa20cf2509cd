use Rattle.std.proofs.Common.{◌≡◌, ◌≤◌, ◌+◌, ◌++◌, [], length}
use Rattle.text_core.specs.Lines.{lines}
use Rattle.rv_asm.specs.Assembly.{first_misspelt, labels_from}
use Rattle.rv_asm.proofs.turns.survey.Given as goal

abbrev pub invariant-survey : goal.invariant-survey
invariant-survey l = record {
  spelt : first_misspelt l.labels l.words l.cursor.number (lines l.cursor.left) ≡ first_misspelt [] 0 l.first_line (lines l.text);
  labels : l.labels ++ labels_from l.words (lines l.cursor.left) ≡ labels_from 0 (lines l.text);
  room : l.words + length l.cursor.left ≤ length l.text;
}

abbrev pub decreases-survey : goal.decreases-survey
decreases-survey l = length l.cursor.left
