use Rattle.std.proofs.Common.{◌≡◌, ◌+◌, length}
use Rattle.text_core.specs.Lines.{lines}
use Rattle.rv_machine.specs.Hart.{AreWords}
use Rattle.image_text.specs.ImageLines.{image_of, led_by}
use Rattle.image_text.proofs.reading.read_image.Given as goal

abbrev pub invariant-loop-number : goal.invariant-loop-number
invariant-loop-number l = record {
  image : led_by l.words (image_of l.room l.cursor.number (lines l.cursor.left)) ≡ image_of l.limit l.first_line (lines l.text);
  words : AreWords l.words;
  count : length l.words + l.room ≡ l.limit;
}

abbrev pub decreases-loop-number : goal.decreases-loop-number
decreases-loop-number l = length l.cursor.left
