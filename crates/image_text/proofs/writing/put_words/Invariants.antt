use Rattle.std.proofs.Common.{◌≡◌, ◌++◌, map, drop}
use Rattle.std.specs.Io.{StartsWith}
use Rattle.text_core.specs.Hexadecimal.{hex8}
use Rattle.text_core.specs.WrittenLines.{lines_text}
use Rattle.image_text.proofs.writing.put_words.Given as goal

abbrev pub invariant-loop-word : goal.invariant-loop-word
invariant-loop-word l =
    (l.out.items ++ lines_text (map hex8 (drop l.word-index l.words)) ≡ l.initial.out.items ++ lines_text (map hex8 l.words))
    × StartsWith l.out.items l.initial.out.items
