use Rattle.std.proofs.Common.{◌≡◌, ◌*◌, ◌++◌, drop}
use Rattle.text_core.specs.WrittenLines.{lines_text}
use Rattle.rv_line.specs.Texts.{listing_lines}
use Rattle.rv_asm.proofs.disassembling.listing.Given as goal

abbrev pub invariant-loop-word : goal.invariant-loop-word
invariant-loop-word l = record {
  text : l.out.items ++ lines_text (listing_lines l.word-index (drop l.word-index l.words)) ≡ lines_text (listing_lines 0 l.words);
  address : l.address ≡ 4 * l.word-index;
}
