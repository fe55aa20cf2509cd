use Rattle.std.proofs.Common.{sym, arith, add-one}
use Rattle.asm_tokens.proofs.Words.{all_word-more}
use Rattle.asm_tokens.proofs.lexer.word_len.Goals as goal

pub loop-len-preserved : goal.loop-len-preserved
loop-len-preserved c = record {
  within = omega arith;
  word = rw add-one (all_word-more c.loop-len.len c.args.text.now (omega arith) c.loop-len.invariant.word (sym c.if-is_word.ensures));
}
