use Rattle.rv_line.proofs.FirstPiece.{no_word_at, word_at}
use Rattle.rv_line.proofs.scanning.word.Goals as goal

pub returns-then-len-eq0 : goal.returns-then-len-eq0
returns-then-len-eq0 c = no_word_at c.args.text.now c.unblanked-text.result.now c.unblanked-text.ensures _ c.word_len-len.ensures.length c.if-len-eq0.true

pub returns : goal.returns
returns c =
    rw (c.split_at.ensures.front, c.split_at.ensures.back)
    (word_at c.args.text.now c.unblanked-text.result.now c.unblanked-text.ensures _ c.word_len-len.ensures.length c.if-len-eq0.false)
