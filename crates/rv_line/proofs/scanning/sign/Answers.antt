use Rattle.rv_line.proofs.FirstPiece.{no_sign_at, no_sign_in_empty, sign_at}
use Rattle.rv_line.proofs.scanning.sign.Goals as goal

pub returns-in-empty : goal.returns-in-empty
returns-in-empty c = no_sign_in_empty c.args.text.now c.unblanked.result.now c.unblanked.ensures c.args.wanted c.in-empty.len_below

pub returns-then-byte-wanted : goal.returns-then-byte-wanted
returns-then-byte-wanted c = sign_at c.args.text.now c.unblanked.result.now c.unblanked.ensures c.args.wanted c.in-len1-up.len_at_least c.if-byte-wanted.true c.requires

pub returns-else-byte-wanted : goal.returns-else-byte-wanted
returns-else-byte-wanted c = no_sign_at c.args.text.now c.unblanked.result.now c.unblanked.ensures c.args.wanted c.in-len1-up.len_at_least c.if-byte-wanted.false
