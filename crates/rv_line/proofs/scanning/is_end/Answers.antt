use Rattle.std.proofs.Common.{sym, ◌∙◌}
use Rattle.rv_line.proofs.FirstPiece.{empty_at}
use Rattle.rv_line.proofs.scanning.is_end.Goals as goal

pub returns : goal.returns
returns c = c.is_empty.ensures ∙ sym (empty_at c.args.text.now c.unblanked.result.now c.unblanked.ensures)
