use Rattle.std.proofs.Common.{◌≡◌, length}
use Rattle.text_core.specs.Lines.{lines}
use Rattle.rv_asm.specs.Assembly.{first_too_many}
use Rattle.rv_asm.proofs.turns.first_too_many.Given as goal

abbrev pub invariant-count : goal.invariant-count
invariant-count l = first_too_many l.room l.cursor.number (lines l.cursor.left) ≡ first_too_many l.limit l.first_line (lines l.text)

abbrev pub decreases-count : goal.decreases-count
decreases-count l = length l.cursor.left
