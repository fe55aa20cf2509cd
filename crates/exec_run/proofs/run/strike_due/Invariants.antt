use Rattle.std.proofs.Common.{◌≡◌, length}
use Rattle.exec_run.specs.ExecText.{due, later}
use Rattle.exec_run.specs.Striking.{struck_all}
use Rattle.exec_run.proofs.Striking.{AreStruck}
use Rattle.exec_run.proofs.run.strike_due.Given as goal

abbrev pub decreases-striking : goal.decreases-striking
decreases-striking g l = length l.left

abbrev pub invariant-striking : goal.invariant-striking
invariant-striking g l =
    (later l.time l.left ≡ later l.time l.script) × (struck_all (due l.time l.left) l.hart ≡ struck_all (due l.time l.script) l.initial.hart) × AreStruck g.row.RAM l.left
