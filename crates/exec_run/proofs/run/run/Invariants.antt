use Rattle.std.specs.Io.{StartsWith}
use Rattle.exec_run.proofs.Counting.{Running}
use Rattle.exec_run.proofs.run.run.Given as goal

abbrev pub invariant-loop-number : goal.invariant-loop-number
invariant-loop-number g l =
    StartsWith l.out.items l.initial.out.items
    × Running g.row.RAM l.rom l.ticks l.script l.initial.feed.left l.initial.hart l.initial.out.items l.number l.out.items l.left l.feed.left l.hart l.traps l.readings l.reading
