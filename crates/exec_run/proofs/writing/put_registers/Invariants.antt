use Rattle.std.proofs.Common.{◌≡◌, ◌++◌, drop}
use Rattle.std.specs.Io.{StartsWith}
use Rattle.exec_run.specs.ExecText.{register_lines}
use Rattle.text_core.specs.WrittenLines.{lines_text}
use Rattle.exec_run.proofs.writing.put_registers.Given as goal

abbrev pub invariant-loop-number : goal.invariant-loop-number
invariant-loop-number g l =
    (l.out.items ++ lines_text (register_lines l.number (drop l.number l.hart.regs)) ≡ l.initial.out.items ++ lines_text (register_lines 0 l.hart.regs))
    × StartsWith l.out.items l.initial.out.items
