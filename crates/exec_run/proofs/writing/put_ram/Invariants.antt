use Rattle.std.proofs.Common.{◌≡◌, ◌-◌, ◌++◌, ℕ}
use Rattle.std.specs.Io.{StartsWith}
use Rattle.exec_run.specs.ExecText.{ram_lines}
use Rattle.text_core.specs.WrittenLines.{lines_text}
use Rattle.exec_run.proofs.writing.put_ram.Given as goal

abbrev pub invariant-loop-number : goal.invariant-loop-number
invariant-loop-number g l =
    let lines = λ (count number : ℕ). lines_text (ram_lines count number l.start.ram l.end.ram) in
    (l.out.items ++ lines (l.number-end - l.number) l.number ≡ l.initial.out.items ++ lines l.number-end 0) × StartsWith l.out.items l.initial.out.items
