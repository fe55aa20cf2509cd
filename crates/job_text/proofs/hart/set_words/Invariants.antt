use Rattle.std.proofs.Common.{◌≡◌, ◌*◌, ◌++◌, length, drop, take}
use Rattle.job_text.specs.Start.{bytes_of}
use Rattle.job_text.proofs.hart.set_words.Given as goal

abbrev pub invariant-loop-index : goal.invariant-loop-index
invariant-loop-index g l = record {
  pc : l.hart.pc ≡ l.initial.hart.pc;
  regs : l.hart.regs ≡ l.initial.hart.regs;
  size : length l.hart.ram ≡ g.row.RAM;
  front : take (4 * l.index) l.hart.ram ++ bytes_of (drop l.index l.words) ≡ bytes_of l.words;
}
