use Rattle.std.proofs.Common.{◌≡◌, ◌++◌, length, drop, take, slice_index}
use Rattle.job_text.proofs.hart.set_regs.Given as goal

abbrev pub invariant-loop-index : goal.invariant-loop-index
invariant-loop-index g l = record {
  pc : l.hart.pc ≡ l.initial.hart.pc;
  ram : l.hart.ram ≡ l.initial.hart.ram;
  count : length l.hart.regs ≡ 32;
  zero_reg : slice_index l.hart.regs 0 ≡ 0;
  front : take l.index l.hart.regs ++ drop l.index l.regs ≡ l.regs;
}
