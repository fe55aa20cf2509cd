-- Machines, places of code, and words of RAM.
use Rattle.std.specs.Prelude.{◌≡◌, ℕ, ◌*◌, ◌+◌, ◌%◌, ◌^◌, ◌<◌, ◌≤◌, List, length}
use Rattle.rv_isa.specs.declared.instr.Instr.{Instr}
use Rattle.rv_machine.specs.Hart.{AreWords}
use Rattle.rv_machine.specs.Memory.{number_at}
use Rattle.block_code.specs.Moment.{IsValidMoment, Moment}

-- a ROM of words, and a number of bytes of RAM, of no more than 2 ^ 20 bytes
pub record IsMachine (rom : List ℕ) (size : ℕ) : Type 0 where
  pub words : AreWords rom
  pub rom_small : 4 * length rom ≤ 2 ^ 20
  pub ram_small : size ≤ 2 ^ 20
  pub ram_aligned : size % 4 ≡ 0

-- pc is from low up to high
pub record Within (low high : ℕ) (s : Moment) : Type 0 where
  pub from : low ≤ s.hart.pc
  pub below : s.hart.pc < high

-- the word of RAM at a slot, which is the offset of its first byte
unfoldable pub word_in : ℕ → List ℕ → ℕ
word_in slot ram = number_at 4 slot ram

-- a valid moment at the first of these instructions, which stand at the address
pub record IsAtTop (size address : ℕ) (instrs : List Instr) (s : Moment) : Type 0 where
  pub valid : IsValidMoment size s
  pub here : s.hart.pc ≡ address
  pub room : address + 4 * length instrs < 2 ^ 32
