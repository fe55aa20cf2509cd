-- What the small sequences do: each leads from its top to this moment. Where it leads, it leads nowhere else, and does not trap.
use Rattle.std.specs.Prelude.{◌≡◌, ◌≢◌, ℕ, ◌+◌, ◌*◌, ◌%◌, ◌^◌, ◌<◌, List}
use Rattle.rv_machine.specs.Memory.{number_at}
use Rattle.trap_model.specs.Map.{ram_base}
use Rattle.trap_model.specs.Width.{bytes_of}
use Rattle.trap_model.specs.declared.width.Width.{Width}
use Rattle.block_code.specs.Effect.{LineDoes, reg_at, saved, written}
use Rattle.block_code.specs.Moment.{Moment}
use Rattle.block_code.specs.Place.{IsAtTop, IsMachine}
use Rattle.block_code.specs.Sequence.{high_part, load_fixed, load_immediate, scratch, store_fixed}

-- an offset of RAM at which an access of the width lies
pub record IsOffset (width : Width) (offset : ℕ) : Type 0 where
  pub aligned : offset % bytes_of width ≡ 0
  pub low : offset < 2 ^ 20

-- the register holds the word
abbrev pub ImmediateIsLoaded : Type 0
ImmediateIsLoaded =
    (rom : List ℕ) (size address register value : ℕ) (s : Moment) → IsAtTop size address (load_immediate register value) s → register < 32 → value < 2 ^ 32
    → LineDoes rom address (load_immediate register value) s (written (address + 8) register value s)

-- the register holds the number in RAM
abbrev pub FixedIsLoaded : Type 0
FixedIsLoaded =
    (rom : List ℕ) (size address : ℕ) (width : Width) (register offset : ℕ) (s : Moment) → IsMachine rom size → IsAtTop size address (load_fixed width register offset) s → 0 < register → register < 32
    → IsOffset width offset → offset < size
    → LineDoes rom address (load_fixed width register offset) s (written (address + 8) register (number_at (bytes_of width) offset s.hart.ram) s)

-- RAM holds the low bytes of the register, and the scratch register part of their address
abbrev pub FixedIsStored : Type 0
FixedIsStored =
    (rom : List ℕ) (size address : ℕ) (width : Width) (register offset : ℕ) (s : Moment) → IsMachine rom size → IsAtTop size address (store_fixed width register offset) s → register ≢ scratch
    → IsOffset width offset → offset < size
    → LineDoes rom address (store_fixed width register offset) s
    (saved (address + 8) (bytes_of width) offset (reg_at register s) (written (address + 4) scratch (high_part (ram_base + offset) * 2 ^ 12) s))
