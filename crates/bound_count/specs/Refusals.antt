-- The programs whose needs are too great.
use Rattle.std.specs.Prelude.{◌≡◌, ◌≤◌, ℕ, ◌/◌, ◌^◌, nat_lt, List, [], ◌∷◌, ◌++◌, if◌then◌else◌, Result, Ok, Err}
use Rattle.asm_names.specs.declared.program.Resolved.{Resolved}
use Rattle.state_space.specs.Locations.{is_input, signatures_of}
use Rattle.bound_count.specs.declared.shape.Shape.{Shape}
use Rattle.state_layout.specs.declared.layout.Layout.{Layout}
use Rattle.bound_count.specs.declared.numbers.Numbers.{Numbers}
use Rattle.bound_count.specs.declared.numbers.NeedEnd.{NeedEnd}
use Rattle.bound_count.specs.declared.numbers.NeedEnd.TheVariants as ends
use Rattle.bound_count.specs.Amounts.{kept}
use Rattle.bound_count.specs.Counts.{is_output, location_count}
use Rattle.bound_count.specs.Numbers.{numbers_of, ram_number, rom_number, anchor_number, round_number, register_number}

-- a number that passes a limit
abbrev pub refused_past : ℕ → (ℕ → NeedEnd) → ℕ → List NeedEnd
refused_past limit end number = if nat_lt limit number then end number ∷ [] else []

-- input locations that pass 256, or else output locations
abbrev pub port_refusals : ℕ → ℕ → List NeedEnd
port_refusals inputs outputs = if nat_lt 256 inputs then ends.Ports inputs ∷ [] else refused_past 256 ends.Ports outputs

-- the numbers that pass their limits, in this order: registers, ports, RAM, ROM in words, and the ticks before a round
abbrev pub refusals : ℕ → ℕ → Numbers → ℕ → ℕ → List NeedEnd
refusals rom ram numbers inputs outputs =
    refused_past 16 ends.Registers numbers.regs
    ++ (port_refusals inputs outputs
    ++ (refused_past ram ends.Ram numbers.ram
    ++ (refused_past (rom / 4) ends.Rom numbers.rom
    ++ refused_past (2 ^ 40) ends.Bound numbers.anchor)))

-- the first refusal, or the numbers where there is none
abbrev pub judged : List NeedEnd → Numbers → Result Numbers NeedEnd
judged [] numbers = Ok numbers
judged (end ∷ others) numbers = Err end

-- what a program needs in a machine with so many bytes of ROM and of RAM, or the first number that is too great
abbrev pub needs_of : ℕ → ℕ → Shape → Layout → Resolved → Result Numbers NeedEnd
needs_of rom ram shape layout program =
    judged
    (refusals rom ram (numbers_of shape layout program) (kept (location_count is_input (signatures_of program))) (kept (location_count is_output (signatures_of program))))
    (numbers_of shape layout program)

-- the number of RAM, or that it is too great
abbrev pub ram_need_of : ℕ → Layout → Resolved → Result ℕ NeedEnd
ram_need_of ram layout program =
    if nat_lt ram (kept (ram_number layout program)) then Err (ends.Ram (kept (ram_number layout program))) else Ok (kept (ram_number layout program))

-- no number passes its limit
pub record IsWithin (rom ram : ℕ) (numbers : Numbers) (inputs outputs : ℕ) : Type 0 where
  pub registers : numbers.regs ≤ 16
  pub few_inputs : inputs ≤ 256
  pub few_outputs : outputs ≤ 256
  pub ram_holds : numbers.ram ≤ ram
  pub rom_holds : numbers.rom ≤ rom / 4
  pub soon : numbers.anchor ≤ 2 ^ 40

-- These are the numbers themselves, and none passes its limit.
pub record FitsMachine (rom ram : ℕ) (shape : Shape) (layout : Layout) (program : Resolved) (numbers : Numbers) : Type 0 where
  pub is_ram : numbers.ram ≡ ram_number layout program
  pub is_rom : numbers.rom ≡ rom_number shape program
  pub is_anchor : numbers.anchor ≡ anchor_number shape program
  pub is_round : numbers.round ≡ round_number shape program
  pub is_regs : numbers.regs ≡ register_number program
  pub few_registers : register_number program ≤ 16
  pub few_inputs : location_count is_input (signatures_of program) ≤ 256
  pub few_outputs : location_count is_output (signatures_of program) ≤ 256
  pub ram_holds : ram_number layout program ≤ ram
  pub rom_holds : rom_number shape program ≤ rom / 4
  pub soon : anchor_number shape program ≤ 2 ^ 40
