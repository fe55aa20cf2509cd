-- The inputs that RAM keeps while a round runs.
use Rattle.std.specs.Prelude.{◌≡◌, ℕ, ℤ, List, map}
use Rattle.rv_machine.specs.Memory.{number_at}
use Rattle.state_space.specs.Decoding.{value_of_word}
use Rattle.state_layout.specs.declared.cell.Cell.{Cell}
use Rattle.state_layout.specs.Map.{Placement, input_cells, kept_offset, range_at}

-- the value of an input location, by the word that RAM keeps of it
abbrev pub input_at : Placement → List ℕ → Cell → ℤ
input_at placement ram cell = value_of_word (range_at placement cell.fun) (number_at 4 (kept_offset placement cell) ram)

-- the kept words decode to the inputs, in the order of the input locations
abbrev pub HoldsInputs : Placement → (ram : List ℕ) → (inputs : List ℤ) → Type 0
HoldsInputs placement ram inputs = map (input_at placement ram) (input_cells placement) ≡ inputs
