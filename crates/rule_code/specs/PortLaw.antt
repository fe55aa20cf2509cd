-- What the code of a round takes and sends is what a round of the program takes and sends.
use Rattle.std.specs.Prelude.{◌≡◌, ℕ, List, []}
use Rattle.std.specs.List.{range_with_len}
use Rattle.asm_names.specs.declared.program.Resolved.{Resolved}
use Rattle.rv_machine.specs.Run.{ports_taken, words_sent}
use Rattle.state_space.specs.Locations.{signatures_of}
use Rattle.state_layout.specs.Map.{Placement, decoded, input_cells}
use Rattle.staged_commit.specs.Code.{output_cells}
use Rattle.staged_commit.specs.Ports.{sends, took, values_read}
use Rattle.round_spec.specs.Ports.{inputs_taken, words_for}

-- taking so many readings in order sends nothing
abbrev pub PortsAreRead : Type 0
PortsAreRead = (port count : ℕ) → (ports_taken (took port count) ≡ range_with_len port count) × (words_sent (took port count) ≡ [])

-- the values that the readings stand for at the input cells are the inputs of the round
abbrev pub ReadingsAreInputs : Type 0
ReadingsAreInputs =
    (program : Resolved) (placement : Placement) → placement.signatures ≡ signatures_of program → (readings : List ℕ)
    → values_read placement (input_cells placement) readings ≡ inputs_taken program readings

-- sending the output cells sends the words for the state that RAM holds, and takes no reading
abbrev pub OutputsAreSent : Type 0
OutputsAreSent =
    (program : Resolved) (placement : Placement) → placement.signatures ≡ signatures_of program → (ram : List ℕ)
    → (words_sent (sends placement ram 0 (output_cells placement.signatures)) ≡ words_for program (decoded placement ram))
    × (ports_taken (sends placement ram 0 (output_cells placement.signatures)) ≡ [])
