-- What a round takes from its ports and sends to them.
use Rattle.std.specs.Prelude.{ℕ, zero, suc, ℤ, Bool, false, List, [], ◌∷◌, drop, length, map, zip, slice_get, Option, Some, None}
use Rattle.std.specs.List.{filter, range_with_len}
use Rattle.rv_machine.specs.Run.{offered}
use Rattle.rv_machine.specs.Word.{extended}
use Rattle.asm_names.specs.declared.program.Resolved.{Resolved}
use Rattle.asm_ranges.specs.Values.{Inputs, State}
use Rattle.bound_count.specs.Counts.{is_output}
use Rattle.state_space.specs.declared.signature.Signature.{Signature}
use Rattle.state_space.specs.Locations.{Location, input_locations, signatures_of, state_locations}
use Rattle.update_sets.specs.Inputs.{decoded_inputs}

-- how many input locations there are: each has the port with its number
abbrev pub input_count : Resolved → ℕ
input_count program = length (input_locations (signatures_of program))

-- the words that the first so many loads from ports are offered
abbrev pub words_taken : ℕ → List ℕ → List ℕ
words_taken zero readings = []
words_taken (suc n) readings = offered readings ∷ words_taken n (drop 1 readings)

-- the values of the inputs: the readings that a round takes stand for them, one for each input location, in order
abbrev pub inputs_taken : Resolved → List ℕ → Inputs
inputs_taken program readings = decoded_inputs (signatures_of program) (words_taken (input_count program) readings)

abbrev pub is_output_signature : Option Signature → Bool
is_output_signature None = false
is_output_signature (Some signature) = is_output signature.kind

-- the location is one of an output
abbrev pub is_output_location : List Signature → Location → Bool
is_output_location signatures location = is_output_signature (slice_get signatures location.fun)

-- the values of the output locations in a state, in order
abbrev pub outputs : List Signature → State → List ℤ
outputs signatures state = map (λ pair. pair.1) (filter (λ (pair : Location × ℤ). is_output_location signatures pair.0) (zip (state_locations signatures) state))

-- the words that are sent for a state: to the port with each output location's number, its value in two's complement
abbrev pub words_for : Resolved → State → List (ℕ × ℕ)
words_for program state =
    let words = map extended (outputs (signatures_of program) state) in zip (range_with_len 0 (length words)) words
