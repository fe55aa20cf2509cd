-- What is read are the inputs of the round.
use Rattle.std.proofs.Common.{◌≡◌, ℕ, zero, suc, ◌+◌, ◌<◌, ◌≤◌, List, [], ◌∷◌, length, map, drop, refl, sym, ap, ◌∙◌, arith}
use Rattle.std.proofs.lemmas.List.{drop-drop}
use Rattle.std.specs.Prelude.{slice_index_or}
use Rattle.rv_machine.specs.Run.{offered}
use Rattle.state_space.specs.{Codomains.{codomain_at}, Locations.{Location, input_locations}}
use Rattle.state_space.specs.Decoding.{value_of_word}
use Rattle.update_sets.specs.Inputs.{decoded_inputs, reading_at, values_from}
use Rattle.state_layout.specs.Map.{Placement, cell_of}
use Rattle.staged_commit.specs.Ports.{values_read}
use Rattle.round_spec.specs.Ports.{words_taken}
use Rattle.rule_code.specs.PortLaw.{PortsAreRead, ReadingsAreInputs}

pub ports-are-read : PortsAreRead
ports-are-read port zero = (refl, refl)
ports-are-read port (suc count) = let rest = ports-are-read (port + 1) count in (ap (λ ports. port ∷ ports) rest.0, rest.1)

-- the reading with a number is that offered when so many were taken
word-at : (n k : ℕ) (readings : List ℕ) → k < n → slice_index_or (words_taken n readings) k 0 ≡ offered (drop k readings)
word-at zero k readings h = absurd (omega arith)
word-at (suc n) zero readings h = refl
word-at (suc n) (suc k) readings h =
    let more : 1 + k ≡ suc k = omega arith in
    word-at n k (drop 1 readings) (omega arith) ∙ ap offered (drop-drop k 1 readings ∙ ap (λ i. drop i readings) more)

module _ (placement : Placement) (readings : List ℕ) (n : ℕ) where
  values-same : (k : ℕ) (locations : List Location) → k + length locations ≤ n
      → values_read placement (map (cell_of placement.signatures) locations) (drop k readings) ≡ values_from placement.signatures (words_taken n readings) k locations
  values-same k [] h = refl
  values-same k (location ∷ locations) h =
      let one : value_of_word (codomain_at placement.signatures location) (offered (drop k readings)) ≡ value_of_word (codomain_at placement.signatures location) (reading_at (words_taken n readings) k) =
      ap (value_of_word (codomain_at placement.signatures location)) (sym (word-at n k readings (omega arith))) in
      let rest : values_read placement (map (cell_of placement.signatures) locations) (drop 1 (drop k readings)) ≡ values_from placement.signatures (words_taken n readings) (k + 1) locations =
      ap (values_read placement (map (cell_of placement.signatures) locations)) (drop-drop 1 k readings) ∙ values-same (k + 1) locations (omega arith) in
      ap (λ v. v ∷ values_read placement (map (cell_of placement.signatures) locations) (drop 1 (drop k readings))) one
      ∙ ap (λ vs. value_of_word (codomain_at placement.signatures location) (reading_at (words_taken n readings) k) ∷ vs) rest

pub readings-are-inputs : ReadingsAreInputs
readings-are-inputs program placement same readings =
    values-same placement readings (length (input_locations placement.signatures)) 0 (input_locations placement.signatures) (omega arith)
    ∙ ap (λ signatures. decoded_inputs signatures (words_taken (length (input_locations signatures)) readings)) same
