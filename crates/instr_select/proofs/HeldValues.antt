-- Whatever RAM holds stands for values in their codomains.
use Rattle.std.proofs.Common.{◌≡◌, ℕ, ◌%◌, ◌^◌, ◌≤◌, List, [], ◌∷◌, map, Option, Some, None, refl, ap, ◌∙◌, subst, arith}
use Rattle.std.{specs.{Prelude.{slice_get}}, proofs.lemmas.Int.{ints}}
use Rattle.asm_names.specs.declared.program.Resolved.{Resolved}
use Rattle.state_space.specs.{declared.signature.{Range.{Range}, Signature.{Signature}}, Decoding.{exponent, folded_back, index_of, value_of_word}, Locations.{Location, input_locations, state_locations}, Codomains.{In, LocationsFit, codomain_of, codomain_range, whole}}
use Rattle.state_space.proofs.{Exponents.{exponent_least}, Indices.{index-below}}
use Rattle.state_layout.specs.Map.{Placement, cell_of, decoded, entry_at, value_at}
use Rattle.state_layout.specs.Inputs.{input_at}
use Rattle.instr_select.specs.{SelectLaw.{HeldValuesFit, IsMapped}}
use Rattle.instr_select.proofs.{Mapped.{signature-narrow}}

-- in a domain of no values each word stands for index 0
no-index : (word : ℕ) → index_of 0 word ≡ 0
no-index word =
    let least = exponent_least 0 0 (omega arith) in
    let none : exponent 0 ≡ 0 = omega arith in
    ap (λ k. folded_back 0 (word % 2 ^ k)) none ∙ ap (folded_back 0) (let one : word % 1 ≡ 0 = omega arith in one)

value-lies : (range : Range) (word : ℕ) → 1 ≤ range.size → In (whole range) (value_of_word range word)
value-lies range word some = let below = index-below range.size word some in record { low = grind (arith, ints); high = grind (arith, ints) }

module _ (program : Resolved) (placement : Placement) (mapped : IsMapped program placement) (ram : List ℕ) where
  lies-at : (fun : ℕ) (word : ℕ) (o : Option Signature) → slice_get placement.signatures fun ≡ o → In (codomain_range o) (value_of_word (codomain_of o) word)
  lies-at fun word None here = let e = no-index word in record { low = grind (arith, ints); high = grind (arith, ints) }
  lies-at fun word (Some signature) here = value-lies signature.codomain word (signature-narrow program placement mapped fun signature here).1.some

  state-fits : (locations : List Location) → LocationsFit placement.signatures locations (map (value_at ram) (map (entry_at placement) (map (cell_of placement.signatures) locations)))
  state-fits [] = tt
  state-fits (l ∷ ls) = (lies-at l.fun _ (slice_get placement.signatures l.fun) refl, state-fits ls)

  inputs-fit : (locations : List Location) → LocationsFit placement.signatures locations (map (input_at placement ram) (map (cell_of placement.signatures) locations))
  inputs-fit [] = tt
  inputs-fit (l ∷ ls) = (lies-at l.fun _ (slice_get placement.signatures l.fun) refl, inputs-fit ls)

pub held-values-fit : HeldValuesFit
held-values-fit program placement ram inputs mapped tables held = record {
  states = subst (λ signatures. LocationsFit signatures (state_locations signatures) (decoded placement ram)) mapped.signatures (state-fits program placement mapped ram (state_locations placement.signatures));
  readings = subst (λ signatures. LocationsFit signatures (input_locations signatures) inputs) mapped.signatures
      (subst (LocationsFit placement.signatures (input_locations placement.signatures)) held (inputs-fit program placement mapped ram (input_locations placement.signatures)));
  tables = tables;
}
