-- What is read of functions, by what RAM holds.
use Rattle.std.proofs.Common.{◌≡◌, ℕ, ℤ, Bool, true, List, [], ◌∷◌, map, Option, Some, refl, sym, ap, ◌∙◌, arith}
use Rattle.std.{specs.{Prelude.{slice_get, unwrap_or}, Cmp.Lexicographic.{pointwise}, List.{AllZip}, Ordering.{int_eq}}, proofs.lemmas.{Bool.{and_parts, eqb-true}, Bool.Decides.{Decides-int_eq}}}
use Rattle.asm_tree.specs.declared.decl.Kind.{Kind}
use Rattle.asm_tree.specs.declared.decl.Kind.TheVariants as kinds
use Rattle.asm_names.specs.declared.program.Resolved.{Resolved}
use Rattle.state_space.specs.{declared.signature.{Range.{Range}, Signature.{Signature}}, Locations.{Location, input_locations, is_input, is_state, located, place_among, same_location, signature_of, signatures_of, state_locations}, Codomains.{In, just, whole}}
use Rattle.asm_ranges.specs.{Ranges.{inside}, Values.{fun_of, no_fun, number_read, numbered, read, values_read}}
use Rattle.asm_ranges.proofs.Readings.{beside, get_map, location_in}
use Rattle.state_layout.specs.Map.{Placement, args_of, cell_of, cells, decoded, entry_at, padded_index, state_cells, value_at}
use Rattle.state_layout.specs.declared.cell.Cell.{Cell}
use Rattle.asm_ranges.specs.Values.{lie_in}
use Rattle.state_layout.specs.Inputs.{HoldsInputs, input_at}
use Rattle.instr_select.proofs.Index.{lies-in, placed, placed-number}

pub args-in : (vs : List ℤ) (ranges : List Range) → lie_in ranges vs ≡ true → AllZip (λ v range. In (whole range) v) vs ranges
args-in [] [] h = tt
args-in [] (range ∷ ranges) h = absurd cc
args-in (v ∷ vs) [] h = absurd cc
args-in (v ∷ vs) (range ∷ ranges) h =
    let p = and_parts (inside (just v) (whole range)) (lie_in ranges vs) h in (lies-in range v p.0, args-in vs ranges p.1)

same-values : (xs ys : List ℤ) → pointwise int_eq xs ys ≡ true → xs ≡ ys
same-values [] [] h = refl
same-values [] (y ∷ ys) h = absurd cc
same-values (x ∷ xs) [] h = absurd cc
same-values (x ∷ xs) (y ∷ ys) h =
    let p = and_parts (int_eq x y) (pointwise int_eq xs ys) h in
    let a : x ≡ y = (Decides-int_eq x y).0 p.0 in
    let b = same-values xs ys p.1 in
    cc

-- the cell of a function at arguments in its domains
abbrev pub cell_at : ℕ → Signature → List ℤ → Cell
cell_at fun signature vs = record { fun = fun; index = placed signature.args vs }

pub cell-is : (signatures : List Signature) (fun : ℕ) (signature : Signature) (vs : List ℤ) → slice_get signatures fun ≡ Some signature → lie_in signature.args vs ≡ true
    → cell_of signatures (record { fun = fun; args = vs }) ≡ cell_at fun signature vs
cell-is signatures fun signature vs here lies =
    ap (λ o. record { fun = fun; index = padded_index (args_of o) vs }) here
    ∙ ap (λ (n : Option ℕ). record { fun = fun; index = unwrap_or n 0 }) (placed-number signature.args vs lies)

-- the value in a list by locations is that of the location's cell
module _ (is_kind : Kind → Bool) (signatures : List Signature) (value : Cell → ℤ) where
  beside-cells : (locations : List Location) → AllZip (λ location v. v ≡ value (cell_of signatures location)) locations (map value (map (cell_of signatures) locations))
  beside-cells [] = tt
  beside-cells (l ∷ ls) = (refl, beside-cells ls)

  pub at-cell : (fun : ℕ) (signature : Signature) (vs : List ℤ) → slice_get signatures fun ≡ Some signature → is_kind signature.kind ≡ true → lie_in signature.args vs ≡ true
      → numbered (map value (cells is_kind signatures)) (place_among (located is_kind 0 signatures) (record { fun = fun; args = vs })) ≡ value (cell_at fun signature vs)
  at-cell fun signature vs here kind lies =
      beside (λ location v. v ≡ value (cell_of signatures location)) (λ v. v ≡ value (cell_at fun signature vs)) (same_location (record { fun = fun; args = vs })) (located is_kind 0 signatures)
      (map value (cells is_kind signatures)) (record { fun = fun; args = vs }) (beside-cells (located is_kind 0 signatures))
      (location_in is_kind signatures 0 fun fun signature vs (omega arith) here kind (args-in vs signature.args lies))
      (λ location v same e.
      let p = and_parts _ _ same in
      let f : fun ≡ location.fun = eqb-true _ _ p.0 in
      let a : vs ≡ location.args = same-values vs location.args p.1 in
      let l : location ≡ record { fun = fun; args = vs } = ap (λ n. record { fun = n; args = location.args }) (sym f) ∙ ap (λ a. record { fun = fun; args = a }) (sym a) in
      e ∙ ap (λ l. value (cell_of signatures l)) l ∙ ap value (cell-is signatures fun signature vs here lies))

module _ (program : Resolved) (placement : Placement) (same : placement.signatures ≡ signatures_of program) (ram : List ℕ) (inputs : List ℤ) (fun : ℕ) (signature : Signature) (vs : List ℤ)
    (here : slice_get placement.signatures fun ≡ Some signature) (lies : lie_in signature.args vs ≡ true) where
  pub kind-is : signature.kind ≡ (fun_of program fun).kind
  kind-is = ap (λ (s : Signature). s.kind) (get_map (signature_of program.domains) program.funs fun signature no_fun (ap (λ signatures. slice_get signatures fun) (sym same) ∙ here))

  -- what is read of a function whose values are the state's is at its cell
  state-number : numbered (decoded placement ram) (place_among (state_locations (signatures_of program)) (record { fun = fun; args = vs })) ≡ numbered (decoded placement ram) (place_among (state_locations placement.signatures) (record { fun = fun; args = vs }))
  state-number = ap (λ signatures. numbered (decoded placement ram) (place_among (state_locations signatures) (record { fun = fun; args = vs }))) (sym same)

  mapped : (cells : List Cell) → map (value_at ram) (map (entry_at placement) cells) ≡ map (λ cell. value_at ram (entry_at placement cell)) cells
  mapped [] = refl
  mapped (c ∷ cs) = ap (λ vs. value_at ram (entry_at placement c) ∷ vs) (mapped cs)

  state-at : is_state signature.kind ≡ true → numbered (decoded placement ram) (place_among (state_locations (signatures_of program)) (record { fun = fun; args = vs })) ≡ value_at ram (entry_at placement (cell_at fun signature vs))
  state-at kind =
      state-number ∙ ap (λ values. numbered values (place_among (state_locations placement.signatures) (record { fun = fun; args = vs }))) (mapped (state_cells placement))
      ∙ at-cell is_state placement.signatures (λ cell. value_at ram (entry_at placement cell)) fun signature vs here kind lies

  by-state : (kind : Kind) → (fun_of program fun).kind ≡ kind → is_state kind ≡ true
      → numbered (values_read program (decoded placement ram) inputs kind fun) (number_read program kind fun vs) ≡ value_at ram (entry_at placement (cell_at fun signature vs))
  by-state kinds.Controlled e h = state-at (ap is_state (kind-is ∙ e))
  by-state kinds.Output e h = state-at (ap is_state (kind-is ∙ e))
  by-state kinds.Input e h = absurd cc
  by-state kinds.Static e h = absurd cc

  pub read-state : is_state signature.kind ≡ true → read program (decoded placement ram) inputs fun vs ≡ value_at ram (entry_at placement (cell_at fun signature vs))
  unfolding read
  read-state kind = by-state (fun_of program fun).kind refl (ap is_state (sym kind-is) ∙ kind)

  input-at : HoldsInputs placement ram inputs → is_input signature.kind ≡ true
      → numbered inputs (place_among (input_locations (signatures_of program)) (record { fun = fun; args = vs })) ≡ input_at placement ram (cell_at fun signature vs)
  input-at held kind =
      ap (λ signatures. numbered inputs (place_among (input_locations signatures) (record { fun = fun; args = vs }))) (sym same)
      ∙ ap (λ values. numbered values (place_among (input_locations placement.signatures) (record { fun = fun; args = vs }))) (sym held)
      ∙ at-cell is_input placement.signatures (input_at placement ram) fun signature vs here kind lies

  by-input : HoldsInputs placement ram inputs → (kind : Kind) → (fun_of program fun).kind ≡ kind → is_input kind ≡ true
      → numbered (values_read program (decoded placement ram) inputs kind fun) (number_read program kind fun vs) ≡ input_at placement ram (cell_at fun signature vs)
  by-input held kinds.Input e h = input-at held (ap is_input (kind-is ∙ e))
  by-input held kinds.Controlled e h = absurd cc
  by-input held kinds.Output e h = absurd cc
  by-input held kinds.Static e h = absurd cc

  pub read-input : HoldsInputs placement ram inputs → is_input signature.kind ≡ true → read program (decoded placement ram) inputs fun vs ≡ input_at placement ram (cell_at fun signature vs)
  unfolding read
  read-input held kind = by-input held (fun_of program fun).kind refl (ap is_input (sym kind-is) ∙ kind)
