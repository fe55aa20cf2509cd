-- What a map keeps is made function by function.
use Rattle.std.proofs.Common.{◌≡◌, ℕ, suc, ◌+◌, ◌-◌, ◌<◌, ◌≤◌, ◌^◌, ◌%◌, ℤ, Bool, true, false, List, [], ◌∷◌, ◌++◌, map, length, take, get_or, Some, refl, sym, ap, ◌∙◌, subst, inl, inr, append_assoc, append-nil, length-append, arith}
use Rattle.std.specs.Prelude.{if◌then◌else◌, slice_get, unwrap_or}
use Rattle.std.proofs.lemmas.Bool.{cases_eq}
use Rattle.std.proofs.lemmas.List.{get_or_append_left, get_or-append_right, length-map, length-take-le, map-append, take_more}
use Rattle.std.proofs.lemmas.Option.{slice_get-get_or}
use Rattle.std.proofs.lemmas.List.Sums.{fold_more, sum_by_more}
use Rattle.asm_tree.specs.declared.decl.Kind.{Kind}
use Rattle.state_space.specs.declared.signature.Range.{Range}
use Rattle.state_space.specs.declared.signature.Signature.{Signature}
use Rattle.state_space.specs.Arrays.{padded_number}
use Rattle.state_space.specs.Locations.{Location, is_input, is_state, is_static, located, tuples}
use Rattle.state_space.specs.Sizes.{fits, most, padded_own, padded_sum}
use Rattle.state_space.proofs.Padding.{read_at}
use Rattle.state_space.proofs.Small.{room}
use Rattle.state_space.proofs.Widening.{few_from}
use Rattle.state_layout.specs.declared.cell.Cell.{Cell}
use Rattle.state_layout.specs.declared.ends.Ends.{Ends}
use Rattle.state_layout.specs.Map.{IsCell, Placement, args_of, array_behind, cell_of, cells, padded_before, padded_index}
use Rattle.state_layout.specs.Tables.{AreLow, cell_in, ends_at, ends_behind, no_ends}
use Rattle.state_layout.proofs.Arrays.{end-all, end-bound, first-all}

-- ---- cells
-- the cell of one tuple more
pub tuples-more : (fun : ℕ) (ranges : List Range) (number index : ℕ) (old now : List Cell) → now ≡ old ++ map (cell_in fun ranges) (take number (tuples ranges))
    → number < length (tuples ranges) → Some index ≡ padded_number ranges number
    → now ++ record { fun = fun; index = index } ∷ [] ≡ old ++ map (cell_in fun ranges) (take (number + 1) (tuples ranges))
tuples-more fun ranges number index old now is within e =
    let found : index ≡ padded_index ranges (get_or (tuples ranges) number []) = ap (λ o. unwrap_or o 0) e in
    let one : Cell = record { fun = fun; index = index } in
    ap (λ l. l ++ one ∷ []) is ∙ append_assoc old (map (cell_in fun ranges) (take number (tuples ranges))) (one ∷ [])
    ∙ ap (λ n. old ++ (map (cell_in fun ranges) (take number (tuples ranges)) ++ record { fun = fun; index = n } ∷ [])) found
    ∙ ap (λ l. old ++ l) (sym (map-append (cell_in fun ranges) (take number (tuples ranges)) (get_or (tuples ranges) number [] ∷ [])))
    ∙ ap (λ l. old ++ map (cell_in fun ranges) l) (sym (take_more (tuples ranges) number [] within))

module _ (is_kind : Kind → Bool) where
  located-append : (n : ℕ) (xs ys : List Signature) → located is_kind n (xs ++ ys) ≡ located is_kind n xs ++ located is_kind (n + length xs) ys
  located-append n [] ys = ap (λ m. located is_kind m ys) (let e : n ≡ n + 0 = omega arith in e)
  located-append n (x ∷ xs) ys =
      let e : (n + 1) + length xs ≡ n + suc (length xs) = omega arith in
      let own : List Location = if is_kind x.kind then map (λ args. record { fun = n; args = args }) (tuples x.args) else [] in
      ap (λ l. own ++ l) (located-append (n + 1) xs ys) ∙ ap (λ m. own ++ (located is_kind (n + 1) xs ++ located is_kind m ys)) e
      ∙ sym (append_assoc own (located is_kind (n + 1) xs) (located is_kind (n + suc (length xs)) ys))

  -- the cells of the first of the functions
  abbrev pub cells_first : List Signature → ℕ → List Cell
  cells_first signatures i = map (cell_of signatures) (located is_kind 0 (take i signatures))

  own-cells : (signatures : List Signature) (i : ℕ) (signature : Signature) (ts : List (List ℤ)) → slice_get signatures i ≡ Some signature
      → map (cell_of signatures) (map (λ args. record { fun = i; args = args }) ts) ≡ map (cell_in i signature.args) ts
  own-cells signatures i signature [] here = refl
  own-cells signatures i signature (t ∷ ts) here =
      let first : padded_index (args_of (slice_get signatures i)) t ≡ padded_index signature.args t = ap (λ o. padded_index (args_of o) t) here in
      let rest = own-cells signatures i signature ts here in
      cc

  pub functions-more : (signatures : List Signature) (i : ℕ) (signature : Signature) → signature ≡ get_or signatures i signature → i < length signatures
      → cells_first signatures (i + 1) ≡ cells_first signatures i ++ (if is_kind signature.kind then map (cell_in i signature.args) (tuples signature.args) else [])
  functions-more signatures i signature is within =
      let here : slice_get signatures i ≡ Some signature = read_at signatures signatures i signature refl is within in
      let long : 0 + length (take i signatures) ≡ i = omega (arith, length-take-le i signatures (omega arith)) in
      ap (λ l. map (cell_of signatures) (located is_kind 0 l)) (take_more signatures i signature within)
      ∙ ap (λ (s : Signature). map (cell_of signatures) (located is_kind 0 (take i signatures ++ s ∷ []))) (sym is)
      ∙ ap (map (cell_of signatures)) (located-append 0 (take i signatures) (signature ∷ []))
      ∙ map-append (cell_of signatures) (located is_kind 0 (take i signatures)) (located is_kind (0 + length (take i signatures)) (signature ∷ []))
      ∙ ap (λ m. cells_first signatures i ++ map (cell_of signatures) (located is_kind m (signature ∷ []))) long
      ∙ ap (λ l. cells_first signatures i ++ l) (by (is_kind signature.kind) here)
    where
      by : (b : Bool) → slice_get signatures i ≡ Some signature
          → map (cell_of signatures) ((if b then map (λ args. record { fun = i; args = args }) (tuples signature.args) else []) ++ []) ≡ (if b then map (cell_in i signature.args) (tuples signature.args) else [])
      by true here = ap (map (cell_of signatures)) (append-nil (map (λ args. record { fun = i; args = args }) (tuples signature.args))) ∙ own-cells signatures i signature (tuples signature.args) here
      by false here = refl

-- ---- the ends of arrays
-- what is known after the first of the functions
pub record Ended (placement : Placement) (i : ℕ) (ends : List Ends) (end : Ends) : Type 0 where
  pub long : length ends ≡ i + 1
  pub each : (fun : ℕ) → fun ≤ i → get_or ends fun no_ends ≡ ends_at placement fun
  pub last : end ≡ ends_at placement i

pub ends-more : (placement : Placement) (i : ℕ) (d : Signature) → i < length placement.signatures
    → ends_at placement (i + 1) ≡ ends_behind placement.layout (ends_at placement i) (get_or placement.signatures i d)
ends-more placement i d within =
    let values = fold_more (array_behind placement.layout) 0 placement.signatures i d within in
    let flags = sum_by_more (padded_own is_state) placement.signatures i d within in
    let kept = sum_by_more (padded_own is_input) placement.signatures i d within in
    let more = sum_by_more (padded_own is_static) placement.signatures i d within in
    let tables : padded_before is_static placement (i + 1) % 2 ^ 32 ≡ (padded_before is_static placement i % 2 ^ 32 + padded_own is_static (get_or placement.signatures i d)) % 2 ^ 32 = omega arith in
    cc

pub ends-low : (placement : Placement) (fun : ℕ) → fits placement.signatures ≡ true → AreLow (ends_at placement fun)
ends-low placement fun h =
    let r = room placement.signatures h in
    record {
      values = omega (arith, r.states, end-bound placement.layout 0 placement.signatures, end-all placement.layout placement.signatures fun);
      flags = omega (arith, r.states, first-all is_state placement.signatures fun);
      kept = omega (arith, r.inputs, first-all is_input placement.signatures fun);
    }

pub ended-more : (placement : Placement) (i : ℕ) (ends : List Ends) (end next : Ends) (d : Signature) → Ended placement i ends end → i < length placement.signatures
    → next ≡ ends_behind placement.layout end (get_or placement.signatures i d) → Ended placement (i + 1) (ends ++ next ∷ []) next
ended-more placement i ends end next d e within is =
    let now : next ≡ ends_at placement (i + 1) = is ∙ ap (λ x. ends_behind placement.layout x (get_or placement.signatures i d)) e.last ∙ sym (ends-more placement i d within) in
    record {
      long = omega (arith, length-append ends (next ∷ []), e.long);
      each = λ fun h. elim (cases_eq fun (i + 1)) [
        | inl q ↦ get_or-append_right ends (next ∷ []) (i + 1) fun no_ends e.long (omega arith) ∙ ap (λ n. get_or (next ∷ []) n no_ends) (let z : fun - (i + 1) ≡ 0 = omega arith in z) ∙ now ∙ ap (ends_at placement) (sym q)
        | inr ne ↦ get_or_append_left ends (next ∷ []) no_ends fun (omega (arith, e.long)) ∙ e.each fun (omega arith)
      ];
      last = now;
    }

-- one function more takes no more than there may be
pub ended-low : (placement : Placement) (i : ℕ) (ends : List Ends) (end : Ends) (signature : Signature) → Ended placement i ends end → i < length placement.signatures → signature ≡ get_or placement.signatures i signature
    → fits placement.signatures ≡ true → AreLow (ends_behind placement.layout end signature)
ended-low placement i ends end signature e within is room =
    let next : ends_behind placement.layout end signature ≡ ends_at placement (i + 1) =
    ap (λ x. ends_behind placement.layout x signature) e.last ∙ ap (ends_behind placement.layout (ends_at placement i)) is ∙ sym (ends-more placement i signature within) in
    subst AreLow (sym next) (ends-low placement (i + 1) room)

-- a cell's index is small
pub index-low : (is_kind : Kind → Bool) (signatures : List Signature) (cell : Cell) → padded_sum is_kind signatures ≤ most → IsCell is_kind signatures cell → cell.index < 2 ^ 20
index-low is_kind signatures cell few c = omega (arith, few_from is_kind signatures cell.fun c.signature few c.here c.held, c.below)

-- what is read of the kept cells
pub cell-there : (is_kind : Kind → Bool) (signatures : List Signature) (list : List Cell) (i : ℕ) (d : Cell) → list ≡ cells is_kind signatures → i < length (located is_kind 0 signatures)
    → slice_get (cells is_kind signatures) i ≡ Some (get_or list i d)
cell-there is_kind signatures list i d same within =
    slice_get-get_or (cells is_kind signatures) i d (omega (arith, length-map (located is_kind 0 signatures) (cell_of signatures))) ∙ ap (λ l. Some (get_or l i d)) (sym same)
