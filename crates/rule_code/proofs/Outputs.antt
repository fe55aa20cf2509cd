-- What is sent are the outputs of the new state.
use Rattle.std.proofs.Common.{◌≡◌, ℕ, suc, ◌+◌, ℤ, Bool, true, false, cond, List, [], ◌∷◌, ◌++◌, length, map, zip, Some, refl, sym, ap, ◌∙◌, arith}
use Rattle.std.specs.{Prelude.{slice_get}, List.{filter, range_with_len}}
use Rattle.std.proofs.lemmas.List.Elements.{filter-append}
use Rattle.asm_tree.specs.declared.decl.Kind.{Kind}
use Rattle.asm_tree.specs.declared.decl.Kind.TheVariants as kinds
use Rattle.rv_machine.specs.Run.{ports_taken, words_sent}
use Rattle.rv_machine.specs.Word.{extended}
use Rattle.state_space.specs.{declared.signature.{Signature.{Signature}}, Locations.{is_output}, Locations.{Location, is_state, located, state_locations, tuples}}
use Rattle.state_layout.specs.declared.cell.Cell.{Cell}
use Rattle.state_layout.specs.Map.{Placement, cell_of, decoded, entry_at, value_at}
use Rattle.staged_commit.specs.Code.{output_cells}
use Rattle.staged_commit.specs.Ports.{sends}
use Rattle.round_spec.specs.Ports.{is_output_location, is_output_signature, outputs}
use Rattle.rule_code.specs.PortLaw.{OutputsAreSent}

sent-words : (placement : Placement) (ram : List ℕ) (port : ℕ) (cells : List Cell)
    → words_sent (sends placement ram port cells) ≡ zip (range_with_len port (length (map (λ cell. extended (value_at ram (entry_at placement cell))) cells))) (map (λ cell. extended (value_at ram (entry_at placement cell))) cells)
sent-words placement ram port [] = refl
sent-words placement ram port (cell ∷ cells) = ap (λ ws. (port, extended (value_at ram (entry_at placement cell))) ∷ ws) (sent-words placement ram (port + 1) cells)

sent-untaken : (placement : Placement) (ram : List ℕ) (port : ℕ) (cells : List Cell) → ports_taken (sends placement ram port cells) ≡ []
sent-untaken placement ram port [] = refl
sent-untaken placement ram port (cell ∷ cells) = sent-untaken placement ram (port + 1) cells

-- the values beside the locations that are kept are those of the kept locations
beside-kept : (keep : Location → Bool) (value : Location → ℤ) (locations : List Location)
    → map (λ (pair : Location × ℤ). pair.1) (filter (λ (pair : Location × ℤ). keep pair.0) (zip locations (map value locations))) ≡ map value (filter keep locations)
beside-kept keep value [] = refl
beside-kept keep value (location ∷ locations) =
    either (keep location) (beside-kept keep value locations)
  where
    either : (b : Bool)
        → map (λ (pair : Location × ℤ). pair.1) (filter (λ (pair : Location × ℤ). keep pair.0) (zip locations (map value locations))) ≡ map value (filter keep locations)
        → map (λ (pair : Location × ℤ). pair.1) (cond b ((location, value location) ∷ filter (λ (pair : Location × ℤ). keep pair.0) (zip locations (map value locations))) (filter (λ (pair : Location × ℤ). keep pair.0) (zip locations (map value locations))))
        ≡ map value (cond b (location ∷ filter keep locations) (filter keep locations))
    either true rest = ap (λ vs. value location ∷ vs) rest
    either false rest = rest

all-kept : (keep : Location → Bool) (place : List ℤ → Location) → ((args : List ℤ) → keep (place args) ≡ true) → (tuples : List (List ℤ)) → filter keep (map place tuples) ≡ map place tuples
all-kept keep place h [] = refl
all-kept keep place h (args ∷ rest) = rw (h args) (ap (λ ls. place args ∷ ls) (all-kept keep place h rest))

none-kept : (keep : Location → Bool) (place : List ℤ → Location) → ((args : List ℤ) → keep (place args) ≡ false) → (tuples : List (List ℤ)) → filter keep (map place tuples) ≡ []
none-kept keep place h [] = refl
none-kept keep place h (args ∷ rest) = rw (h args) (none-kept keep place h rest)

module _ (signatures : List Signature) where
  -- the locations of one function
  own : (Kind → Bool) → ℕ → Signature → List Location
  own is_kind n signature = cond (is_kind signature.kind) (map (λ args. record { fun = n; args = args }) (tuples signature.args)) []

  own-kept : (n : ℕ) (signature : Signature) → slice_get signatures n ≡ Some signature → (kind : Kind) → signature.kind ≡ kind
      → filter (is_output_location signatures) (cond (is_state kind) (map (λ args. record { fun = n; args = args }) (tuples signature.args)) []) ≡ cond (is_output kind) (map (λ args. record { fun = n; args = args }) (tuples signature.args)) []
  own-kept n signature here kinds.Controlled k = none-kept (is_output_location signatures) (λ args. record { fun = n; args = args }) (λ args. ap is_output_signature here ∙ ap is_output k) (tuples signature.args)
  own-kept n signature here kinds.Output k = all-kept (is_output_location signatures) (λ args. record { fun = n; args = args }) (λ args. ap is_output_signature here ∙ ap is_output k) (tuples signature.args)
  own-kept n signature here kinds.Input k = refl
  own-kept n signature here kinds.Static k = refl

  kept-located : (n : ℕ) (rest : List Signature) → ((i : ℕ) (signature : Signature) → slice_get rest i ≡ Some signature → slice_get signatures (n + i) ≡ Some signature)
      → filter (is_output_location signatures) (located is_state n rest) ≡ located is_output n rest
  kept-located n [] h = refl
  kept-located n (signature ∷ rest) h =
      let e : n + 0 ≡ n = omega arith in
      let here : slice_get signatures n ≡ Some signature = ap (slice_get signatures) (sym e) ∙ h 0 signature refl in
      let further = kept-located (n + 1) rest (λ i other at. (let f : n + 1 + i ≡ n + suc i = omega arith in ap (slice_get signatures) f ∙ h (suc i) other at)) in
      filter-append (is_output_location signatures) (cond (is_state signature.kind) (map (λ args. record { fun = n; args = args }) (tuples signature.args)) []) (located is_state (n + 1) rest)
      ∙ ap (λ ls. ls ++ filter (is_output_location signatures) (located is_state (n + 1) rest)) (own-kept n signature here signature.kind refl)
      ∙ ap (λ ls. cond (is_output signature.kind) (map (λ args. record { fun = n; args = args }) (tuples signature.args)) [] ++ ls) further

maps-joined : {A B C D : Type 0} (f : C → D) (g : B → C) (h : A → B) (xs : List A) → map f (map g (map h xs)) ≡ map (λ x. f (g (h x))) xs
maps-joined f g h [] = refl
maps-joined f g h (x ∷ xs) = ap (λ ys. f (g (h x)) ∷ ys) (maps-joined f g h xs)

two-maps : {A B C : Type 0} (f : B → C) (g : A → B) (xs : List A) → map f (map g xs) ≡ map (λ x. f (g x)) xs
two-maps f g [] = refl
two-maps f g (x ∷ xs) = ap (λ ys. f (g x) ∷ ys) (two-maps f g xs)

module _ (placement : Placement) (ram : List ℕ) where
  value : Location → ℤ
  value location = value_at ram (entry_at placement (cell_of placement.signatures location))

  outputs-are : outputs placement.signatures (decoded placement ram) ≡ map (λ location. value_at ram (entry_at placement (cell_of placement.signatures location))) (located is_output 0 placement.signatures)
  outputs-are =
      ap (λ vs. map (λ (pair : Location × ℤ). pair.1) (filter (λ (pair : Location × ℤ). is_output_location placement.signatures pair.0) (zip (state_locations placement.signatures) vs)))
      (maps-joined (value_at ram) (entry_at placement) (cell_of placement.signatures) (state_locations placement.signatures))
      ∙ beside-kept (is_output_location placement.signatures) (λ location. value_at ram (entry_at placement (cell_of placement.signatures location))) (state_locations placement.signatures)
      ∙ ap (map (λ location. value_at ram (entry_at placement (cell_of placement.signatures location)))) (kept-located placement.signatures 0 placement.signatures (λ i signature at. (let none : 0 + i ≡ i = omega arith in ap (slice_get placement.signatures) none ∙ at)))

  words-are : map (λ cell. extended (value_at ram (entry_at placement cell))) (output_cells placement.signatures) ≡ map extended (outputs placement.signatures (decoded placement ram))
  words-are =
      two-maps (λ cell. extended (value_at ram (entry_at placement cell))) (cell_of placement.signatures) (located is_output 0 placement.signatures)
      ∙ sym (two-maps extended (λ location. value_at ram (entry_at placement (cell_of placement.signatures location))) (located is_output 0 placement.signatures))
      ∙ ap (map extended) (sym outputs-are)

pub outputs-are-sent : OutputsAreSent
outputs-are-sent program placement same ram = (
  sent-words placement ram 0 (output_cells placement.signatures)
      ∙ ap (λ words. zip (range_with_len 0 (length words)) words) (words-are placement ram ∙ ap (λ signatures. map extended (outputs signatures (decoded placement ram))) same),
  sent-untaken placement ram 0 (output_cells placement.signatures),
)
