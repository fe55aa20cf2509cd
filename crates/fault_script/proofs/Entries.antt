-- The entries of a state, one after another.
use Rattle.std.proofs.Common.{◌≡◌, ℕ, ◌+◌, ◌<◌, ◌≤◌, ℤ, pos, List, [], ◌∷◌, ◌++◌, length, take, drop, get_or, min, sym, ap, ◌∙◌, arith}
use Rattle.std.specs.List.{zip}
use Rattle.std.proofs.lemmas.List.{append-nil, drop_more, get_or-map, length-map, take_all, take_more, take-append-drop}
use Rattle.std.proofs.lemmas.List.Concat.{flat_map-append}
use Rattle.std.proofs.lemmas.Slice.Zip.{get_or-zip, length-zip}
use Rattle.asm_names.specs.declared.program.Resolved.{Resolved}
use Rattle.asm_ranges.specs.Values.{fun_of}
use Rattle.state_space.specs.declared.signature.Signature.{Signature}
use Rattle.state_space.specs.Locations.{Location, location_at, no_location, signatures_of, state_locations}
use Rattle.fault_script.specs.StateText.{entries, entry_text, spaced, state_text}

module _ (program : Resolved) (state : List ℤ) (space : List Signature) (spaces : space ≡ signatures_of program) (place : ℕ) where
  abbrev es : List (List ℕ)
  es = entries program state

  abbrev text_at : Location × ℤ → List ℕ
  text_at pair = entry_text program.domains (fun_of program pair.0.fun) pair.0.args pair.1

  long : length es ≡ min (length (state_locations space)) (length state)
  long =
      length-map (zip (state_locations (signatures_of program)) state) (λ pair. entry_text program.domains (fun_of program pair.0.fun) pair.0.args pair.1)
      ∙ length-zip (state_locations (signatures_of program)) state ∙ ap (λ s. min (length (state_locations s)) (length state)) (sym spaces)

  past : length es ≤ place → state_text program state ≡ spaced (take place es)
  unfolding state_text
  past h = ap spaced (sym (take_all place es h))

  -- no location is left
  pub no-location : length (state_locations space) ≤ place → state_text program state ≡ spaced (take place es)
  no-location h = past (omega (arith, long))

  -- no value is left
  pub no-value : length state ≤ place → state_text program state ≡ spaced (take place es)
  no-value h = past (omega (arith, long))

  module _ (inside : place < length (state_locations space)) (below : place < length state) (x : ℤ) (is : x ≡ get_or state place (pos 0)) where
    abbrev entry : List ℕ
    entry = 32 ∷ entry_text program.domains (fun_of program (location_at space place).fun) (location_at space place).args x

    within : place < length es
    within = omega (arith, long)

    entry-is : 32 ∷ get_or es place [] ≡ entry
    entry-is =
        let zipped : place < length (zip (state_locations (signatures_of program)) state) =
        omega (arith, length-zip (state_locations (signatures_of program)) state, ap (λ s. length (state_locations s)) spaces) in
        let shown : get_or es place [] ≡ text_at (get_or (zip (state_locations (signatures_of program)) state) place (no_location, pos 0)) =
        get_or-map (λ pair. entry_text program.domains (fun_of program pair.0.fun) pair.0.args pair.1) (zip (state_locations (signatures_of program)) state) place (no_location, pos 0) [] zipped in
        let pair : get_or (zip (state_locations (signatures_of program)) state) place (no_location, pos 0) ≡ (location_at (signatures_of program) place, get_or state place (pos 0)) =
        get_or-zip (state_locations (signatures_of program)) state place (no_location, pos 0) (omega (arith, ap (λ s. length (state_locations s)) spaces)) below in
        ap (λ t. 32 ∷ t) (shown ∙ ap text_at pair)
        ∙ ap (λ s. 32 ∷ entry_text program.domains (fun_of program (location_at s place).fun) (location_at s place).args (get_or state place (pos 0))) (sym spaces)
        ∙ ap (λ v. 32 ∷ entry_text program.domains (fun_of program (location_at space place).fun) (location_at space place).args v) (sym is)

    -- one entry more
    pub entry-more : spaced (take (place + 1) es) ≡ spaced (take place es) ++ entry
    entry-more =
        ap spaced (take_more es place [] within) ∙ flat_map-append (λ text. 32 ∷ text) (take place es) (get_or es place [] ∷ [])
        ∙ ap (λ t. spaced (take place es) ++ t) (append-nil (32 ∷ get_or es place []) ∙ entry-is)

    -- what stands before and behind an entry
    pub entry-rest : state_text program state ≡ spaced (take place es) ++ (entry ++ spaced (drop (place + 1) es))
    unfolding state_text
    entry-rest =
        ap spaced (sym (take-append-drop place es)) ∙ flat_map-append (λ text. 32 ∷ text) (take place es) (drop place es)
        ∙ ap (λ r. spaced (take place es) ++ spaced r) (drop_more es place [] within)
        ∙ ap (λ e. spaced (take place es) ++ (e ++ spaced (drop (place + 1) es))) entry-is
