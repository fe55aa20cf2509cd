-- The lines of locations, function by function.
use Rattle.std.proofs.Common.{◌≡◌, ℕ, ◌+◌, ◌<◌, ◌≤◌, ℤ, Bool, true, false, List, [], ◌∷◌, ◌++◌, length, drop, get_or, Some, sym, ap, ◌∙◌, append_assoc, append-nil, arith}
use Rattle.std.specs.Prelude.{if◌then◌else◌, slice_get}
use Rattle.std.proofs.lemmas.List.{drop_more, drop_all, length-map}
use Rattle.std.proofs.lemmas.List.Concat.{flat_map-append}
use Rattle.std.proofs.lemmas.Option.{get_or_from_slice_get, slice_get_within}
use Rattle.asm_tree.specs.declared.decl.Kind.{Kind}
use Rattle.state_space.specs.declared.signature.Signature.{Signature}
use Rattle.state_space.specs.Firsts.{before}
use Rattle.state_space.specs.Locations.{Location, located, own_count, tuples}
use Rattle.state_space.proofs.Places.{before-more, before-within}
use Rattle.text_core.specs.WrittenLines.{ended, lines_text}
use Rattle.image_text.specs.Report.{numbered}
use Rattle.image_text.specs.ReportParts.{own_locations}

module _ (line : ℕ → Location → List ℕ) where
  numbered-append : (n : ℕ) (xs ys : List Location) → numbered line n (xs ++ ys) ≡ numbered line n xs ++ numbered line (n + length xs) ys
  numbered-append n [] ys = ap (λ m. numbered line m ys) (let e : n ≡ n + 0 = omega arith in e)
  numbered-append n (x ∷ xs) ys =
      let e : (n + 1) + length xs ≡ n + length (x ∷ xs) = omega arith in
      ap (λ ls. line n x ∷ ls) (numbered-append (n + 1) xs ys ∙ ap (λ m. numbered line (n + 1) xs ++ numbered line m ys) e)

  -- one location more
  pub tuple-more : (out out' whole : List ℕ) (fun number tuple : ℕ) (ts : List (List ℤ)) → tuple < length ts
      → out' ≡ out ++ ended (line number (record { fun = fun; args = get_or ts tuple [] }))
      → out ++ lines_text (numbered line number (own_locations fun (drop tuple ts))) ≡ whole
      → out' ++ lines_text (numbered line (number + 1) (own_locations fun (drop (tuple + 1) ts))) ≡ whole
  tuple-more out out' whole fun number tuple ts within wrote so_far =
      let one : List ℕ = ended (line number (record { fun = fun; args = get_or ts tuple [] })) in
      let rest : List ℕ = lines_text (numbered line (number + 1) (own_locations fun (drop (tuple + 1) ts))) in
      ap (λ o. o ++ rest) wrote ∙ append_assoc out one rest
      ∙ ap (λ us. out ++ lines_text (numbered line number (own_locations fun us))) (sym (drop_more ts tuple [] within)) ∙ so_far

  pub tuples-end : (out whole : List ℕ) (fun number tuple : ℕ) (ts : List (List ℤ)) → length ts ≤ tuple
      → out ++ lines_text (numbered line number (own_locations fun (drop tuple ts))) ≡ whole → out ≡ whole
  tuples-end out whole fun number tuple ts past so_far =
      sym (append-nil out) ∙ ap (λ us. out ++ lines_text (numbered line number (own_locations fun us))) (sym (drop_all tuple ts past)) ∙ so_far

  module _ (held : Kind → Bool) (signatures : List Signature) (fun : ℕ) (s : Signature) (here : slice_get signatures fun ≡ Some s) where
    abbrev later : List Location
    later = located held (fun + 1) (drop (fun + 1) signatures)

    opened : located held fun (drop fun signatures) ≡ (if held s.kind then own_locations fun (tuples s.args) else []) ++ later
    opened =
        ap (located held fun) (drop_more signatures fun s (slice_get_within signatures fun s here) ∙ ap (λ x. x ∷ drop (fun + 1) signatures) (get_or_from_slice_get signatures fun s s here))

    pub function-more : (out out' whole : List ℕ) (first next : ℕ) → held s.kind ≡ true → next ≡ first + length (tuples s.args)
        → out' ≡ out ++ lines_text (numbered line first (own_locations fun (tuples s.args)))
        → out ++ lines_text (numbered line first (located held fun (drop fun signatures))) ≡ whole
        → out' ++ lines_text (numbered line next later) ≡ whole
    function-more out out' whole first next is_held behind wrote so_far =
        let own : List Location = own_locations fun (tuples s.args) in
        let text : List ℕ = lines_text (numbered line first own) in
        let rest : List ℕ = lines_text (numbered line next later) in
        let number : first + length own ≡ next = ap (λ n. first + n) (length-map (tuples s.args) (λ args. record { fun = fun; args = args })) ∙ sym behind in
        let whole_text : lines_text (numbered line first (located held fun (drop fun signatures))) ≡ text ++ rest =
        ap (λ ls. lines_text (numbered line first ls)) (opened ∙ ap (λ b. (if b then own else []) ++ later) is_held)
        ∙ ap lines_text (numbered-append first own later) ∙ flat_map-append ended (numbered line first own) (numbered line (first + length own) later)
        ∙ ap (λ n. text ++ lines_text (numbered line n later)) number in
        ap (λ o. o ++ rest) wrote ∙ append_assoc out text rest ∙ ap (λ t. out ++ t) (sym whole_text) ∙ so_far

    pub function-other : (out whole : List ℕ) (first : ℕ) → held s.kind ≡ false
        → out ++ lines_text (numbered line first (located held fun (drop fun signatures))) ≡ whole
        → out ++ lines_text (numbered line first later) ≡ whole
    function-other out whole first is_other so_far =
        ap (λ ls. out ++ lines_text (numbered line first ls)) (sym (opened ∙ ap (λ b. (if b then own_locations fun (tuples s.args) else []) ++ later) is_other)) ∙ so_far

  pub functions-end : (held : Kind → Bool) (signatures : List Signature) (out whole : List ℕ) (first fun : ℕ) → length signatures ≤ fun
      → out ++ lines_text (numbered line first (located held fun (drop fun signatures))) ≡ whole → out ≡ whole
  functions-end held signatures out whole first fun past so_far =
      sym (append-nil out) ∙ ap (λ ss. out ++ lines_text (numbered line first (located held fun ss))) (sym (drop_all fun signatures past)) ∙ so_far

-- how many locations are before the next function
pub before-next : (held : Kind → Bool) (signatures : List Signature) (fun : ℕ) (s : Signature) → slice_get signatures fun ≡ Some s
    → before held signatures (fun + 1) ≡ before held signatures fun + own_count held s
before-next held signatures fun s here =
    before-more held signatures fun s (slice_get_within signatures fun s here) ∙ ap (λ x. before held signatures fun + own_count held x) (get_or_from_slice_get signatures fun s s here)

pub own-held : (held : Kind → Bool) (s : Signature) (b : Bool) → held s.kind ≡ b → own_count held s ≡ (if b then length (tuples s.args) else 0)
own-held held s b e = ap (λ c. if c then length (tuples s.args) else 0) e

-- a function's locations are among all
pub own-within : (held : Kind → Bool) (signatures : List Signature) (fun : ℕ) (s : Signature) → slice_get signatures fun ≡ Some s → held s.kind ≡ true
    → before held signatures fun + length (tuples s.args) ≤ length (located held 0 signatures)
own-within held signatures fun s here is_held =
    omega (arith, before-next held signatures fun s here, own-held held s true is_held, before-within held signatures (fun + 1))
