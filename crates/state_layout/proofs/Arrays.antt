-- Where the arrays of functions begin and end.
use Rattle.std.proofs.Common.{◌≡◌, ℕ, ◌+◌, ◌*◌, ◌<◌, ◌≤◌, Bool, true, false, List, [], ◌∷◌, ◌++◌, length, take, drop, get_or, Some, sym, ap, ◌∙◌, arith}
use Rattle.std.specs.Prelude.{if◌then◌else◌, slice_get}
use Rattle.std.specs.List.{fold}
use Rattle.std.proofs.Math.Pow.{pow_pos}
use Rattle.std.proofs.lemmas.Nat.{mul-le}
use Rattle.std.proofs.lemmas.List.{take-append-drop, take-take, take_more}
use Rattle.std.proofs.lemmas.List.Sums.{fold-append, sum_by-cons}
use Rattle.std.proofs.lemmas.Option.{get_or_from_slice_get, slice_get_within}
use Rattle.asm_tree.specs.declared.decl.Kind.{Kind}
use Rattle.state_space.specs.declared.signature.Range.{Range}
use Rattle.state_space.specs.declared.signature.Signature.{Signature}
use Rattle.state_space.specs.Decoding.{exponent}
use Rattle.state_space.specs.Locations.{is_state}
use Rattle.state_space.specs.Sizes.{padded_count, padded_own, padded_sum}
use Rattle.state_layout.specs.declared.layout.Layout.{Layout}
use Rattle.state_layout.specs.Map.{array_behind, array_size, arrays_end, raised_for, value_access, value_width}
use Rattle.state_layout.proofs.Widths.{raises, width-some}

-- ---- a fold that only grows, over the first of a list
module _ {A : Type 0} (f : ℕ → A → ℕ) (grows : (n : ℕ) (x : A) → n ≤ f n x) where
  pub fold-grows : (n : ℕ) (xs : List A) → n ≤ fold f n xs
  fold-grows n [] = omega arith
  fold-grows n (x ∷ xs) = omega (arith, grows n x, fold-grows (f n x) xs)

  pub fold-more : (n : ℕ) (xs : List A) (i : ℕ) (d : A) → i < length xs → fold f n (take (i + 1) xs) ≡ f (fold f n (take i xs)) (get_or xs i d)
  fold-more n xs i d h = ap (fold f n) (take_more xs i d h) ∙ fold-append f n (take i xs) (get_or xs i d ∷ [])

  pub fold-up : (n : ℕ) (xs : List A) (i j : ℕ) → i ≤ j → fold f n (take i xs) ≤ fold f n (take j xs)
  fold-up n xs i j h =
      let parts : take j xs ≡ take i xs ++ drop i (take j xs) = sym (take-append-drop i (take j xs)) ∙ ap (λ l. l ++ drop i (take j xs)) (take-take i j xs h) in
      let whole : fold f n (take j xs) ≡ fold f (fold f n (take i xs)) (drop i (take j xs)) = ap (fold f n) parts ∙ fold-append f n (take i xs) (drop i (take j xs)) in
      omega (arith, whole, fold-grows (fold f n (take i xs)) (drop i (take j xs)))

  pub fold-all : (n : ℕ) (xs : List A) (i : ℕ) → fold f n (take i xs) ≤ fold f n xs
  fold-all n xs i =
      let whole : fold f n xs ≡ fold f (fold f n (take i xs)) (drop i xs) = ap (fold f n) (sym (take-append-drop i xs)) ∙ fold-append f n (take i xs) (drop i xs) in
      omega (arith, whole, fold-grows (fold f n (take i xs)) (drop i xs))

-- ---- padded sizes
pub padded-some : (ranges : List Range) → 1 ≤ padded_count ranges
padded-some [] = omega arith
padded-some (range ∷ ranges) = let one = mul-le 1 1 _ _ (pow_pos (exponent range.size)) (padded-some ranges) in omega (arith, one)

-- one function more
abbrev pub own-behind : (is_kind : Kind → Bool) → ℕ → Signature → ℕ
own-behind is_kind n signature = n + padded_own is_kind signature

abbrev pub padded_first : (Kind → Bool) → List Signature → ℕ → ℕ
padded_first is_kind signatures fun = padded_sum is_kind (take fun signatures)

-- the padded sizes before the next function
pub first-more : (is_kind : Kind → Bool) (signatures : List Signature) (fun : ℕ) (signature : Signature) → slice_get signatures fun ≡ Some signature → is_kind signature.kind ≡ true
    → padded_first is_kind signatures (fun + 1) ≡ padded_first is_kind signatures fun + padded_count signature.args
first-more is_kind signatures fun signature here held =
    fold-more (own-behind is_kind) (λ n x. omega arith) 0 signatures fun signature (slice_get_within signatures fun signature here)
    ∙ ap (λ (s : Signature). padded_first is_kind signatures fun + padded_own is_kind s) (get_or_from_slice_get signatures fun signature signature here)
    ∙ ap (λ b. padded_first is_kind signatures fun + (if b then padded_count signature.args else 0)) held

pub first-up : (is_kind : Kind → Bool) (signatures : List Signature) (fun later : ℕ) → fun ≤ later → padded_first is_kind signatures fun ≤ padded_first is_kind signatures later
first-up is_kind signatures fun later h = fold-up (own-behind is_kind) (λ n x. omega arith) 0 signatures fun later h

pub first-all : (is_kind : Kind → Bool) (signatures : List Signature) (fun : ℕ) → padded_first is_kind signatures fun ≤ padded_sum is_kind signatures
first-all is_kind signatures fun = fold-all (own-behind is_kind) (λ n x. omega arith) 0 signatures fun

-- ---- the arrays of values
behind-grows : (layout : Layout) (n : ℕ) (signature : Signature) → n ≤ array_behind layout n signature
behind-grows layout n signature = by (is_state signature.kind)
  where
    by : (b : Bool) → n ≤ (if b then raised_for layout n signature + array_size layout signature else n)
    by true = let up = (raises (value_access layout signature.codomain) n).up in omega (arith, up)
    by false = omega arith

-- the array of a function ends where the arrays up to its own do
pub end-more : (layout : Layout) (signatures : List Signature) (fun : ℕ) (signature : Signature) → slice_get signatures fun ≡ Some signature → is_state signature.kind ≡ true
    → arrays_end layout (take (fun + 1) signatures) ≡ raised_for layout (arrays_end layout (take fun signatures)) signature + array_size layout signature
end-more layout signatures fun signature here held =
    fold-more (array_behind layout) (behind-grows layout) 0 signatures fun signature (slice_get_within signatures fun signature here)
    ∙ ap (array_behind layout (arrays_end layout (take fun signatures))) (get_or_from_slice_get signatures fun signature signature here)
    ∙ ap (λ b. if b then raised_for layout (arrays_end layout (take fun signatures)) signature + array_size layout signature else arrays_end layout (take fun signatures)) held

pub end-up : (layout : Layout) (signatures : List Signature) (fun later : ℕ) → fun ≤ later → arrays_end layout (take fun signatures) ≤ arrays_end layout (take later signatures)
end-up layout signatures fun later h = fold-up (array_behind layout) (behind-grows layout) 0 signatures fun later h

pub end-all : (layout : Layout) (signatures : List Signature) (fun : ℕ) → arrays_end layout (take fun signatures) ≤ arrays_end layout signatures
end-all layout signatures fun = fold-all (array_behind layout) (behind-grows layout) 0 signatures fun

-- ---- how much they take
behind-bound : (layout : Layout) (n : ℕ) (signature : Signature) → array_behind layout n signature ≤ n + 7 * padded_own is_state signature
behind-bound layout n signature = by (is_state signature.kind)
  where
    by : (b : Bool) → (if b then raised_for layout n signature + array_size layout signature else n) ≤ n + 7 * (if b then padded_count signature.args else 0)
    by true =
        let little = (raises (value_access layout signature.codomain) n).little in
        let most = mul-le (value_width layout signature.codomain) (padded_count signature.args) 4 (padded_count signature.args) ((width-some (value_access layout signature.codomain)).1) (omega arith) in
        omega (arith, little, most, padded-some signature.args)
    by false = omega arith

pub end-bound : (layout : Layout) (n : ℕ) (signatures : List Signature) → fold (array_behind layout) n signatures ≤ n + 7 * padded_sum is_state signatures
end-bound layout n [] = omega arith
end-bound layout n (s ∷ signatures) =
    omega (arith, behind-bound layout n s, end-bound layout (array_behind layout n s) signatures, sum_by-cons (padded_own is_state) s signatures)
