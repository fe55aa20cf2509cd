-- The elements of a domain, one more at a time.
use Rattle.std.proofs.Common.{◌≡◌, ℕ, zero, suc, ◌+◌, ◌<◌, ◌≤◌, ℤ, pos, ◌+ℤ◌, Bool, true, false, cond, List, [], ◌∷◌, ◌++◌, map, take, drop, Some, None, refl, sym, ap, ◌∙◌, subst, arith, zero-add}
use Rattle.std.specs.Prelude.{if◌then◌else◌}
use Rattle.std.specs.List.{filter, flat_map, range_with_len, AllByRecursion}
use Rattle.std.proofs.lemmas.Int.{ints}
use Rattle.std.proofs.lemmas.List.{append-nil, take-append-drop}
use Rattle.std.proofs.lemmas.List.Concat.{flat_map-append}
use Rattle.std.proofs.lemmas.List.Elements.{filter-append}
use Rattle.std.proofs.lemmas.List.FromFn.{filter_of_map_range_with_len_more, take-map-range_with_len}
use Rattle.state_space.specs.declared.signature.Range.{Range}
use Rattle.state_space.specs.Locations.{elements}
use Rattle.state_space.specs.Codomains.{In, whole}
use Rattle.update_sets.specs.Least.{first_of, first_or}
use Rattle.state_space.specs.declared.update.Update.{Update}

-- the first of the elements, as many as n
abbrev pub first_elements : ℤ → ℕ → List ℤ
first_elements lo n = map (λ k. lo +ℤ pos k) (range_with_len 0 n)

pub all-in : (range : Range) (s n : ℕ) → s + n ≤ range.size → AllByRecursion (λ e. In (whole range) e) (map (λ k. range.lo +ℤ pos k) (range_with_len s n))
all-in range s zero h = tt
all-in range s (suc n) h = (record { low = omega (arith, ints); high = omega (arith, ints) }, all-in range (s + 1) n (omega arith))

first_passing : (P : ℤ → Type 0) (p : ℤ → Bool) (xs : List ℤ) (e : ℤ) → AllByRecursion P xs → Some e ≡ first_of (filter p xs) → P e
first_passing P p [] e all h = absurd cc
first_passing P p (x ∷ xs) e all h =
    elim (p x) as (λ b. Some e ≡ first_of (cond b (x ∷ filter p xs) (filter p xs)) → P e) [
      | true ↦ λ k. let is : x ≡ e = cc in subst P is all.0
      | false ↦ λ k. first_passing P p xs e all.1 k
    ] h

-- the first element that passes is one of the domain
pub first-in : (range : Range) (p : ℤ → Bool) (e : ℤ) → Some e ≡ first_of (filter p (elements range)) → In (whole range) e
first-in range p e h = first_passing (λ v. In (whole range) v) p (elements range) e (all-in range 0 range.size (omega arith)) h

first_passes_in : (p : ℤ → Bool) (xs : List ℤ) (e : ℤ) → Some e ≡ first_of (filter p xs) → p e ≡ true
first_passes_in p [] e h = absurd cc
first_passes_in p (x ∷ xs) e h =
    elim (p x) as (λ b. p x ≡ b → Some e ≡ first_of (cond b (x ∷ filter p xs) (filter p xs)) → p e ≡ true) [
      | true ↦ λ is k. let same : x ≡ e = cc in subst (λ v. p v ≡ true) same is
      | false ↦ λ is k. first_passes_in p xs e k
    ] refl h

-- it passes
pub first-passes : (range : Range) (p : ℤ → Bool) (e : ℤ) → Some e ≡ first_of (filter p (elements range)) → p e ≡ true
first-passes range p e h = first_passes_in p (elements range) e h

-- the first element that passes, where none before it does
pub found-at : (p : ℤ → Bool) (lo : ℤ) (i n : ℕ) → i < n → filter p (first_elements lo i) ≡ [] → p (lo +ℤ pos i) ≡ true → Some (lo +ℤ pos i) ≡ first_of (filter p (first_elements lo n))
found-at p lo i n h none pass =
    let x : ℤ = lo +ℤ pos i in
    let xs : List ℤ = first_elements lo n in
    let here : filter p (take (i + 1) xs) ≡ x ∷ [] =
    ap (filter p) (take-map-range_with_len (λ k. lo +ℤ pos k) 0 n (i + 1) (omega arith))
    ∙ filter_of_map_range_with_len_more p (λ k. lo +ℤ pos k) 0 i i (zero-add i) ∙ ap (λ ys. ys ++ cond (p x) (x ∷ []) []) none ∙ ap (λ b. cond b (x ∷ []) []) pass in
    sym
    (ap (λ ys. first_of (filter p ys)) (sym (take-append-drop (i + 1) xs))
    ∙ ap first_of (filter-append p (take (i + 1) xs) (drop (i + 1) xs)) ∙ ap (λ ys. first_of (ys ++ filter p (drop (i + 1) xs))) here)

-- still none passes
pub none-more : (p : ℤ → Bool) (lo : ℤ) (i : ℕ) → filter p (first_elements lo i) ≡ [] → p (lo +ℤ pos i) ≡ false → filter p (first_elements lo (i + 1)) ≡ []
none-more p lo i none fail =
    filter_of_map_range_with_len_more p (λ k. lo +ℤ pos k) 0 i i (zero-add i)
    ∙ ap (λ ys. ys ++ cond (p (lo +ℤ pos i)) ((lo +ℤ pos i) ∷ []) []) none ∙ ap (λ b. cond b ((lo +ℤ pos i) ∷ []) []) fail

pub chosen : (xs : List ℤ) (e : ℤ) (f : ℤ → List Update) (o : List Update) → Some e ≡ first_of xs → first_or xs f o ≡ f e
chosen [] e f o h = absurd cc
chosen (x ∷ xs) e f o h = let is : x ≡ e = cc in ap f is

pub not_chosen : (xs : List ℤ) (f : ℤ → List Update) (o : List Update) → None ≡ first_of xs → first_or xs f o ≡ o
not_chosen [] f o h = refl
not_chosen (x ∷ xs) f o h = absurd cc

-- what is gathered from one more element, which passes or doesn't
pub each-more : {A : Type 0} (f : ℤ → List A) (p : ℤ → Bool) (lo : ℤ) (i : ℕ) (b : Bool) → p (lo +ℤ pos i) ≡ b
    → flat_map f (filter p (first_elements lo (i + 1))) ≡ flat_map f (filter p (first_elements lo i)) ++ (if b then f (lo +ℤ pos i) else [])
each-more f p lo i b is =
    let x : ℤ = lo +ℤ pos i in
    ap (flat_map f) (filter_of_map_range_with_len_more p (λ k. lo +ℤ pos k) 0 i i (zero-add i) ∙ ap (λ c. filter p (first_elements lo i) ++ cond c (x ∷ []) []) is)
    ∙ flat_map-append f (filter p (first_elements lo i)) (cond b (x ∷ []) []) ∙ ap (λ ys. flat_map f (filter p (first_elements lo i)) ++ ys) (one b)
  where
    one : (b : Bool) → flat_map f (cond b ((lo +ℤ pos i) ∷ []) []) ≡ (if b then f (lo +ℤ pos i) else [])
    one true = append-nil (f (lo +ℤ pos i))
    one false = refl
