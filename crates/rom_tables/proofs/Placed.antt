-- Where tuples stand in a table.
use Rattle.std.proofs.Common.{◌≡◌, ℕ, zero, suc, ◌+◌, ◌*◌, ◌/◌, ◌%◌, ◌<◌, ◌≤◌, List, [], ◌∷◌, length, Option, Some, None, refl, sym, ap, ◌∙◌, subst, ⊎_elim, arith}
use Rattle.std.proofs.lemmas.Bool.{cases_lt}
use Rattle.std.proofs.lemmas.Nat.{div-add-mod', div-mul-add, div_below, mod-mul-add}
use Rattle.std.specs.List.{AllByRecursion}
use Rattle.std.specs.Option.{option_map}
use Rattle.state_space.specs.Arrays.{padded_number}
use Rattle.state_space.specs.Locations.{tuples}
use Rattle.state_space.specs.Sizes.{IsRange, padded_count}
use Rattle.state_space.specs.declared.signature.Range.{Range}
use Rattle.state_space.proofs.Numbers.{length-tuples}
use Rattle.state_space.proofs.Widening.{digits}
use Rattle.rom_tables.specs.Tables.{place_at}
use Rattle.rom_tables.proofs.Rows.{below-block, place-gap, place-in}

-- the padded index of a tuple, at which it stands
pub record IsPlacedAt (ranges : List Range) (number place : ℕ) : Type 0 where
  pub padded : Some place ≡ padded_number ranges number
  pub below : place < padded_count ranges
  pub back : place_at ranges place ≡ Some number

pub placed : (ranges : List Range) → length ranges ≤ 3 → AllByRecursion IsRange ranges → (number : ℕ) → number < length (tuples ranges) → (place : ℕ) × IsPlacedAt ranges number place
placed [] few all zero below = (0, record { padded = refl; below = omega arith; back = refl })
placed [] few all (suc number) below = absurd (omega arith)
placed (range ∷ ranges) few all number below =
    let d = digits (range ∷ ranges) range ranges number refl few all below in
    let inner = placed ranges d.few d.domains (number % length (tuples ranges)) d.inner in
    let i = number / length (tuples ranges) in
    let each = padded_count ranges in
    let place = i * each + inner.0 in
    let under : inner.0 < each = inner.1.below in
    let first : place / each ≡ i = div-mul-add i each inner.0 under in
    let last : place % each ≡ inner.0 = mod-mul-add i each inner.0 under in
    let total : number < range.size * length (tuples ranges) = omega (arith, length-tuples range ranges) in
    let index : i < range.size = div_below number (length (tuples ranges)) range.size d.some total in
    let stands : place_at (range ∷ ranges) place ≡ Some (i * length (tuples ranges) + number % length (tuples ranges)) =
    place-in range ranges place (omega (arith, first, index))
    ∙ ap (λ n. option_map (λ inner. n * length (tuples ranges) + inner) (place_at ranges (place % each))) first
    ∙ ap (λ n. option_map (λ inner. i * length (tuples ranges) + inner) (place_at ranges n)) last
    ∙ ap (option_map (λ inner. i * length (tuples ranges) + inner)) inner.1.back in
    (place, record { padded = d.place inner.0 inner.1.padded; below = d.below inner.0 under; back = stands ∙ ap Some (div-add-mod' number (length (tuples ranges))) })

some-same : (a b : ℕ) → Some a ≡ Some b → a ≡ b
some-same a b e = cc

-- so the tuple stands at its padded index
pub stands-at_place : (ranges : List Range) → length ranges ≤ 3 → AllByRecursion IsRange ranges → (number place : ℕ) → number < length (tuples ranges) → Some place ≡ padded_number ranges number
    → (place < padded_count ranges) × (place_at ranges place ≡ Some number)
stands-at_place ranges few all number place below is =
    let p = placed ranges few all number below in
    let same : p.0 ≡ place = some-same p.0 place (p.1.padded ∙ sym is) in
    (subst (λ n. n < padded_count ranges) same p.1.below, subst (λ n. place_at ranges n ≡ Some number) same p.1.back)

-- what stands somewhere is a tuple
pub place-below : (ranges : List Range) → AllByRecursion IsRange ranges → (place number : ℕ) → place_at ranges place ≡ Some number → number < length (tuples ranges)
place-below [] all place number e = let same : 0 ≡ number = some-same 0 number e in omega arith
place-below (range ∷ ranges) all place number e =
    let rest = place-below ranges all.1 (place % padded_count ranges) in
    ⊎_elim (λ h. inside rest h (place_at ranges (place % padded_count ranges)) refl) (λ h. absurd (gap h)) (cases_lt (place / padded_count ranges) range.size)
  where
    gap : range.size ≤ place / padded_count ranges → ⊥
    gap h = let n = sym (place-gap range ranges place h) ∙ e in absurd (cc)

    inside : ((inner : ℕ) → place_at ranges (place % padded_count ranges) ≡ Some inner → inner < length (tuples ranges)) → place / padded_count ranges < range.size → (o : Option ℕ) → place_at ranges (place % padded_count ranges) ≡ o → number < length (tuples (range ∷ ranges))
    inside rest h None i = let n = sym (place-in range ranges place h ∙ ap (option_map (λ inner. place / padded_count ranges * length (tuples ranges) + inner)) i) ∙ e in absurd (cc)
    inside rest h (Some inner) i =
        let same : place / padded_count ranges * length (tuples ranges) + inner ≡ number =
        some-same _ _ (sym (place-in range ranges place h ∙ ap (option_map (λ inner. place / padded_count ranges * length (tuples ranges) + inner)) i) ∙ e) in
        let under = rest inner i in
        let whole = below-block (place / padded_count ranges) range.size inner (length (tuples ranges)) h under in
        omega (arith, whole, same, length-tuples range ranges)
