-- Locations by their numbers, the padded indices of argument tuples, and entries.
use Rattle.std.proofs.Common.{◌≡◌, ◌≢◌, ℕ, zero, suc, ◌+◌, ◌-◌, ◌*◌, ◌<◌, ◌≤◌, ℤ, pos, ◌+ℤ◌, true, List, [], ◌∷◌, ◌++◌, map, get_or, Option, Some, None, refl, sym, ap, ◌∙◌, subst, arith, ◌==◌}
use Rattle.std.specs.Prelude.{slice_get, slice_index_or, unwrap_or}
use Rattle.std.specs.Cmp.Lexicographic.{pointwise}
use Rattle.std.specs.List.{AllByRecursion, flat_map, range_with_len}
use Rattle.std.specs.Option.{option_map}
use Rattle.std.specs.Ordering.{int_eq}
use Rattle.std.proofs.lemmas.Bool.{and_parts}
use Rattle.std.proofs.lemmas.Bool.Decides.{Decides-eqb, Decides-int_eq, nat_tests}
use Rattle.std.proofs.lemmas.List.Quantifiers.{position-Some}
use Rattle.std.proofs.lemmas.Option.{slice_get-get_or, slice_get-map}
use Rattle.std.proofs.Math.Pow.{pow_pos}
use Rattle.state_space.specs.declared.signature.Range.{Range}
use Rattle.state_space.specs.Arrays.{widened}
use Rattle.state_space.specs.Decoding.{exponent, padded}
use Rattle.state_space.specs.Locations.{Location, is_state, located, same_location, tuple_number, tuples}
use Rattle.state_space.specs.Sizes.{IsRange, padded_count}
use Rattle.state_space.proofs.Exponents.{exponent_enough}
use Rattle.state_layout.specs.declared.cell.Cell.{Cell}
use Rattle.state_layout.specs.declared.entry.Entry.{Entry}
use Rattle.state_layout.specs.Map.{Placement, access_at, array_start, cell_of, entries, entry_at, padded_index, state_cells, state_end}
use Rattle.state_layout.specs.MapLaw.{AllPartsFollow, AreApart, BytesLieInside, EntriesAreApart, EntriesLieInside, FirstTuplesComeFirst, LiesIn, PaddedIndexByParts, PaddedIndexIsBelow, PartsAreApart, PlacesHaveCells}
use Rattle.state_layout.proofs.Cells.{cells-are-apart, cells-lie-inside, values-are-arrays}
use Rattle.state_layout.proofs.HeldState.{indices-fit}
use Rattle.state_layout.proofs.Located.{locations-have-cells}
use Rattle.state_layout.proofs.Numbered.{Numbered, number-behind, numbered-tuples}

-- ---- tuples and locations that compare equal
same-tuple : (xs ys : List ℤ) → pointwise int_eq xs ys ≡ true → xs ≡ ys
same-tuple [] [] e = refl
same-tuple [] (y ∷ ys) e = absurd (cc)
same-tuple (x ∷ xs) [] e = absurd (cc)
same-tuple (x ∷ xs) (y ∷ ys) e =
    let parts = and_parts (int_eq x y) (pointwise int_eq xs ys) e in
    let first = (Decides-int_eq x y).0 parts.0 in
    let rest = same-tuple xs ys parts.1 in
    cc

pub places-have-cells : PlacesHaveCells
places-have-cells is_kind signatures location i e =
    let locations : List Location = located is_kind 0 signatures in
    let found = position-Some (same_location location) locations i location e in
    let there : Location = get_or locations i location in
    let parts = and_parts (location.fun == there.fun) (pointwise int_eq location.args there.args) found.1 in
    let same_fun = (Decides-eqb location.fun there.fun).0 parts.0 in
    let same_args = same-tuple location.args there.args parts.1 in
    let same : there ≡ location = ap (λ (n : ℕ). record { fun = n; args = there.args }) (sym same_fun) ∙ ap (λ (l : List ℤ). record { fun = location.fun; args = l }) (sym same_args) in
    slice_get-map (cell_of signatures) locations i ∙ ap (option_map (cell_of signatures)) (slice_get-get_or locations i location found.0 ∙ ap Some same)

-- ---- padded indices
numbered-at : (ranges : List Range) (ts : List (List ℤ)) (low high j : ℕ) (t : List ℤ) → Numbered ranges ts low high → slice_get ts j ≡ Some t
    → (p : ℕ) × (tuple_number (map widened ranges) t ≡ Some p) × (p < high)
numbered-at ranges [] low high j t n e = absurd (cc)
numbered-at ranges (x ∷ ts) low high zero t n e = let same : x ≡ t = cc in (n.0, subst (λ y. tuple_number (map widened ranges) y ≡ Some n.0) same n.1, n.3)
numbered-at ranges (x ∷ ts) low high (suc j) t n e = numbered-at ranges ts (n.0 + 1) high j t n.4 e

-- a tuple of the domains has a padded number
padded-at : (ranges : List Range) (j : ℕ) (args : List ℤ) → tuple_number ranges args ≡ Some j → (p : ℕ) × (tuple_number (map widened ranges) args ≡ Some p) × (p < padded_count ranges)
padded-at ranges j args e =
    let found = position-Some (pointwise int_eq args) (tuples ranges) j args e in
    let same = same-tuple args (get_or (tuples ranges) j args) found.1 in
    numbered-at ranges (tuples ranges) 0 (padded_count ranges) j args (numbered-tuples ranges) (slice_get-get_or (tuples ranges) j args found.0 ∙ ap Some (sym same))

pub padded-index-by-parts : PaddedIndexByParts
padded-index-by-parts range ranges k j args below e =
    let p = padded-at ranges j args e in
    let wide : k < padded range.size = omega (arith, exponent_enough range.size) in
    ap (λ o. unwrap_or o 0) (number-behind range ranges k args p.0 wide p.1) ∙ ap (λ o. k * padded_count ranges + unwrap_or o 0) (sym p.1)

pub padded-index-is-below : PaddedIndexIsBelow
padded-index-is-below ranges j args e = let p = padded-at ranges j args e in omega (arith, p.2, ap (λ o. unwrap_or o 0) p.1)

-- the first tuple, and its padded number
record First (ranges : List Range) : Type 0 where
  tuple : List ℤ
  more : List (List ℤ)
  begins : tuples ranges ≡ tuple ∷ more
  number : tuple_number (map widened ranges) tuple ≡ Some 0

first-of : (ranges : List Range) → AllByRecursion IsRange ranges → First ranges
first-of [] all = record { tuple = []; more = []; begins = refl; number = refl }
first-of (range ∷ ranges) all =
    let f = first-of ranges all.1 in
    let some = all.0.some in
    let x : ℤ = range.lo +ℤ pos 0 in
    let one : range.size ≡ suc (range.size - 1) = omega arith in
    let others : List (List ℤ) = flat_map (λ y. map (λ rest. y ∷ rest) (tuples ranges)) (map (λ k. range.lo +ℤ pos k) (range_with_len 1 (range.size - 1))) in
    let none : 0 * padded_count ranges + 0 ≡ 0 = omega arith in
    record {
      tuple = x ∷ f.tuple;
      more = map (λ rest. x ∷ rest) f.more ++ others;
      begins = ap (λ n. flat_map (λ y. map (λ rest. y ∷ rest) (tuples ranges)) (map (λ k. range.lo +ℤ pos k) (range_with_len 0 n))) one ∙ ap (λ l. map (λ rest. x ∷ rest) l ++ others) f.begins;
      number = number-behind range ranges 0 f.tuple 0 (pow_pos (exponent range.size)) f.number ∙ ap Some none;
    }

pub first-tuples-come-first : FirstTuplesComeFirst
first-tuples-come-first ranges all =
    let f = first-of ranges all in ap (λ l. padded_index ranges (slice_index_or l 0 [])) f.begins ∙ ap (λ o. unwrap_or o 0) f.number

-- ---- parts of RAM
pub all-parts-follow : AllPartsFollow
all-parts-follow placement binders = record { staged = omega arith; flags = omega arith; kept = omega arith; marks = omega arith; slots = omega arith }

pub parts-are-apart : PartsAreApart
parts-are-apart low high low' high' o h = (λ e. grind (arith, nat_tests), λ e. grind (arith, nat_tests))

pub bytes-lie-inside : BytesLieInside
bytes-lie-inside low high width offset o lies from to = let a = lies.from in let b = lies.below in grind (arith, nat_tests)

-- ---- entries
-- an entry is that of a cell
entry-cell : (placement : Placement) (i : ℕ) (e : Entry) → slice_get (entries placement) i ≡ Some e → (cell : Cell) × (slice_get (state_cells placement) i ≡ Some cell) × (entry_at placement cell ≡ e)
entry-cell placement i e h = by (slice_get (state_cells placement) i) refl
  where
    by : (o : Option Cell) → slice_get (state_cells placement) i ≡ o → (cell : Cell) × (slice_get (state_cells placement) i ≡ Some cell) × (entry_at placement cell ≡ e)
    by None none = absurd (let k = sym h ∙ slice_get-map (entry_at placement) (state_cells placement) i ∙ ap (option_map (entry_at placement)) none in cc)
    by (Some cell) there =
        (cell, there, (let k : Some (entry_at placement cell) ≡ Some e = sym (slice_get-map (entry_at placement) (state_cells placement) i ∙ ap (option_map (entry_at placement)) there) ∙ h in cc))

pub entries-lie-inside : EntriesLieInside
entries-lie-inside placement i e sized h =
    let c = entry-cell placement i e h in
    let is = (locations-have-cells is_state placement.signatures i c.0 c.1).0 in
    subst (λ (x : Entry). LiesIn 0 (state_end placement) x.width x.offset × (exponent x.size ≤ 8 * x.width)) c.2
    (cells-lie-inside is_state placement.signatures (access_at placement) (array_start placement) 0 (state_end placement) c.0 (values-are-arrays placement) is, (indices-fit placement c.0 sized is).0)

pub entries-are-apart : EntriesAreApart
entries-are-apart placement i j e f h k differ =
    let c = entry-cell placement i e h in
    let d = entry-cell placement j f k in
    let is = locations-have-cells is_state placement.signatures i c.0 c.1 in
    let other = locations-have-cells is_state placement.signatures j d.0 d.1 in
    let apart : c.0 ≢ d.0 = λ q. differ (is.1 j (d.1 ∙ ap Some (sym q))) in
    subst (λ (x : Entry). AreApart e.offset e.width x.offset x.width) d.2
    (subst (λ (x : Entry). AreApart x.offset x.width (entry_at placement d.0).offset (entry_at placement d.0).width) c.2
    (cells-are-apart is_state placement.signatures (access_at placement) (array_start placement) 0 (state_end placement) c.0 d.0 (values-are-arrays placement) is.0 other.0 apart))
