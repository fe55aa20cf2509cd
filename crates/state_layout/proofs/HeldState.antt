-- The state that RAM holds, and what stores do to it.
use Rattle.std.proofs.Common.{◌≡◌, ◌≢◌, ℕ, zero, suc, ◌+◌, ◌^◌, ◌<◌, ◌≤◌, ℤ, pos, negsuc, ◌+ℤ◌, ◌-ℤ◌, ◌≤ℤ◌, true, List, [], ◌∷◌, ◌++◌, map, length, take, drop, set, replicate, slice_index, Some, refl, sym, ap, ◌∙◌, subst, inl, inr, arith}
use Rattle.std.specs.Prelude.{slice_get}
use Rattle.std.specs.List.{AllByRecursion}
use Rattle.std.proofs.lemmas.Bool.Decides.{nat_tests}
use Rattle.std.proofs.lemmas.Int.{ints}
use Rattle.std.proofs.lemmas.List.{get_or-drop, length-map, length-replicate, take_more, take_more_set}
use Rattle.std.proofs.lemmas.Option.{get_or_from_slice_get, slice_get-map, slice_get_within}
use Rattle.std.specs.Option.{option_map}
use Rattle.std.proofs.lemmas.List.Elements.{All-replicate}
use Rattle.std.proofs.lemmas.Simd.{map-map}
use Rattle.byteorder.specs.Endian.{little_from}
use Rattle.rv_machine.specs.Hart.{AreBytes}
use Rattle.rv_machine.specs.Memory.{number_at, stored}
use Rattle.rv_machine.proofs.Store.{bytes-stored, length-stored, number_at-stored, number_at-stored_before, number_at-stored_behind}
use Rattle.state_space.specs.declared.signature.Range.{Range}
use Rattle.state_space.specs.Codomains.{In, LocationsFit, codomain_of, codomain_range, whole}
use Rattle.state_space.specs.Locations.{Location, is_state, state_locations}
use Rattle.state_space.specs.Sizes.{IsRange, IsSized}
use Rattle.state_space.proofs.Indices.{index-same}
use Rattle.state_space.proofs.Padding.{sized_from}
use Rattle.state_layout.specs.declared.cell.Cell.{Cell}
use Rattle.state_layout.specs.Map.{IsCell, Placement, access_at, array_start, cell_of, decoded, entry_at, in_state, range_at, state_cells, state_end, value_at, value_of, value_offset, width_at}
use Rattle.state_layout.specs.MapLaw.{AreApart, EveryStateIsHeld, IndicesFit, IndicesStandForValues, StateIsInItsRegion, StoresBehindLeaveState, StoresOneCell, StoresOneLocation}
use Rattle.state_layout.proofs.Cells.{cells-are-apart, cells-lie-inside, values-are-arrays}
use Rattle.state_layout.proofs.Located.{Rising, after-differs, map-changed, map-same, rising-cells, rising-each}
use Rattle.state_layout.proofs.Widths.{bytes-hold, exponents-fit, sizes-fit}

-- ---- widths of values
module _ (placement : Placement) (cell : Cell) (sized : AllByRecursion IsSized placement.signatures) (c : IsCell is_state placement.signatures cell) where
  range-is : range_at placement cell.fun ≡ c.signature.codomain
  range-is = ap codomain_of c.here

  signature-sized : IsSized c.signature
  signature-sized = sized_from placement.signatures cell.fun c.signature sized c.here

  sized-at : (range_at placement cell.fun).size ≤ 256 ^ width_at placement cell.fun
  sized-at =
      subst (λ n. (range_at placement cell.fun).size ≤ n) (bytes-hold (access_at placement cell.fun))
      (sizes-fit placement.layout (range_at placement cell.fun) (subst IsRange (sym range-is) signature-sized.range))

pub indices-fit : IndicesFit
indices-fit placement cell sized c = (
  exponents-fit placement.layout (range_at placement cell.fun) (subst IsRange (sym (range-is placement cell sized c)) (signature-sized placement cell sized c).range),
  sized-at placement cell sized c,
)

pub indices-stand : IndicesStandForValues
indices-stand placement cell x h = ap (λ n. (range_at placement cell.fun).lo +ℤ pos n) (index-same (range_at placement cell.fun).size x h)

-- ---- stores
pub stores-one-cell : StoresOneCell
stores-one-cell placement ram cell other x c d room below = (
  ap (value_of (entry_at placement cell)) (number_at-stored (width_at placement cell.fun) (value_offset placement cell) x ram inside below),
  λ differ. ap (value_of (entry_at placement other)) (kept (apart differ)),
)
  where
    inside : value_offset placement cell + width_at placement cell.fun ≤ length ram
    inside = omega (arith, (cells-lie-inside is_state placement.signatures (access_at placement) (array_start placement) 0 (state_end placement) cell (values-are-arrays placement) c).below)

    apart : cell ≢ other → AreApart (value_offset placement cell) (width_at placement cell.fun) (value_offset placement other) (width_at placement other.fun)
    apart differ = cells-are-apart is_state placement.signatures (access_at placement) (array_start placement) 0 (state_end placement) cell other (values-are-arrays placement) c d differ

    kept : AreApart (value_offset placement cell) (width_at placement cell.fun) (value_offset placement other) (width_at placement other.fun)
        → number_at (width_at placement other.fun) (value_offset placement other) (stored (width_at placement cell.fun) (value_offset placement cell) x ram)
        ≡ number_at (width_at placement other.fun) (value_offset placement other) ram
    kept (inl h) = number_at-stored_behind (width_at placement cell.fun) (value_offset placement cell) x ram inside (width_at placement other.fun) (value_offset placement other) h
    kept (inr h) = number_at-stored_before (width_at placement cell.fun) (value_offset placement cell) x ram inside (width_at placement other.fun) (value_offset placement other) h

-- the value at a cell
abbrev value_in : Placement → List ℕ → Cell → ℤ
value_in placement ram cell = value_at ram (entry_at placement cell)

decoded-is : (placement : Placement) (ram : List ℕ) → decoded placement ram ≡ map (value_in placement ram) (state_cells placement)
decoded-is placement ram = map-map (value_at ram) (entry_at placement) (state_cells placement)

pub stores-one-location : StoresOneLocation
stores-one-location placement ram place cell x e room below =
    let after : List ℕ = stored (width_at placement cell.fun) (value_offset placement cell) x ram in
    let each = rising-each is_state placement.signatures 0 0 (state_cells placement) place cell (rising-cells is_state placement.signatures) e in
    decoded-is placement after
    ∙ map-changed is_state placement.signatures (value_in placement ram) (value_in placement after) 0 0 (state_cells placement) place cell (value_of (entry_at placement cell) x)
    (rising-cells is_state placement.signatures) e (stores-one-cell placement ram cell cell x each.1 each.1 room below).0
    (λ c is differ. (stores-one-cell placement ram cell c x each.1 is room below).1 differ)
    ∙ ap (λ l. set l place (value_of (entry_at placement cell) x)) (sym (decoded-is placement ram))

-- ---- the region of the state
little-same : (n i : ℕ) (xs ys : List ℕ) → ((k : ℕ) → i ≤ k → k < i + n → slice_index xs k ≡ slice_index ys k) → little_from i n xs ≡ little_from i n ys
little-same zero i xs ys h = refl
little-same (suc n) i xs ys h =
    let first = h i (omega arith) (omega arith) in
    let rest = little-same n (suc i) xs ys (λ k low high. h k (omega arith) (omega arith)) in
    cc

-- a number lies in its bytes alone
pub number_at-same : (width offset : ℕ) (xs ys : List ℕ) → ((o : ℕ) → offset ≤ o → o < offset + width → slice_index xs o ≡ slice_index ys o) → number_at width offset xs ≡ number_at width offset ys
number_at-same width offset xs ys h =
    little-same width 0 (drop offset xs) (drop offset ys) (λ k low high. get_or-drop offset xs k 0 ∙ h (offset + k) (omega arith) (omega arith) ∙ sym (get_or-drop offset ys k 0))

pub state-is-in-its-region : StateIsInItsRegion
state-is-in-its-region placement ram other h =
    decoded-is placement other
    ∙ map-same is_state placement.signatures (value_in placement ram) (value_in placement other) 0 0 (state_cells placement) (rising-cells is_state placement.signatures)
    (λ c is after. ap (value_of (entry_at placement c)) (number_at-same (width_at placement c.fun) (value_offset placement c) other ram (λ o low high. h o (inside c is o high))))
    ∙ sym (decoded-is placement ram)
  where
    inside : (c : Cell) → IsCell is_state placement.signatures c → (o : ℕ) → o < value_offset placement c + width_at placement c.fun → in_state placement o ≡ true
    inside c is o high =
        let below = (cells-lie-inside is_state placement.signatures (access_at placement) (array_start placement) 0 (state_end placement) c (values-are-arrays placement) is).below in
        grind (arith, nat_tests)

pub stores-behind-leave-state : StoresBehindLeaveState
stores-behind-leave-state placement ram width offset x past room =
    let after : List ℕ = stored width offset x ram in
    decoded-is placement after
    ∙ map-same is_state placement.signatures (value_in placement ram) (value_in placement after) 0 0 (state_cells placement) (rising-cells is_state placement.signatures)
    (λ c is after. ap (value_of (entry_at placement c)) (number_at-stored_before width offset x ram room (width_at placement c.fun) (value_offset placement c) (before c is)))
    ∙ sym (decoded-is placement ram)
  where
    before : (c : Cell) → IsCell is_state placement.signatures c → value_offset placement c + width_at placement c.fun ≤ offset
    before c is = omega (arith, (cells-lie-inside is_state placement.signatures (access_at placement) (array_start placement) 0 (state_end placement) c (values-are-arrays placement) is).below)

-- ---- every state is held
counted-from : (lo v d : ℤ) → v ≡ (lo +ℤ d) → lo ≤ℤ v → (x : ℕ) × (v ≡ (lo +ℤ pos x))
counted-from lo v (pos n) e h = (n, e)
counted-from lo v (negsuc n) e h = absurd (omega (arith, ints))

-- a value of a domain, by its number
number-of : (range : Range) (v : ℤ) → In (whole range) v → (x : ℕ) × (v ≡ (range.lo +ℤ pos x)) × (x < range.size)
number-of range v i =
    let low = i.low in let high = i.high in
    let found = counted-from range.lo v (v -ℤ range.lo) (omega (arith, ints)) low in
    let e = found.1 in
    (found.0, e, omega (arith, ints))

module _ (placement : Placement) (sized : AllByRecursion IsSized placement.signatures) (size : ℕ) (room : state_end placement ≤ size) where
  -- RAM that holds these values at these locations
  abbrev Held : List Location → List ℤ → Type 0
  Held locations values = (ram : List ℕ) × AreBytes size ram × (map (value_in placement ram) (map (cell_of placement.signatures) locations) ≡ values)

  held : (n i : ℕ) (locations : List Location) (values : List ℤ) → Rising is_state placement.signatures n i (map (cell_of placement.signatures) locations)
      → LocationsFit placement.signatures locations values → Held locations values
  held n i [] [] r fit = (replicate size 0, record { count = length-replicate size 0; bytes = All-replicate (λ b. b < 256) size 0 (omega arith) }, refl)
  held n i [] (v ∷ values) r fit = absurd fit
  held n i (l ∷ locations) [] r fit = absurd fit
  held n i (l ∷ locations) (v ∷ values) r fit =
      let cell : Cell = cell_of placement.signatures l in
      let is = r.1 in
      let rest = held cell.fun (cell.index + 1) locations values r.2 fit.1 in
      let inside = (cells-lie-inside is_state placement.signatures (access_at placement) (array_start placement) 0 (state_end placement) cell (values-are-arrays placement) is).below in
      let found = number-of (range_at placement cell.fun) v (subst (λ r. In (whole r) v) (sym (range-is placement cell sized is)) (subst (λ o. In (codomain_range o) v) is.here fit.0)) in
      let below : found.0 < 256 ^ width_at placement cell.fun = omega (arith, found.2, sized-at placement cell sized is) in
      let after : List ℕ = stored (width_at placement cell.fun) (value_offset placement cell) found.0 rest.0 in
      let long = rest.1.count in
      let first : value_in placement after cell ≡ v = (stores-one-cell placement rest.0 cell cell found.0 is is (omega arith) below).0 ∙ indices-stand placement cell found.0 found.2 ∙ sym found.1 in
      let others : map (value_in placement after) (map (cell_of placement.signatures) locations) ≡ values =
      map-same is_state placement.signatures (value_in placement rest.0) (value_in placement after) cell.fun (cell.index + 1) (map (cell_of placement.signatures) locations) r.2
      (λ c c_is behind. (stores-one-cell placement rest.0 cell c found.0 is c_is (omega arith) below).1 (after-differs cell c behind))
      ∙ rest.2 in (
        after,
        record {
          count = length-stored (width_at placement cell.fun) (value_offset placement cell) found.0 rest.0 (omega arith) ∙ long;
          bytes = bytes-stored (width_at placement cell.fun) (value_offset placement cell) found.0 rest.0 (omega arith) rest.1.bytes;
        },
        cc,
      )

pub every-state-is-held : EveryStateIsHeld
every-state-is-held placement size state sized fit room =
    let found = held placement sized size room 0 0 (state_locations placement.signatures) state (rising-cells is_state placement.signatures) fit in
    (found.0, found.1, decoded-is placement found.0 ∙ found.2)

-- ---- reading it
-- the value at the cell of a location is the one of its place in the state
pub decoded-at : (placement : Placement) (ram : List ℕ) (place : ℕ) (cell : Cell) → slice_get (state_cells placement) place ≡ Some cell
    → slice_get (decoded placement ram) place ≡ Some (value_at ram (entry_at placement cell))
decoded-at placement ram place cell e =
    slice_get-map (value_at ram) (map (entry_at placement) (state_cells placement)) place
    ∙ ap (option_map (value_at ram)) (slice_get-map (entry_at placement) (state_cells placement) place ∙ ap (option_map (entry_at placement)) e)

pub length-decoded : (placement : Placement) (ram : List ℕ) → length (decoded placement ram) ≡ length (state_locations placement.signatures)
length-decoded placement ram =
    length-map (map (entry_at placement) (state_cells placement)) (value_at ram) ∙ length-map (state_cells placement) (entry_at placement)
    ∙ length-map (state_locations placement.signatures) (cell_of placement.signatures)

-- one value more
pub values-more : (whole values : List ℤ) (i : ℕ) (v : ℤ) → i < length values → take i values ≡ take i whole → slice_get whole i ≡ Some v
    → take (i + 1) (set values i v) ≡ take (i + 1) whole
values-more whole values i v within same e =
    take_more_set values i v within ∙ ap (λ l. l ++ v ∷ []) same ∙ ap (λ x. take i whole ++ x ∷ []) (sym (get_or_from_slice_get whole i v v e))
    ∙ sym (take_more whole i v (slice_get_within whole i v e))
