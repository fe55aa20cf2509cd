-- The cells of locations: in order, and no two the same.
use Rattle.std.proofs.Common.{◌≡◌, ◌≢◌, ℕ, zero, suc, ◌+◌, ◌<◌, ◌≤◌, ◌⊎◌, ℤ, Bool, true, false, List, [], ◌∷◌, ◌++◌, map, set, Some, refl, sym, ap, ◌∙◌, subst, inl, inr, arith}
use Rattle.std.specs.Prelude.{if◌then◌else◌, slice_get, unwrap_or}
use Rattle.std.proofs.lemmas.List.{map-append}
use Rattle.asm_tree.specs.declared.decl.Kind.{Kind}
use Rattle.state_space.specs.declared.signature.Signature.{Signature}
use Rattle.state_space.specs.Locations.{Location, located, tuples}
use Rattle.state_space.specs.Sizes.{padded_count}
use Rattle.state_layout.specs.declared.cell.Cell.{Cell}
use Rattle.state_layout.specs.Map.{IsCell, args_of, cell_of, cells, padded_index}
use Rattle.state_layout.specs.MapLaw.{LocationsHaveCells}
use Rattle.state_layout.proofs.Numbered.{Numbered, numbered-tuples}

-- the cell is one of the function n with at least the index i, or one of a later function
abbrev pub After : ℕ → ℕ → Cell → Type 0
After n i cell = (n < cell.fun) ⊎ ((n ≡ cell.fun) × (i ≤ cell.index))

after-more : (n i : ℕ) (cell other : Cell) → After n i cell → After cell.fun (cell.index + 1) other → After n i other
after-more n i cell other (inl h) (inl k) = inl (omega arith)
after-more n i cell other (inl h) (inr k) = let same = k.0 in inl (omega arith)
after-more n i cell other (inr h) (inl k) = let same = h.0 in inl (omega arith)
after-more n i cell other (inr h) (inr k) = let low = h.1 in let high = k.1 in inr (h.0 ∙ k.0, omega arith)

pub after-differs : (cell other : Cell) → After cell.fun (cell.index + 1) other → cell ≢ other
after-differs cell other (inl h) e = let same = ap (λ c. c.fun) e in omega arith
after-differs cell other (inr h) e = let same = ap (λ c. c.index) e in let high = h.1 in omega arith

module _ (is_kind : Kind → Bool) (signatures : List Signature) where
  -- cells of the functions, each after the one before it
  abbrev pub Rising : ℕ → ℕ → List Cell → Type 0
  Rising n i [] = Unit {0}
  Rising n i (cell ∷ more) = After n i cell × IsCell is_kind signatures cell × Rising cell.fun (cell.index + 1) more

  rising-from : (n m i : ℕ) (list : List Cell) → n < m → Rising m 0 list → Rising n i list
  rising-from n m i [] h r = tt
  rising-from n m i (cell ∷ more) h r = (earlier r.0, r.1, r.2)
    where
      earlier : After m 0 cell → After n i cell
      earlier (inl k) = inl (omega arith)
      earlier (inr k) = let same = k.0 in inl (omega arith)

  abbrev at : ℕ → List ℤ → Location
  at n args = record { fun = n; args = args }

  -- the cells of one function, and then those of later ones
  rising-own : (n low : ℕ) (signature : Signature) (ts : List (List ℤ)) (rest : List Cell) → slice_get signatures n ≡ Some signature → is_kind signature.kind ≡ true
      → Numbered signature.args ts low (padded_count signature.args) → Rising (n + 1) 0 rest → Rising n low (map (cell_of signatures) (map (at n) ts) ++ rest)
  rising-own n low signature [] rest here held numbered r = rising-from n (n + 1) low rest (omega arith) r
  rising-own n low signature (t ∷ ts) rest here held numbered r =
      let index_is : padded_index (args_of (slice_get signatures n)) t ≡ numbered.0 = ap (λ o. padded_index (args_of o) t) here ∙ ap (λ o. unwrap_or o 0) numbered.1 in
      let low_is = numbered.2 in let below_is = numbered.3 in (
        inr (refl, omega (arith, index_is)),
        record { signature = signature; here = here; held = held; below = omega (arith, index_is) },
        (let next : numbered.0 + 1 ≡ padded_index (args_of (slice_get signatures n)) t + 1 = omega (arith, index_is) in
            subst (λ m. Rising n m (map (cell_of signatures) (map (at n) ts) ++ rest)) next (rising-own n (numbered.0 + 1) signature ts rest here held numbered.4 r)),
      )

  rising-located : (n : ℕ) (rest : List Signature) → ((k : ℕ) → slice_get signatures (n + k) ≡ slice_get rest k) → Rising n 0 (map (cell_of signatures) (located is_kind n rest))
  rising-located n [] same = tt
  rising-located n (signature ∷ rest) same =
      subst (Rising n 0) (sym (map-append (cell_of signatures) (own (is_kind signature.kind)) (located is_kind (n + 1) rest)))
      (by (is_kind signature.kind) refl (rising-located (n + 1) rest (λ k. ap (slice_get signatures) (let e : (n + 1) + k ≡ n + suc k = omega arith in e) ∙ same (suc k))))
    where
      own : Bool → List Location
      own b = if b then map (at n) (tuples signature.args) else []

      here : slice_get signatures n ≡ Some signature
      here = ap (slice_get signatures) (let e : n ≡ n + 0 = omega arith in e) ∙ same 0

      by : (b : Bool) → is_kind signature.kind ≡ b → Rising (n + 1) 0 (map (cell_of signatures) (located is_kind (n + 1) rest)) → Rising n 0 (map (cell_of signatures) (own b) ++ map (cell_of signatures) (located is_kind (n + 1) rest))
      by true held next = rising-own n 0 signature (tuples signature.args) (map (cell_of signatures) (located is_kind (n + 1) rest)) here held (numbered-tuples signature.args) next
      by false held next = rising-from n (n + 1) 0 (map (cell_of signatures) (located is_kind (n + 1) rest)) (omega arith) next

  pub rising-cells : Rising 0 0 (cells is_kind signatures)
  rising-cells = rising-located 0 signatures (λ k. ap (slice_get signatures) (let e : 0 + k ≡ k = omega arith in e))

  -- each is a cell, and comes after
  pub rising-each : (n i : ℕ) (list : List Cell) (k : ℕ) (cell : Cell) → Rising n i list → slice_get list k ≡ Some cell → After n i cell × IsCell is_kind signatures cell
  rising-each n i [] k cell r e = absurd (cc)
  rising-each n i (c ∷ list) zero cell r e = let same : c ≡ cell = cc in (subst (After n i) same r.0, subst (IsCell is_kind signatures) same r.1)
  rising-each n i (c ∷ list) (suc k) cell r e =
      let rest = rising-each c.fun (c.index + 1) list k cell r.2 e in (after-more n i c cell r.0 rest.0, rest.1)

  rising-distinct : (n i : ℕ) (list : List Cell) (j k : ℕ) (cell : Cell) → Rising n i list → slice_get list j ≡ Some cell → slice_get list k ≡ Some cell → j ≡ k
  rising-distinct n i [] j k cell r e f = absurd (cc)
  rising-distinct n i (c ∷ list) zero zero cell r e f = refl
  rising-distinct n i (c ∷ list) zero (suc k) cell r e f =
      let same : c ≡ cell = cc in absurd (after-differs c cell (rising-each c.fun (c.index + 1) list k cell r.2 f).0 same)
  rising-distinct n i (c ∷ list) (suc j) zero cell r e f =
      let same : c ≡ cell = cc in absurd (after-differs c cell (rising-each c.fun (c.index + 1) list j cell r.2 e).0 same)
  rising-distinct n i (c ∷ list) (suc j) (suc k) cell r e f = ap suc (rising-distinct c.fun (c.index + 1) list j k cell r.2 e f)

  -- ---- values at cells
  -- where none of the cells changes
  pub map-same : (f g : Cell → ℤ) (n i : ℕ) (list : List Cell) → Rising n i list → ((c : Cell) → IsCell is_kind signatures c → After n i c → g c ≡ f c) → map g list ≡ map f list
  map-same f g n i [] r h = refl
  map-same f g n i (c ∷ list) r h =
      let first = h c r.1 r.0 in
      let rest = map-same f g c.fun (c.index + 1) list r.2 (λ d is after. h d is (after-more n i c d r.0 after)) in
      cc

  -- where one cell changes
  pub map-changed : (f g : Cell → ℤ) (n i : ℕ) (list : List Cell) (k : ℕ) (cell : Cell) (v : ℤ) → Rising n i list → slice_get list k ≡ Some cell → g cell ≡ v
      → ((c : Cell) → IsCell is_kind signatures c → cell ≢ c → g c ≡ f c) → map g list ≡ set (map f list) k v
  map-changed f g n i [] k cell v r e is h = absurd (cc)
  map-changed f g n i (c ∷ list) zero cell v r e is h =
      let same : c ≡ cell = cc in
      let first : g c ≡ v = ap g same ∙ is in
      let rest = map-same f g c.fun (c.index + 1) list r.2 (λ d d_is after. h d d_is (λ q. after-differs c d after (same ∙ q))) in
      cc
  map-changed f g n i (c ∷ list) (suc k) cell v r e is h =
      let first : g c ≡ f c = h c r.1 (λ q. after-differs c cell (rising-each c.fun (c.index + 1) list k cell r.2 e).0 (sym q)) in
      let rest = map-changed f g c.fun (c.index + 1) list k cell v r.2 e is h in
      cc

pub locations-have-cells : LocationsHaveCells
locations-have-cells is_kind signatures i cell e = (
  (rising-each is_kind signatures 0 0 (cells is_kind signatures) i cell (rising-cells is_kind signatures) e).1,
  λ j f. rising-distinct is_kind signatures 0 0 (cells is_kind signatures) i j cell (rising-cells is_kind signatures) e f,
)
