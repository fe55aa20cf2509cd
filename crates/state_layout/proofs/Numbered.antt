-- The padded indices of a function's argument tuples: each is below the padded size, and they rise.
use Rattle.std.proofs.Common.{◌≡◌, ℕ, zero, suc, ◌+◌, ◌*◌, ◌<◌, ◌≤◌, ℤ, pos, ◌+ℤ◌, List, [], ◌∷◌, ◌++◌, map, length, Some, refl, ap, ◌∙◌, subst, arith}
use Rattle.std.specs.List.{flat_map, range_with_len}
use Rattle.std.proofs.lemmas.Nat.{mul-le}
use Rattle.state_space.specs.declared.signature.Range.{Range}
use Rattle.state_space.specs.Arrays.{widened}
use Rattle.state_space.specs.Decoding.{padded}
use Rattle.state_space.specs.Locations.{elements, tuple_number, tuples}
use Rattle.state_space.specs.Sizes.{padded_count}
use Rattle.state_space.proofs.Exponents.{exponent_enough}
use Rattle.state_space.proofs.Numbers.{length-tuples, number-inside, prefixed}
use Rattle.state_space.proofs.Positions.{after}

-- the tuples have padded indices from low up to high, which rise
abbrev pub Numbered : List Range → List (List ℤ) → ℕ → ℕ → Type 0
Numbered ranges [] low high = low ≤ high
Numbered ranges (t ∷ ts) low high = (p : ℕ) × (tuple_number (map widened ranges) t ≡ Some p) × (low ≤ p) × (p < high) × Numbered ranges ts (p + 1) high

numbered-from : (ranges : List Range) (ts : List (List ℤ)) (low low' high : ℕ) → low' ≤ low → Numbered ranges ts low high → Numbered ranges ts low' high
numbered-from ranges [] low low' high h n = omega arith
numbered-from ranges (t ∷ ts) low low' high h n = (n.0, n.1, omega (arith, n.2), n.3, n.4)

numbered-append : (ranges : List Range) (ts us : List (List ℤ)) (low mid high : ℕ) → mid ≤ high → Numbered ranges ts low mid → Numbered ranges us mid high → Numbered ranges (ts ++ us) low high
numbered-append ranges [] us low mid high h n m = numbered-from ranges us mid low high n m
numbered-append ranges (t ∷ ts) us low mid high h n m = (n.0, n.1, n.2, omega (arith, n.3), numbered-append ranges ts us (n.0 + 1) mid high h n.4 m)

numbered-upto : (ranges : List Range) (ts : List (List ℤ)) (low high high' : ℕ) → high ≤ high' → Numbered ranges ts low high → Numbered ranges ts low high'
numbered-upto ranges [] low high high' up n = omega arith
numbered-upto ranges (t ∷ ts) low high high' up n = (n.0, n.1, n.2, omega (arith, n.3), numbered-upto ranges ts (n.0 + 1) high high' up n.4)

length-widened : (ranges : List Range) → length (tuples (map widened ranges)) ≡ padded_count ranges
length-widened [] = refl
length-widened (range ∷ ranges) = length-tuples (widened range) (map widened ranges) ∙ ap (λ n. padded range.size * n) (length-widened ranges)

-- the padded index of a tuple is that of its first argument and that of the others
pub number-behind : (range : Range) (rest : List Range) (k : ℕ) (t : List ℤ) (p : ℕ) → k < padded range.size → tuple_number (map widened rest) t ≡ Some p
    → tuple_number (map widened (range ∷ rest)) ((range.lo +ℤ pos k) ∷ t) ≡ Some (k * padded_count rest + p)
number-behind range rest k t p below e =
    number-inside (widened range) (map widened rest) (range.lo +ℤ pos k) t k refl below
    ∙ ap (λ m. after (k * m) (tuple_number (map widened rest) t)) (length-widened rest) ∙ ap (after (k * padded_count rest)) e

module _ (range : Range) (rest : List Range) where
  -- behind one first argument
  numbered-prefixed : (k low high : ℕ) (ts : List (List ℤ)) → k < padded range.size → Numbered rest ts low high
      → Numbered (range ∷ rest) (prefixed ts (range.lo +ℤ pos k)) (k * padded_count rest + low) (k * padded_count rest + high)
  numbered-prefixed k low high [] below n = omega arith
  numbered-prefixed k low high (t ∷ ts) below n = (
    k * padded_count rest + n.0,
    number-behind range rest k t n.0 below n.1,
    omega (arith, n.2),
    omega (arith, n.3),
    (let e : k * padded_count rest + (n.0 + 1) ≡ (k * padded_count rest + n.0) + 1 = omega arith in
        subst (λ m. Numbered (range ∷ rest) (prefixed ts (range.lo +ℤ pos k)) m (k * padded_count rest + high)) e (numbered-prefixed k (n.0 + 1) high ts below n.4)),
  )

  -- behind so many first arguments, from one on
  numbered-all : (ts : List (List ℤ)) → Numbered rest ts 0 (padded_count rest) → (s n : ℕ) → s + n ≤ padded range.size
      → Numbered (range ∷ rest) (flat_map (prefixed ts) (map (λ k. range.lo +ℤ pos k) (range_with_len s n))) (s * padded_count rest) ((s + n) * padded_count rest)
  numbered-all ts each s zero h = let e : s + 0 ≡ s = omega arith in rw e (omega arith)
  numbered-all ts each s (suc n) h =
      let p : ℕ = padded_count rest in
      let from : s * p + 0 ≡ s * p = omega arith in
      let mid : s * p + p ≡ (s + 1) * p = omega arith in
      let to : (s + 1) + n ≡ s + suc n = omega arith in
      let up : (s + 1) * p ≤ (s + suc n) * p = mul-le (s + 1) p (s + suc n) p (omega arith) (omega arith) in
      let first : Numbered (range ∷ rest) (prefixed ts (range.lo +ℤ pos s)) (s * p) ((s + 1) * p) =
      subst (λ m. Numbered (range ∷ rest) (prefixed ts (range.lo +ℤ pos s)) (s * p) m) mid
      (subst (λ m. Numbered (range ∷ rest) (prefixed ts (range.lo +ℤ pos s)) m (s * p + p)) from (numbered-prefixed s 0 p ts (omega arith) each)) in
      let others = subst (λ m. Numbered (range ∷ rest) (flat_map (prefixed ts) (map (λ k. range.lo +ℤ pos k) (range_with_len (s + 1) n))) ((s + 1) * p) (m * p)) to (numbered-all ts each (s + 1) n (omega arith)) in
      numbered-append (range ∷ rest) (prefixed ts (range.lo +ℤ pos s)) (flat_map (prefixed ts) (map (λ k. range.lo +ℤ pos k) (range_with_len (s + 1) n))) (s * p) ((s + 1) * p) ((s + suc n) * p) up first others

pub numbered-tuples : (ranges : List Range) → Numbered ranges (tuples ranges) 0 (padded_count ranges)
numbered-tuples [] = (0, refl, omega arith, omega arith, omega arith)
numbered-tuples (range ∷ rest) =
    let p : ℕ = padded_count rest in
    let wide : range.size ≤ padded range.size = exponent_enough range.size in
    let zero_is : 0 * p ≡ 0 = omega arith in
    let size_is : 0 + range.size ≡ range.size = omega arith in
    let up : range.size * p ≤ padded range.size * p = mul-le range.size p (padded range.size) p wide (omega arith) in
    let each = subst (λ m. Numbered (range ∷ rest) (flat_map (prefixed (tuples rest)) (elements range)) (0 * p) (m * p)) size_is (numbered-all range rest (tuples rest) (numbered-tuples rest) 0 range.size (omega (arith, wide))) in
    numbered-upto (range ∷ rest) (tuples (range ∷ rest)) 0 (range.size * p) (padded range.size * p) up (subst (λ m. Numbered (range ∷ rest) (tuples (range ∷ rest)) m (range.size * p)) zero_is each)
