-- Tuples at padded indices, and rows of tables.
use Rattle.std.proofs.Common.{◌≡◌, ℕ, zero, suc, ◌+◌, ◌*◌, ◌/◌, ◌%◌, ◌^◌, ◌<◌, ◌≤◌, ℤ, pos, List, [], ◌∷◌, ◌++◌, length, map, take, get_or, None, true, false, cond, refl, sym, ap, ◌∙◌, subst, arith, take-suc, zero-add}
use Rattle.std.specs.Prelude.{nat_lt, slice_get, slice_index_or, unsigned_abs, negsuc, ◌+ℤ◌, ◌-ℤ◌, ◌≢◌, IsSomeAnd}
use Rattle.std.specs.List.{AllByRecursion, AllZip}
use Rattle.std.proofs.lemmas.Int.{ints}
use Rattle.state_space.specs.Codomains.{In, whole}
use Rattle.std.specs.Option.{option_map}
use Rattle.std.proofs.Math.Nat.{mul-le-mul_left}
use Rattle.std.proofs.lemmas.Nat.{mul-le}
use Rattle.std.proofs.lemmas.Bool.Decides.{nat_tests}
use Rattle.std.proofs.lemmas.List.{length-map, get_or-map}
use Rattle.std.proofs.lemmas.List.FromFn.{get_or-map-range_with_len, length-map-range_with_len}
use Rattle.asm_names.specs.declared.program.Domain.{Domain}
use Rattle.asm_names.specs.declared.program.Fun.{Fun}
use Rattle.state_space.specs.Locations.{range_of, tuples}
use Rattle.state_space.specs.Sizes.{IsRange, padded_count}
use Rattle.state_space.specs.declared.signature.Range.{Range}
use Rattle.state_space.proofs.Numbers.{length-tuples}
use Rattle.state_space.proofs.Padding.{padded_count-within}
use Rattle.state_space.proofs.Small.{tuples_padded}
use Rattle.rom_tables.specs.Tables.{EachHolds, fun_row, index_at, index_in, place_at, table_number}

-- there is a tuple over domains with values
pub tuples-some : (ranges : List Range) → AllByRecursion IsRange ranges → 0 < length (tuples ranges)
tuples-some [] all = omega arith
tuples-some (range ∷ ranges) all =
    let rest = tuples-some ranges all.1 in
    let some = all.0.some in
    let more : 1 * 1 ≤ range.size * length (tuples ranges) = mul-le 1 1 range.size (length (tuples ranges)) some rest in
    omega (arith, length-tuples range ranges, more)

-- what is known of the arguments' domains, the first apart
pub record Split (domains : List Domain) (numbers : List ℕ) (number : ℕ) (rest : List ℕ) : Type 0 where
  pub few : length rest ≤ 3
  pub ranges : AllByRecursion IsRange (map (range_of domains) rest)
  pub parts : map (range_of domains) numbers ≡ range_of domains number ∷ map (range_of domains) rest
  pub total : length (tuples (map (range_of domains) numbers)) ≡ (range_of domains number).size * length (tuples (map (range_of domains) rest))
  pub small : length (tuples (map (range_of domains) numbers)) ≤ 2 ^ 48
  pub each : 0 < padded_count (map (range_of domains) rest)

pub split : (domains : List Domain) (numbers : List ℕ) (number : ℕ) (rest : List ℕ) → numbers ≡ number ∷ rest → length numbers ≤ 3 → AllByRecursion IsRange (map (range_of domains) numbers)
    → Split domains numbers number rest
split domains numbers number rest e few all =
    let parts = ap (map (range_of domains)) e in
    let both = subst (AllByRecursion IsRange) parts all in
    let long = ap length e in
    let counted = length-map numbers (range_of domains) in
    record {
      few = omega arith;
      ranges = both.1;
      parts = parts;
      total = ap (λ rs. length (tuples rs)) parts ∙ length-tuples (range_of domains number) (map (range_of domains) rest);
      small = omega (arith, tuples_padded (map (range_of domains) numbers), padded_count-within (map (range_of domains) numbers) (omega arith) all);
      each = omega (arith, tuples-some (map (range_of domains) rest) both.1, tuples_padded (map (range_of domains) rest));
    }

-- where a tuple stands, by the first argument's index
pub place-in : (range : Range) (ranges : List Range) (place : ℕ) → place / padded_count ranges < range.size
    → place_at (range ∷ ranges) place ≡ option_map (λ inner. place / padded_count ranges * length (tuples ranges) + inner) (place_at ranges (place % padded_count ranges))
place-in range ranges place h =
    let test : nat_lt (place / padded_count ranges) range.size ≡ true = grind (arith, nat_tests) in
    ap (λ b. cond b (option_map (λ inner. place / padded_count ranges * length (tuples ranges) + inner) (place_at ranges (place % padded_count ranges))) None) test

pub place-gap : (range : Range) (ranges : List Range) (place : ℕ) → range.size ≤ place / padded_count ranges → place_at (range ∷ ranges) place ≡ None
place-gap range ranges place h =
    let test : nat_lt (place / padded_count ranges) range.size ≡ false = grind (arith, nat_tests) in
    ap (λ b. cond b (option_map (λ inner. place / padded_count ranges * length (tuples ranges) + inner) (place_at ranges (place % padded_count ranges))) None) test

-- the number of the tuple is one of them
pub below-block : (i size j n : ℕ) → i < size → j < n → i * n + j < size * n
below-block i size j n h k = let more : n * (i + 1) ≤ n * size = mul-le-mul_left n (omega arith) in omega (arith, more)

-- ---- rows
pub row-length : (domains : List Domain) (fun : Fun) → length (fun_row domains fun) ≡ padded_count (map (range_of domains) fun.args)
row-length domains fun = length-map-range_with_len (λ place. index_at (range_of domains fun.codomain) fun.table (place_at (map (range_of domains) fun.args) place)) 0 (padded_count (map (range_of domains) fun.args))

pub row-at : (domains : List Domain) (fun : Fun) (place d : ℕ) → place < padded_count (map (range_of domains) fun.args)
    → get_or (fun_row domains fun) place d ≡ index_at (range_of domains fun.codomain) fun.table (place_at (map (range_of domains) fun.args) place)
row-at domains fun place d h =
    get_or-map-range_with_len (λ place. index_at (range_of domains fun.codomain) fun.table (place_at (map (range_of domains) fun.args) place)) 0 (padded_count (map (range_of domains) fun.args)) place place d h (zero-add place)

-- one word more of a row
pub row-more : (domains : List Domain) (fun : Fun) (place : ℕ) → place < padded_count (map (range_of domains) fun.args)
    → take (place + 1) (map table_number (fun_row domains fun))
    ≡ take place (map table_number (fun_row domains fun)) ++ table_number (index_at (range_of domains fun.codomain) fun.table (place_at (map (range_of domains) fun.args) place)) ∷ []
row-more domains fun place h =
    let words = map table_number (fun_row domains fun) in
    let long : length words ≡ padded_count (map (range_of domains) fun.args) = length-map (fun_row domains fun) table_number ∙ row-length domains fun in
    let one : place + 1 ≡ suc place = omega arith in
    let here : get_or words place (table_number 0) ≡ table_number (index_at (range_of domains fun.codomain) fun.table (place_at (map (range_of domains) fun.args) place)) =
    get_or-map table_number (fun_row domains fun) place 0 (table_number 0) (omega (arith, row-length domains fun)) ∙ ap table_number (row-at domains fun place 0 h) in
    ap (λ n. take n words) one ∙ take-suc words place (table_number 0) (omega arith) ∙ ap (λ x. take place words ++ x ∷ []) here

-- ---- values

-- the index of a value that has one
pub index-known : (range : Range) (value : ℤ) (d : ℕ) → value ≡ (range.lo +ℤ pos d) → d ≡ index_in range value
index-known range value d is =
    let back : value -ℤ range.lo ≡ pos d = omega (arith, ints, is) in sym (ap unsigned_abs back)

-- a value of a domain has an index
pub index-there : (range : Range) (value : ℤ) → IsRange range → In (whole range) value → ((d : ℕ) → d < range.size → value ≢ (range.lo +ℤ pos d)) → ⊥
index-there range value few within none = by_sign (value -ℤ range.lo) refl
  where
    by_sign : (z : ℤ) → value -ℤ range.lo ≡ z → ⊥
    by_sign (pos d) e =
        let high = within.high in let some = few.some in
        none d (omega (arith, ints, high, e, some)) (omega (arith, ints, e))
    by_sign (negsuc d) e = let low = within.low in absurd (omega (arith, ints, low, e))

-- what is there has its place
pub there : (table : List ℤ) (number : ℕ) (P : ℤ → Type 0) → IsSomeAnd (slice_get table number) P → (number < length table) × P (slice_index_or table number (pos 0))
there [] number P h = absurd h
there (x ∷ xs) zero P h = (omega arith, h)
there (x ∷ xs) (suc number) P h = let rest = there xs number P h in (let below = rest.0 in omega arith, rest.1)

-- each value of a table that fits is there, and lies in the codomain
pub each-holds : (args : List Range) (codomain : Range) (table : List ℤ) → AllZip (λ x value. In (whole codomain) value) (tuples args) table → EachHolds codomain table (length (tuples args))
each-holds args codomain table h number below = by_zip (tuples args) table h number below
  where
    by_zip : (xs : List (List ℤ)) (ys : List ℤ) → AllZip (λ x value. In (whole codomain) value) xs ys → (number : ℕ) → number < length xs → IsSomeAnd (slice_get ys number) (In (whole codomain))
    by_zip [] ys h number below = absurd (omega arith)
    by_zip (x ∷ xs) [] h number below = absurd h
    by_zip (x ∷ xs) (y ∷ ys) h zero below = h.0
    by_zip (x ∷ xs) (y ∷ ys) h (suc number) below = by_zip xs ys h.1 number (omega arith)
