-- Numbers as they are written, read back.
use Rattle.std.proofs.Common.{◌≡◌, ℕ, zero, suc, ◌+◌, ◌*◌, ◌/◌, ◌%◌, ◌^◌, ◌<◌, ◌≤ℤ◌, ℤ, pos, negsuc, Bool, true, false, List, [], ◌∷◌, length, get_or, Some, if◌then◌else◌, refl, ap, map, ◌∙◌, rules, arith, ◌==◌}
use Rattle.std.specs.Fmt.{decimal, signed_decimal, digits, digits_onto, digit_glyph}
use Rattle.std.specs.List.{AllByRecursion}
use Rattle.std.specs.Char.{is_ascii_digit}
use Rattle.std.proofs.Common.{inl, inr}
use Rattle.std.proofs.lemmas.Bool.{cases_eq, and_parts}
use Rattle.std.proofs.lemmas.Bool.Decides.{nat_tests}
use Rattle.std.proofs.lemmas.Int.{ints}
use Rattle.std.proofs.lemmas.Fmt.{digits_decimal, digits_value-decimal, length-decimal-le, decimal_nonempty, decimal_digit, first_decimal}
use Rattle.text_core.specs.Hexadecimal.{digit_value, glyph, hex8, hexadecimal, hexadecimal_from}
use Rattle.text_core.specs.Numbers.{all_digits, is_decimal, number_of, value_of}
use Rattle.text_core.proofs.Decimal.{Decimal, Decimal-to, own}
use Rattle.rv_line.specs.Words.{number}

-- what holds of each decimal digit holds of the digits of a number
glyph_is : (d : ℕ) → d < 10 → digit_glyph false d ≡ 48 + d
glyph_is d h = grind (arith, nat_tests)

either : (P : ℕ → Type 0) (b : Bool) (xs ys : List ℕ) → AllByRecursion P xs → AllByRecursion P ys → AllByRecursion P (if b then xs else ys)
either P true xs ys h g = h
either P false xs ys h g = g

onto : (P : ℕ → Type 0) → ((d : ℕ) → d < 10 → P (digit_glyph false d)) → (k n : ℕ) (acc : List ℕ) → AllByRecursion P acc → AllByRecursion P (digits_onto k 10 false n acc)
onto P each zero n acc h = h
onto P each (suc k) n acc h =
    let more : AllByRecursion P (digit_glyph false (n % 10) ∷ acc) = (each (n % 10) (omega arith), h) in
    either P (n / 10 == 0) _ _ more (onto P each k (n / 10) (digit_glyph false (n % 10) ∷ acc) more)

pub decimal-All : (P : ℕ → Type 0) → ((d : ℕ) → d < 10 → P (48 + d)) → (n : ℕ) → AllByRecursion P (decimal n)
unfolding digits
decimal-All P each n = onto P (λ d h. rw (glyph_is d h) (each d h)) 64 n [] tt

-- a decimal is read back
pub number_of-decimal : (n : ℕ) → n < 10 ^ 18 → number_of (decimal n) ≡ Some n
number_of-decimal n small =
    let few = length-decimal-le 18 n (omega arith) small (omega arith) in
    let some = decimal_nonempty n (omega arith) in
    let d : Decimal (decimal n) = record { some = omega arith; few = few; first = alone; digits = digits_decimal own n (omega arith) } in
    known (decimal n) n (Decimal-to (decimal n) d) (digits_value-decimal own n (omega arith))
  where
    alone : get_or (decimal n) 0 0 ≡ 48 → length (decimal n) ≡ 1
    alone z = elim (cases_eq n 0) [
      | inl e ↦ rw (e, decimal_digit 0 (omega arith)) refl
      | inr e ↦ absurd (omega (arith, first_decimal n (omega arith) (omega arith), z))
    ]

    known : (text : List ℕ) (n : ℕ) → is_decimal text ≡ true → value_of text ≡ n → number_of text ≡ Some n
    known text n t v = rw (t, v) refl

-- and as a number
pub number-digits : (ds : List ℕ) (n : ℕ) → all_digits ds ≡ true → number_of ds ≡ Some n → number ds ≡ Some (pos n)
unfolding number
number-digits [] n h e = absurd (cc)
number-digits (c ∷ cs) n h e = rw (no_minus (and_parts (is_ascii_digit c) (all_digits cs) h).0, e) refl
  where
    no_minus : is_ascii_digit c ≡ true → (c == 45) ≡ false
    no_minus t = grind (arith, nat_tests)

pub number-signed_decimal : (z : ℤ) → negsuc 1048575 ≤ℤ z → z ≤ℤ pos 1048575 → number (signed_decimal z) ≡ Some z
unfolding number
number-signed_decimal (pos n) low high = number-digits (decimal n) n (digits_decimal own n (omega (arith, ints))) (number_of-decimal n (omega (arith, ints)))
number-signed_decimal (negsuc n) low high = rw (number_of-decimal (suc n) (omega (arith, ints))) refl

-- a word in hexadecimal is read back
digit_value-glyph : (d : ℕ) → d < 16 → digit_value (glyph d) ≡ Some d
digit_value-glyph d h = grind (arith, nat_tests)

abbrev number_from : ℕ → List ℕ → ℕ
number_from n [] = n
number_from n (d ∷ ds) = number_from (n * 16 + d) ds

spelled : (ds : List ℕ) → AllByRecursion (λ d. d < 16) ds → (n : ℕ) → hexadecimal_from n (map glyph ds) ≡ Some (number_from n ds)
spelled [] p n = refl
spelled (d ∷ ds) p n = rw (digit_value-glyph d p.0) (spelled ds p.1 (n * 16 + d))

pub hexadecimal-hex8 : (n : ℕ) → n < 2 ^ 32 → hexadecimal (hex8 n) ≡ Some n
unfolding hex8
hexadecimal-hex8 n h =
    let ds : List ℕ = (n / 16 ^ 7 % 16) ∷ (n / 16 ^ 6 % 16) ∷ (n / 16 ^ 5 % 16) ∷ (n / 16 ^ 4 % 16) ∷ (n / 16 ^ 3 % 16) ∷ (n / 16 ^ 2 % 16) ∷ (n / 16 % 16) ∷ (n % 16) ∷ [] in
    let below : AllByRecursion (λ d. d < 16) ds = search (rules, arith) in
    let sum : number_from 0 ds ≡ n = omega arith in
    spelled ds below 0 ∙ ap Some sum
