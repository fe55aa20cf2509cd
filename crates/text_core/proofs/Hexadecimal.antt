-- Eight hexadecimal digits spell one number below 2 ^ 32.
use Rattle.std.proofs.Common.{◌≡◌, ℕ, ◌*◌, ◌/◌, ◌%◌, ◌^◌, ◌<◌, arith}
use Rattle.std.proofs.Math.Nat.{div-div-eq-div-mul}
use Rattle.std.proofs.lemmas.Bool.Decides.{nat_tests}
use Rattle.text_core.specs.Hexadecimal.{glyph, hex8}

glyph_injective : (a b : ℕ) → a < 16 → b < 16 → glyph a ≡ glyph b → a ≡ b
glyph_injective a b small little e = grind (arith, nat_tests)

-- one digit more: c is the weight of the digit
one_more : (m n c : ℕ) → m / (c * 16) ≡ n / (c * 16) → glyph (m / c % 16) ≡ glyph (n / c % 16) → m / c ≡ n / c
one_more m n c front digit =
    let left = div-div-eq-div-mul m c 16 in
    let right = div-div-eq-div-mul n c 16 in
    let last : m / c % 16 ≡ n / c % 16 = glyph_injective _ _ (omega arith) (omega arith) digit in
    omega arith

pub hex8_injective : (m n : ℕ) → m < 2 ^ 32 → n < 2 ^ 32 → hex8 m ≡ hex8 n → m ≡ n
unfolding hex8
hex8_injective m n small little e =
    let first : m / 16 ^ 7 % 16 ≡ n / 16 ^ 7 % 16 = glyph_injective _ _ (omega arith) (omega arith) cc in
    let d7 : m / 16 ^ 7 ≡ n / 16 ^ 7 = omega arith in
    let d6 = one_more m n (16 ^ 6) d7 cc in
    let d5 = one_more m n (16 ^ 5) d6 cc in
    let d4 = one_more m n (16 ^ 4) d5 cc in
    let d3 = one_more m n (16 ^ 3) d4 cc in
    let d2 = one_more m n (16 ^ 2) d3 cc in
    let d1 = one_more m n 16 d2 cc in
    let d0 : glyph (m % 16) ≡ glyph (n % 16) = cc in
    let last : m % 16 ≡ n % 16 = glyph_injective _ _ (omega arith) (omega arith) d0 in
    omega arith
