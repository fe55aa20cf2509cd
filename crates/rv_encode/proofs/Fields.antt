-- What the bits of a word are, where its format is known.
use Rattle.std.proofs.Common.{◌≡◌, ℕ, ◌^◌, ◌%◌, arith}
use Rattle.std.specs.Prelude.{ℤ, pos, negsuc, ◌≤ℤ◌}
use Rattle.std.proofs.lemmas.Int.{ints}
use Rattle.std.proofs.lemmas.Bool.Decides.{nat_tests}
use Rattle.rv_isa.specs.Operand.{IsImm12, IsImmB, IsImmJ, IsEven}
use Rattle.rv_encode.specs.Format.{twos_complement}
use Rattle.rv_encode.specs.Decoded.{signed}

-- what is left of a signed number in so many bits gives it back
module _ (n : ℕ) where
  pub signed12 : (z : ℤ) → IsImm12 z → n ≡ twos_complement z % 2 ^ 12 → signed 12 n ≡ z
  signed12 (pos k) h e = grind (arith, nat_tests, ints)
  signed12 (negsuc k) h e = grind (arith, nat_tests, ints)

  pub signed13 : (z : ℤ) → IsImmB z → n ≡ twos_complement z % 2 ^ 13 → signed 13 n ≡ z
  signed13 (pos k) h e = grind (arith, nat_tests, ints)
  signed13 (negsuc k) h e = grind (arith, nat_tests, ints)

  pub signed21 : (z : ℤ) → IsImmJ z → n ≡ twos_complement z % 2 ^ 21 → signed 21 n ≡ z
  signed21 (pos k) h e = grind (arith, nat_tests, ints)
  signed21 (negsuc k) h e = grind (arith, nat_tests, ints)

-- the two's complement of an even number is even
pub even : (z : ℤ) → IsEven z → (negsuc 1048575 ≤ℤ z) → twos_complement z % 2 ≡ 0
even (pos k) h r = omega (arith, ints)
even (negsuc k) h r = omega (arith, ints)
