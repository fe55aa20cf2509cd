-- Codomains of functions are of 32 signed bits.
use Rattle.std.proofs.Common.{◌≡◌, ℕ, zero, suc, pos, negsuc, true, List, [], ◌∷◌, Option, Some, None, refl, subst, arith}
use Rattle.std.specs.{Prelude.{int_le, slice_get}, List.{AllByRecursion}}
use Rattle.std.proofs.lemmas.{Bool.{and_from}, Int.{ints}}
use Rattle.state_space.specs.{declared.signature.{Range.{Range}, Signature.{Signature}}, Codomains.{codomain_range, whole}, Sizes.{IsRange, IsSized}}
use Rattle.asm_ranges.specs.Ranges.{inside, words}
use Rattle.rule_code.specs.MappedLaw.{SizedSignaturesAreShort}

low-end : (range : Range) → IsRange range → int_le (negsuc 2147483647) (whole range).lo ≡ true
low-end range r = let l = r.low in grind (arith, ints)

high-end : (range : Range) → IsRange range → int_le (whole range).hi (pos 2147483647) ≡ true
high-end range r = let h = r.high in grind (arith, ints)

short-range : (range : Range) → IsRange range → inside (whole range) words ≡ true
short-range range r = and_from (int_le (negsuc 2147483647) (whole range).lo) (int_le (whole range).hi (pos 2147483647)) (low-end range r) (high-end range r)

pub sized-at : (signatures : List Signature) (i : ℕ) (signature : Signature) → slice_get signatures i ≡ Some signature → AllByRecursion IsSized signatures → IsSized signature
sized-at [] i signature h all = absurd cc
sized-at (s ∷ signatures) zero signature h all = let same : s ≡ signature = cc in subst IsSized same all.0
sized-at (s ∷ signatures) (suc i) signature h all = sized-at signatures i signature h all.1

pub sized-signatures-are-short : SizedSignaturesAreShort
sized-signatures-are-short signatures all fun = by (slice_get signatures fun) refl
  where
    by : (o : Option Signature) → slice_get signatures fun ≡ o → inside (codomain_range o) words ≡ true
    by None h = refl
    by (Some signature) h = short-range signature.codomain (sized-at signatures fun signature h all).range
