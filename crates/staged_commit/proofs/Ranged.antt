-- The values of functions in a map are words.
use Rattle.std.proofs.Common.{◌≡◌, ℕ, ◌^◌, ◌<◌, ℤ, pos, ◌+ℤ◌, Option, Some, None, refl, arith}
use Rattle.std.specs.Prelude.{FitsSigned, slice_get}
use Rattle.std.specs.Int.{w32}
use Rattle.std.proofs.lemmas.Int.{ints}
use Rattle.mask_guard.specs.Mask.{word_of}
use Rattle.mask_guard.proofs.Numbers.{ranges-are-maskable}
use Rattle.state_space.specs.declared.signature.Range.{Range}
use Rattle.state_space.specs.declared.signature.Signature.{Signature}
use Rattle.state_space.specs.Codomains.{codomain_of}
use Rattle.state_space.specs.Sizes.{IsRange, IsSized}
use Rattle.state_layout.specs.Map.{Placement, range_at}
use Rattle.staged_commit.specs.Law.{IsCoded}
use Rattle.staged_commit.proofs.Staging.{all-at}

-- the least value of a range and all values are numbers of 32 signed bits
record IsWordRange (range : Range) : Type 0 where
  low : FitsSigned w32 range.lo
  all : (index : ℕ) → index < range.size → FitsSigned w32 (range.lo +ℤ pos index)

word-range : (range : Range) → IsRange range → IsWordRange range
word-range range r = let m = ranges-are-maskable range r in record { low = m.2; all = m.1 }

below : (value : ℤ) → FitsSigned w32 value → word_of value < 2 ^ 32
below value f = omega (arith, ints)

module _ (placement : Placement) (coded : IsCoded placement) where
  ranged : (fun : ℕ) → IsWordRange (range_at placement fun)
  ranged fun = by (slice_get placement.signatures fun) refl
    where
      by : (o : Option Signature) → slice_get placement.signatures fun ≡ o → IsWordRange (codomain_of o)
      by None here = record { low = record { sfits = omega (arith, ints) }; all = λ index below. absurd (omega arith) }
      by (Some signature) here = word-range signature.codomain (all-at IsSized placement.signatures fun signature coded.placed.sized here).range

  pub lo-fits : (fun : ℕ) → FitsSigned w32 (range_at placement fun).lo
  lo-fits fun = (ranged fun).low

  pub lo-word : (fun : ℕ) → word_of (range_at placement fun).lo < 2 ^ 32
  lo-word fun = below _ (lo-fits fun)

  pub value-word : (fun index : ℕ) → index < (range_at placement fun).size → word_of ((range_at placement fun).lo +ℤ pos index) < 2 ^ 32
  value-word fun index h = below _ ((ranged fun).all index h)
