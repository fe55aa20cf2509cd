-- The index of a word.
use Rattle.std.proofs.Common.{◌≡◌, ℕ, ◌-◌, ◌*◌, ◌%◌, ◌<◌, ◌≤◌, ap, ◌∙◌, arith}
use Rattle.std.proofs.Math.Nat.{mod-eq_of_lt, mod-lt}
use Rattle.std.proofs.Math.Pow.{pow_pos}
use Rattle.std.proofs.lemmas.Bool.Decides.{nat_tests}
use Rattle.state_space.specs.Decoding.{exponent, folded_back, index_of, padded}
use Rattle.state_space.specs.DecodingLaw.{EveryWordHasAnIndex}
use Rattle.state_space.proofs.Exponents.{exponent_enough, padded_twice}

pub folded-below : (n m : ℕ) → m < 2 * n → folded_back n m < n
folded-below n m h = grind (arith, nat_tests)

pub folded-same : (n m : ℕ) → m < n → folded_back n m ≡ m
folded-same n m h = grind (arith, nat_tests)

pub folded-less : (n m : ℕ) → n ≤ m → folded_back n m ≡ m - n
folded-less n m h = grind (arith, nat_tests)

-- every word stands for an index
pub index-below : (n word : ℕ) → 1 ≤ n → index_of n word < n
index-below n word some =
    let low : word % padded n < padded n = mod-lt word (pow_pos (exponent n)) in
    folded-below n (word % padded n) (omega (arith, low, padded_twice n some))

-- an index stands for itself
pub index-same : (n word : ℕ) → word < n → index_of n word ≡ word
index-same n word below =
    let within : word < padded n = omega (arith, exponent_enough n) in
    let whole : word % padded n ≡ word = mod-eq_of_lt within in
    ap (folded_back n) whole ∙ folded-same n word below

pub every-word-has-an-index : EveryWordHasAnIndex
every-word-has-an-index size word some = (index-below size word some, λ below. index-same size word below)
