-- How many bits an index takes.
use Rattle.std.proofs.Common.{◌≡◌, ℕ, zero, suc, ◌^◌, ◌≤◌, refl, arith}
use Rattle.state_space.specs.Decoding.{exponent}
use Rattle.state_space.proofs.Exponents.{exponent_enough}

pub no-bits : exponent 1 ≡ 0
unfolding exponent
no-bits = refl

pub some-bits : (n : ℕ) → 2 ≤ n → 1 ≤ exponent n
some-bits n h = by (exponent n) (exponent_enough n)
  where
    by : (k : ℕ) → n ≤ 2 ^ k → 1 ≤ k
    by zero e = absurd (omega arith)
    by (suc k) e = omega arith
