use Rattle.std.proofs.Common.{ℕ, ◌^◌, ◌≤◌, arith, lit<}
use Rattle.std.proofs.Math.Nat.{pow-le-pow_right}
use Rattle.text_core.proofs.reading.read_hex.Goals as goal

seven : (n : ℕ) → n ≤ 7 → 16 ^ n ≤ 16 ^ 7
seven n few = pow-le-pow_right (lit< tt) few

pub overflow_mul-value : goal.overflow_mul-value
overflow_mul-value c = omega (arith, seven c.loop-byte.byte-index (omega arith))

pub overflow_add-value : goal.overflow_add-value
overflow_add-value c = omega (arith, c.in-Some.ensures.small, seven c.loop-byte.byte-index (omega arith))
