-- Runs that come to an end.
use Rattle.std.specs.Prelude.{◌≡◌, ℕ, suc, ◌<◌, ◌≤◌, ◌⊎◌, List, true, false}
use Rattle.block_code.specs.Moment.{Moment, moment_after, next, traps}

-- within n ticks the run from s comes to a moment of Goal, or to a moment of Caught whose tick traps; each tick until then begins at a moment of Inside
pub data Ends (rom : List ℕ) (Inside Goal Caught : Moment → Type 0) : ℕ → Moment → Type 0 where
  Arrived : {n : ℕ} {s : Moment} → Goal s → Ends rom Inside Goal Caught n s
  Stopped : {n : ℕ} {s : Moment} → Inside s → traps rom s ≡ true → Caught s → Ends rom Inside Goal Caught (suc n) s
  Onward : {n : ℕ} {s : Moment} → Inside s → traps rom s ≡ false → Ends rom Inside Goal Caught n (next rom s) → Ends rom Inside Goal Caught (suc n) s

-- after t ticks the run from s is at Goal, or at Caught and traps next; each tick before began inside and did not trap
pub record EndsAt (rom : List ℕ) (Inside Goal Caught : Moment → Type 0) (n : ℕ) (s : Moment) : Type 0 where
  pub ticks : ℕ
  pub soon : ticks ≤ n
  pub inside : (u : ℕ) → u < ticks → Inside (moment_after rom u s)
  pub untrapped : (u : ℕ) → u < ticks → traps rom (moment_after rom u s) ≡ false
  pub ends : Goal (moment_after rom ticks s) ⊎ (Inside (moment_after rom ticks s) × (ticks < n) × (traps rom (moment_after rom ticks s) ≡ true) × Caught (moment_after rom ticks s))
