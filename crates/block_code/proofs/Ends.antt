-- How runs that come to an end are put together.
use Rattle.std.proofs.Common.{◌≡◌, ℕ, zero, suc, ◌+◌, ◌≤◌, List, false, arith}
use Rattle.block_code.specs.Ends.{Arrived, Ends, Onward, Stopped}
use Rattle.block_code.specs.Moment.{Moment, next, traps}

module _ (rom : List ℕ) where
  -- more ticks are allowed
  pub ends-more : {I G C : Moment → Type 0} {n : ℕ} {s : Moment} (k : ℕ) → n ≤ k → Ends rom I G C n s → Ends rom I G C k s
  ends-more k h (Arrived g) = Arrived g
  ends-more zero h (Stopped i t c) = absurd (omega arith)
  ends-more (suc k) h (Stopped i t c) = Stopped i t c
  ends-more zero h (Onward i t e) = absurd (omega arith)
  ends-more (suc k) h (Onward i t e) = Onward i t (ends-more k (omega arith) e)

  -- less is said
  pub ends-map : {I G C I' G' C' : Moment → Type 0} {n : ℕ} {s : Moment}
      → ((s : Moment) → I s → I' s) → ((s : Moment) → G s → G' s) → ((s : Moment) → C s → C' s) → Ends rom I G C n s → Ends rom I' G' C' n s
  ends-map {s = s} fi fg fc (Arrived g) = Arrived (fg s g)
  ends-map {s = s} fi fg fc (Stopped i t c) = Stopped (fi s i) t (fc s c)
  ends-map {s = s} fi fg fc (Onward i t e) = Onward (fi s i) t (ends-map fi fg fc e)

  -- one run after another
  pub ends-then : {I G G' C : Moment → Type 0} {n : ℕ} {s : Moment} (k total : ℕ) → n + k ≤ total
      → Ends rom I G C n s → ((s' : Moment) → G s' → Ends rom I G' C k s') → Ends rom I G' C total s
  ends-then {s = s} k total h (Arrived g) f = ends-more total (omega arith) (f s g)
  ends-then k zero h (Stopped i t c) f = absurd (omega arith)
  ends-then k (suc total) h (Stopped i t c) f = Stopped i t c
  ends-then k zero h (Onward i t e) f = absurd (omega arith)
  ends-then k (suc total) h (Onward i t e) f = Onward i t (ends-then k total (omega arith) e f)

  -- what each tick keeps holds all the way
  pub ends-keep : {I G C P : Moment → Type 0} {n : ℕ} {s : Moment}
      → ((s : Moment) → P s → I s → traps rom s ≡ false → P (next rom s)) → P s → Ends rom I G C n s
      → Ends rom (λ s. P s × I s) (λ s. P s × G s) (λ s. P s × C s) n s
  ends-keep {s = s} f p (Arrived g) = Arrived (p, g)
  ends-keep {s = s} f p (Stopped i t c) = Stopped (p, i) t (p, c)
  ends-keep {s = s} f p (Onward i t e) = Onward (p, i) t (ends-keep f (f s p i t) e)

  -- two accounts of one run
  pub ends-both : {I G C J H D : Moment → Type 0} {n k : ℕ} {s : Moment} → ((s : Moment) → H s → I s → ⊥)
      → Ends rom I G C n s → Ends rom J H D k s → Ends rom (λ s. I s × J s) G C n s
  ends-both f (Arrived g) e = Arrived g
  ends-both {s = s} f (Stopped i t c) (Arrived h) = absurd (f s h i)
  ends-both f (Stopped i t c) (Stopped j u d) = Stopped (i, j) t c
  ends-both f (Stopped i t c) (Onward j u e) = absurd (cc)
  ends-both {s = s} f (Onward i t e) (Arrived h) = absurd (f s h i)
  ends-both f (Onward i t e) (Stopped j u d) = absurd (cc)
  ends-both f (Onward i t e) (Onward j u e') = Onward (i, j) t (ends-both f e e')
