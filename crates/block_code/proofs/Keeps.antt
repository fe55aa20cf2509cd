-- A word that a run keeps.
use Rattle.std.proofs.Common.{◌≡◌, ℕ, zero, suc, ◌+◌, ◌<◌, ◌≤◌, ◌^◌, ◌%◌, List, length, false, refl, ap, ◌∙◌, arith}
use Rattle.std.proofs.Common.{subst, sym}
use Rattle.rv_machine.specs.Hart.{AreBytes}
use Rattle.rv_machine.specs.Memory.{stored}
use Rattle.block_code.specs.Block.{IsSlot, KeepsWord}
use Rattle.block_code.specs.During.{During}
use Rattle.block_code.specs.Effect.{Own}
use Rattle.block_code.specs.Ends.{Arrived, Ends, Onward, Stopped}
use Rattle.block_code.specs.Moment.{IsValidMoment, Moment, moment_after, next, traps}
use Rattle.block_code.specs.Place.{Within, word_in}
use Rattle.block_code.proofs.Ends.{ends-map}
use Rattle.block_code.proofs.Machine.{word_in-stored}

abbrev pub word_at : ℕ → Moment → ℕ
word_at slot s = word_in slot s.hart.ram

module _ (rom : List ℕ) where
  pub keeps-on : (low high slot : ℕ) (s : Moment) → KeepsWord rom low high slot s → Within low high s → traps rom s ≡ false → KeepsWord rom low high slot (next rom s)
  keeps-on low high slot s k within t time inside untrapped = k (suc time) inside' untrapped'
    where
      inside' : (u : ℕ) → u ≤ suc time → Within low high (moment_after rom u s)
      inside' zero h = within
      inside' (suc u) h = inside u (omega arith)

      untrapped' : (u : ℕ) → u ≤ suc time → traps rom (moment_after rom u s) ≡ false
      untrapped' zero h = t
      untrapped' (suc u) h = untrapped u (omega arith)

  -- nor does its first tick store there
  pub keeps-now : (low high slot : ℕ) (s : Moment) → KeepsWord rom low high slot s → Within low high s → traps rom s ≡ false → word_at slot (next rom s) ≡ word_at slot s
  keeps-now low high slot s k within t = k 0 inside untrapped
    where
      inside : (u : ℕ) → u ≤ 0 → Within low high (moment_after rom u s)
      inside zero h = within
      inside (suc u) h = absurd (omega arith)

      untrapped : (u : ℕ) → u ≤ 0 → traps rom (moment_after rom u s) ≡ false
      untrapped zero h = t
      untrapped (suc u) h = absurd (omega arith)

  -- where a run stores nothing at the slot, its word is at the end what it was
  pub keeps-word : {Q G C : Moment → Type 0} {low high : ℕ} (slot : ℕ) {n : ℕ} {s : Moment} → KeepsWord rom low high slot s → Ends rom (During Q low high) G C n s
      → Ends rom (During Q low high) (λ s'. (word_at slot s' ≡ word_at slot s) × G s') C n s
  keeps-word slot {s = s} k (Arrived g) = Arrived (refl, g)
  keeps-word slot k (Stopped i t c) = Stopped i t c
  keeps-word {Q = Q} {G = G} {C = C} {low = low} {high = high} slot {s = s} k (Onward i t e) =
      let now : word_at slot (next rom s) ≡ word_at slot s = keeps-now low high slot s k i.0 t in
      Onward i t (again now (keeps-word slot (keeps-on low high slot s k i.0 t) e))
    where
      again : {n : ℕ} → word_at slot (next rom s) ≡ word_at slot s
          → Ends rom (During Q low high) (λ s'. (word_at slot s' ≡ word_at slot (next rom s)) × G s') C n (next rom s)
          → Ends rom (During Q low high) (λ s'. (word_at slot s' ≡ word_at slot s) × G s') C n (next rom s)
      again now e = ends-map rom (λ s i. i) (λ s' g. (g.0 ∙ now, g.1)) (λ s' c. c) e

-- the word that a block's own code left in its slot
pub own-word : (size slot address x : ℕ) (s s' : Moment) → IsSlot slot → size % 4 ≡ 0 → slot < size → IsValidMoment size s → x < 2 ^ 32
    → Own address (stored 4 slot x s.hart.ram) s s' → word_at slot s' ≡ x
own-word size slot address x s s' is_slot multiple h valid small own =
    let count = valid.hart.ram.count in
    let aligned = is_slot.aligned in
    let inside : slot + 4 ≤ length s.hart.ram = omega arith in
    ap (word_in slot) own.ram ∙ word_in-stored slot x s.hart.ram inside small

-- a block's own code keeps the hart valid
pub own-valid : (size address : ℕ) (memory : List ℕ) (s s' : Moment) → IsValidMoment size s → AreBytes size memory → Own address memory s s' → IsValidMoment size s'
own-valid size address memory s s' valid bytes own = record {
  hart = record {
    pc = subst (λ p. p < 2 ^ 32) (sym own.pc) own.low;
    regs = own.fit;
    ram = subst (λ r. AreBytes size r) (sym own.ram) bytes;
  };
}
