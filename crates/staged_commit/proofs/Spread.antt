-- Spots of RAM stand apart, and what one store leaves of the others.
use Rattle.std.proofs.Common.{◌≡◌, ◌≢◌, ℕ, ◌+◌, ◌%◌, ◌^◌, ◌<◌, ◌≤◌, List, length, refl, sym, ap, ⊎_elim, arith}
use Rattle.std.proofs.lemmas.Bool.{cases_lt}
use Rattle.rv_machine.specs.Memory.{stored}
use Rattle.rv_machine.proofs.Store.{number_at-stored, number_at-stored_before, number_at-stored_behind}
use Rattle.trap_model.specs.Width.{bytes_of}
use Rattle.trap_model.specs.declared.width.Width.{Width}
use Rattle.trap_model.specs.declared.width.Width.TheVariants.{Byte, Half, Word}
use Rattle.block_code.specs.SequenceLaw.{IsOffset}
use Rattle.state_space.specs.Locations.{is_input, is_state}
use Rattle.state_layout.specs.Map.{Placement, access_at, flag_access, flags_end, kept_end, staged_end, state_end}
use Rattle.state_layout.specs.MapLaw.{LiesIn}
use Rattle.staged_commit.specs.Spots.{Counter, Flag, IsSpot, Kept, Mark, OnlyChanges, Spot, Waiting, Value, access, offset, seen}
use Rattle.state_layout.proofs.Cells.{cells-are-apart, cells-lie-inside, flags-are-arrays, kept-are-arrays, staged-are-arrays, values-are-arrays}

pub width-some : (width : Width) → 0 < bytes_of width
width-some Byte = omega arith
width-some Half = omega arith
width-some Word = omega arith

module _ (placement : Placement) where
  abbrev pub width : Spot → ℕ
  width spot = bytes_of (access placement spot)

  -- where the spots of a kind begin, and where they end
  abbrev pub floor : Spot → ℕ
  floor (Value cell) = 0
  floor (Waiting cell) = state_end placement
  floor (Flag cell) = staged_end placement
  floor (Kept cell) = flags_end placement
  floor Mark = kept_end placement
  floor Counter = kept_end placement + 4

  abbrev pub ceiling : Spot → ℕ
  ceiling (Value cell) = state_end placement
  ceiling (Waiting cell) = staged_end placement
  ceiling (Flag cell) = flags_end placement
  ceiling (Kept cell) = kept_end placement
  ceiling Mark = kept_end placement + 4
  ceiling Counter = kept_end placement + 8

  whole : kept_end placement % 4 ≡ 0
  whole = omega arith

  -- each spot lies aligned in its part of RAM
  pub lies : (c : Spot) → IsSpot placement c → LiesIn (floor c) (ceiling c) (width c) (offset placement c)
  lies (Value cell) is = cells-lie-inside is_state placement.signatures (access_at placement) _ 0 (state_end placement) cell (values-are-arrays placement) is
  lies (Waiting cell) is = cells-lie-inside is_state placement.signatures (access_at placement) _ (state_end placement) (staged_end placement) cell (staged-are-arrays placement) is
  lies (Flag cell) is = cells-lie-inside is_state placement.signatures (λ fun. flag_access placement.layout) _ (staged_end placement) (flags_end placement) cell (flags-are-arrays placement) is
  lies (Kept cell) is = cells-lie-inside is_input placement.signatures (λ fun. Word) _ (flags_end placement) (kept_end placement) cell (kept-are-arrays placement) is
  lies Mark is = record { aligned = whole; from = omega arith; below = omega arith }
  lies Counter is = record { aligned = (let w = whole in omega arith); from = omega arith; below = omega arith }

  pub inside : (c : Spot) → IsSpot placement c → offset placement c + width c ≤ kept_end placement + 8
  inside (Value cell) is = let h = (lies (Value cell) is).below in omega arith
  inside (Waiting cell) is = let h = (lies (Waiting cell) is).below in omega arith
  inside (Flag cell) is = let h = (lies (Flag cell) is).below in omega arith
  inside (Kept cell) is = let h = (lies (Kept cell) is).below in omega arith
  inside Mark is = omega arith
  inside Counter is = omega arith

  -- a spot is a place of RAM at its width
  pub is-offset : kept_end placement + 8 ≤ 2 ^ 20 → (c : Spot) → IsSpot placement c → IsOffset (access placement c) (offset placement c)
  is-offset small c is =
      let h = inside c is in let some = width-some (access placement c) in record { aligned = (lies c is).aligned; low = omega arith }

  -- two spots have no byte in common
  pub apart : (c d : Spot) → IsSpot placement c → IsSpot placement d → d ≢ c → offset placement d < offset placement c + width c → offset placement d + width d ≤ offset placement c
  apart (Value cell) (Value other) a b differ h =
      ⊎_elim (λ k. let some = width-some (access_at placement other.fun) in absurd (omega arith)) (λ k. k)
      (cells-are-apart is_state placement.signatures (access_at placement) _ 0 (state_end placement) cell other (values-are-arrays placement) a b (λ e. differ (ap Value (sym e))))
  apart (Waiting cell) (Waiting other) a b differ h =
      ⊎_elim (λ k. let some = width-some (access_at placement other.fun) in absurd (omega arith)) (λ k. k)
      (cells-are-apart is_state placement.signatures (access_at placement) _ (state_end placement) (staged_end placement) cell other (staged-are-arrays placement) a b (λ e. differ (ap Waiting (sym e))))
  apart (Flag cell) (Flag other) a b differ h =
      ⊎_elim (λ k. let some = width-some (flag_access placement.layout) in absurd (omega arith)) (λ k. k)
      (cells-are-apart is_state placement.signatures (λ fun. flag_access placement.layout) _ (staged_end placement) (flags_end placement) cell other (flags-are-arrays placement) a b (λ e. differ (ap Flag (sym e))))
  apart (Kept cell) (Kept other) a b differ h =
      ⊎_elim (λ k. absurd (omega arith)) (λ k. k)
      (cells-are-apart is_input placement.signatures (λ fun. Word) _ (flags_end placement) (kept_end placement) cell other (kept-are-arrays placement) a b (λ e. differ (ap Kept (sym e))))
  apart Mark Mark a b differ h = absurd (differ refl)
  apart Counter Counter a b differ h = absurd (differ refl)
  apart c d a b differ h =
      let fc = (lies c a).from in let hc = (lies c a).below in let fd = (lies d b).from in let hd = (lies d b).below in
      let some = width-some (access placement d) in omega arith

  -- ---- one store
  module _ (ram : List ℕ) (room : kept_end placement + 8 ≤ length ram) (c : Spot) (is : IsSpot placement c) (x : ℕ) where
    fits : offset placement c + width c ≤ length ram
    fits = let h = inside c is in omega arith

    pub seen-same : x < 256 ^ width c → seen placement (stored (width c) (offset placement c) x ram) c ≡ x
    seen-same small = number_at-stored (width c) (offset placement c) x ram fits small

    pub seen-other : OnlyChanges placement c (seen placement ram) (seen placement (stored (width c) (offset placement c) x ram))
    seen-other d at other =
        ⊎_elim
        (λ h. number_at-stored_before (width c) (offset placement c) x ram fits (width d) (offset placement d) (apart c d is at other h))
        (λ h. number_at-stored_behind (width c) (offset placement c) x ram fits (width d) (offset placement d) h)
        (cases_lt (offset placement d) (offset placement c + width c))
