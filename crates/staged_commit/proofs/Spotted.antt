-- Loads and stores of spots.
use Rattle.std.proofs.Common.{◌≡◌, ℕ, ◌+◌, ◌^◌, ◌<◌, ◌≤◌, length, true, ap, ◌∙◌, arith}
use Rattle.std.proofs.lemmas.Bool.{or_left, or_right}
use Rattle.std.proofs.lemmas.Bool.Decides.{nat_tests}
use Rattle.block_code.specs.Moment.{IsValidMoment, Moment}
use Rattle.state_layout.specs.declared.cell.Cell.{Cell}
use Rattle.state_layout.specs.Map.{Placement, clash, flag_offset, in_clash, in_flags, in_state, lies_between, value_offset}
use Rattle.state_layout.specs.MapLaw.{LiesIn}
use Rattle.staged_commit.specs.Law.{need}
use Rattle.staged_commit.specs.Regions.{in_clear, in_commit}
use Rattle.staged_commit.specs.Spots.{Flag, IsSpot, OnlyChanges, Spot, Value, access, offset, seen}
use Rattle.staged_commit.proofs.Spread.{ceiling, floor, inside, lies, seen-other, seen-same, width, width-some}
use Rattle.staged_commit.proofs.Steps.{Puts}

pub between : (low high o : ℕ) → low ≤ o → o < high → lies_between low high o ≡ true
between low high o f b = grind (arith, nat_tests)

module _ (placement : Placement) where
  spot-some : (c : Spot) → 0 < width placement c
  spot-some c = width-some (access placement c)

  pub spot-below : (c : Spot) → IsSpot placement c → (size : ℕ) → need placement ≤ size → offset placement c < size
  spot-below c is size room = let h = inside placement c is in let l = spot-some c in omega arith

  -- what a store at a spot makes of the picture
  module _ (size : ℕ) (room : need placement ≤ size) (s s' : Moment) (valid : IsValidMoment size s) (c : Spot) (is : IsSpot placement c) (x : ℕ)
      (puts : Puts (width placement c) (offset placement c) x s s') where
    long : need placement ≤ length s.hart.ram
    long = let count = valid.hart.ram.count in omega arith

    pub puts-here : x < 256 ^ width placement c → seen placement s'.hart.ram c ≡ x
    puts-here low = ap (λ r. seen placement r c) puts.ram ∙ seen-same placement s.hart.ram long c is x low

    pub puts-others : OnlyChanges placement c (seen placement s.hart.ram) (seen placement s'.hart.ram)
    puts-others d at other = ap (λ r. seen placement r d) puts.ram ∙ seen-other placement s.hart.ram long c is x d at other

  -- ---- spots lie in the regions of the pieces

  pub in-state : (c : Spot) (o : ℕ) → LiesIn (floor placement c) (ceiling placement c) (width placement c) (offset placement c) → offset placement c ≤ o → o < offset placement c + width placement c
      → lies_between (floor placement c) (ceiling placement c) o ≡ true
  in-state c o l f b = let low = l.from in let high = l.below in between (floor placement c) (ceiling placement c) o (omega arith) (omega arith)

  pub flag-in_clear : (c : Cell) → IsSpot placement (Flag c) → (o : ℕ) → flag_offset placement c ≤ o → o < flag_offset placement c + width placement (Flag c) → in_clear placement o ≡ true
  flag-in_clear c is o f b = or_left (in_flags placement o) _ (in-state (Flag c) o (lies placement (Flag c) is) f b)

  pub mark-in_clear : (o : ℕ) → clash placement ≤ o → o < clash placement + 4 → in_clear placement o ≡ true
  mark-in_clear o f b = or_right (in_flags placement o) _ (or_left (in_clash placement o) _ (between (clash placement) (clash placement + 4) o f b))

  pub value-in_commit : (c : Cell) → IsSpot placement (Value c) → (o : ℕ) → value_offset placement c ≤ o → o < value_offset placement c + width placement (Value c) → in_commit placement o ≡ true
  value-in_commit c is o f b = or_left (in_state placement o) _ (in-state (Value c) o (lies placement (Value c) is) f b)
