-- Blocks in runs of a hart, counted in ticks.
use Rattle.std.specs.Prelude.{◌≡◌, ℕ, ◌+◌, ◌*◌, ◌<◌, ◌≤◌, ◌⊎◌, List}
use Rattle.rv_machine.specs.Code.{Stands}
use Rattle.rv_machine.specs.Hart.{HartState, IsValid}
use Rattle.rv_machine.specs.Run.{after, left_after, offered}
use Rattle.rv_machine.specs.Tick.{Trapped, tick}
use Rattle.block_code.specs.Place.{IsMachine}
use Rattle.block_code.specs.Plan.{Plan, code, entry, len}

-- after at most n ticks pc is high, or the next tick traps; before each of them pc is from low up to high
pub record LeavesIn (rom readings : List ℕ) (m : HartState) (low high n : ℕ) : Type 0 where
  pub ticks : ℕ
  pub soon : ticks ≤ n
  pub above : (u : ℕ) → u < ticks → low ≤ (after rom u readings m).pc
  pub below : (u : ℕ) → u < ticks → (after rom u readings m).pc < high
  pub leaves : ((after rom ticks readings m).pc ≡ high)
      ⊎ ((ticks < n) × ((tick rom (offered (left_after rom ticks readings m)) (after rom ticks readings m)).event ≡ Trapped))

-- from any pc inside, a block is left or traps within its bound
abbrev pub LawOfTicks : Plan → Type 0
LawOfTicks tree =
    (rom : List ℕ) (size address : ℕ) (readings : List ℕ) (m : HartState) → IsMachine rom size → Stands rom address (code tree) → IsValid size m
    → address ≤ m.pc → m.pc < address + 4 * len tree → LeavesIn rom readings m address (address + 4 * len tree) (entry tree)
