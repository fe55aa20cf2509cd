-- What plans are blocks.
use Rattle.std.specs.Prelude.{◌≡◌, ◌≢◌, ℕ, ◌+◌, ◌*◌, ◌%◌, ◌^◌, ◌<◌, ◌≤◌, List, ◌∷◌, false}
use Rattle.std.specs.List.{AllByRecursion}
use Rattle.rv_machine.specs.Code.{Stands}
use Rattle.block_code.specs.Moment.{IsValidMoment, Moment, moment_after, next, traps}
use Rattle.block_code.specs.Place.{IsMachine, Within, word_in}
use Rattle.block_code.specs.Plan.{If, IsLine, Line, Loop, Plan, Scan, Seq, code, entry, full, len}

-- the place of a word in RAM
pub record IsSlot (slot : ℕ) : Type 0 where
  pub aligned : slot % 4 ≡ 0
  pub low : slot < 2 ^ 20

-- a number of passes, from 1 to 524,288
pub record IsCount (count : ℕ) : Type 0 where
  pub some : 0 < count
  pub few : count ≤ 524288

-- no tick from s on stores at the slot until the run leaves the addresses from low up to high, or traps
abbrev pub KeepsWord : List ℕ → (low high slot : ℕ) → Moment → Type 0
KeepsWord rom low high slot s =
    (t : ℕ) → ((u : ℕ) → u ≤ t → Within low high (moment_after rom u s)) → ((u : ℕ) → u ≤ t → traps rom (moment_after rom u s) ≡ false)
    → word_in slot (next rom (moment_after rom t s)).hart.ram ≡ word_in slot (moment_after rom t s).hart.ram

-- entered at its top, wherever it stands and in whatever hart, the block stores nothing at the slot
abbrev pub Keeps : ℕ → Plan → Type 0
Keeps slot tree =
    (rom : List ℕ) (size address : ℕ) (s : Moment) → IsMachine rom size → Stands rom address (code tree) → IsValidMoment size s → s.hart.pc ≡ address
    → KeepsWord rom address (address + 4 * len tree) slot s

-- each line of the block, entered at its top, stores nothing at the slot, and no loop or scan has it for its own
abbrev pub Spares : ℕ → Plan → Type 0
Spares slot (Line instrs) = Keeps slot (Line instrs)
Spares slot (Seq first second) = Spares slot first × Spares slot second
Spares slot (If test then_part else_part) = Spares slot then_part × Spares slot else_part
Spares slot (Loop count own body) = (own ≢ slot) × IsSlot own × Spares slot body
Spares slot (Scan count own guard test found none) = (own ≢ slot) × IsSlot own × Spares slot guard × Spares slot found × Spares slot none

-- each line of the block keeps the words at these slots, and at those of the loops and scans of the block that enclose it, and all these slots differ
abbrev pub FramedBy : List ℕ → Plan → Type 0
FramedBy outer (Line instrs) = AllByRecursion (λ slot. Keeps slot (Line instrs)) outer
FramedBy outer (Seq first second) = FramedBy outer first × FramedBy outer second
FramedBy outer (If test then_part else_part) = FramedBy outer then_part × FramedBy outer else_part
FramedBy outer (Loop count own body) = AllByRecursion (λ slot. own ≢ slot) outer × FramedBy (own ∷ outer) body
FramedBy outer (Scan count own guard test found none) =
    AllByRecursion (λ slot. own ≢ slot) outer × FramedBy (own ∷ outer) guard × FramedBy (own ∷ outer) found × FramedBy (own ∷ outer) none

-- lines keep their skips inside, and loops and scans have a count, a slot and a body or a guard that stores nothing there
abbrev pub IsBlock : Plan → Type 0
IsBlock (Line instrs) = IsLine instrs
IsBlock (Seq first second) = IsBlock first × IsBlock second
IsBlock (If test then_part else_part) = IsBlock then_part × IsBlock else_part
IsBlock (Loop count slot body) = IsCount count × IsSlot slot × IsBlock body × Keeps slot body
IsBlock (Scan count slot guard test found none) =
    IsCount count × IsSlot slot × IsBlock guard × IsBlock found × IsBlock none × Keeps slot guard

-- a block's numbers are in range, so that its jumps reach and its bounds can be counted
pub record IsInRange (plan : Plan) : Type 0 where
  pub block : IsBlock plan
  pub short : len plan ≤ 262144
  pub full : full plan ≤ 2 ^ 62
  pub entry : entry plan ≤ 2 ^ 62
