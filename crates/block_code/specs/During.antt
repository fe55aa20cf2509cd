-- What holds at each tick of a run inside a block.
use Rattle.std.specs.Prelude.{◌≡◌, ℕ, ◌+◌, ◌*◌, ◌<◌, List, length, true}
use Rattle.rv_machine.specs.Code.{Stands}
use Rattle.rv_machine.specs.Memory.{stored}
use Rattle.block_code.specs.Access.{NoAccess, StoreAt, access}
use Rattle.block_code.specs.Ends.{Ends}
use Rattle.block_code.specs.Moment.{IsValidMoment, Moment, next, traps}
use Rattle.block_code.specs.Place.{Within}
use Rattle.block_code.specs.Plan.{If, Line, Loop, Plan, Scan, Seq}

-- pc is from low up to high, and Q holds
abbrev pub During : (Moment → Type 0) → ℕ → ℕ → Moment → Type 0
During Q low high s = Within low high s × Q s

-- Q asks nothing of a tick that leaves RAM and the ports alone, or traps
pub record IsQuiet (rom : List ℕ) (Q : Moment → Type 0) : Type 0 where
  pub still : (s : Moment) → (next rom s).hart.ram ≡ s.hart.ram → access rom s ≡ NoAccess → Q s
  pub stopped : (s : Moment) → traps rom s ≡ true → Q s

-- Q allows each store of a word at the slot
abbrev pub Allows : List ℕ → ℕ → (Moment → Type 0) → ℕ → Type 0
Allows rom size Q slot =
    (s : Moment) (x : ℕ) → slot < size → IsValidMoment size s → (next rom s).hart.ram ≡ stored 4 slot x s.hart.ram → access rom s ≡ StoreAt slot 4 → Q s

-- Q holds at each tick of the block's lines, each entered at its top, and allows its slots
abbrev pub Spared : List ℕ → ℕ → (Moment → Type 0) → Plan → Type 0
Spared rom size Q (Line instrs) =
    (address : ℕ) (s : Moment) → Stands rom address instrs → IsValidMoment size s → s.hart.pc ≡ address
    → Ends rom Q (λ s'. s'.hart.pc ≡ address + 4 * length instrs) (λ s'. Unit {0}) (length instrs) s
Spared rom size Q (Seq first second) = Spared rom size Q first × Spared rom size Q second
Spared rom size Q (If test then_part else_part) = Spared rom size Q then_part × Spared rom size Q else_part
Spared rom size Q (Loop count slot body) = Allows rom size Q slot × Spared rom size Q body
Spared rom size Q (Scan count slot guard test found none) = Allows rom size Q slot × Spared rom size Q guard × Spared rom size Q found × Spared rom size Q none
