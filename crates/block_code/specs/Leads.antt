-- Where a block leads: one judgement for what it does, on which no account of ticks is left.
use Rattle.std.specs.Prelude.{◌≡◌, ◌≢◌, ℕ, ◌+◌, ◌*◌, ◌<◌, ◌≤◌, List, length, Bool, true, false}
use Rattle.rv_machine.specs.Code.{Stands}
use Rattle.rv_machine.specs.Hart.{HartState, IsValid}
use Rattle.block_code.specs.Block.{IsBlock}
use Rattle.block_code.specs.Effect.{Does, Holds, Stops, reg_at}
use Rattle.block_code.specs.Home.{GoneRound, IsClosed, started}
use Rattle.block_code.specs.Moment.{IsValidMoment, Moment}
use Rattle.block_code.specs.Place.{IsMachine}
use Rattle.block_code.specs.Plan.{Plan, code, len}
use Rattle.block_code.specs.Region.{DifferOnly}
use Rattle.block_code.specs.Sequence.{other_scratch, scratch}

-- a valid hart behind the block, of which Good holds
pub record IsBehind (size address : ℕ) (tree : Plan) (Good : Moment → Type 0) (s : Moment) : Type 0 where
  pub valid : IsValidMoment size s
  pub here : s.hart.pc ≡ address + 4 * len tree
  pub good : Good s

-- entered at its top at s, a block is left only behind it, in a valid hart of which Good holds, and no instruction of its lines traps
pub record Leads (rom : List ℕ) (size address : ℕ) (tree : Plan) (Good : Moment → Type 0) (s : Moment) : Type 0 where
  pub ends : (s' : Moment) → Does rom address tree s s' → IsBehind size address tree Good s'
  pub goes_on : (s' : Moment) → Stops rom address tree s s' → ⊥

-- a block that stands in a machine whose RAM holds its slots, entered at its top in a valid hart
pub record IsEntered (rom : List ℕ) (size address : ℕ) (tree : Plan) (s : Moment) : Type 0 where
  pub machine : IsMachine rom size
  pub block : IsBlock tree
  pub holds : Holds size tree
  pub stands : Stands rom address (code tree)
  pub valid : IsValidMoment size s
  pub here : s.hart.pc ≡ address

-- a block that is entered comes out behind its last word, in a valid hart
abbrev pub ComesOut : Type 0
ComesOut =
    (rom : List ℕ) (size address : ℕ) (tree : Plan) (s s' : Moment) → IsEntered rom size address tree s → Does rom address tree s s'
    → IsValidMoment size s' × (s'.hart.pc ≡ address + 4 * len tree)

-- ---- what is the same in two moments

-- the registers from low below high
abbrev pub KeepsRegs : (low high : ℕ) → Moment → Moment → Type 0
KeepsRegs low high s s' = (r : ℕ) → low ≤ r → r < high → reg_at r s' ≡ reg_at r s

-- RAM outside a region
pub record IsSameOutside (region : ℕ → Bool) (s s' : Moment) : Type 0 where
  pub bytes : DifferOnly (λ o. region o ≡ true) s.hart.ram s'.hart.ram
  pub count : length s'.hart.ram ≡ length s.hart.ram

-- the log and the readings
pub record IsStill (s s' : Moment) : Type 0 where
  pub log : s'.log ≡ s.log
  pub readings : s'.readings ≡ s.readings

-- all but pc, the two scratch registers and the word at the slot, as the own code of a loop or a scan leaves it
pub record IsOwnStep (slot : ℕ) (s s' : Moment) : Type 0 where
  pub regs : (r : ℕ) → r ≢ scratch → r ≢ other_scratch → reg_at r s' ≡ reg_at r s
  pub bytes : DifferOnly (λ o. (slot ≤ o) × (o < slot + 4)) s.hart.ram s'.hart.ram
  pub count : length s'.hart.ram ≡ length s.hart.ram
  pub readings : s'.readings ≡ s.readings
  pub log : s'.log ≡ s.log

-- ---- loops and scans

-- what holds at a counter goes on to hold of it over the own code of a loop or a scan
abbrev pub IsStable : ℕ → (ℕ → Moment → Type 0) → Type 0
IsStable slot Inv = (k : ℕ) (s s' : Moment) → IsOwnStep slot s s' → Inv k s → Inv k s'

-- a test register holds a truth: 0 is false
abbrev pub IsTruth : Bool → ℕ → Type 0
IsTruth true x = x ≢ 0
IsTruth false x = x ≡ 0

-- none of the counters below n passes
abbrev pub NonePasses : (ℕ → Bool) → ℕ → Type 0
NonePasses passes n = (j : ℕ) → j < n → passes j ≡ false

-- ---- rounds

-- from the head, a closed block that leads to a moment that is told by a test goes round, by way of such a moment
abbrev pub LeadsRound : Plan → Type 0
LeadsRound tree =
    (rom : List ℕ) (size at count : ℕ) (readings : List ℕ) (m : HartState) (post : Moment → Bool) → IsClosed rom size tree at count → IsValid size m → m.pc ≡ 0
    → Holds size tree → Leads rom size 0 tree (λ s. post s ≡ true) (started readings m) → (gone : GoneRound rom readings m tree) × (post gone.ended ≡ true)
