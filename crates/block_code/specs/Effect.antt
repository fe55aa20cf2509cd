-- What blocks do, by their structure.
use Rattle.std.specs.Prelude.{◌≡◌, ◌≢◌, ℕ, zero, suc, ◌+◌, ◌*◌, ◌^◌, ◌<◌, ◌⊎◌, List, [], ◌∷◌, ◌++◌, drop, slice_index, Bool, true, false}
use Rattle.rv_isa.specs.declared.instr.Instr.{Instr}
use Rattle.rv_machine.specs.Code.{step}
use Rattle.rv_machine.specs.Hart.{AreRegs, with_reg}
use Rattle.rv_machine.specs.Memory.{stored}
use Rattle.rv_machine.specs.Run.{offered}
use Rattle.rv_machine.specs.Tick.{Took, Sent}
use Rattle.block_code.specs.Moment.{Moment, is_trap, moment_by}
use Rattle.block_code.specs.Place.{word_in}
use Rattle.block_code.specs.Plan.{If, Line, Loop, Plan, Scan, Seq, len}
use Rattle.block_code.specs.Sequence.{other_scratch, scratch}

-- the moment after an instruction
abbrev pub moment_done : List ℕ → Instr → Moment → Moment
moment_done rom i s = moment_by (step rom (offered s.readings) i s.hart) s

-- the instruction traps
abbrev pub stops : List ℕ → Instr → Moment → Bool
stops rom i s = is_trap (step rom (offered s.readings) i s.hart).event

-- the line at this address leads from s to s': each instruction in order is done where pc is at it, and passed over where a skip went past it
abbrev pub LineDoes : List ℕ → ℕ → List Instr → Moment → Moment → Type 0
LineDoes rom address [] s s' = s' ≡ s
LineDoes rom address (i ∷ is) s s' =
    ((s.hart.pc ≡ address) × (stops rom i s ≡ false) × LineDoes rom (address + 4) is (moment_done rom i s) s')
    ⊎ ((s.hart.pc ≢ address) × LineDoes rom (address + 4) is s s')

-- the line leads from s to s', where an instruction traps
abbrev pub LineStops : List ℕ → ℕ → List Instr → Moment → Moment → Type 0
LineStops rom address [] s s' = ⊥
LineStops rom address (i ∷ is) s s' =
    ((s.hart.pc ≡ address) × (stops rom i s ≡ true) × (s' ≡ s))
    ⊎ (((s.hart.pc ≡ address) × (stops rom i s ≡ false) × LineStops rom (address + 4) is (moment_done rom i s) s')
    ⊎ ((s.hart.pc ≢ address) × LineStops rom (address + 4) is s s'))

-- a block's own code goes from s to s' at an address: no port is used, no register but its two changes, and RAM becomes this
pub record Own (address : ℕ) (memory : List ℕ) (s s' : Moment) : Type 0 where
  pub pc : s'.hart.pc ≡ address
  pub regs : (r : ℕ) → r ≢ scratch → r ≢ other_scratch → slice_index s'.hart.regs r ≡ slice_index s.hart.regs r
  pub ram : s'.hart.ram ≡ memory
  pub readings : s'.readings ≡ s.readings
  pub log : s'.log ≡ s.log
  -- what the two registers hold is in range
  pub low : address < 2 ^ 32
  pub fit : AreRegs s'.hart.regs

-- one pass of a loop from its head, with the counter c in the slot as the body begins, and one more in it at the end
pub record Pass (Body : Moment → Moment → Type 0) (head body slot c : ℕ) (s s' : Moment) : Type 0 where
  pub begun : Moment
  pub ended : Moment
  pub enters : Own body s.hart.ram s begun
  pub counter : word_in slot begun.hart.ram ≡ c
  pub does : Body begun ended
  pub raises : Own head (stored 4 slot (c + 1) ended.hart.ram) ended s'

-- the body of a pass leads from the head to s'', and no further
pub record PassStops (BodyStops : Moment → Moment → Type 0) (body slot c : ℕ) (s s' : Moment) : Type 0 where
  pub begun : Moment
  pub enters : Own body s.hart.ram s begun
  pub counter : word_in slot begun.hart.ram ≡ c
  pub stops : BodyStops begun s'

-- so many passes from the counter c on, and then out of the loop
abbrev pub Passes : (Body : Moment → Moment → Type 0) → (head body end slot : ℕ) → ℕ → ℕ → Moment → Moment → Type 0
Passes Body head body end slot zero c s s' = Own end s.hart.ram s s'
Passes Body head body end slot (suc more) c s s' =
    (mid : Moment) × Pass Body head body slot c s mid × Passes Body head body end slot more (c + 1) mid s'

-- so many passes from the counter c on, in one of which the body stops at s'
abbrev pub PassesStop : (Body BodyStops : Moment → Moment → Type 0) → (head body slot : ℕ) → ℕ → ℕ → Moment → Moment → Type 0
PassesStop Body BodyStops head body slot zero c s s' = ⊥
PassesStop Body BodyStops head body slot (suc more) c s s' =
    PassStops BodyStops body slot c s s'
    ⊎ ((mid : Moment) × Pass Body head body slot c s mid × PassesStop Body BodyStops head body slot more (c + 1) mid s')

-- the same moment at another address
abbrev pub moved : ℕ → Moment → Moment
moved address s = record { hart = record { pc = address; regs = s.hart.regs; ram = s.hart.ram }; readings = s.readings; log = s.log }

-- the moment at another address, with a register anew
abbrev pub written : (address register x : ℕ) → Moment → Moment
written address register x s = record { hart = record { pc = address; regs = with_reg register x s.hart.regs; ram = s.hart.ram }; readings = s.readings; log = s.log }

-- the moment at another address, with so many bytes of RAM anew
abbrev pub saved : (address width offset x : ℕ) → Moment → Moment
saved address width offset x s = record { hart = record { pc = address; regs = s.hart.regs; ram = stored width offset x s.hart.ram }; readings = s.readings; log = s.log }

-- the moment at another address, with the next reading in a register, taken at an input port
abbrev pub taken : (address register port : ℕ) → Moment → Moment
taken address register port s = record {
  hart = record { pc = address; regs = with_reg register (offered s.readings) s.hart.regs; ram = s.hart.ram };
  readings = drop 1 s.readings;
  log = s.log ++ Took port ∷ [];
}

-- the moment at another address, with a word sent at an output port
abbrev pub sent : (address port x : ℕ) → Moment → Moment
sent address port x s = record { hart = record { pc = address; regs = s.hart.regs; ram = s.hart.ram }; readings = s.readings; log = s.log ++ Sent port x ∷ [] }

-- the value of a register
abbrev pub reg_at : ℕ → Moment → ℕ
reg_at r s = slice_index s.hart.regs r

-- the search from the counter c on, with so many counters to come: `found` at the first whose guard leaves the test register not 0, else `none`
abbrev pub Searches : (OnGuard OnFound OnNone : Moment → Moment → Type 0) → (head guard found none end slot test : ℕ) → ℕ → ℕ → Moment → Moment → Type 0
Searches OnGuard OnFound OnNone head guard found none end slot test zero c s s' =
    (begun : Moment) × Own none s.hart.ram s begun × OnNone begun s'
Searches OnGuard OnFound OnNone head guard found none end slot test (suc more) c s s' =
    (begun : Moment) × (judged : Moment) × Own guard s.hart.ram s begun × (word_in slot begun.hart.ram ≡ c) × OnGuard begun judged
    × (((reg_at test judged ≢ 0) × (word_in slot judged.hart.ram ≡ c) × ((ended : Moment) × OnFound (moved found judged) ended × (s' ≡ moved end ended)))
    ⊎ ((reg_at test judged ≡ 0) × ((mid : Moment) × Own head (stored 4 slot (c + 1) judged.hart.ram) judged mid
    × Searches OnGuard OnFound OnNone head guard found none end slot test more (c + 1) mid s')))

-- the search from the counter c on, in which the guard, `found` or `none` stops at s'
abbrev pub SearchStops : (OnGuard StopsGuard StopsFound StopsNone : Moment → Moment → Type 0) → (head guard found none slot test : ℕ) → ℕ → ℕ → Moment → Moment → Type 0
SearchStops OnGuard StopsGuard StopsFound StopsNone head guard found none slot test zero c s s' =
    (begun : Moment) × Own none s.hart.ram s begun × StopsNone begun s'
SearchStops OnGuard StopsGuard StopsFound StopsNone head guard found none slot test (suc more) c s s' =
    (begun : Moment) × Own guard s.hart.ram s begun × (word_in slot begun.hart.ram ≡ c)
    × (StopsGuard begun s'
    ⊎ ((judged : Moment) × OnGuard begun judged
    × (((reg_at test judged ≢ 0) × (word_in slot judged.hart.ram ≡ c) × StopsFound (moved found judged) s')
    ⊎ ((reg_at test judged ≡ 0) × ((mid : Moment) × Own head (stored 4 slot (c + 1) judged.hart.ram) judged mid
    × SearchStops OnGuard StopsGuard StopsFound StopsNone head guard found none slot test more (c + 1) mid s')))))

-- ---- the structured effect: the block at this address, entered at its top, leads from s to s' behind it
abbrev pub Does : List ℕ → ℕ → Plan → Moment → Moment → Type 0
Does rom address (Line instrs) s s' = LineDoes rom address instrs s s'
Does rom address (Seq first second) s s' = (mid : Moment) × Does rom address first s mid × Does rom (address + 4 * len first) second mid s'
Does rom address (If test then_part else_part) s s' =
    let else_at = address + 12 + 4 * len then_part in
    ((reg_at test s ≢ 0) × ((ended : Moment) × Does rom (address + 8) then_part (moved (address + 8) s) ended × (s' ≡ moved (else_at + 4 * len else_part) ended)))
    ⊎ ((reg_at test s ≡ 0) × Does rom else_at else_part (moved else_at s) s')
Does rom address (Loop count slot body) s s' =
    (head : Moment) × Own (address + 8) (stored 4 slot 0 s.hart.ram) s head
    × Passes (Does rom (address + 32) body) (address + 8) (address + 32) (address + 52 + 4 * len body) slot count 0 head s'
Does rom address (Scan count slot guard test found none) s s' =
    let found_at = address + 56 + 4 * len guard in let none_at = found_at + 4 * len found + 4 in
    (head : Moment) × Own (address + 8) (stored 4 slot 0 s.hart.ram) s head
    × Searches (Does rom (address + 32) guard) (Does rom found_at found) (Does rom none_at none)
    (address + 8) (address + 32) found_at none_at (none_at + 4 * len none) slot test count 0 head s'

-- entered at its top, the block does what it does in its order as far as s', where an instruction of one of its lines traps
abbrev pub Stops : List ℕ → ℕ → Plan → Moment → Moment → Type 0
Stops rom address (Line instrs) s s' = LineStops rom address instrs s s'
Stops rom address (Seq first second) s s' =
    Stops rom address first s s' ⊎ ((mid : Moment) × Does rom address first s mid × Stops rom (address + 4 * len first) second mid s')
Stops rom address (If test then_part else_part) s s' =
    let else_at = address + 12 + 4 * len then_part in
    ((reg_at test s ≢ 0) × Stops rom (address + 8) then_part (moved (address + 8) s) s')
    ⊎ ((reg_at test s ≡ 0) × Stops rom else_at else_part (moved else_at s) s')
Stops rom address (Loop count slot body) s s' =
    (head : Moment) × Own (address + 8) (stored 4 slot 0 s.hart.ram) s head
    × PassesStop (Does rom (address + 32) body) (Stops rom (address + 32) body) (address + 8) (address + 32) slot count 0 head s'
Stops rom address (Scan count slot guard test found none) s s' =
    let found_at = address + 56 + 4 * len guard in let none_at = found_at + 4 * len found + 4 in
    (head : Moment) × Own (address + 8) (stored 4 slot 0 s.hart.ram) s head
    × SearchStops (Does rom (address + 32) guard) (Stops rom (address + 32) guard) (Stops rom found_at found) (Stops rom none_at none)
    (address + 8) (address + 32) found_at none_at slot test count 0 head s'

-- RAM of so many bytes holds the slots of the block
abbrev pub Holds : ℕ → Plan → Type 0
Holds size (Line instrs) = Unit {0}
Holds size (Seq first second) = Holds size first × Holds size second
Holds size (If test then_part else_part) = Holds size then_part × Holds size else_part
Holds size (Loop count slot body) = (slot < size) × Holds size body
Holds size (Scan count slot guard test found none) = (slot < size) × Holds size guard × Holds size found × Holds size none
