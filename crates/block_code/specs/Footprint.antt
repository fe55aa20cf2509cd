-- What a block touches on its way: where it stores in RAM, and whether it takes readings and sends words.
use Rattle.std.specs.Prelude.{◌≡◌, ◌≢◌, ℕ, ◌+◌, ◌*◌, ◌<◌, ◌≤◌, List, [], ◌∷◌, ◌++◌, length, Bool, true, false}
use Rattle.rv_isa.specs.declared.instr.Instr.{Instr}
use Rattle.rv_machine.specs.Code.{Stands}
use Rattle.block_code.specs.Access.{Access, NoAccess, StoreAt, TakeFrom, SendTo, access, access_of}
use Rattle.block_code.specs.Block.{IsBlock, IsSlot, Keeps}
use Rattle.block_code.specs.During.{During}
use Rattle.block_code.specs.Effect.{LineDoes, moment_done, stops}
use Rattle.block_code.specs.Ends.{Ends}
use Rattle.block_code.specs.Leads.{IsSameOutside}
use Rattle.block_code.specs.Moment.{IsValidMoment, Moment}
use Rattle.block_code.specs.Place.{IsAtTop, IsMachine}
use Rattle.block_code.specs.Plan.{If, IsLine, Line, Loop, Plan, Scan, Seq, code, full, len}
use Rattle.block_code.specs.Silent.{ArePortless, IsSilent, Respects}

-- where in RAM it may be stored, whether readings may be taken, and whether words may be sent
pub record Footprint : Type 0 where
  pub region : ℕ → Bool
  pub takes : Bool
  pub sends : Bool

-- nowhere, none and none
abbrev pub untouched : Footprint
untouched = record { region = λ o. false; takes = false; sends = false }

-- in a region of RAM alone, and no port
abbrev pub only_in : (ℕ → Bool) → Footprint
only_in region = record { region = region; takes = false; sends = false }

-- the access lies in the footprint
abbrev pub Permits : Footprint → Access → Type 0
Permits f NoAccess = Unit {0}
Permits f (StoreAt offset width) = (o : ℕ) → offset ≤ o → o < offset + width → f.region o ≡ true
Permits f (TakeFrom port) = f.takes ≡ true
Permits f (SendTo port) = f.sends ≡ true

-- so does that of the tick at s
abbrev pub Touches : List ℕ → Footprint → Moment → Type 0
Touches rom f s = Permits f (access rom s)

-- entered at its top in any valid hart, the block touches only what lies in the footprint until it leaves or traps
abbrev pub TouchesOnly : Footprint → Plan → Type 0
TouchesOnly f tree =
    (rom : List ℕ) (size address : ℕ) (s : Moment) → IsMachine rom size → Stands rom address (code tree) → IsValidMoment size s → s.hart.pc ≡ address
    → Ends rom (During (Touches rom f) address (address + 4 * len tree)) (λ s'. s'.hart.pc ≡ address + 4 * len tree) (λ s'. Unit {0}) (full tree) s

-- the bytes of a slot lie in the footprint
abbrev pub HasSlot : Footprint → ℕ → Type 0
HasSlot f slot = (o : ℕ) → slot ≤ o → o < slot + 4 → f.region o ≡ true

-- so do its lines, and its slots lie there
abbrev pub LinesTouchOnly : Footprint → Plan → Type 0
LinesTouchOnly f (Line instrs) = TouchesOnly f (Line instrs)
LinesTouchOnly f (Seq first second) = LinesTouchOnly f first × LinesTouchOnly f second
LinesTouchOnly f (If test then_part else_part) = LinesTouchOnly f then_part × LinesTouchOnly f else_part
LinesTouchOnly f (Loop count slot body) = HasSlot f slot × LinesTouchOnly f body
LinesTouchOnly f (Scan count slot guard test found none) = HasSlot f slot × LinesTouchOnly f guard × LinesTouchOnly f found × LinesTouchOnly f none

-- the slots of a plan lie in the footprint
abbrev pub SlotsIn : Footprint → Plan → Type 0
SlotsIn f (Line instrs) = Unit {0}
SlotsIn f (Seq first second) = SlotsIn f first × SlotsIn f second
SlotsIn f (If test then_part else_part) = SlotsIn f then_part × SlotsIn f else_part
SlotsIn f (Loop count slot body) = HasSlot f slot × SlotsIn f body
SlotsIn f (Scan count slot guard test found none) = HasSlot f slot × SlotsIn f guard × SlotsIn f found × SlotsIn f none

-- a block touches only the footprint if its lines do and its slots lie there
abbrev pub FootprintIsKept : Type 0
FootprintIsKept = (f : Footprint) (tree : Plan) → IsBlock tree → LinesTouchOnly f tree → TouchesOnly f tree

-- ---- lines, by their instructions

-- from s on, the line at the address touches only the footprint, instruction by instruction as they are done
abbrev pub LineTouchesOnly : List ℕ → Footprint → ℕ → List Instr → Moment → Type 0
LineTouchesOnly rom f address [] s = Unit {0}
LineTouchesOnly rom f address (i ∷ is) s =
    (s.hart.pc ≡ address → Permits f (access_of rom i s) × (stops rom i s ≡ false → LineTouchesOnly rom f (address + 4) is (moment_done rom i s)))
    × (s.hart.pc ≢ address → LineTouchesOnly rom f (address + 4) is s)

-- a line touches only the footprint if it does so from its top, instruction by instruction, in every machine and at every address
abbrev pub LinesTouchAsDone : Type 0
LinesTouchAsDone =
    (f : Footprint) (instrs : List Instr) → IsLine instrs
    → ((rom : List ℕ) (size address : ℕ) (s : Moment) → IsMachine rom size → IsAtTop size address instrs s → LineTouchesOnly rom f address instrs s)
    → TouchesOnly f (Line instrs)

-- a line of two parts touches what the first does, and the second after it
abbrev pub PartsTouchOnly : Type 0
PartsTouchOnly =
    (rom : List ℕ) (f : Footprint) (address : ℕ) (first second : List Instr) (s : Moment) → LineTouchesOnly rom f address first s
    → ((mid : Moment) → LineDoes rom address first s mid → LineTouchesOnly rom f (address + 4 * length first) second mid)
    → LineTouchesOnly rom f address (first ++ second) s

-- a line with no load and no store touches nothing
abbrev pub PortlessTouchNothing : Type 0
PortlessTouchNothing =
    (rom : List ℕ) (f : Footprint) (address : ℕ) (instrs : List Instr) (s : Moment) → ArePortless instrs → LineTouchesOnly rom f address instrs s

-- a block that touches only the footprint keeps the words outside its region
abbrev pub FootprintKeepsSlots : Type 0
FootprintKeepsSlots =
    (f : Footprint) (slot : ℕ) (tree : Plan) → IsSlot slot → ((o : ℕ) → slot ≤ o → o < slot + 4 → f.region o ≡ false) → TouchesOnly f tree → Keeps slot tree

-- ---- what a block does in its footprint

-- a block whose lines touch only a footprint without ports is silent
abbrev pub PortlessIsSilent : Type 0
PortlessIsSilent = (f : Footprint) → f.takes ≡ false → f.sends ≡ false → (tree : Plan) → LinesTouchOnly f tree → IsSilent tree

-- where it leaves or traps, RAM is what it was outside the region
abbrev pub FootprintIsSameOutside : Type 0
FootprintIsSameOutside = (f : Footprint) (tree : Plan) → LinesTouchOnly f tree → Respects (IsSameOutside f.region) tree
