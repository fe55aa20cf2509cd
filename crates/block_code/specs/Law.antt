-- What holds of every block, wherever it stands in ROM, whatever the hart holds and whatever its ports read.
use Rattle.std.specs.Prelude.{◌≡◌, ℕ, ◌+◌, ◌*◌, ◌<◌, ◌≤◌, List, false}
use Rattle.std.specs.List.{AllByRecursion}
use Rattle.rv_isa.specs.declared.instr.Instr.{Instr}
use Rattle.rv_machine.specs.Code.{Stands}
use Rattle.block_code.specs.Block.{FramedBy, IsBlock, IsSlot, Keeps, Spares}
use Rattle.block_code.specs.During.{During, IsQuiet, Spared}
use Rattle.block_code.specs.Effect.{Does, Holds, Stops}
use Rattle.block_code.specs.Ends.{Ends}
use Rattle.block_code.specs.Moment.{IsValidMoment, Moment, next, traps}
use Rattle.block_code.specs.Place.{IsMachine, Within}
use Rattle.block_code.specs.Plan.{AreStoreless, Line, Plan, code, entry, full, len, nest}

-- within n ticks the run from s comes to the address `high` or traps, and until then pc is from low up to high
abbrev pub LeavesOrTraps : List ℕ → (low high n : ℕ) → Moment → Type 0
LeavesOrTraps rom low high n s = Ends rom (Within low high) (λ s'. s'.hart.pc ≡ high) (λ s'. Unit {0}) n s

-- from its top, a block leaves or traps within its bound
abbrev pub LawOfTop : Plan → Type 0
LawOfTop tree =
    (rom : List ℕ) (size address : ℕ) (s : Moment) → IsMachine rom size → Stands rom address (code tree) → IsValidMoment size s
    → s.hart.pc ≡ address → LeavesOrTraps rom address (address + 4 * len tree) (full tree) s

-- from any place inside, a block leaves or traps within its bound
abbrev pub LawOfEntry : Plan → Type 0
LawOfEntry tree =
    (rom : List ℕ) (size address : ℕ) (s : Moment) → IsMachine rom size → Stands rom address (code tree) → IsValidMoment size s
    → Within address (address + 4 * len tree) s → LeavesOrTraps rom address (address + 4 * len tree) (entry tree) s

-- the first tick from the top goes behind the first word
abbrev pub LawOfStart : Plan → Type 0
LawOfStart tree =
    (rom : List ℕ) (size address : ℕ) (s : Moment) → IsMachine rom size → Stands rom address (code tree) → IsValidMoment size s
    → s.hart.pc ≡ address → 0 < len tree → traps rom s ≡ false → address < (next rom s).hart.pc

-- from any place behind its first word, a block does not come back to its first word until it leaves or traps
abbrev pub LawOfNoReturn : Plan → Type 0
LawOfNoReturn tree =
    (rom : List ℕ) (size address : ℕ) (s : Moment) → IsMachine rom size → Stands rom address (code tree) → IsValidMoment size s
    → Within (address + 1) (address + 4 * len tree) s → LeavesOrTraps rom (address + 1) (address + 4 * len tree) (entry tree) s

-- from its top, a block does what its structure says as far as it goes: it leaves having done it, or an instruction of one of its lines traps, at which it came in that order; where RAM does not hold its slots, a trap may come elsewhere
abbrev pub LawOfEffect : Plan → Type 0
LawOfEffect tree =
    (rom : List ℕ) (size address : ℕ) (s : Moment) → IsMachine rom size → Stands rom address (code tree) → IsValidMoment size s
    → s.hart.pc ≡ address
    → Ends rom (Within address (address + 4 * len tree)) (λ s'. IsValidMoment size s' × (s'.hart.pc ≡ address + 4 * len tree) × Does rom address tree s s')
    (λ s'. Holds size tree → Stops rom address tree s s') (full tree) s

-- from its top, a block keeps at each tick what its lines keep from theirs, if that asks nothing of ticks that leave RAM alone, and allows the block's slots
abbrev pub LawOfFrame : Plan → Type 1
LawOfFrame tree =
    (rom : List ℕ) (size address : ℕ) (Q : Moment → Type 0) (s : Moment) → IsMachine rom size → IsQuiet rom Q → Spared rom size Q tree
    → Stands rom address (code tree) → IsValidMoment size s → s.hart.pc ≡ address
    → Ends rom (During Q address (address + 4 * len tree)) (λ s'. s'.hart.pc ≡ address + 4 * len tree) (λ s'. Unit {0}) (full tree) s

-- the bounds are in step: as many loops and scans as enclose one another, so often may what was run from the top have to be run again
abbrev pub LawOfNest : Plan → Type 0
LawOfNest tree = entry tree ≤ (nest tree + 1) * full tree

-- the law holds of all blocks
abbrev pub OfBlocks : (Plan → Type 0) → Type 0
OfBlocks Law = (tree : Plan) → IsBlock tree → Law tree

-- a block keeps the word at a slot that its lines spare
abbrev pub SparedIsKept : Type 0
SparedIsKept = (slot : ℕ) → IsSlot slot → (tree : Plan) → IsBlock tree → Spares slot tree → Keeps slot tree

-- a line with no store keeps every word
abbrev pub StorelessKeeps : Type 0
StorelessKeeps = (slot : ℕ) (instrs : List Instr) → AreStoreless instrs → Keeps slot (Line instrs)

-- a block, and so each part of one, keeps the words at the slots by which it is framed
abbrev pub FramesAreKept : Type 0
FramesAreKept = (outer : List ℕ) (tree : Plan) → AllByRecursion IsSlot outer → IsBlock tree → FramedBy outer tree → AllByRecursion (λ slot. Keeps slot tree) outer
