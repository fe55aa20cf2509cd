-- Lines that are made by appending.
use Rattle.std.specs.Prelude.{◌≡◌, ℕ, ◌+◌, ◌*◌, ◌⊎◌, ◌↔◌, List, ◌++◌, length}
use Rattle.rv_isa.specs.declared.instr.Instr.{Instr}
use Rattle.rv_machine.specs.Code.{Stands}
use Rattle.block_code.specs.Effect.{LineDoes, LineStops}
use Rattle.block_code.specs.Moment.{IsValidMoment, Moment}
use Rattle.block_code.specs.Place.{IsMachine}
use Rattle.block_code.specs.Plan.{IsLine}

-- two lines, one behind the other, are a line
abbrev pub LinesAppend : Type 0
LinesAppend = (first second : List Instr) → IsLine first → IsLine second → IsLine (first ++ second)

-- what a line of two parts does is what the second does after the first
abbrev pub PartsAreDone : Type 0
PartsAreDone =
    (rom : List ℕ) (address : ℕ) (first second : List Instr) (s s' : Moment)
    → LineDoes rom address (first ++ second) s s' ↔ ((mid : Moment) × LineDoes rom address first s mid × LineDoes rom (address + 4 * length first) second mid s')

-- a line of two parts stops where the first stops, or where the second stops after the first
abbrev pub PartsStop : Type 0
PartsStop =
    (rom : List ℕ) (address : ℕ) (first second : List Instr) (s s' : Moment)
    → LineStops rom address (first ++ second) s s'
    ↔ (LineStops rom address first s s' ⊎ ((mid : Moment) × LineDoes rom address first s mid × LineStops rom (address + 4 * length first) second mid s'))

-- where a line leads, it leads nowhere else, and does not stop
abbrev pub LinesLeadOneWay : Type 0
LinesLeadOneWay =
    (rom : List ℕ) (address : ℕ) (instrs : List Instr) (s end other : Moment) → LineDoes rom address instrs s end
    → (LineDoes rom address instrs s other → other ≡ end) × (LineStops rom address instrs s other → ⊥)

-- where a line that stands in ROM leads from a valid moment, the moment is valid
abbrev pub LinesKeepValid : Type 0
LinesKeepValid =
    (rom : List ℕ) (size address : ℕ) (instrs : List Instr) (s end : Moment) → IsMachine rom size → Stands rom address instrs → IsValidMoment size s
    → LineDoes rom address instrs s end → IsValidMoment size end
