-- Blocks that stand at address 0 of a ROM that holds nothing else but static tables: the head is address 0, and every other word behind the block jumps there.
use Rattle.std.specs.Prelude.{◌≡◌, ◌≢◌, ℕ, zero, suc, ◌+◌, ◌*◌, ◌%◌, ◌^◌, ◌<◌, ◌≤◌, max, List, [], ◌∷◌, ◌++◌, length, map, Some, All}
use Rattle.rv_encode.specs.Table.{AreRows}
use Rattle.rv_isa.specs.declared.instr.Instr.{Instr}
use Rattle.rv_isa.specs.declared.instr.Instr.TheVariants.{Lui}
use Rattle.rv_machine.specs.Code.{Stands}
use Rattle.rv_machine.specs.Hart.{HartState, IsValid}
use Rattle.rv_machine.specs.Image.{IsImage, jump_home}
use Rattle.rv_machine.specs.Run.{after, events, left_after, ports_taken, words_sent}
use Rattle.rv_machine.specs.Tick.{Quiet, Trapped, fetched, tick}
use Rattle.block_code.specs.Effect.{Does, Holds, Stops}
use Rattle.block_code.specs.Moment.{Moment}
use Rattle.block_code.specs.Place.{IsMachine}
use Rattle.block_code.specs.Plan.{Plan, code, entry, full, len, nest}

-- a word of a static table: it changes nothing but pc
abbrev pub table_entry : ℕ → Instr
table_entry index = Lui 0 index

-- the instruction at a word of ROM
abbrev pub FetchedAt : List ℕ → ℕ → Instr → Type 0
FetchedAt rom word i = fetched rom (4 * word) ≡ Some i

-- the block stands at 0, so many words of tables stand from the word `at` on, and each other word behind the block is the jump to 0
pub record IsClosed (rom : List ℕ) (size : ℕ) (tree : Plan) (at count : ℕ) : Type 0 where
  pub machine : IsMachine rom size
  pub stands : Stands rom 0 (code tree)
  pub room : len tree < length rom
  pub apart : len tree < at
  pub inside : at + count ≤ length rom
  pub tables : (k : ℕ) → at ≤ k → k < at + count → (index : ℕ) × FetchedAt rom k (table_entry index)
  pub before : (k : ℕ) → len tree ≤ k → k < at → k < length rom → FetchedAt rom k (jump_home (4 * k))
  pub behind : (k : ℕ) → at + count ≤ k → k < length rom → FetchedAt rom k (jump_home (4 * k))

-- so many jumps to 0, from this word on
abbrev pub jumps_home : (from count : ℕ) → List Instr
jumps_home from zero = []
jumps_home from (suc count) = jump_home (4 * from) ∷ jumps_home (from + 1) count

-- the code of a closed block, with the jump behind it, and tables a gap of so many words further on
abbrev pub closed_code : (tree : Plan) (gap : ℕ) (indices : List ℕ) → List Instr
closed_code tree gap indices = code tree ++ jump_home (4 * len tree) ∷ (jumps_home (len tree + 1) gap ++ map table_entry indices)

-- a block is closed where its words were written, with the jump to 0 behind them, and tables behind a gap of jumps to 0
abbrev pub WrittenIsClosed : Type 0
WrittenIsClosed =
    (rom written : List ℕ) (size : ℕ) (tree : Plan) (gap : ℕ) (indices : List ℕ) → IsMachine rom size → IsImage written rom → AreRows written (closed_code tree gap indices)
    → IsClosed rom size tree (len tree + 1 + gap) (length indices)

-- a table word changes nothing but pc, and is no event at a port
abbrev pub TableFallsThrough : Type 0
TableFallsThrough =
    (rom : List ℕ) (reading : ℕ) (m : HartState) (index : ℕ) → fetched rom m.pc ≡ Some (table_entry index)
    → tick rom reading m ≡ record { hart = record { pc = (m.pc + 4) % 2 ^ 32; regs = m.regs; ram = m.ram }; event = Quiet }

-- from every hart and whatever its ports read, the head is reached within one tick more than the block has from any place inside, or than the tables have words
abbrev pub ComesHome : Plan → Type 0
ComesHome tree =
    (rom : List ℕ) (size at count : ℕ) (readings : List ℕ) (m : HartState) → IsClosed rom size tree at count → IsValid size m
    → (t : ℕ) × (t ≤ max (entry tree) count + 1) × ((after rom t readings m).pc ≡ 0)

-- within the bound that is counted from the greatest number of loops that enclose one another, the ticks of a round and the words of the tables
abbrev pub ComesHomeSoon : Plan → Type 0
ComesHomeSoon tree =
    (rom : List ℕ) (size at count depth round : ℕ) (readings : List ℕ) (m : HartState) → IsClosed rom size tree at count → IsValid size m
    → nest tree ≤ depth → full tree + 1 ≤ round → (t : ℕ) × (t ≤ (depth + 2) * round + count + 2) × ((after rom t readings m).pc ≡ 0)

-- a hart at the start of a run, with what its ports will read
abbrev pub started : List ℕ → HartState → Moment
started readings m = record { hart = m; readings = readings; log = [] }

-- one round: from the head the block does what its structure says, and the jump behind it leads back
pub record GoneRound (rom readings : List ℕ) (m : HartState) (tree : Plan) : Type 0 where
  pub ticks : ℕ
  pub some : 0 < ticks
  pub soon : ticks ≤ full tree + 1
  pub away : (u : ℕ) → 0 < u → u < ticks → (after rom u readings m).pc ≢ 0
  pub untrapped : All (λ e. e ≢ Trapped) (events rom ticks readings m)
  pub ended : Moment
  pub does : Does rom 0 tree (started readings m) ended
  pub hart : after rom ticks readings m ≡ record { pc = 0; regs = ended.hart.regs; ram = ended.hart.ram }
  pub left : left_after rom ticks readings m ≡ ended.readings
  pub taken : ports_taken (events rom ticks readings m) ≡ ports_taken ended.log
  pub sent : words_sent (events rom ticks readings m) ≡ words_sent ended.log

-- from the head, a block that does not stop goes round
abbrev pub GoesRound : Plan → Type 0
GoesRound tree =
    (rom : List ℕ) (size at count : ℕ) (readings : List ℕ) (m : HartState) → IsClosed rom size tree at count → IsValid size m → m.pc ≡ 0
    → Holds size tree → ((s : Moment) → Stops rom 0 tree (started readings m) s → ⊥) → GoneRound rom readings m tree
