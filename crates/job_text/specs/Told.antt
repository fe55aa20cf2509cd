-- What the lines of `%set` and `%run` tell, and what is wrong with a line.
use Rattle.std.specs.Prelude.{ℕ, ◌-◌, ◌/◌, ◌%◌, ◌==◌, ◌&&◌, nat_le, Bool, true, false, is_some, List, [], ◌∷◌, ◌++◌, Option, Some, None, Result, Ok, Err, if◌then◌else◌}
use Rattle.trap_model.specs.Map.{lies_in, ram_base}
use Rattle.job_text.specs.Keys.{allowed_key}
use Rattle.job_text.specs.Lines.{formed}
use Rattle.job_text.specs.declared.mode.Mode.{Mode}
use Rattle.job_text.specs.declared.mode.Header.{Header}
use Rattle.job_text.specs.declared.key.Key.{Key}
use Rattle.job_text.specs.declared.key.Key.TheVariants.{Shape as ShapeKey, Layout as LayoutKey, Revision as RevisionKey, Nodes as NodesKey, States as StatesKey, Seed as SeedKey, Rounds as RoundsKey, Ticks as TicksKey, Pc as PcKey, Fill as FillKey, RamSeed as RamSeedKey}
use Rattle.job_text.specs.declared.said.Shape.{Shape}
use Rattle.job_text.specs.declared.said.Layout.{Layout}
use Rattle.job_text.specs.declared.said.Said.{Said}
use Rattle.job_text.specs.declared.said.Said.TheVariants.{Shape as ShapeIs, Layout as LayoutIs, Revision, Nodes, States, Seed, Rounds, Ticks, Pc, Register, Fill, RamSeed, Ram, Reading, Script}
use Rattle.job_text.specs.declared.told.Base.{Base}
use Rattle.job_text.specs.declared.told.Base.TheVariants.{Fill as FillBase, Seed as SeedBase}
use Rattle.job_text.specs.declared.told.Edit.{Edit}
use Rattle.job_text.specs.declared.told.Edit.TheVariants.{Register as RegisterEdit, Memory as MemoryEdit}
use Rattle.job_text.specs.declared.fault.JobFault.{JobFault}
use Rattle.job_text.specs.declared.fault.JobFault.TheVariants.{Form, Range}

-- What the lines so far tell: the number of nodes, and whether it is said already; what else is said once, if it is; the registers
-- and words of RAM that are set, and the readings.
pub record ToldState : Type 0 where
  pub nodes : ℕ
  pub has_nodes : Bool
  pub shape : Option Shape
  pub layout : Option Layout
  pub revision : Option ℕ
  pub states : Option ℕ
  pub seed : Option ℕ
  pub rounds : Option ℕ
  pub ticks : Option ℕ
  pub pc : Option ℕ
  pub base : Option Base
  pub edits : List Edit
  pub readings : List ℕ

-- before any line
abbrev pub nothing_told : ℕ → ToldState
nothing_told nodes = record {
  nodes = nodes;
  has_nodes = false;
  shape = None;
  layout = None;
  revision = None;
  states = None;
  seed = None;
  rounds = None;
  ticks = None;
  pc = None;
  base = None;
  edits = [];
  readings = [];
}

-- a line with this key, or one that excludes it, stood before: what is said at most once, and `fill` and `seed` together
abbrev pub is_told : ToldState → Key → Bool
is_told told ShapeKey = is_some told.shape
is_told told LayoutKey = is_some told.layout
is_told told RevisionKey = is_some told.revision
is_told told NodesKey = told.has_nodes
is_told told StatesKey = is_some told.states
is_told told SeedKey = is_some told.seed
is_told told RoundsKey = is_some told.rounds
is_told told TicksKey = is_some told.ticks
is_told told PcKey = is_some told.pc
is_told told FillKey = is_some told.base
is_told told RamSeedKey = is_some told.base
is_told told _ = false

-- the bytes of RAM in a machine of this revision, the first where none is said
abbrev pub ram_size : Option ℕ → ℕ
ram_size None = 262144
ram_size (Some revision) = if revision == 2 then 1048576 else 262144

-- a number from a least one up to a greatest one
abbrev pub lies_from : ℕ → ℕ → ℕ → Bool
lies_from least greatest n = nat_le least n && nat_le n greatest

-- the numbers of a line are in range, where `nodes` is the least number of states and RAM has `ram` bytes
abbrev pub in_range : ℕ → ℕ → Said → Bool
in_range nodes ram (Revision n) = lies_from 1 2 n
in_range nodes ram (Nodes n) = lies_from 3 64 n
in_range nodes ram (States n) = lies_from nodes 256 n
in_range nodes ram (Rounds n) = lies_from 1 1000000 n
in_range nodes ram (Ticks n) = lies_from 1 10000000 n
in_range nodes ram (Register n word) = lies_from 1 31 n
in_range nodes ram (Ram address word) = (address % 4 == 0) && lies_in ram_base ram address
in_range nodes ram _ = true

-- what is said by a line of a form of its key, where its numbers are in range
abbrev pub if_in_range : ToldState → Option Said → Result Said JobFault
if_in_range told None = Err Form
if_in_range told (Some said) = if in_range told.nodes (ram_size told.revision) said then Ok said else Err Range

-- what a line with this key says by the fields behind it, or what is wrong with it
abbrev pub read_key : ToldState → Key → List (List ℕ) → Result Said JobFault
read_key told key rest = if is_told told key then Err Form else if_in_range told (formed key rest)

abbrev pub read_allowed : ToldState → Option Key → List (List ℕ) → Result Said JobFault
read_allowed told None rest = Err Form
read_allowed told (Some key) rest = read_key told key rest

-- What a line of these fields says in this section of a job of this mode, or what is wrong with it: of another form, or said
-- again; else out of range.
abbrev pub read : Mode → Header → ToldState → List (List ℕ) → Result Said JobFault
read which header told [] = Err Form
read which header told (word ∷ rest) = read_allowed told (allowed_key which header word) rest

-- what is told with a line more; a number of nodes in range is the one that is known already
unfoldable pub with_said : ToldState → Said → ToldState
with_said told (ShapeIs shape) = record told { shape = Some shape }
with_said told (LayoutIs layout) = record told { layout = Some layout }
with_said told (Revision n) = record told { revision = Some n }
with_said told (Nodes n) = record told { has_nodes = true }
with_said told (States n) = record told { states = Some n }
with_said told (Seed word) = record told { seed = Some word }
with_said told (Rounds n) = record told { rounds = Some n }
with_said told (Ticks n) = record told { ticks = Some n }
with_said told (Pc address) = record told { pc = Some address }
with_said told (Register n word) = record told { edits = told.edits ++ RegisterEdit n word ∷ [] }
with_said told (Fill word) = record told { base = Some (FillBase word) }
with_said told (RamSeed word) = record told { base = Some (SeedBase word) }
with_said told (Ram address word) = record told { edits = told.edits ++ MemoryEdit ((address - ram_base) / 4) word ∷ [] }
with_said told (Reading word) = record told { readings = told.readings ++ word ∷ [] }
with_said told Script = told
