-- What a tick does to RAM and to the ports.
use Rattle.std.specs.Prelude.{ℕ, ◌*◌, List, length, Option, Some, None}
use Rattle.rv_isa.specs.declared.instr.Instr.{Instr}
use Rattle.rv_machine.specs.Effect.{effect}
use Rattle.rv_machine.specs.Hart.{HartState}
use Rattle.rv_machine.specs.Tick.{fetched}
use Rattle.rv_machine.specs.declared.effect.Effect.{Effect}
use Rattle.rv_machine.specs.declared.effect.Effect.TheVariants.{Load, Store}
use Rattle.trap_model.specs.Map.{load_at, store_at}
use Rattle.trap_model.specs.Width.{bytes_of}
use Rattle.trap_model.specs.declared.map.Loads.{Loads}
use Rattle.trap_model.specs.declared.map.Loads.TheVariants.{InPort}
use Rattle.trap_model.specs.declared.map.Stores.{Stores}
use Rattle.trap_model.specs.declared.map.Stores.TheVariants.{OutPort, Ram as IntoRam}
use Rattle.block_code.specs.Moment.{Moment}

-- what a tick does to RAM and to the ports: nothing, a store of so many bytes at an offset of RAM, a reading taken, or a word sent
pub data Access : Type 0 where
  NoAccess : Access
  StoreAt : (offset width : ℕ) → Access
  TakeFrom : (port : ℕ) → Access
  SendTo : (port : ℕ) → Access

-- a load, by where it comes from
abbrev pub by_load : Loads → Access
by_load (InPort port) = TakeFrom port
by_load _ = NoAccess

-- a store of so many bytes, by where it goes
abbrev pub by_store : ℕ → Stores → Access
by_store width (IntoRam offset) = StoreAt offset width
by_store width (OutPort port) = SendTo port
by_store width _ = NoAccess

-- what has to be done, by what it is
abbrev pub by_effect : List ℕ → HartState → Effect → Access
by_effect rom m (Load rd address width signed) = by_load (load_at (4 * length rom) (length m.ram) address (bytes_of width))
by_effect rom m (Store address width x) = by_store (bytes_of width) (store_at (length m.ram) address (bytes_of width))
by_effect rom m _ = NoAccess

-- the access of an instruction
abbrev pub access_of : List ℕ → Instr → Moment → Access
access_of rom i s = by_effect rom s.hart (effect i s.hart)

-- the access of what is fetched, none where nothing is
abbrev pub access_at : List ℕ → Moment → Option Instr → Access
access_at rom s (Some i) = access_of rom i s
access_at rom s None = NoAccess

-- the access of the tick at s
unfoldable pub access : List ℕ → Moment → Access
access rom s = access_at rom s (fetched rom s.hart.pc)
