-- What each address is: ROM from 0, RAM from 10000000, input ports from 20000000 and output ports from 20001000 (in hexadecimal).
use Rattle.std.specs.Prelude.{ℕ, ◌-◌, ◌/◌, ◌%◌, ◌<◌, ◌≡◌, ◌*◌, ◌==◌, ◌&&◌, Bool, Option, Some, None, nat_le, nat_lt, if◌then◌else◌}
use Rattle.trap_model.specs.declared.map.Stores.{Stores}
use Rattle.trap_model.specs.declared.map.Stores.TheVariants.{Ram as IntoRam, OutPort, Trap as NoStore}
use Rattle.trap_model.specs.declared.map.Loads.{Loads}
use Rattle.trap_model.specs.declared.map.Loads.TheVariants.{Rom as FromRom, Ram as FromRam, InPort, Trap as NoLoad}

-- the address of the first byte of RAM
abbrev pub ram_base : ℕ
ram_base = 0x1000_0000

-- the address of input port 0
abbrev pub in_base : ℕ
in_base = 0x2000_0000

-- the address of output port 0
abbrev pub out_base : ℕ
out_base = 0x2000_1000

-- the address lies in the area of this many bytes from this base on
unfoldable pub lies_in : ℕ → ℕ → ℕ → Bool
lies_in base size address = nat_le base address && nat_lt (address - base) size

-- the number of the word of ROM that pc names: none where pc is no multiple of 4, and none outside ROM
unfoldable pub fetch_at : ℕ → ℕ → Option ℕ
fetch_at rom pc = if (pc % 4 == 0) && nat_lt pc rom then Some (pc / 4) else None

-- where a load of width bytes comes from, in a machine with rom bytes of ROM and ram bytes of RAM
unfoldable pub load_at : ℕ → ℕ → ℕ → ℕ → Loads
load_at rom ram address width =
    if address % width == 0
    then (if lies_in 0 rom address then FromRom address
    else (if lies_in ram_base ram address then FromRam (address - ram_base)
    else (if (width == 4) && lies_in in_base 1024 address then InPort ((address - in_base) / 4) else NoLoad)))
    else NoLoad

-- where a store of width bytes goes, in a machine with ram bytes of RAM
unfoldable pub store_at : ℕ → ℕ → ℕ → Stores
store_at ram address width =
    if address % width == 0
    then (if lies_in ram_base ram address then IntoRam (address - ram_base)
    else (if (width == 4) && lies_in out_base 1024 address then OutPort ((address - out_base) / 4) else NoStore))
    else NoStore

-- the number of a word is below that of the words of ROM
abbrev pub IsFetchInside : ℕ → Option ℕ → Type 0
IsFetchInside rom (Some number) = 4 * number < rom
IsFetchInside rom None = Unit {0}

-- a place of ROM or RAM is a multiple of the width below the size, and a port is one of 256
abbrev pub IsLoadInside : ℕ → ℕ → ℕ → Loads → Type 0
IsLoadInside rom ram width (FromRom offset) = (offset < rom) × (offset % width ≡ 0)
IsLoadInside rom ram width (FromRam offset) = (offset < ram) × (offset % width ≡ 0)
IsLoadInside rom ram width (InPort port) = port < 256
IsLoadInside rom ram width NoLoad = Unit {0}

-- a place of RAM is a multiple of the width below the size, and a port is one of 256
abbrev pub IsStoreInside : ℕ → ℕ → Stores → Type 0
IsStoreInside ram width (IntoRam offset) = (offset < ram) × (offset % width ≡ 0)
IsStoreInside ram width (OutPort port) = port < 256
IsStoreInside ram width NoStore = Unit {0}
