-- The words with which the lines of `%set` and `%run` begin, and in which modes each may stand.
use Rattle.std.specs.Prelude.{ℕ, Bool, true, false, List, Option, Some, None, bytes_eq, codes, if◌then◌else◌}
use Rattle.job_text.specs.declared.mode.Mode.{Mode}
use Rattle.job_text.specs.declared.mode.Mode.TheVariants.{Compile, Run, Model, Exec, Make}
use Rattle.job_text.specs.declared.mode.Header.{Header}
use Rattle.job_text.specs.declared.mode.Header.TheVariants.{Set, Source, Rom, Run as RunHeader}
use Rattle.job_text.specs.declared.key.Key.{Key}
use Rattle.job_text.specs.declared.key.Key.TheVariants.{Shape, Layout, Revision, Nodes, States, Seed, Rounds, Ticks, Pc, Register, Fill, RamSeed, Ram, Reading, At, Value}

-- the words of `%set`
unfoldable pub set_key_of : List ℕ → Option Key
set_key_of word =
    if bytes_eq word (codes "shape") then Some Shape
    else (if bytes_eq word (codes "layout") then Some Layout
    else (if bytes_eq word (codes "revision") then Some Revision
    else (if bytes_eq word (codes "nodes") then Some Nodes
    else (if bytes_eq word (codes "states") then Some States
    else (if bytes_eq word (codes "seed") then Some Seed
    else None)))))

-- the words of `%run`
unfoldable pub run_key_of : List ℕ → Option Key
run_key_of word =
    if bytes_eq word (codes "rounds") then Some Rounds
    else (if bytes_eq word (codes "ticks") then Some Ticks
    else (if bytes_eq word (codes "pc") then Some Pc
    else (if bytes_eq word (codes "reg") then Some Register
    else (if bytes_eq word (codes "fill") then Some Fill
    else (if bytes_eq word (codes "seed") then Some RamSeed
    else (if bytes_eq word (codes "ram") then Some Ram
    else (if bytes_eq word (codes "in") then Some Reading
    else (if bytes_eq word (codes "at") then Some At
    else (if bytes_eq word (codes "value") then Some Value
    else None)))))))))

-- the key of a line of this section that begins with this word
abbrev pub key_of : Header → List ℕ → Option Key
key_of Set word = set_key_of word
key_of Source word = None
key_of Rom word = None
key_of RunHeader word = run_key_of word

-- the mode compiles a program by settings of its job
abbrev pub builds : Mode → Bool
builds Compile = true
builds Run = true
builds Make = true
builds _ = false

-- the mode makes a ring
abbrev pub is_make : Mode → Bool
is_make Make = true
is_make _ = false

-- the mode runs rounds
abbrev pub runs_rounds : Mode → Bool
runs_rounds Run = true
runs_rounds Model = true
runs_rounds _ = false

-- the mode runs a given number of ticks
abbrev pub is_exec : Mode → Bool
is_exec Exec = true
is_exec _ = false

-- the mode runs a hart whose start the job describes
abbrev pub runs_hart : Mode → Bool
runs_hart Run = true
runs_hart Exec = true
runs_hart _ = false

-- the mode takes readings
abbrev pub takes_readings : Mode → Bool
takes_readings Run = true
takes_readings Exec = true
takes_readings Model = true
takes_readings _ = false

-- the mode plays the model
abbrev pub is_model : Mode → Bool
is_model Model = true
is_model _ = false

-- the modes in whose jobs a line with this key may stand
abbrev pub allowed : Mode → Key → Bool
allowed which Shape = builds which
allowed which Layout = builds which
allowed which Revision = true
allowed which Nodes = is_make which
allowed which States = is_make which
allowed which Seed = is_make which
allowed which Rounds = runs_rounds which
allowed which Ticks = is_exec which
allowed which Pc = runs_hart which
allowed which Register = runs_hart which
allowed which Fill = runs_hart which
allowed which RamSeed = runs_hart which
allowed which Ram = runs_hart which
allowed which Reading = takes_readings which
allowed which At = runs_hart which
allowed which Value = is_model which

-- the key, where a line with it may stand in a job of this mode
abbrev pub if_allowed : Mode → Option Key → Option Key
if_allowed which None = None
if_allowed which (Some key) = if allowed which key then Some key else None

-- the key of a line that begins with this word, where it may stand in this section of a job of this mode
unfoldable pub allowed_key : Mode → Header → List ℕ → Option Key
allowed_key mode header word = if_allowed mode (key_of header word)
