-- What a line of `%set` or `%run` says, by its fields.
use Rattle.std.specs.Prelude.{ℕ, Bool, true, false, List, [], ◌∷◌, Option, Some, None, bytes_eq, codes, if◌then◌else◌, option_and_then, option_map}
use Rattle.text_core.specs.Hexadecimal.{hexadecimal}
use Rattle.text_core.specs.Numbers.{number_of}
use Rattle.job_text.specs.declared.key.Key.{Key}
use Rattle.job_text.specs.declared.key.Key.TheVariants.{Shape as ShapeKey, Layout as LayoutKey, Revision as RevisionKey, Nodes as NodesKey, States as StatesKey, Seed as SeedKey, Rounds as RoundsKey, Ticks as TicksKey, Pc as PcKey, Register as RegisterKey, Fill as FillKey, RamSeed as RamSeedKey, Ram as RamKey, Reading as ReadingKey, At, Value}
use Rattle.job_text.specs.declared.said.Shape.{Shape}
use Rattle.job_text.specs.declared.said.Shape.TheVariants.{Unrolled, Looped}
use Rattle.job_text.specs.declared.said.Layout.{Layout}
use Rattle.job_text.specs.declared.said.Layout.TheVariants.{Words, Packed}
use Rattle.job_text.specs.declared.said.Said.{Said}
use Rattle.job_text.specs.declared.said.Said.TheVariants.{Shape as ShapeIs, Layout as LayoutIs, Revision, Nodes, States, Seed, Rounds, Ticks, Pc, Register, Fill, RamSeed, Ram, Reading, Script}

-- the names of the shapes and of the layouts
unfoldable pub shape_of : List ℕ → Option Shape
shape_of word =
    if bytes_eq word (codes "unrolled") then Some Unrolled else (if bytes_eq word (codes "looped") then Some Looped else None)

unfoldable pub layout_of : List ℕ → Option Layout
layout_of word =
    if bytes_eq word (codes "words") then Some Words else (if bytes_eq word (codes "packed") then Some Packed else None)

-- a key and one field: a name, a decimal or a hexadecimal number
abbrev pub with_one : Key → List ℕ → Option Said
with_one ShapeKey field = option_map ShapeIs (shape_of field)
with_one LayoutKey field = option_map LayoutIs (layout_of field)
with_one RevisionKey field = option_map Revision (number_of field)
with_one NodesKey field = option_map Nodes (number_of field)
with_one StatesKey field = option_map States (number_of field)
with_one SeedKey field = option_map Seed (hexadecimal field)
with_one RoundsKey field = option_map Rounds (number_of field)
with_one TicksKey field = option_map Ticks (number_of field)
with_one PcKey field = option_map Pc (hexadecimal field)
with_one FillKey field = option_map Fill (hexadecimal field)
with_one RamSeedKey field = option_map RamSeed (hexadecimal field)
with_one ReadingKey field = option_map Reading (hexadecimal field)
with_one _ field = None

-- the number of a register and its value
abbrev pub register : List ℕ → List ℕ → Option Said
register number word = option_and_then (λ n. option_map (Register n) (hexadecimal word)) (number_of number)

-- an address of RAM and its word
abbrev pub memory : List ℕ → List ℕ → Option Said
memory address word = option_and_then (λ a. option_map (Ram a) (hexadecimal word)) (hexadecimal address)

-- a key and two fields: a place and a word
abbrev pub with_two : Key → List ℕ → List ℕ → Option Said
with_two RegisterKey place word = register place word
with_two RamKey place word = memory place word
with_two _ place word = None

-- the keys of script lines, which are judged later
abbrev pub is_script : Key → Bool
is_script At = true
is_script Value = true
is_script _ = false

-- what a key and the fields behind it say
abbrev pub said_by : Key → List (List ℕ) → Option Said
said_by key (field ∷ []) = with_one key field
said_by key (place ∷ word ∷ []) = with_two key place word
said_by key _ = None

-- what a line of a form of its key says; a script line has any form
unfoldable pub formed : Key → List (List ℕ) → Option Said
formed key rest = if is_script key then Some Script else said_by key rest
