-- The report of an image, and that it tells the image.
use Rattle.std.specs.Prelude.{◌≡◌, ℕ, ◌+◌, ◌<◌, ◌^◌, List, [], ◌∷◌, ◌++◌, length, map, codes}
use Rattle.std.specs.Fmt.{decimal, signed_decimal}
use Rattle.std.specs.List.{AllByRecursion}
use Rattle.text_core.specs.Hexadecimal.{hex8}
use Rattle.text_core.specs.WrittenLines.{◌␣◌, lines_text}
use Rattle.trap_model.specs.Map.{ram_base}
use Rattle.rv_machine.specs.Hart.{AreWords}
use Rattle.asm_tree.specs.Names.{IsName}
use Rattle.asm_names.specs.declared.program.Resolved.{Resolved}
use Rattle.state_space.specs.declared.signature.Range.{Range}
use Rattle.state_space.specs.declared.signature.Side.{Side}
use Rattle.state_space.specs.declared.signature.Side.TheVariants as sides
use Rattle.state_space.specs.Codomains.{codomain_at}
use Rattle.state_space.specs.Kinds.{of_side}
use Rattle.state_space.specs.Locations.{Location, input_locations, located, signatures_of}
use Rattle.asm_ranges.specs.Values.{fun_of}
use Rattle.state_layout.specs.declared.entry.Entry.{Entry}
use Rattle.state_layout.specs.declared.layout.Layout.{Layout}
use Rattle.state_layout.specs.declared.layout.Layout.TheVariants as layouts
use Rattle.state_layout.specs.Map.{Placement, cell_of, entries, entry_at}
use Rattle.state_layout.specs.MapLaw.{IsPlaced}
use Rattle.fault_script.specs.StateText.{location_text}
use Rattle.bound_count.specs.declared.numbers.Numbers.{Numbers}
use Rattle.bound_count.specs.declared.shape.Shape.{Shape}
use Rattle.bound_count.specs.declared.shape.Shape.TheVariants as shapes
use Rattle.round_spec.specs.Round.{Compiled}

-- ---- the lines before the locations

abbrev pub shape_word : Shape → List ℕ
shape_word shapes.Unrolled = codes "unrolled"
shape_word shapes.Looped = codes "looped"

abbrev pub layout_word : Layout → List ℕ
layout_word layouts.Words = codes "words"
layout_word layouts.Packed = codes "packed"

-- how the image was made: for which revision of the memory map, with or without loops, and with how much of RAM for each value
unfoldable pub making_lines : Shape → Layout → ℕ → List (List ℕ)
making_lines shape layout revision =
    (codes "revision" ␣ decimal revision) ∷ (codes "shape" ␣ shape_word shape) ∷ (codes "layout" ␣ layout_word layout) ∷ []

-- the lines of what the image needs
unfoldable pub needs_lines : Numbers → List (List ℕ)
needs_lines needs =
    (codes "ram" ␣ decimal needs.ram)
    ∷ (codes "rom" ␣ decimal needs.rom)
    ∷ (codes "anchor" ␣ decimal needs.anchor)
    ∷ (codes "round" ␣ decimal needs.round)
    ∷ (codes "registers" ␣ decimal needs.regs)
    ∷ []

-- the lines of the program's name, of how the image was made and of what it needs
unfoldable pub head_lines : List ℕ → Shape → Layout → ℕ → Numbers → List (List ℕ)
head_lines name shape layout revision needs = (codes "program" ␣ name) ∷ (making_lines shape layout revision ++ needs_lines needs)

-- ---- the lines of locations

-- a location as it is spelled: its function's name, and its arguments where it has any
abbrev pub location_name : Resolved → Location → List ℕ
location_name program location = location_text program.domains (fun_of program location.fun) location.args

-- where RAM holds a location of the state
abbrev pub entry_of : Placement → Location → Entry
entry_of placement location = entry_at placement (cell_of placement.signatures location)

-- the address of the first byte that holds a location
abbrev pub address_of : Entry → ℕ
address_of entry = ram_base + entry.offset

-- the place of a location of the state: the address, how many bytes, how many values it may have, and the least of them
unfoldable pub place_line : List ℕ → Entry → List ℕ
place_line name entry =
    codes "place" ␣ name ␣ hex8 (address_of entry) ␣ decimal entry.width ␣ decimal entry.size ␣ signed_decimal entry.lo

-- an input location at its port: how many values it may have, and the least of them
unfoldable pub in_line : ℕ → List ℕ → Range → List ℕ
in_line port name range = codes "in" ␣ decimal port ␣ name ␣ decimal range.size ␣ signed_decimal range.lo

-- an output location at its port
unfoldable pub out_line : ℕ → List ℕ → List ℕ
out_line port name = codes "out" ␣ decimal port ␣ name

-- the line of a location on a side, by its number there and as it is spelled
abbrev pub located_line : Side → Placement → ℕ → Location → List ℕ → List ℕ
located_line sides.State placement number location name = place_line name (entry_of placement location)
located_line sides.Input placement number location name = in_line number name (codomain_at placement.signatures location)
located_line sides.Output placement number location name = out_line number name

abbrev pub side_line : Side → Resolved → Placement → ℕ → Location → List ℕ
side_line side program placement number location = located_line side placement number location (location_name program location)

-- a line for each location, where the first has the number n
abbrev pub numbered : (ℕ → Location → List ℕ) → ℕ → List Location → List (List ℕ)
numbered line n [] = []
numbered line n (location ∷ locations) = line n location ∷ numbered line (n + 1) locations

-- the lines of the locations on a side, in order
abbrev pub side_lines : Side → Resolved → Placement → List (List ℕ)
side_lines side program placement = numbered (side_line side program placement) 0 (located (of_side side) 0 (signatures_of program))

-- ---- the report

-- the line that says how many words follow, the words and the end
unfoldable pub word_lines : List ℕ → List (List ℕ)
word_lines words = (codes "words" ␣ decimal (length words)) ∷ (map hex8 words ++ codes "end" ∷ [])

-- the lines of the report, without their line feeds
abbrev pub report_lines : Resolved → Compiled → Shape → Layout → ℕ → List (List ℕ)
report_lines program built shape layout revision =
    head_lines program.name shape layout revision built.needs
    ++ (side_lines sides.State program built.map
    ++ (side_lines sides.Input program built.map
    ++ (side_lines sides.Output program built.map
    ++ word_lines built.written)))

-- the report: each line is ended by a line feed
unfoldable pub report_text : Resolved → Compiled → Shape → Layout → ℕ → List ℕ
report_text program built shape layout revision = lines_text (report_lines program built shape layout revision)

-- ---- what a report tells

-- bounds of 64 bits, which can be read back
pub record AreNeedsReadable (needs : Numbers) : Type 0 where
  pub ram : needs.ram < 2 ^ 64
  pub rom : needs.rom < 2 ^ 64
  pub anchor : needs.anchor < 2 ^ 64
  pub round : needs.round < 2 ^ 64
  pub regs : needs.regs < 2 ^ 64

-- the names of a program that stand in its report
pub record AreNamed (program : Resolved) : Type 0 where
  pub machine : IsName program.name
  pub functions : AllByRecursion (λ fun. IsName fun.name) program.funs
  pub enumerators : AllByRecursion (λ domain. AllByRecursion IsName domain.items) program.domains

-- What can be read back from its report: the names are names, the map is one of the program's functions, and the numbers are within their ranges.
pub record IsReportable (program : Resolved) (built : Compiled) (revision : ℕ) : Type 0 where
  pub names : AreNamed program
  pub map : built.map.signatures ≡ signatures_of program
  pub placed : IsPlaced built.map
  pub needs : AreNeedsReadable built.needs
  pub words : AreWords built.written
  pub making : revision < 2 ^ 64

-- an image, with how it was made and of which program
pub record Reported : Type 0 where
  pub program : Resolved
  pub built : Compiled
  pub shape : Shape
  pub layout : Layout
  pub revision : ℕ

-- its report
abbrev pub text_of : Reported → List ℕ
text_of r = report_text r.program r.built r.shape r.layout r.revision

-- the locations on a side, as they are spelled
abbrev pub names_on : Side → Resolved → List (List ℕ)
names_on side program = map (location_name program) (located (of_side side) 0 (signatures_of program))

-- the domain of each input location, in order
abbrev pub input_domains : Resolved → List Range
input_domains program = map (codomain_at (signatures_of program)) (input_locations (signatures_of program))

-- two images are the same in all that a report tells
pub record AreReportedAlike (r s : Reported) : Type 0 where
  pub name : r.program.name ≡ s.program.name
  pub shape : r.shape ≡ s.shape
  pub layout : r.layout ≡ s.layout
  pub revision : r.revision ≡ s.revision
  pub needs : r.built.needs ≡ s.built.needs
  -- the locations of the state, and where RAM holds them
  pub locations : names_on sides.State r.program ≡ names_on sides.State s.program
  pub map : entries r.built.map ≡ entries s.built.map
  -- the ports
  pub inputs : names_on sides.Input r.program ≡ names_on sides.Input s.program
  pub domains : input_domains r.program ≡ input_domains s.program
  pub outputs : names_on sides.Output r.program ≡ names_on sides.Output s.program
  pub written : r.built.written ≡ s.built.written

-- the same report tells the same making, bounds, map, ports and written words
abbrev pub ReportDetermines : Type 0
ReportDetermines =
    (r s : Reported) → IsReportable r.program r.built r.revision → IsReportable s.program s.built s.revision
    → text_of r ≡ text_of s → AreReportedAlike r s
