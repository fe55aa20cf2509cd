-- The first line of a job that is at fault, or what the job's lines tell: one fold over its numbered lines.
use Rattle.std.specs.Prelude.{ℕ, ◌+◌, ◌-◌, ◌||◌, ◌&&◌, is_none, Bool, true, false, List, [], ◌∷◌, length, Option, Some, None, option_and_then, Result, Ok, Err, bytes_eq, codes, if◌then◌else◌}
use Rattle.std.specs.Option.{unwrap_or}
use Rattle.text_core.specs.Fields.{begins, fields, is_passed}
use Rattle.text_core.specs.Lines.{lines}
use Rattle.text_core.specs.Numbers.{number_of}
use Rattle.job_text.specs.Headers.{is_needed, opened_by, presence_of}
use Rattle.job_text.specs.Rows.{Row, rows}
use Rattle.job_text.specs.Told.{ToldState, lies_from, nothing_told, read, with_said}
use Rattle.job_text.specs.declared.mode.Mode.{Mode}
use Rattle.job_text.specs.declared.mode.Header.{Header}
use Rattle.job_text.specs.declared.mode.Header.TheVariants.{Set, Source, Rom, Run}
use Rattle.job_text.specs.declared.said.Said.{Said}
use Rattle.job_text.specs.declared.fault.JobFault.{JobFault}
use Rattle.job_text.specs.declared.fault.JobFault.TheVariants.{Section, Form, Range}
use Rattle.job_text.specs.declared.parts.Part.{Part}
use Rattle.job_text.specs.declared.parts.Parts.{Parts}

-- ---- the sections

-- no section yet
abbrev pub no_parts : Parts
no_parts = record { set = None; source = None; rom = None; run = None }

-- the part of a section
abbrev pub part_of : Parts → Header → Option Part
part_of parts Set = parts.set
part_of parts Source = parts.source
part_of parts Rom = parts.rom
part_of parts Run = parts.run

-- the parts with this one for a section
abbrev pub with_part : Parts → Header → Part → Parts
with_part parts Set part = record parts { set = Some part }
with_part parts Source part = record parts { source = Some part }
with_part parts Rom part = record parts { rom = Some part }
with_part parts Run part = record parts { run = Some part }

-- a section begins, as yet with no bytes: those from `here` on, where the line with this number stands
abbrev pub begun : Parts → Header → ℕ → ℕ → Parts
begun parts header here line = with_part parts header (record { from = here; to = here; line = line })

-- a section goes on up to `here`
abbrev pub longer : Parts → Header → ℕ → Option Part → Parts
longer parts header here None = parts
longer parts header here (Some part) = with_part parts header (record part { to = here })

abbrev pub extended : Parts → Header → ℕ → Parts
extended parts header here = longer parts header here (part_of parts header)

-- the mode needs this section, and it isn't there
abbrev pub lacks_section : Mode → Parts → Header → Bool
lacks_section which parts header = is_needed (presence_of which header) && is_none (part_of parts header)

-- a section that the mode needs isn't there
abbrev pub lacks : Mode → Parts → Bool
lacks which parts =
    lacks_section which parts Set || (lacks_section which parts Source || (lacks_section which parts Rom || lacks_section which parts Run))

-- ---- the lines

-- What the lines so far give: the number of the next line and the place where it begins, the last header, the sections and what
-- is told.
pub record Draft : Type 0 where
  pub number : ℕ
  pub place : ℕ
  pub last : Option Header
  pub parts : Parts
  pub told : ToldState

-- before any line, where the number of states is judged by this number of nodes
abbrev pub nothing_read : ℕ → Draft
nothing_read nodes = record { number = 1; place = 0; last = None; parts = no_parts; told = nothing_told nodes }

-- behind a line, where the next one begins at `here`
abbrev pub advanced : Draft → ℕ → Draft
advanced draft here = record draft { number = draft.number + 1; place = here }

-- a line is a header: its first byte is a percent sign
abbrev pub is_header : List ℕ → Bool
is_header line = begins 37 line

-- a header, with the section that begins behind it
abbrev pub with_header : Draft → Option Header → Result Draft JobFault
with_header draft None = Err Section
with_header draft (Some header) =
    Ok (record draft { last = Some header; parts = begun draft.parts header draft.place draft.number })

-- what is told with a line more, where it says something
abbrev pub told_with : Draft → Result Said JobFault → Result Draft JobFault
told_with draft (Err fault) = Err fault
told_with draft (Ok said) = Ok (record draft { told = with_said draft.told said })

-- a line of `%set` or `%run`, unless it is passed over
abbrev pub with_setting : Mode → Draft → Header → List ℕ → Result Draft JobFault
with_setting which draft header line =
    if is_passed line then Ok draft else told_with draft (read which header draft.told (fields line))

-- a line of a section; the lines of `%source` and `%rom` are judged later
abbrev pub with_body : Mode → Draft → Header → List ℕ → Result Draft JobFault
with_body which draft Set line = with_setting which draft Set line
with_body which draft Source line = Ok draft
with_body which draft Rom line = Ok draft
with_body which draft Run line = with_setting which draft Run line

-- a line that is no header: in a section, which goes on behind it, or passed over before the first one
abbrev pub with_line : Mode → Draft → Option Header → List ℕ → Result Draft JobFault
with_line which draft None line = if is_passed line then Ok draft else Err Section
with_line which draft (Some header) line =
    with_body which (record draft { parts = extended draft.parts header draft.place }) header line

-- what a line adds, or what is wrong with it; the draft stands behind the line already
unfoldable pub step : Mode → Draft → List ℕ → Result Draft JobFault
step which draft line =
    if is_header line then with_header draft (opened_by which draft.last line) else with_line which draft draft.last line

-- ---- the whole job

-- the code of a fault
abbrev pub code_of : JobFault → ℕ
code_of Section = 401
code_of Form = 402
code_of Range = 403

-- a line at fault
pub record FaultyLine : Type 0 where
  pub fault : JobFault
  pub line : ℕ

-- at the end of the job: a section that is missing is missed at the number of lines plus 1
unfoldable pub ended : Mode → Draft → Result Draft FaultyLine
ended which draft = if lacks which draft.parts then Err (record { fault = Section; line = draft.number }) else Ok draft

-- what follows a line of this number: the lines behind it, or its fault
abbrev pub followed : ℕ → Result Draft JobFault → (Draft → Result Draft FaultyLine) → Result Draft FaultyLine
followed number (Err fault) next = Err (record { fault = fault; line = number })
followed number (Ok draft) next = next draft

-- the lines of a text of so many bytes one after another, up to the first that is at fault
abbrev pub read_rows : Mode → ℕ → Draft → List Row → Result Draft FaultyLine
read_rows which size draft [] = ended which draft
read_rows which size draft (row ∷ rows) =
    followed draft.number (step which (advanced draft (size - row.left)) row.line) (λ next. read_rows which size next rows)

-- a number of nodes, where it is in range
abbrev pub good_nodes : Option ℕ → Option ℕ
good_nodes number = option_and_then (λ n. if lies_from 3 64 n then Some n else None) number

-- the number of nodes that a line of these fields says, where it is in range
abbrev pub nodes_in : List (List ℕ) → Option ℕ
nodes_in (key ∷ number ∷ []) = if bytes_eq key (codes "nodes") then good_nodes (number_of number) else None
nodes_in _ = None

-- the first number of nodes in range that a section's lines say, and 64 where there is none
abbrev pub section_nodes : List (List ℕ) → ℕ
section_nodes [] = 64
section_nodes (line ∷ lines) = if is_header line then 64 else unwrap_or (nodes_in (fields line)) (section_nodes lines)

-- The number of nodes: the first one in range that `%set` says, wherever that line stands in it. A section `%set` is the first of
-- its job.
abbrev pub first_nodes : List (List ℕ) → ℕ
first_nodes [] = 64
first_nodes (line ∷ lines) =
    if is_header line then (if bytes_eq line (codes "%set") then section_nodes lines else 64) else first_nodes lines

-- the lines of a job, or the first of them at fault
unfoldable pub draft_of : Mode → List ℕ → Result Draft FaultyLine
draft_of which bytes = read_rows which (length bytes) (nothing_read (first_nodes (lines bytes))) (rows bytes)
