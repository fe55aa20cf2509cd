-- The sections of a job: their headers, and which of them the jobs of each mode have.
use Rattle.std.specs.Prelude.{ℕ, nat_lt, Bool, true, false, ◌&&◌, List, Option, Some, None, bytes_eq, codes, if◌then◌else◌}
use Rattle.job_text.specs.declared.mode.Mode.{Mode}
use Rattle.job_text.specs.declared.mode.Mode.TheVariants.{Check, Compile, Run, Model, Exec, Asm, List as ListMode, Make, Hex, Unhex, Elf, Unelf}
use Rattle.job_text.specs.declared.mode.Header.{Header}
use Rattle.job_text.specs.declared.mode.Header.TheVariants.{Set, Source, Rom, Run as RunHeader}
use Rattle.job_text.specs.declared.mode.Presence.{Presence}
use Rattle.job_text.specs.declared.mode.Presence.TheVariants.{No, May, Needed}
use Rattle.job_text.specs.declared.mode.Sections.{Sections}

-- a row of the table
abbrev row : Presence → Presence → Presence → Presence → Sections
row set source run rom = record { set = set; source = source; rom = rom; run = run }

-- the table:            set    source run    rom
abbrev pub sections_of : Mode → Sections
sections_of Check = row No Needed No No
sections_of Compile = row May Needed No No
sections_of Run = row May Needed May No
sections_of Model = row No Needed May No
sections_of Exec = row May No May Needed
sections_of Asm = row May Needed No No
sections_of ListMode = row May No No Needed
sections_of Make = row May No No No
sections_of Hex = row No No No Needed
sections_of Unhex = row No No No No
sections_of Elf = row No No No Needed
sections_of Unelf = row No No No No

-- whether a job of this mode has this section
abbrev pub presence_of : Mode → Header → Presence
presence_of mode Set = (sections_of mode).set
presence_of mode Source = (sections_of mode).source
presence_of mode Rom = (sections_of mode).rom
presence_of mode RunHeader = (sections_of mode).run

-- a section that a job may have or needs
abbrev pub is_allowed : Presence → Bool
is_allowed No = false
is_allowed May = true
is_allowed Needed = true

-- a section that a job needs
abbrev pub is_needed : Presence → Bool
is_needed No = false
is_needed May = false
is_needed Needed = true

-- the header that a line is: exactly its word, without blanks
unfoldable pub header_of : List ℕ → Option Header
header_of line =
    if bytes_eq line (codes "%set") then Some Set
    else (if bytes_eq line (codes "%source") then Some Source
    else (if bytes_eq line (codes "%rom") then Some Rom
    else (if bytes_eq line (codes "%run") then Some RunHeader
    else None)))

-- the place of a section among the others
abbrev pub rank : Header → ℕ
rank Set = 0
rank Source = 1
rank Rom = 2
rank RunHeader = 3

-- a section may stand behind the last one: each at most once, and in their order
abbrev pub comes_after : Option Header → Header → Bool
comes_after None header = true
comes_after (Some last) header = nat_lt (rank last) (rank header)

-- the header that this line is, where the section may begin here in a job of this mode
unfoldable pub opened_by : Mode → Option Header → List ℕ → Option Header
opened_by mode last line = kept (header_of line)
  where
    kept : Option Header → Option Header
    kept None = None
    kept (Some header) = if is_allowed (presence_of mode header) && comes_after last header then Some header else None
