-- Files of an image that are read, whose whole input is the file: Intel HEX, and a subset of ELF.
use Rattle.std.specs.Prelude.{◌≡◌, ℕ, List, Result}
use Rattle.image_files.specs.Elf.{IsElf, IsNoElf}
use Rattle.image_files.specs.HexFile.{hex_file}
use Rattle.image_files.specs.declared.fault.HexEnd.{HexEnd}
use Rattle.image_files.specs.declared.fault.HexEnd.TheVariants.{Fault}
use Rattle.image_files.specs.declared.fault.HexEnd.TheVariants as hex_ends
use Rattle.stab_cli.specs.ImageJob.{words_text}
use Rattle.stab_cli.specs.Verdict.{Accept, Refuse, Verdict, ended_by}
use Rattle.stab_cli.specs.declared.job_end.JobEnd.{JobEnd}
use Rattle.stab_cli.specs.declared.job_end.JobEnd.TheVariants.{Refused, NoMemory}
use Rattle.stab_cli.specs.declared.refusal.Refusal.TheVariants.{BadHexFile, BadElfFile}

-- what an end of reading is for a file: its first fault refuses it
abbrev pub hex_end : HexEnd → JobEnd
hex_end (Fault fault line) = Refused (BadHexFile fault line)
hex_end hex_ends.NoMemory = NoMemory

-- the words of an Intel HEX file, or its refusal
abbrev pub hex_words : List ℕ → Result (List ℕ) JobEnd
hex_words bytes = ended_by hex_end (hex_file bytes)

-- An ELF file is accepted where it is the file of some words, and else refused with the length of its longest front that begins one.
abbrev pub IsUnelfVerdict : List ℕ → Verdict → Type 0
IsUnelfVerdict bytes Accept = (words : List ℕ) × IsElf bytes words
IsUnelfVerdict bytes (Refuse refusal) = (offset : ℕ) × IsNoElf bytes offset × (refusal ≡ BadElfFile offset)

-- the text has the words of an ELF file
abbrev pub IsUnelfText : List ℕ → List ℕ → Type 0
IsUnelfText bytes text = (words : List ℕ) × IsElf bytes words × (text ≡ words_text words)
