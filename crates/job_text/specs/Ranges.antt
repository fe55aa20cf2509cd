-- The ranges of what a job says.
use Rattle.std.specs.Prelude.{◌≡◌, ℕ, ◌+◌, ◌/◌, ◌≤◌, Bool, true, false, List, [], length, slice_index, Option, Some, IfSome}
use Rattle.job_text.specs.Told.{ram_size}
use Rattle.job_text.specs.declared.parts.Part.{Part}
use Rattle.job_text.specs.declared.parts.Parts.{Parts}

-- a number from a least one up to a greatest one
pub record IsBetween (least greatest n : ℕ) : Type 0 where
  pub some : least ≤ n
  pub few : n ≤ greatest

-- the numbers that are said are in range, where they are said
pub record AreInRange (nodes : ℕ) (revision states rounds ticks : Option ℕ) : Type 0 where
  pub known : IfSome revision (λ n. IsBetween 1 2 n)
  pub some_nodes : IsBetween 3 64 nodes
  pub some_states : IfSome states (λ n. IsBetween nodes 256 n)
  pub some_rounds : IfSome rounds (λ n. IsBetween 1 1000000 n)
  pub some_ticks : IfSome ticks (λ n. IsBetween 1 10000000 n)

-- a job's numbers are in range
pub record IsFit (revision nodes states rounds ticks : ℕ) : Type 0 where
  pub known : IsBetween 1 2 revision
  pub some_nodes : IsBetween 3 64 nodes
  pub some_states : IsBetween nodes 256 states
  pub some_rounds : IsBetween 1 1000000 rounds
  pub some_ticks : IsBetween 1 10000000 ticks

-- a part of a text of so many bytes: it ends behind its beginning, within the text, and its first line has a number of the text
pub record IsInside (size : ℕ) (part : Part) : Type 0 where
  pub ordered : part.from ≤ part.to
  pub within : part.to ≤ size
  pub some : 1 ≤ part.line
  pub few : part.line ≤ size + 1

-- the sections that there are are parts of a text of so many bytes
pub record AreInside (size : ℕ) (parts : Parts) : Type 0 where
  pub set : IfSome parts.set (λ part. IsInside size part)
  pub source : IfSome parts.source (λ part. IsInside size part)
  pub rom : IfSome parts.rom (λ part. IsInside size part)
  pub run : IfSome parts.run (λ part. IsInside size part)

-- the next line of a text has this number and begins here, and the sections lie before it
pub record AreBefore (number place : ℕ) (parts : Parts) : Type 0 where
  pub some : 1 ≤ number
  pub few : number ≤ place + 1
  pub inside : AreInside place parts

-- the sections of a job are parts of a text of so many bytes
pub record HasParts (size : ℕ) (source rom script : Part) : Type 0 where
  pub source_inside : IsInside size source
  pub rom_inside : IsInside size rom
  pub script_inside : IsInside size script

-- a start of a hart has 32 registers, of which x0 is 0, and the words of RAM of the revision; any other has none
pub record IsHartStart (ram_words : ℕ) (regs ram : List ℕ) : Type 0 where
  pub count : length regs ≡ 32
  pub zero_reg : slice_index regs 0 ≡ 0
  pub size : length ram ≡ ram_words

abbrev pub IsStartOf : Bool → ℕ → List ℕ → List ℕ → Type 0
IsStartOf true revision regs ram = IsHartStart (ram_size (Some revision) / 4) regs ram
IsStartOf false revision regs ram = (regs ≡ []) × (ram ≡ [])
