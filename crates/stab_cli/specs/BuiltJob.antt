-- The job that bytes are for a mode, and what of jobs isn't built.
use Rattle.std.specs.Prelude.{ℕ, ◌+◌, ◌-◌, ◌≤◌, ◌==◌, ◌&&◌, Bool, true, false, List, length, take, drop, Result, Ok, Err, if◌then◌else◌}
use Rattle.job_text.specs.JobFaults.{FaultyLine}
use Rattle.job_text.specs.Jobs.{JobState, job_of}
use Rattle.job_text.specs.declared.fault.JobEnd.{JobEnd as ReadingEnd}
use Rattle.job_text.specs.declared.fault.JobEnd.TheVariants as reading_ends
use Rattle.job_text.specs.declared.mode.Mode.{Mode}
use Rattle.job_text.specs.declared.parts.Part.{Part}
use Rattle.job_text.specs.declared.said.Layout.{Layout}
use Rattle.job_text.specs.declared.said.Layout.TheVariants.{Words, Packed}
use Rattle.job_text.specs.declared.said.Shape.{Shape}
use Rattle.job_text.specs.declared.said.Shape.TheVariants.{Unrolled, Looped}
use Rattle.stab_cli.specs.declared.job_end.JobEnd.{JobEnd}
use Rattle.stab_cli.specs.declared.job_end.JobEnd.TheVariants.{Refused, NoMemory}
use Rattle.stab_cli.specs.declared.machine_sizes.TheConstants.{REVISION}
use Rattle.stab_cli.specs.declared.refusal.Refusal.{Refusal}
use Rattle.stab_cli.specs.declared.refusal.Refusal.TheVariants.{BadJob, NotBuilt}

-- the bytes of a part of a job
abbrev pub text_of : List ℕ → Part → List ℕ
text_of bytes part = take (part.to - part.from) (drop part.from bytes)

-- a section has no more than so many bytes, and its first line a number of a job with so many
pub record HasPlace (size : ℕ) (text : List ℕ) (line : ℕ) : Type 0 where
  pub short : length text ≤ size
  pub some : 1 ≤ line
  pub few : line ≤ size + 1

-- the shape and the layout that are built
abbrev pub is_unrolled : Shape → Bool
is_unrolled Unrolled = true
is_unrolled Looped = false

abbrev pub lies_in_words : Layout → Bool
lies_in_words Words = true
lies_in_words Packed = false

-- all that a job asks for is built: code without loops, a word of RAM for each location, and the first revision of the machine
abbrev pub is_built : JobState → Bool
is_built job = is_unrolled job.shape && (lies_in_words job.layout && (job.revision == REVISION))

-- what an end of reading is here: the first line at fault refuses the job
abbrev pub reading_end : ReadingEnd → JobEnd
reading_end (reading_ends.Fault fault line) = Refused (BadJob fault line)
reading_end reading_ends.NoMemory = NoMemory

-- a job that was read, where it is built
abbrev pub if_built : Result JobState FaultyLine → Result JobState Refusal
if_built (Err faulty) = Err (BadJob faulty.fault faulty.line)
if_built (Ok job) = if is_built job then Ok job else Err NotBuilt

-- the job that bytes are for a mode; or its refusal, by its first line at fault or for what isn't built
unfoldable pub built_job : Mode → List ℕ → Result JobState Refusal
built_job which bytes = if_built (job_of which bytes)

-- what is found of a job
abbrev pub of_job : {A : Type 0} → (JobState → Result A JobEnd) → Result JobState Refusal → Result A JobEnd
of_job f (Ok job) = f job
of_job f (Err refusal) = Err (Refused refusal)
