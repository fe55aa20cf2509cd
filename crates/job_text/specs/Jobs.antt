-- The job that a text is, or the first of its lines that is at fault.
use Rattle.std.specs.Prelude.{◌≡◌, ℕ, List, Result, Ok, Err}
use Rattle.std.specs.Option.{unwrap_or}
use Rattle.job_text.specs.JobFaults.{Draft, FaultyLine, draft_of}
use Rattle.job_text.specs.Start.{StartState, start_of}
use Rattle.job_text.specs.declared.mode.Mode.{Mode}
use Rattle.job_text.specs.declared.said.Shape.{Shape}
use Rattle.job_text.specs.declared.said.Shape.TheVariants.{Unrolled}
use Rattle.job_text.specs.declared.said.Layout.{Layout}
use Rattle.job_text.specs.declared.said.Layout.TheVariants.{Words}
use Rattle.job_text.specs.declared.parts.Part.{Part}
use Rattle.job_text.specs.declared.start.Start.{Start}
use Rattle.job_text.specs.declared.job.Job.{Job}
use Rattle.job_text.specs.declared.fault.JobEnd.{JobEnd}
use Rattle.job_text.specs.declared.fault.JobEnd.TheVariants.{Fault, NoMemory}

-- all that a job says
pub record JobState : Type 0 where
  pub shape : Shape
  pub layout : Layout
  pub revision : ℕ
  pub source : Part
  pub rom : Part
  pub script : Part
  pub start : StartState
  pub rounds : ℕ
  pub ticks : ℕ
  pub nodes : ℕ
  pub states : ℕ
  pub seed : ℕ

-- a section that isn't there
abbrev pub absent : Part
absent = record { from = 0; to = 0; line = 1 }

-- the job of these lines: what isn't said has its default
unfoldable pub finished : Mode → Draft → JobState
finished which draft = record {
  shape = unwrap_or draft.told.shape Unrolled;
  layout = unwrap_or draft.told.layout Words;
  revision = unwrap_or draft.told.revision 1;
  source = unwrap_or draft.parts.source absent;
  rom = unwrap_or draft.parts.rom absent;
  script = unwrap_or draft.parts.run absent;
  start = start_of which draft.told;
  rounds = unwrap_or draft.told.rounds 1;
  ticks = unwrap_or draft.told.ticks 1;
  nodes = draft.told.nodes;
  states = unwrap_or draft.told.states draft.told.nodes;
  seed = unwrap_or draft.told.seed 0;
}

-- the job where no line is at fault
abbrev pub if_read : Mode → Result Draft FaultyLine → Result JobState FaultyLine
if_read which (Err fault) = Err fault
if_read which (Ok draft) = Ok (finished which draft)

-- the job that a text is for a mode, or its first line at fault
unfoldable pub job_of : Mode → List ℕ → Result JobState FaultyLine
job_of which bytes = if_read which (draft_of which bytes)

-- what a start says
abbrev pub start_state : Start → StartState
start_state start = record { pc = start.pc; regs = start.regs; ram = start.ram; readings = start.readings }

-- what a job says
abbrev pub job_state : Job → JobState
job_state job = record {
  shape = job.shape;
  layout = job.layout;
  revision = job.revision;
  source = job.source;
  rom = job.rom;
  script = job.script;
  start = start_state job.start;
  rounds = job.rounds;
  ticks = job.ticks;
  nodes = job.nodes;
  states = job.states;
  seed = job.seed;
}

-- what is answered is the job, or exactly its first fault; want of memory says nothing
abbrev pub IsJob : Result Job JobEnd → Result JobState FaultyLine → Type 0
IsJob (Ok job) given = given ≡ Ok (job_state job)
IsJob (Err (Fault fault line)) given = given ≡ Err (record { fault = fault; line = line })
IsJob (Err NoMemory) given = Unit {0}
