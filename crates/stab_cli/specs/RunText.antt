-- The text that `run` writes: the report of an image, and behind it the trace of its play on the hart.
use Rattle.std.specs.Prelude.{◌≡◌, ℕ, ◌≤◌, List, ◌++◌, Ok}
use Rattle.asm_names.specs.Resolving.{Resolves}
use Rattle.asm_names.specs.declared.program.Resolved.{Resolved}
use Rattle.exec_run.specs.ExecText.{start_of}
use Rattle.fault_script.specs.Faults.{AreFaults}
use Rattle.fault_script.specs.declared.event.Event.{Event}
use Rattle.fault_script.specs.declared.event.Timed.{Timed}
use Rattle.job_text.specs.{Jobs.{JobState}, Start.{hart_of}}
use Rattle.job_text.specs.declared.mode.Mode.TheVariants as modes
use Rattle.round_spec.specs.Round.{Compiled}
use Rattle.trace_decode.specs.Budget.{budget_of, most}
use Rattle.trace_decode.specs.Convergence.{BecomesLegal}
use Rattle.fault_script.specs.Standings.{Standing, started}
use Rattle.trace_decode.specs.Play.{Play}
use Rattle.trace_decode.specs.Stretches.{KeepsBounds}
use Rattle.trace_decode.specs.TraceText.{trace_text}
use Rattle.stab_cli.specs.BuiltJob.{built_job}
use Rattle.stab_cli.specs.ImageText.{IsImageOf, ReportsAlone}
use Rattle.stab_cli.specs.RunJob.{IsTriedJob, Trial}
use Rattle.stab_cli.specs.declared.machine_sizes.TheConstants.{RAM_BYTES}
use Rattle.stab_cli.specs.declared.run.Run.{Run}

-- The text is the report, and behind it the trace of the one play that these faults and rounds make of the image from the start.
pub record IsReportAndTrace (report : List ℕ) (program : Resolved) (built : Compiled) (faults : List Timed) (rounds : ℕ) (start : Standing) (text : List ℕ) : Type 0 where
  pub events : List Event
  pub play : Play built.rom rounds faults start events
  pub says : text ≡ report ++ trace_text program built events start

-- Whatever faults come, the image is back at the loop head within the anchor bound, and from there goes round within the round bound, each round a step of the program; and where the source converges, the states become legal.
pub record Recovers (program : Resolved) (built : Compiled) (start : Standing) : Type 0 where
  pub bounds : KeepsBounds RAM_BYTES program built start
  pub legal : BecomesLegal RAM_BYTES program built start

-- where the play of a job starts
abbrev pub job_start : JobState → Standing
job_start job = start_of job.start.readings (hart_of job.start)

-- The text is that of a job: the report of one image, which stabilizes for the job's program and recovers from every list of faults, and the trace of its play.
pub record IsRunText (bytes text : List ℕ) : Type 0 where
  pub job : JobState
  pub read : built_job modes.Run bytes ≡ Ok job
  pub trial : Trial
  pub tried : IsTriedJob bytes job (Ok trial)
  pub numbers : Resolved
  pub resolves : Resolves trial.program numbers
  pub built : Compiled
  pub report : List ℕ
  pub image : ReportsAlone report numbers built
  pub holds : IsImageOf numbers built
  pub recovers : Recovers numbers built (job_start job)
  pub says : IsReportAndTrace report numbers built trial.faults job.rounds (job_start job) text

-- ---- what the code has of a job

-- where the play starts
abbrev pub start_in : Run → Standing
start_in run = started run.hart run.readings

-- the text is what is written while the image is played
abbrev pub IsPlayed : Run → List ℕ → Type 0
IsPlayed run = IsReportAndTrace run.report run.program run.image run.faults run.rounds (start_in run)

-- The image stabilizes, and the play is over within the ticks that a trace may take.
pub record IsPlayable (run : Run) : Type 0 where
  pub holds : IsImageOf run.program run.image
  pub faults : AreFaults RAM_BYTES run.faults
  pub budget : budget_of run.image.needs run.faults run.rounds ≤ most

-- It can be played, and what is written then is the text of the job.
pub record IsRightRun (bytes : List ℕ) (run : Run) : Type 0 where
  pub texts : (text : List ℕ) → IsPlayed run text → IsRunText bytes text
  pub ready : IsPlayable run
