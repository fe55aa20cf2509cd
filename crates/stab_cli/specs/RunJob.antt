-- Jobs for `run`: a source, and the play of its image from a start and under faults.
use Rattle.std.specs.Prelude.{◌≡◌, ℕ, ◌^◌, min, nat_le, List, Result, Ok, Err, if◌then◌else◌}
use Rattle.asm_names.specs.Resolving.{Resolves}
use Rattle.asm_names.specs.declared.program.Resolved.{Resolved}
use Rattle.asm_tree.specs.Programs.{Parts}
use Rattle.bound_count.specs.Numbers.{numbers_of}
use Rattle.bound_count.specs.declared.shape.Shape.TheVariants.{Unrolled}
use Rattle.fault_script.specs.declared.event.Timed.{Timed}
use Rattle.job_text.specs.Jobs.{JobState}
use Rattle.job_text.specs.declared.mode.Mode.TheVariants.{Run}
use Rattle.state_layout.specs.declared.layout.Layout.TheVariants.{Words}
use Rattle.stab_cli.specs.BuiltJob.{built_job}
use Rattle.stab_cli.specs.CompileVerdict.{IsBuiltSource}
use Rattle.stab_cli.specs.JobFaults.{job_faults}
use Rattle.stab_cli.specs.Stages.{Is, IsVerdictBy, Then}
use Rattle.stab_cli.specs.Verdict.{Verdict}
use Rattle.stab_cli.specs.declared.outcome.WriteEnd.{WriteEnd}
use Rattle.stab_cli.specs.declared.outcome.WriteEnd.TheVariants as write_ends
use Rattle.stab_cli.specs.declared.refusal.Refusal.{Refusal}
use Rattle.stab_cli.specs.declared.refusal.Refusal.TheVariants.{TooManyTicks}
use Rattle.trace_decode.specs.Budget.{budget_of, most}
use Rattle.trace_decode.specs.declared.tracing.TraceEnd.{TraceEnd}
use Rattle.trace_decode.specs.declared.tracing.TraceEnd.TheVariants as trace_ends

-- a program, and the faults that come while its image runs
pub record Trial : Type 0 where
  pub program : Parts
  pub faults : List Timed

-- a play that takes so many ticks at most may be made, or takes too many
abbrev pub trial_found : Trial → ℕ → Result Trial Refusal
trial_found trial ticks = if nat_le ticks most then Ok trial else Err (TooManyTicks (min ticks (2 ^ 62)))

-- The play of a program's image, with so many rounds behind the last fault, is over within the ticks that a trace may take.
pub record IsWithinBudget (rounds : ℕ) (trial : Trial) (found : Result Trial Refusal) : Type 0 where
  pub numbers : Resolved
  pub resolves : Resolves trial.program numbers
  pub says : found ≡ trial_found trial (budget_of (numbers_of Unrolled Words numbers) trial.faults rounds)

-- the faults come to a program's image
abbrev pub IsTrialOf : ℕ → List Timed → Parts → Result Trial Refusal → Type 0
IsTrialOf rounds faults program = IsWithinBudget rounds (record { program = program; faults = faults })

-- The faults of a job are judged, and then its ticks.
abbrev pub IsPlayOf : List ℕ → JobState → Parts → Result Trial Refusal → Type 0
IsPlayOf bytes job program = Then (Is (job_faults bytes job)) (λ faults. IsTrialOf job.rounds faults program)

-- A job that was read is judged: its source and what its program needs, its faults, its ticks.
abbrev pub IsTriedJob : List ℕ → JobState → Result Trial Refusal → Type 0
IsTriedJob bytes job = Then (IsBuiltSource bytes job) (IsPlayOf bytes job)

-- A job for `run` is judged.
abbrev pub IsTried : List ℕ → Result Trial Refusal → Type 0
IsTried bytes = Then (Is (built_job Run bytes)) (IsTriedJob bytes)

-- It is accepted where it passes all stages.
abbrev pub IsRunVerdict : List ℕ → Verdict → Type 0
IsRunVerdict bytes = IsVerdictBy (IsTried bytes)

-- what an end of a trace is here
abbrev pub trace_end : TraceEnd → WriteEnd
trace_end trace_ends.WriteFault = write_ends.WriteFault
trace_end trace_ends.NoMemory = write_ends.NoMemory
