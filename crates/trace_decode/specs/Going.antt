-- A play on its way: what was done and written, and what is still to come.
use Rattle.std.specs.Prelude.{◌≡◌, ℕ, ◌+◌, ◌<◌, ◌≤◌, List, [], ◌∷◌, ◌++◌}
use Rattle.std.specs.declared.option.Option.{Option}
use Rattle.std.specs.Io.KnownBytes.{Appends}
use Rattle.asm_names.specs.declared.program.Resolved.{Resolved}
use Rattle.fault_script.specs.Faults.{last_time}
use Rattle.fault_script.specs.declared.event.Event.{Event}
use Rattle.fault_script.specs.declared.event.Timed.{Timed}
use Rattle.round_spec.specs.Round.{Compiled}
use Rattle.rv_machine.specs.Hart.{HartState}
use Rattle.rv_machine.specs.Run.{FeedState}
use Rattle.trace_decode.specs.Play.{Play, Standing, head_marks, marks_of, reached, started}
use Rattle.trace_decode.specs.TraceText.{text_of}
use Rattle.trace_decode.specs.Tracing.{IsCutOff, IsTraced}

-- which trace is written: with which faults and how many rounds, from which start, behind which bytes, and when it is over at the latest
pub record Job : Type 0 where
  pub script : List Timed
  pub rounds : ℕ
  pub start : Standing
  pub held : Option (List ℕ)
  pub latest : ℕ

-- the trace of a script from this hart and these readings on, whose rounds come within so many ticks behind the last fault
abbrev pub job_from : List Timed → ℕ → HartState → FeedState → Option (List ℕ) → ℕ → Job
job_from script rounds m feed held limit = record { script = script; rounds = rounds; start = started m feed; held = held; latest = last_time 0 script + limit }

-- With these faults left the play stands here. What was due so far is out.
pub record IsGoing (program : Resolved) (built : Compiled) (job : Job) (faults : List Timed) (s : Standing) (now : Option (List ℕ)) : Type 0 where
  pub done : List Event
  pub rest : List Event
  pub play : Play built.rom job.rounds job.script job.start (done ++ rest)
  pub later : Play built.rom job.rounds faults s rest
  pub here : reached built.rom done job.start ≡ s
  pub text : Appends job.held now (text_of program built (head_marks job.start ++ marks_of built.rom done job.start))
  pub soon : (reached built.rom rest s).time ≤ job.latest

-- a line that is due did not go out whole
abbrev pub IsCut : Resolved → Compiled → Job → HartState → FeedState → Option (List ℕ) → Type 0
IsCut program built job m feed now = IsCutOff program built job.script job.rounds job.start job.held now m feed

-- the trace is out
abbrev pub IsDone : Resolved → Compiled → Job → HartState → FeedState → ℕ → Option (List ℕ) → Type 0
IsDone program built job m feed ticks now = IsTraced program built job.script job.rounds job.start job.held now m feed ticks

-- Where a fault at this time is next, a play goes on from one standing to another, or a line that is due between them did not go out whole.
abbrev pub GoesUpTo : Resolved → Compiled → ℕ → Standing → Option (List ℕ) → Standing → Option (List ℕ) → Type 0
GoesUpTo program built time s now s' now' =
    (job : Job) (fault : Timed) (faults : List Timed) → fault.time ≡ time → IsGoing program built job (fault ∷ faults) s now → IsGoing program built job (fault ∷ faults) s' now'

abbrev pub CutsUpTo : Resolved → Compiled → ℕ → Standing → Option (List ℕ) → Standing → Option (List ℕ) → Type 0
CutsUpTo program built time s now s' now' =
    (job : Job) (fault : Timed) (faults : List Timed) → fault.time ≡ time → IsGoing program built job (fault ∷ faults) s now → IsCut program built job s'.hart s'.feed now'

-- the same where no fault is left, until enough head lines came
abbrev pub GoesOut : Resolved → Compiled → ℕ → ℕ → Standing → Option (List ℕ) → Standing → Option (List ℕ) → Type 0
GoesOut program built rounds limit s now s' now' =
    (job : Job) → job.rounds ≡ rounds → job.latest ≤ s.time + limit → IsGoing program built job [] s now → IsGoing program built job [] s' now' × (rounds < s'.heads)

abbrev pub CutsOut : Resolved → Compiled → ℕ → ℕ → Standing → Option (List ℕ) → Standing → Option (List ℕ) → Type 0
CutsOut program built rounds limit s now s' now' =
    (job : Job) → job.rounds ≡ rounds → job.latest ≤ s.time + limit → IsGoing program built job [] s now → IsCut program built job s'.hart s'.feed now'
