-- What a call that writes a trace does.
use Rattle.std.specs.Prelude.{◌≡◌, ℕ, List, [], ◌∷◌, ◌++◌}
use Rattle.std.specs.declared.option.Option.{Option}
use Rattle.std.specs.Io.KnownBytes.{Appends}
use Rattle.asm_names.specs.declared.program.Resolved.{Resolved}
use Rattle.fault_script.specs.declared.event.Event.{Event}
use Rattle.fault_script.specs.declared.event.Timed.{Timed}
use Rattle.round_spec.specs.Round.{Compiled}
use Rattle.rv_machine.specs.Hart.{HartState}
use Rattle.rv_machine.specs.Run.{FeedState}
use Rattle.stab_io.specs.Pieces.{IsProperFront}
use Rattle.text_core.specs.WrittenLines.{ended}
use Rattle.trace_decode.specs.Play.{Mark, Play, Standing, marks, reached}
use Rattle.trace_decode.specs.TraceText.{line_of, text_of, trace_text}

-- The whole trace of the play from the start is out, and hart and readings are those at its end, after so many ticks.
pub record IsTraced (program : Resolved) (built : Compiled) (script : List Timed) (rounds : ℕ) (start : Standing) (held held' : Option (List ℕ)) (left : HartState) (unread : FeedState) (made : ℕ) : Type 0 where
  pub events : List Event
  pub play : Play built.rom rounds script start events
  pub text : Appends held held' (trace_text program built events start)
  pub hart : left ≡ (reached built.rom events start).hart
  pub feed : unread ≡ (reached built.rom events start).feed
  pub ticks : made ≡ (reached built.rom events start).time

-- A line of the trace did not go out whole: all lines before it are out, and of it a front that is not all of it. The hart and the readings are those that the play has where this line is due.
pub record IsCutOff (program : Resolved) (built : Compiled) (script : List Timed) (rounds : ℕ) (start : Standing) (held held' : Option (List ℕ)) (left : HartState) (unread : FeedState) : Type 0 where
  pub events : List Event
  pub play : Play built.rom rounds script start events
  pub before : List Mark
  pub cut : Mark
  pub later : List Mark
  pub due : marks built.rom events start ≡ before ++ cut ∷ later
  pub part : List ℕ
  pub begins : IsProperFront (ended (line_of program built cut)) part
  pub text : Appends held held' (text_of program built before ++ part)
  pub hart : left ≡ cut.at.hart
  pub feed : unread ≡ cut.at.feed

-- The one line that is due did not go out whole: a front of it is out that is not all of it.
pub record IsPartly (program : Resolved) (built : Compiled) (due : List Mark) (held held' : Option (List ℕ)) : Type 0 where
  pub cut : Mark
  pub only : due ≡ cut ∷ []
  pub part : List ℕ
  pub begins : IsProperFront (ended (line_of program built cut)) part
  pub text : Appends held held' part
