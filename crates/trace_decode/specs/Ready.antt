-- What lines are written with.
use Rattle.std.specs.Prelude.{◌≡◌, ℕ, ◌+◌, ◌≤◌, length, vec_capacity}
use Rattle.std.specs.List.{AllByRecursion}
use Rattle.asm_names.specs.declared.program.Resolved.{Resolved}
use Rattle.asm_ranges.specs.Values.{State}
use Rattle.fault_script.specs.StateText.{state_text}
use Rattle.model_run.specs.Running.{AreLowest, StateFits}
use Rattle.round_spec.specs.Round.{Compiled}
use Rattle.rv_machine.specs.Hart.{HartState}
use Rattle.rv_machine.specs.Run.{FeedState}
use Rattle.state_layout.specs.Map.{state_end}
use Rattle.state_space.specs.Locations.{signatures_of}
use Rattle.state_space.specs.Sizes.{IsSized}
use Rattle.trace_decode.specs.Play.{Standing}
use Rattle.trace_decode.specs.declared.desk.Desk.{Desk}
use Rattle.trace_decode.specs.declared.desk.Progress.{Progress}

-- where a play stands, by what the code has of it
abbrev pub standing : HartState → FeedState → Progress → Standing
standing m feed progress = record { hart = m; feed = feed; time = progress.time; heads = progress.heads }

-- the map is the program's and lies inside RAM, which has so many bytes
pub record IsMapped (size : ℕ) (program : Resolved) (built : Compiled) : Type 0 where
  pub map : built.map.signatures ≡ signatures_of program
  pub inside : state_end built.map ≤ size
  pub sized : AllByRecursion IsSized (signatures_of program)

-- there is a state of the program, the least inputs, and room for each line
pub record IsReady (program : Resolved) (desk : Desk) : Type 0 where
  pub lowest : AreLowest (signatures_of program) desk.lowest
  pub state : StateFits program desk.state
  pub room : (state : State) → StateFits program state → length (state_text program state) + 64 ≤ vec_capacity desk.line
