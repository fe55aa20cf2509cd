-- Laws of plays of images that stabilize.
use Rattle.std.specs.Prelude.{◌≡◌, ℕ, ◌≤◌, List}
use Rattle.std.specs.List.{AllByRecursion}
use Rattle.asm_names.specs.declared.program.Resolved.{Resolved}
use Rattle.fault_script.specs.Faults.{AreFaults}
use Rattle.fault_script.specs.Runs.{run_events}
use Rattle.fault_script.specs.declared.event.Event.{Event}
use Rattle.fault_script.specs.declared.event.Timed.{Timed}
use Rattle.round_spec.specs.Round.{Compiled}
use Rattle.round_spec.specs.Stabilizes.{IsStable}
use Rattle.rv_machine.specs.Hart.{HartState, IsValid}
use Rattle.rv_machine.specs.Memory.{IsMemorySize}
use Rattle.rv_machine.specs.Run.{FeedState}
use Rattle.state_space.specs.Locations.{signatures_of}
use Rattle.state_space.specs.Sizes.{IsSized}
use Rattle.trace_decode.specs.Budget.{budget_of}
use Rattle.trace_decode.specs.Convergence.{BecomesLegal}
use Rattle.trace_decode.specs.Play.{Play, Standing, reached, started}
use Rattle.trace_decode.specs.Stretches.{KeepsBounds}

-- whatever faults come, heads and rounds come within the bounds
abbrev pub PlaysKeepBounds : Type 0
PlaysKeepBounds =
    (rom_size size : ℕ) (program : Resolved) (built : Compiled) (start : Standing) → IsMemorySize size → IsStable rom_size size program built → IsValid size start.hart
    → KeepsBounds size program built start

-- where the source converges, the states of rounds without a fault between become legal
abbrev pub PlaysBecomeLegal : Type 0
PlaysBecomeLegal =
    (rom_size size : ℕ) (program : Resolved) (built : Compiled) (start : Standing) → IsMemorySize size → IsStable rom_size size program built → IsValid size start.hart
    → AllByRecursion IsSized (signatures_of program) → BecomesLegal size program built start

-- the play of each script is there, and ends within the budget
abbrev pub PlaysEnd : Type 0
PlaysEnd =
    (rom_size size : ℕ) (program : Resolved) (built : Compiled) (script : List Timed) (rounds : ℕ) (m : HartState) (feed : FeedState)
    → IsMemorySize size → IsStable rom_size size program built → IsValid size m → AreFaults size script
    → (events : List Event) × Play built.rom rounds script (started m feed) events × ((reached built.rom events (started m feed)).time ≤ budget_of built.needs script rounds)

-- a script has no other play from a start
abbrev pub PlaysAreUnique : Type 0
PlaysAreUnique =
    (rom : List ℕ) (rounds : ℕ) (script : List Timed) (start : Standing) (events others : List Event) → Play rom rounds script start events → Play rom rounds script start others
    → events ≡ others

-- the play of a script is what happens under it in as many ticks as the play takes
abbrev pub PlaysAreRuns : Type 0
PlaysAreRuns =
    (rom : List ℕ) (rounds size : ℕ) (script : List Timed) (m : HartState) (feed : FeedState) (events : List Event) → AreFaults size script → Play rom rounds script (started m feed) events
    → events ≡ run_events (reached rom events (started m feed)).time 0 script
