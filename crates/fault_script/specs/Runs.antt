-- What happens in so many ticks under a script.
use Rattle.std.specs.Prelude.{ℕ, zero, suc, ◌+◌, ◌==◌, List, [], ◌∷◌, ◌++◌, if◌then◌else◌}
use Rattle.fault_script.specs.declared.event.Event.{Event}
use Rattle.fault_script.specs.declared.event.Event.TheVariants.{Tick}
use Rattle.fault_script.specs.declared.event.Timed.{Timed}

-- the faults of a time that are next, and those behind them
abbrev pub due : ℕ → List Timed → List Event
due time [] = []
due time (fault ∷ faults) = if fault.time == time then fault.event ∷ due time faults else []

abbrev pub later : ℕ → List Timed → List Timed
later time [] = []
later time (fault ∷ faults) = if fault.time == time then later time faults else fault ∷ faults

-- What happens in so many ticks from this time on: at each time its faults in order, and then the next tick. Faults that are due at the end, or later, don't come about.
abbrev pub run_events : ℕ → ℕ → List Timed → List Event
run_events zero time faults = []
run_events (suc ticks) time faults = due time faults ++ Tick ∷ run_events ticks (time + 1) (later time faults)
