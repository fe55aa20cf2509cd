-- Faults that come one after another.
use Rattle.std.specs.Prelude.{List, [], ◌∷◌}
use Rattle.fault_script.specs.Faults.{struck}
use Rattle.fault_script.specs.declared.event.Event.{Event}
use Rattle.rv_machine.specs.Hart.{HartState}

-- the hart after each of these
abbrev pub struck_all : List Event → HartState → HartState
struck_all [] m = m
struck_all (event ∷ events) m = struck_all events (struck event m)
