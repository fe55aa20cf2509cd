-- Where a play stands: what happens to a hart tick by tick and fault by fault.
use Rattle.std.specs.Prelude.{ℕ, ◌+◌, ◌^◌, ◌==◌, min, length, List, [], ◌∷◌, if◌then◌else◌}
use Rattle.fault_script.specs.Faults.{struck}
use Rattle.fault_script.specs.declared.event.Event.{Event}
use Rattle.fault_script.specs.declared.event.Event.TheVariants.{Tick}
use Rattle.rv_machine.specs.Hart.{HartState}
use Rattle.rv_machine.specs.Run.{FeedState, left_by, offered, ports_taken}
use Rattle.rv_machine.specs.Tick.{Event as Shown, Ticks, tick}

-- the hart, the readings, the ticks made so far, and how many head lines came since the start and since the last fault
pub record Standing : Type 0 where
  pub hart : HartState
  pub feed : FeedState
  pub time : ℕ
  pub heads : ℕ

-- one head line more where the hart stands at the loop head
abbrev pub counted : HartState → ℕ → ℕ
counted m heads = if m.pc == 0 then heads + 1 else heads

-- the start: where pc is 0, a head line is written
abbrev pub started : HartState → FeedState → Standing
started m feed = record { hart = m; feed = feed; time = 0; heads = counted m 0 }

-- the readings after what a tick showed
abbrev pub fed : Shown → FeedState → FeedState
fed shown feed = record { left = left_by shown feed.left; used = min (feed.used + length (ports_taken (shown ∷ []))) (2 ^ 62) }

-- after what a tick made: where pc is 0 then, a head line is written
abbrev pub moved : Ticks → Standing → Standing
moved t s = record { hart = t.hart; feed = fed t.event s.feed; time = s.time + 1; heads = counted t.hart s.heads }

-- after a tick
abbrev pub ticked : List ℕ → Standing → Standing
ticked rom s = moved (tick rom (offered s.feed.left) s.hart) s

-- after a fault: the next head line is the first since it
abbrev pub faulted : Event → Standing → Standing
faulted fault s = record { hart = struck fault s.hart; feed = s.feed; time = s.time; heads = 0 }

-- after an event
abbrev pub happened : List ℕ → Event → Standing → Standing
happened rom Tick s = ticked rom s
happened rom fault s = faulted fault s

-- after all events of a list
abbrev pub reached : List ℕ → List Event → Standing → Standing
reached rom [] s = s
reached rom (event ∷ events) s = reached rom events (happened rom event s)
