-- Plays: which lines are due in them, and which is the play of a script.
use Rattle.std.specs.Prelude.{◌≡◌, ℕ, ◌<◌, ◌==◌, List, [], ◌∷◌, ◌++◌, if◌then◌else◌}
use Rattle.fault_script.specs.declared.event.Event.{Event}
use Rattle.fault_script.specs.declared.event.Event.TheVariants.{Tick}
use Rattle.fault_script.specs.declared.event.Timed.{Timed}
pub use Rattle.fault_script.specs.Standings.{Standing, counted, started, fed, moved, ticked, faulted, happened, reached}

-- ---- what is said of it: one mark for each line of the trace

-- why a line is written: the hart stands at the loop head, a fault came, or the play is at its end
pub data Cause : Type 0 where
  AtHead : Cause
  Faulted : (fault : Event) → Cause
  AtEnd : Cause

-- a line that is due, and where the play stands then
pub record Mark : Type 0 where
  pub cause : Cause
  pub at : Standing

-- where the hart stands at the loop head, a head line is due
abbrev pub head_marks : Standing → List Mark
head_marks s = if s.hart.pc == 0 then record { cause = AtHead; at = s } ∷ [] else []

-- what is due after an event: after a tick that leaves pc at 0 a head line, and after a fault its line
abbrev pub marks_by : Event → Standing → List Mark
marks_by Tick s = head_marks s
marks_by fault s = record { cause = Faulted fault; at = s } ∷ []

-- what is due after the events of a list, in order
abbrev pub marks_of : List ℕ → List Event → Standing → List Mark
marks_of rom [] s = []
marks_of rom (event ∷ events) s = marks_by event (happened rom event s) ++ marks_of rom events (happened rom event s)

-- what is due from the start to the end
abbrev pub marks : List ℕ → List Event → Standing → List Mark
marks rom events s = head_marks s ++ (marks_of rom events s ++ record { cause = AtEnd; at = reached rom events s } ∷ [])

-- ---- the play of a script

-- a fault is due: it is the next one, and its time is now
abbrev pub IsDue : List Timed → Standing → Type 0
IsDue [] s = ⊥
IsDue (fault ∷ faults) s = fault.time ≡ s.time

-- all faults were applied, and then a head line and so many more came
abbrev pub IsOver : ℕ → List Timed → Standing → Type 0
IsOver rounds [] s = rounds < s.heads
IsOver rounds (fault ∷ faults) s = ⊥

-- These events are the play of these faults from here on, up to so many rounds. At each time its faults come, in order; then comes the next tick, until the play is over.
pub data Play (rom : List ℕ) (rounds : ℕ) : List Timed → Standing → List Event → Type 0 where
  Over : {s : Standing} → rounds < s.heads → Play rom rounds [] s []
  Struck : {fault : Timed} {faults : List Timed} {s : Standing} {events : List Event}
      → fault.time ≡ s.time → Play rom rounds faults (faulted fault.event s) events → Play rom rounds (fault ∷ faults) s (fault.event ∷ events)
  Onward : {faults : List Timed} {s : Standing} {events : List Event}
      → (IsDue faults s → ⊥) → (IsOver rounds faults s → ⊥) → Play rom rounds faults (ticked rom s) events → Play rom rounds faults s (Tick ∷ events)
