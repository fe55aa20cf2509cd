-- The play of a script is a run of so many ticks under it.
use Rattle.std.proofs.Common.{◌≡◌, ℕ, zero, suc, ◌+◌, ◌<◌, List, [], ◌∷◌, refl, ap, ◌∙◌, arith}
use Rattle.std.proofs.lemmas.Bool.{eq-eqb, ne_eqb}
use Rattle.fault_script.specs.Faults.{AreFaults, AreFaultsFrom}
use Rattle.fault_script.specs.Runs.{due, later, run_events}
use Rattle.fault_script.specs.declared.event.Event.{Event}
use Rattle.fault_script.specs.declared.event.Event.TheVariants.{Tick}
use Rattle.fault_script.specs.declared.event.Timed.{Timed}
use Rattle.fault_script.proofs.Struck.{happened-fault}
use Rattle.rv_machine.specs.Hart.{HartState}
use Rattle.rv_machine.specs.Run.{FeedState}
use Rattle.trace_decode.specs.Play.{IsDue, Onward, Over, Play, Standing, Struck, reached, started, ticked}

-- The events are those of so many ticks from here on. There is one where the play is not over yet.
record IsRun (rom : List ℕ) (faults : List Timed) (s : Standing) (events : List Event) : Type 0 where
  ticks : ℕ
  same : events ≡ run_events ticks s.time faults
  time : (reached rom events s).time ≡ s.time + ticks
  some : s.heads ≡ 0 → 0 < ticks

-- a fault that is due comes before the first of some ticks
fault-first : (ticks time : ℕ) (fault : Timed) (faults : List Timed) → 0 < ticks → fault.time ≡ time → fault.event ∷ run_events ticks time faults ≡ run_events ticks time (fault ∷ faults)
fault-first zero time fault faults some at = absurd (omega arith)
fault-first (suc ticks) time fault faults some at = rw (eq-eqb fault.time time at) refl

-- where no fault is due, the first event is a tick
tick-first : (ticks : ℕ) (faults : List Timed) (s : Standing) → (IsDue faults s → ⊥) → Tick ∷ run_events ticks (s.time + 1) faults ≡ run_events (suc ticks) s.time faults
tick-first ticks [] s none = refl
tick-first ticks (fault ∷ faults) s none = rw (ne_eqb fault.time s.time none) refl

play-runs : {rom : List ℕ} {rounds : ℕ} {faults : List Timed} {s : Standing} {events : List Event} (size time : ℕ) → AreFaultsFrom size time faults → Play rom rounds faults s events → IsRun rom faults s events
play-runs size time are (Over heads) = record { ticks = 0; same = refl; time = omega arith; some = λ none. absurd (omega arith) }
play-runs {rom = rom} size time are (Struck {fault = fault} {faults = faults} {s = s} {events = events} at play) =
    let r = play-runs size fault.time are.2 play in
    let some = r.some refl in
    record {
      ticks = r.ticks;
      same = ap (λ es. fault.event ∷ es) r.same ∙ fault-first r.ticks s.time fault faults some at;
      time = ap (λ (x : Standing). (reached rom events x).time) (happened-fault rom size fault.event s are.1) ∙ r.time;
      some = λ none. some;
    }
play-runs {rom = rom} size time are (Onward {faults = faults} {s = s} none over play) =
    let r = play-runs size time are play in
    let at = r.time in
    record { ticks = suc r.ticks; same = ap (λ es. Tick ∷ es) r.same ∙ tick-first r.ticks faults s none; time = omega arith; some = λ none. omega arith }

pub play-is-run : (rom : List ℕ) (rounds size : ℕ) (script : List Timed) (m : HartState) (feed : FeedState) (events : List Event) → AreFaults size script → Play rom rounds script (started m feed) events
    → events ≡ run_events (reached rom events (started m feed)).time 0 script
play-is-run rom rounds size script m feed events are play =
    let r = play-runs size 0 are play in
    r.same ∙ ap (λ n. run_events n 0 script) (omega (arith, r.time))
