-- The play of a script: it is there, it ends in time, and it is made event by event.
use Rattle.std.proofs.Common.{◌≡◌, ℕ, zero, suc, ◌+◌, ◌*◌, ◌-◌, ◌%◌, ◌<◌, ◌≤◌, List, [], ◌∷◌, refl, sym, ◌∙◌, subst, ⊎_elim, arith}
use Rattle.std.proofs.lemmas.Bool.{cases_lt}
use Rattle.asm_names.specs.declared.program.Resolved.{Resolved}
use Rattle.state_layout.specs.declared.layout.Layout.{Layout}
use Rattle.bound_count.specs.declared.shape.Shape.{Shape}
use Rattle.fault_script.specs.Faults.{AreFaultsFrom, IsFault, last_time}
use Rattle.fault_script.specs.declared.event.Event.{Event}
use Rattle.fault_script.specs.declared.event.Event.TheVariants.{Tick, Reg}
use Rattle.fault_script.specs.declared.event.Timed.{Timed}
use Rattle.fault_script.proofs.Struck.{happened-fault, valid-struck}
use Rattle.rv_machine.specs.Hart.{IsValid}
use Rattle.round_spec.specs.Round.{Compiled}
use Rattle.round_spec.specs.Stabilizes.{Stabilizes}
use Rattle.trace_decode.specs.Play.{Faulted, Onward, Over, Play, Standing, Struck, faulted, marks_by, reached, ticked}
use Rattle.trace_decode.specs.Stretches.{onward}
use Rattle.trace_decode.proofs.Bounds.{heads-from}
use Rattle.trace_decode.proofs.Standings.{onward-time, valid-onward}

-- a play from here that takes at most so many ticks
pub record Plays (rom : List ℕ) (rounds : ℕ) (faults : List Timed) (s : Standing) (latest : ℕ) : Type 0 where
  pub events : List Event
  pub play : Play rom rounds faults s events
  pub soon : (reached rom events s).time ≤ latest

-- without a fault, where so many ticks bring heads enough
plays-on : (rom : List ℕ) (rounds n : ℕ) (s : Standing) → rounds < (onward rom n s).heads → Plays rom rounds [] s (s.time + n)
plays-on rom rounds zero s h = record { events = []; play = Over h; soon = omega arith }
plays-on rom rounds (suc n) s h =
    ⊎_elim (λ (l : rounds < s.heads). record { events = []; play = Over l; soon = omega arith })
    (λ (g : s.heads ≤ rounds).
    let rest = plays-on rom rounds n (ticked rom s) h in
    let soon = rest.soon in
    record { events = Tick ∷ rest.events; play = Onward (λ due. due) (λ over. let o : rounds < s.heads = over in omega arith) rest.play; soon = omega arith })
    (cases_lt rounds s.heads)

-- the line of a fault
pub marks-fault : (size : ℕ) (fault : Event) (s : Standing) → IsFault size fault → marks_by fault s ≡ record { cause = Faulted fault; at = s } ∷ []
marks-fault size Tick s is = absurd is
marks-fault size (Reg r mask) s is = refl
marks-fault size _ s is = refl

module _ (rom_size size : ℕ) (multiple : size % 4 ≡ 0) (shape : Shape) (layout : Layout) (program : Resolved) (built : Compiled) (st : Stabilizes rom_size size shape layout program built) (rounds : ℕ) where
  abbrev rom : List ℕ
  rom = built.rom

  -- up to the last fault, then to the first head, then the rounds
  abbrev latest : ℕ → List Timed → ℕ
  latest time faults = last_time time faults + (built.needs.anchor + rounds * built.needs.round)

  -- so many ticks up to the next fault
  plays-to : (d : ℕ) (fault : Timed) (faults : List Timed) (s : Standing) → s.time + d ≡ fault.time
      → Plays rom rounds faults (faulted fault.event (onward rom d s)) (latest fault.time faults)
      → IsFault size fault.event → Plays rom rounds (fault ∷ faults) s (latest fault.time faults)
  plays-to zero fault faults s at rest is =
      let now : fault.time ≡ s.time = omega arith in
      record {
        events = fault.event ∷ rest.events;
        play = Struck now rest.play;
        soon = subst (λ (x : Standing). (reached rom rest.events x).time ≤ latest fault.time faults) (sym (happened-fault rom size fault.event s is)) rest.soon;
      }
  plays-to (suc d) fault faults s at rest is =
      let more = plays-to d fault faults (ticked rom s) (omega arith) rest is in
      record { events = Tick ∷ more.events; play = Onward (λ due. let e : fault.time ≡ s.time = due in omega arith) (λ over. over) more.play; soon = more.soon }

  pub plays : (faults : List Timed) (s : Standing) → IsValid size s.hart → AreFaultsFrom size s.time faults → Plays rom rounds faults s (latest s.time faults)
  plays [] s v f =
      let come = heads-from rom_size size multiple shape layout program built st rounds s v in
      let heads = come.heads in
      let soon = come.soon in
      let found = plays-on rom rounds come.ticks s (omega arith) in
      let within = found.soon in
      record { events = found.events; play = found.play; soon = omega arith }
  plays (fault ∷ faults) s v f =
      let d = fault.time - s.time in
      let later = f.0 in
      let at : s.time + d ≡ fault.time = omega arith in
      let there = onward rom d s in
      let valid = valid-struck size fault.event there.hart multiple f.1 (valid-onward size multiple rom st.image.words d s v) in
      let e : there.time ≡ fault.time = onward-time rom d s ∙ at in
      let next = faulted fault.event there in
      let rest = plays faults next valid (subst (λ t. AreFaultsFrom size t faults) (sym e) f.2) in
      plays-to d fault faults s at (subst (λ t. Plays rom rounds faults next (latest t faults)) e rest) f.1
