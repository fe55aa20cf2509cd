-- What was written and counted, and what is left to see, an event further.
use Rattle.std.proofs.Common.{◌≡◌, ℕ, suc, ◌+◌, ◌-◌, ◌<◌, ◌≤◌, drop, true, false, Some, None, List, ◌∷◌, ◌++◌, length, sym, ap, ◌∙◌, subst, append_assoc, refl, arith}
use Rattle.rv_machine.specs.Hart.{HartState}
use Rattle.rv_machine.specs.Run.{left_by, offered, ports_taken}
use Rattle.rv_machine.specs.Shown.{shown}
use Rattle.rv_machine.specs.Tick.{Event, Quiet, Took, Sent, Trapped, tick}
use Rattle.fault_script.specs.Standings.{Standing, reached, ticked}
use Rattle.fault_script.specs.declared.event.Event.TheVariants.{Tick}
use Rattle.fault_script.specs.declared.event.Timed.{Timed}
use Rattle.rv_machine.specs.declared.machine.Ticked.{Ticked}
use Rattle.exec_run.specs.ExecText.{due, end_of, later, run_events, send_line, send_lines, shown_by, start_of, traps}
use Rattle.exec_run.specs.Striking.{struck_all}
use Rattle.exec_run.proofs.Striking.{AreStruck, StruckBy, struck}
use Rattle.text_core.specs.WrittenLines.{ended, lines_text}

-- after so many ticks, with the events that are left and what was counted, the text behind `before` is that of those ticks
pub record Counted (all : List Event) (before : List ℕ) (made : ℕ) (out : List ℕ) (rest : List Event) (trapped took : ℕ) : Type 0 where
  pub lines : out ++ lines_text (send_lines (made + 1) rest) ≡ before ++ lines_text (send_lines 1 all)
  pub traps : trapped + traps rest ≡ traps all
  pub taken : took + length (ports_taken rest) ≡ length (ports_taken all)
  pub few_traps : trapped ≤ made
  pub few_taken : took ≤ made

module _ (all : List Event) (before : List ℕ) (made : ℕ) (out : List ℕ) (rest : List Event) (trapped taken : ℕ) where
  abbrev From : Event → Type 0
  From event = Counted all before made out (event ∷ rest) trapped taken

  counted-quiet : From Quiet → Counted all before (made + 1) out rest trapped taken
  counted-quiet r = record { lines = r.lines; traps = r.traps; taken = r.taken; few_traps = omega arith; few_taken = omega arith }

  counted-took : (port : ℕ) → From (Took port) → Counted all before (made + 1) out rest trapped (taken + 1)
  counted-took port r = record { lines = r.lines; traps = r.traps; taken = omega arith; few_traps = omega arith; few_taken = omega arith }

  counted-sent : (port word : ℕ) → From (Sent port word) → Counted all before (made + 1) (out ++ ended (send_line (made + 1) port word)) rest trapped taken
  counted-sent port word r = record {
    lines = append_assoc out (ended (send_line (made + 1) port word)) (lines_text (send_lines (made + 1 + 1) rest)) ∙ r.lines;
    traps = r.traps;
    taken = r.taken;
    few_traps = omega arith;
    few_taken = omega arith;
  }

  counted-trapped : From Trapped → Counted all before (made + 1) out rest (trapped + 1) taken
  counted-trapped r = record { lines = r.lines; traps = omega arith; taken = r.taken; few_traps = omega arith; few_taken = omega arith }

took-event : (event : Event) (ticked : Ticked) → ticked ≡ shown event → ticked.took ≡ true → (port : ℕ) × (event ≡ Took port)
took-event Quiet ticked e took = absurd cc
took-event (Took port) ticked e took = (port, refl)
took-event (Sent port word) ticked e took = absurd cc
took-event Trapped ticked e took = absurd cc

trapped-event : (event : Event) (ticked : Ticked) → ticked ≡ shown event → ticked.trapped ≡ true → event ≡ Trapped
trapped-event Quiet ticked e trap = absurd cc
trapped-event (Took port) ticked e trap = absurd cc
trapped-event (Sent port word) ticked e trap = absurd cc
trapped-event Trapped ticked e trap = refl

sent-event : (event : Event) (ticked : Ticked) (port word : ℕ) → ticked ≡ shown event → ticked.sent ≡ Some (record { 0 = port; 1 = word }) → event ≡ Sent port word
sent-event Quiet ticked port word e sent = absurd cc
sent-event (Took p) ticked port word e sent = absurd cc
sent-event (Sent p w) ticked port word e sent =
    let pair : ℕ → ℕ → ℕ × ℕ = λ x y. (x, y) in
    let same : pair p w ≡ pair port word = cc in
    cc (ap (λ (x : ℕ × ℕ). x.0) same, ap (λ (x : ℕ × ℕ). x.1) same)
sent-event Trapped ticked port word e sent = absurd cc

quiet-event : (event : Event) (ticked : Ticked) → ticked ≡ shown event → ticked.took ≡ false → ticked.trapped ≡ false → ticked.sent ≡ None → event ≡ Quiet
quiet-event Quiet ticked e took trap sent = refl
quiet-event (Took port) ticked e took trap sent = absurd cc
quiet-event (Sent port word) ticked e took trap sent = absurd cc
quiet-event Trapped ticked e took trap sent = absurd cc

-- the ticks of a run of the script from the start, and what they show
abbrev all_shown : List ℕ → ℕ → List Timed → List ℕ → HartState → List Event
all_shown rom ticks script readings start = shown_by rom (run_events ticks 0 script) (start_of readings start)

-- so many of the ticks are made, and the others go on from here, with these faults
pub record Running (size : ℕ) (rom : List ℕ) (ticks : ℕ) (script : List Timed) (readings : List ℕ) (start : HartState) (before : List ℕ) (made : ℕ) (out : List ℕ) (faults : List Timed) (left : List ℕ) (m : HartState) (trapped took reading : ℕ) : Type 0 where
  pub standing : Standing
  pub here : standing.hart ≡ m
  pub unread : standing.feed.left ≡ left
  pub counted : Counted (all_shown rom ticks script readings start) before made out (shown_by rom (run_events (ticks - made) made faults) standing) trapped took
  pub end : (reached rom (run_events (ticks - made) made faults) standing).hart ≡ end_of rom ticks script readings start
  pub next_reading : reading ≡ offered left
  pub are_faults : AreStruck size faults

-- no tick is made yet
pub none-made : (size : ℕ) (rom : List ℕ) (ticks : ℕ) (script : List Timed) (readings : List ℕ) (start : HartState) (before : List ℕ) (reading : ℕ) → reading ≡ offered readings → AreStruck size script
    → Running size rom ticks script readings start before 0 before script readings start 0 0 reading
none-made size rom ticks script readings start before reading gives are =
    let all : ticks ≡ ticks - 0 = omega arith in
    record {
      standing = start_of readings start;
      here = refl;
      unread = refl;
      counted = subst (λ n. Counted (all_shown rom ticks script readings start) before 0 before (shown_by rom (run_events n 0 script) (start_of readings start)) 0 0) all
          (record { lines = refl; traps = omega arith; taken = omega arith; few_traps = omega arith; few_taken = omega arith });
      end = ap (λ n. (reached rom (run_events n 0 script) (start_of readings start)).hart) (sym all);
      next_reading = gives;
      are_faults = are;
    }

-- one tick more, behind the faults that are due
module _ {size : ℕ} {rom : List ℕ} {ticks : ℕ} {script : List Timed} {readings : List ℕ} {start : HartState} {before : List ℕ} {made : ℕ} {out : List ℕ} {faults : List Timed} {left : List ℕ} {m : HartState} {trapped took reading : ℕ}
    (below : made < ticks) (r : Running size rom ticks script readings start before made out faults left m trapped took reading)
    (faults' : List Timed) (behind : faults' ≡ later made faults) (are : AreStruck size faults')
    (hit m' : HartState) (stricken : hit ≡ struck_all (due made faults) m)
    (ticked_as : Ticked) (moved : m' ≡ (tick rom reading hit).hart) (shows : ticked_as ≡ shown (tick rom reading hit).event) where
  abbrev after_faults : StruckBy rom (due made faults) r.standing
  after_faults = struck size rom made faults r.standing r.are_faults

  abbrev next : Standing
  next = ticked rom after_faults.standing

  abbrev others : List Event
  others = shown_by rom (run_events (ticks - (made + 1)) (made + 1) faults') next

  one_less : ticks - made ≡ suc (ticks - (made + 1))
  one_less = omega arith

  hit-is : after_faults.standing.hart ≡ hit
  hit-is = after_faults.hart ∙ ap (struck_all (due made faults)) r.here ∙ sym stricken

  read-is : offered after_faults.standing.feed.left ≡ reading
  read-is = ap offered (ap (λ f. f.left) after_faults.feed ∙ r.unread) ∙ sym r.next_reading

  tick-is : tick rom (offered after_faults.standing.feed.left) after_faults.standing.hart ≡ tick rom reading hit
  tick-is = ap (λ n. tick rom n after_faults.standing.hart) read-is ∙ ap (tick rom reading) hit-is

  shown-is : shown_by rom (run_events (ticks - made) made faults) r.standing ≡ (tick rom reading hit).event ∷ others
  shown-is =
      ap (λ n. shown_by rom (run_events n made faults) r.standing) one_less
      ∙ after_faults.shows (Tick ∷ run_events (ticks - (made + 1)) (made + 1) (later made faults))
      ∙ ap (λ fs. (tick rom (offered after_faults.standing.feed.left) after_faults.standing.hart).event ∷ shown_by rom (run_events (ticks - (made + 1)) (made + 1) fs) next) (sym behind)
      ∙ ap (λ t. t.event ∷ others) tick-is

  end-is : (reached rom (run_events (ticks - (made + 1)) (made + 1) faults') next).hart ≡ end_of rom ticks script readings start
  end-is =
      ap (λ fs. (reached rom (run_events (ticks - (made + 1)) (made + 1) fs) next).hart) behind
      ∙ sym (ap (λ (s : Standing). s.hart) (after_faults.reaches (Tick ∷ run_events (ticks - (made + 1)) (made + 1) (later made faults))))
      ∙ sym (ap (λ n. (reached rom (run_events n made faults) r.standing).hart) one_less) ∙ r.end

  here-is : next.hart ≡ m'
  here-is = ap (λ t. t.hart) tick-is ∙ sym moved

  unread-is : (event : Event) → (tick rom reading hit).event ≡ event → next.feed.left ≡ left_by event left
  unread-is event e =
      ap (λ t. left_by t.event after_faults.standing.feed.left) tick-is ∙ ap (λ f. left_by (tick rom reading hit).event f) (ap (λ f. f.left) after_faults.feed ∙ r.unread)
      ∙ ap (λ x. left_by x left) e

  seen : (event : Event) → (tick rom reading hit).event ≡ event
      → Counted (all_shown rom ticks script readings start) before made out (event ∷ others) trapped took
  seen event e = subst (λ es. Counted (all_shown rom ticks script readings start) before made out es trapped took) (shown-is ∙ ap (λ x. x ∷ others) e) r.counted

  running : {out' left' : List ℕ} {trapped' took' reading' : ℕ} (event : Event) → (tick rom reading hit).event ≡ event
      → Counted (all_shown rom ticks script readings start) before (made + 1) out' others trapped' took' → left' ≡ left_by event left → reading' ≡ offered left'
      → Running size rom ticks script readings start before (made + 1) out' faults' left' m' trapped' took' reading'
  running event was counted e gives = record {
    standing = next;
    here = here-is;
    unread = unread-is event was ∙ sym e;
    counted = counted;
    end = end-is;
    next_reading = gives;
    are_faults = are;
  }

  pub running-took : ticked_as.took ≡ true → (left' : List ℕ) (reading' : ℕ) → left' ≡ drop 1 left → reading' ≡ offered left'
      → Running size rom ticks script readings start before (made + 1) out faults' left' m' trapped (took + 1) reading'
  running-took t left' reading' e gives =
      let was = took-event _ ticked_as shows t in
      running (Took was.0) was.1 (counted-took _ _ _ _ _ _ _ was.0 (seen (Took was.0) was.1)) e gives

  pub running-trapped : ticked_as.trapped ≡ true → Running size rom ticks script readings start before (made + 1) out faults' left m' (trapped + 1) took reading
  running-trapped t =
      let was = trapped-event _ ticked_as shows t in
      running Trapped was (counted-trapped _ _ _ _ _ _ _ (seen Trapped was)) refl r.next_reading

  pub running-sent : (port word : ℕ) → ticked_as.sent ≡ Some (record { 0 = port; 1 = word })
      → Running size rom ticks script readings start before (made + 1) (out ++ ended (send_line (made + 1) port word)) faults' left m' trapped took reading
  running-sent port word t =
      let was = sent-event _ ticked_as port word shows t in
      running (Sent port word) was (counted-sent _ _ _ _ _ _ _ port word (seen (Sent port word) was)) refl r.next_reading

  pub running-quiet : ticked_as.took ≡ false → ticked_as.trapped ≡ false → ticked_as.sent ≡ None
      → Running size rom ticks script readings start before (made + 1) out faults' left m' trapped took reading
  running-quiet a b t =
      let was = quiet-event _ ticked_as shows a b t in
      running Quiet was (counted-quiet _ _ _ _ _ _ _ (seen Quiet was)) refl r.next_reading
