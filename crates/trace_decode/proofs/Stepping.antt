-- A play on its way, event by event.
use Rattle.std.proofs.Common.{◌≡◌, ◌≢◌, ℕ, ◌+◌, ◌<◌, ◌≤◌, List, [], ◌∷◌, ◌++◌, append_assoc, length, refl, sym, ap, ◌∙◌, subst, ⊎_elim, map, Bool, true, false, Result, Ok, Err, arith}
use Rattle.std.specs.Prelude.{OnErr}
use Rattle.std.proofs.lemmas.Bool.{cases_eq, false≢true}
use Rattle.std.proofs.lemmas.List.{append-nil, map-append}
use Rattle.std.proofs.lemmas.List.Concat.{flat_map-append}
use Rattle.std.specs.declared.option.Option.{Option}
use Rattle.std.specs.Io.KnownBytes.{Appends}
use Rattle.std.proofs.KnownBytes.{Appends-trans}
use Rattle.asm_names.specs.declared.program.Resolved.{Resolved}
use Rattle.fault_script.specs.Faults.{IsFault}
use Rattle.fault_script.specs.declared.event.Event.{Event}
use Rattle.fault_script.specs.declared.event.Event.TheVariants.{Tick}
use Rattle.fault_script.specs.declared.event.Timed.{Timed}
use Rattle.fault_script.proofs.Struck.{happened-fault}
use Rattle.round_spec.specs.Round.{Compiled}
use Rattle.stab_io.specs.Pieces.{AppendsPart, IsProperFront}
use Rattle.text_core.specs.WrittenLines.{ended, lines_text}
use Rattle.trace_decode.specs.Going.{CutsUpTo, GoesUpTo, IsCut, IsDone, IsGoing, Job}
use Rattle.trace_decode.specs.Play.{AtEnd, Faulted, IsDue, IsOver, Mark, Onward, Over, Play, Standing, Struck, faulted, happened, head_marks, marks, marks_by, marks_of, reached, ticked}
use Rattle.trace_decode.specs.TraceText.{line_of, text_of, trace_text}
use Rattle.trace_decode.specs.Tracing.{IsPartly}
use Rattle.trace_decode.proofs.Plays.{Plays, marks-fault}
use Rattle.trace_decode.proofs.Standings.{counted-most, marks-away, marks-head}

-- ---- lists of events
reached-append : (rom : List ℕ) (xs ys : List Event) (s : Standing) → reached rom (xs ++ ys) s ≡ reached rom ys (reached rom xs s)
reached-append rom [] ys s = refl
reached-append rom (x ∷ xs) ys s = reached-append rom xs ys (happened rom x s)

marks-append : (rom : List ℕ) (xs ys : List Event) (s : Standing) → marks_of rom (xs ++ ys) s ≡ marks_of rom xs s ++ marks_of rom ys (reached rom xs s)
marks-append rom [] ys s = refl
marks-append rom (x ∷ xs) ys s =
    ap (λ l. marks_by x (happened rom x s) ++ l) (marks-append rom xs ys (happened rom x s))
    ∙ sym (append_assoc (marks_by x (happened rom x s)) (marks_of rom xs (happened rom x s)) (marks_of rom ys (reached rom xs (happened rom x s))))

time-reached : (rom : List ℕ) (events : List Event) (s : Standing) → s.time ≤ (reached rom events s).time
time-reached rom [] s = omega arith
time-reached rom (event ∷ events) s =
    let one = time-happened event s in
    let rest = time-reached rom events (happened rom event s) in
    omega arith
  where
    time-happened : (event : Event) (s : Standing) → s.time ≤ (happened rom event s).time
    time-happened Tick s = omega arith
    time-happened _ s = omega arith

text-append : (program : Resolved) (built : Compiled) (xs ys : List Mark) → text_of program built (xs ++ ys) ≡ text_of program built xs ++ text_of program built ys
text-append program built xs ys =
    ap lines_text (map-append (line_of program built) xs ys) ∙ flat_map-append ended (map (line_of program built) xs) (map (line_of program built) ys)

-- ---- what a play does next
onward-of : {rom : List ℕ} {rounds : ℕ} {faults : List Timed} {s : Standing} {events : List Event} → Play rom rounds faults s events → (IsDue faults s → ⊥) → (IsOver rounds faults s → ⊥)
    → (rest : List Event) × (events ≡ Tick ∷ rest) × Play rom rounds faults (ticked rom s) rest
onward-of (Over h) due over = absurd (over h)
onward-of (Struck at play) due over = absurd (due at)
onward-of (Onward {events = es} d o play) due over = (es, refl, play)

struck-of : {rom : List ℕ} {rounds : ℕ} {fault : Timed} {faults : List Timed} {s : Standing} {events : List Event} → Play rom rounds (fault ∷ faults) s events → fault.time ≡ s.time
    → (rest : List Event) × (events ≡ fault.event ∷ rest) × Play rom rounds faults (faulted fault.event s) rest
struck-of (Struck {events = es} at play) e = (es, refl, play)
struck-of (Onward d o play) e = absurd (d e)

over-of : {rom : List ℕ} {rounds : ℕ} {s : Standing} {events : List Event} → Play rom rounds [] s events → rounds < s.heads → events ≡ []
over-of (Over h) e = refl
over-of (Onward d o play) e = absurd (o e)

-- a play whose time is up is over
pub late-of : {rom : List ℕ} {rounds : ℕ} {s : Standing} {events : List Event} → Play rom rounds [] s events → (reached rom events s).time ≤ s.time → rounds < s.heads
late-of (Over h) e = h
late-of {rom = rom} {s = s} (Onward {events = es} d o play) e = let l = time-reached rom es (ticked rom s) in absurd (omega arith)

-- a script has one play
pub one-play : {rom : List ℕ} {rounds : ℕ} {faults : List Timed} {s : Standing} {events others : List Event} → Play rom rounds faults s events → Play rom rounds faults s others → events ≡ others
one-play (Over h) other = sym (over-of other h)
one-play (Struck {fault = f} at play) other = let r = struck-of other at in ap (λ l. f.event ∷ l) (one-play play r.2) ∙ sym r.1
one-play (Onward due over play) other = let r = onward-of other due over in ap (λ l. Tick ∷ l) (one-play play r.2) ∙ sym r.1

module _ (program : Resolved) (built : Compiled) (job : Job) where
  abbrev rom : List ℕ
  rom = built.rom

  -- what was due before the event
  abbrev before : List Event → List Mark
  before done = head_marks job.start ++ marks_of rom done job.start

  -- one event more
  module _ (done rest : List Event) (event : Event) (s : Standing) (here : reached rom done job.start ≡ s) where
    abbrev next : Standing
    next = happened rom event s

    here-next : reached rom (done ++ event ∷ []) job.start ≡ next
    here-next = reached-append rom done (event ∷ []) job.start ∙ ap (happened rom event) here

    split : done ++ event ∷ rest ≡ (done ++ event ∷ []) ++ rest
    split = sym (append_assoc done (event ∷ []) rest)

    due-next : before (done ++ event ∷ []) ≡ before done ++ marks_by event next
    due-next =
        ap (λ l. head_marks job.start ++ l)
        (marks-append rom done (event ∷ []) job.start ∙ ap (λ x. marks_of rom done job.start ++ (marks_by event (happened rom event x) ++ [])) here
        ∙ ap (λ l. marks_of rom done job.start ++ l) (append-nil (marks_by event next)))
        ∙ sym (append_assoc (head_marks job.start) (marks_of rom done job.start) (marks_by event next))

    -- what is due in all, where one line is due after the event
    due-all : (cut : Mark) → marks_by event next ≡ cut ∷ []
        → marks rom (done ++ event ∷ rest) job.start ≡ before done ++ cut ∷ (marks_of rom rest next ++ record { cause = AtEnd; at = reached rom rest next } ∷ [])
    due-all cut only =
        let tail : List Mark = marks_of rom rest next in
        let end : List Mark = record { cause = AtEnd; at = reached rom rest next } ∷ [] in
        let last : reached rom (done ++ event ∷ rest) job.start ≡ reached rom rest next = reached-append rom done (event ∷ rest) job.start ∙ ap (λ x. reached rom rest (happened rom event x)) here in
        let inner : marks_of rom (done ++ event ∷ rest) job.start ≡ marks_of rom done job.start ++ cut ∷ tail =
        marks-append rom done (event ∷ rest) job.start
        ∙ ap (λ x. marks_of rom done job.start ++ (marks_by event (happened rom event x) ++ marks_of rom rest (happened rom event x))) here
        ∙ ap (λ l. marks_of rom done job.start ++ (l ++ tail)) only in
        ap (λ x. head_marks job.start ++ (marks_of rom (done ++ event ∷ rest) job.start ++ record { cause = AtEnd; at = x } ∷ [])) last
        ∙ ap (λ l. head_marks job.start ++ (l ++ end)) inner
        ∙ ap (λ l. head_marks job.start ++ l) (append_assoc (marks_of rom done job.start) (cut ∷ tail) end)
        ∙ sym (append_assoc (head_marks job.start) (marks_of rom done job.start) (cut ∷ (tail ++ end)))

  -- the text grows by what is due
  grown : (done : List Event) (due : List Mark) (now new : Option (List ℕ)) → Appends job.held now (text_of program built (before done)) → Appends now new (text_of program built due)
      → Appends job.held new (text_of program built (before done ++ due))
  grown done due now new old more =
      subst (Appends job.held new) (sym (text-append program built (before done) due))
      (Appends-trans job.held now new (text_of program built (before done)) (text_of program built due) old more)

  -- the part of a line that is due
  cut-at : (done rest : List Event) (event : Event) (faults : List Timed) (s : Standing) (now new : Option (List ℕ)) → IsGoing program built job faults s now
      → reached rom done job.start ≡ s → Appends job.held now (text_of program built (before done)) → Play rom job.rounds job.script job.start (done ++ event ∷ rest)
      → IsPartly program built (marks_by event (happened rom event s)) now new → ((cut : Mark) → marks_by event (happened rom event s) ≡ cut ∷ [] → cut.at ≡ happened rom event s)
      → IsCut program built job (happened rom event s).hart (happened rom event s).feed new
  cut-at done rest event faults s now new going here text play partly at =
      let stands = at partly.cut partly.only in
      record {
        events = done ++ event ∷ rest;
        play = play;
        before = before done;
        cut = partly.cut;
        later = marks_of rom rest (happened rom event s) ++ record { cause = AtEnd; at = reached rom rest (happened rom event s) } ∷ [];
        due = due-all done rest event s here partly.cut partly.only;
        part = partly.part;
        begins = partly.begins;
        text = Appends-trans job.held now new (text_of program built (before done)) partly.part text partly.text;
        hart = ap (λ (x : Standing). x.hart) (sym stands);
        feed = ap (λ (x : Standing). x.feed) (sym stands);
      }

  -- ---- the steps
  pub going-start : (now : Option (List ℕ)) → Plays rom job.rounds job.script job.start job.latest → Appends job.held now (text_of program built (head_marks job.start))
      → IsGoing program built job job.script job.start now
  going-start now plays text = record {
    done = [];
    rest = plays.events;
    play = plays.play;
    later = plays.play;
    here = refl;
    text = subst (λ l. Appends job.held now (text_of program built l)) (sym (append-nil (head_marks job.start))) text;
    soon = plays.soon;
  }

  pub cut-start : (new : Option (List ℕ)) → Plays rom job.rounds job.script job.start job.latest → IsPartly program built (head_marks job.start) job.held new
      → ((cut : Mark) → head_marks job.start ≡ cut ∷ [] → cut.at ≡ job.start) → IsCut program built job job.start.hart job.start.feed new
  cut-start new plays partly at =
      let stands = at partly.cut partly.only in
      record {
        events = plays.events;
        play = plays.play;
        before = [];
        cut = partly.cut;
        later = marks_of rom plays.events job.start ++ record { cause = AtEnd; at = reached rom plays.events job.start } ∷ [];
        due = ap (λ l. l ++ (marks_of rom plays.events job.start ++ record { cause = AtEnd; at = reached rom plays.events job.start } ∷ [])) partly.only;
        part = partly.part;
        begins = partly.begins;
        text = partly.text;
        hart = ap (λ (x : Standing). x.hart) (sym stands);
        feed = ap (λ (x : Standing). x.feed) (sym stands);
      }

  module _ (faults : List Timed) (s : Standing) (now new : Option (List ℕ)) (going : IsGoing program built job faults s now) (due : IsDue faults s → ⊥) (over : IsOver job.rounds faults s → ⊥) where
    open_play : (rest : List Event) × (going.rest ≡ Tick ∷ rest) × Play rom job.rounds faults (ticked rom s) rest
    open_play = onward-of going.later due over

    play-split : Play rom job.rounds job.script job.start (going.done ++ Tick ∷ open_play.0)
    play-split = subst (λ l. Play rom job.rounds job.script job.start (going.done ++ l)) open_play.1 going.play

    pub going-tick : Appends now new (text_of program built (head_marks (ticked rom s))) → IsGoing program built job faults (ticked rom s) new
    going-tick more = record {
      done = going.done ++ Tick ∷ [];
      rest = open_play.0;
      play = subst (Play rom job.rounds job.script job.start) (split going.done open_play.0 Tick s going.here) play-split;
      later = open_play.2;
      here = here-next going.done open_play.0 Tick s going.here;
      text = subst (λ l. Appends job.held new (text_of program built l)) (sym (due-next going.done open_play.0 Tick s going.here))
          (grown going.done (head_marks (ticked rom s)) now new going.text more);
      soon = subst (λ l. (reached rom l s).time ≤ job.latest) open_play.1 going.soon;
    }

    pub cut-tick : IsPartly program built (head_marks (ticked rom s)) now new → ((cut : Mark) → head_marks (ticked rom s) ≡ cut ∷ [] → cut.at ≡ ticked rom s)
        → IsCut program built job (ticked rom s).hart (ticked rom s).feed new
    cut-tick partly at = cut-at going.done open_play.0 Tick faults s now new going going.here going.text play-split partly at

  module _ (size : ℕ) (fault : Timed) (faults : List Timed) (s : Standing) (now new : Option (List ℕ)) (is : IsFault size fault.event) (going : IsGoing program built job (fault ∷ faults) s now) (due : fault.time ≡ s.time) where
    abbrev struck : Standing
    struck = faulted fault.event s

    struck_play : (rest : List Event) × (going.rest ≡ fault.event ∷ rest) × Play rom job.rounds faults struck rest
    struck_play = struck-of going.later due

    struck-split : Play rom job.rounds job.script job.start (going.done ++ fault.event ∷ struck_play.0)
    struck-split = subst (λ l. Play rom job.rounds job.script job.start (going.done ++ l)) struck_play.1 going.play

    same : happened rom fault.event s ≡ struck
    same = happened-fault rom size fault.event s is

    pub going-fault : Appends now new (text_of program built (record { cause = Faulted fault.event; at = struck } ∷ [])) → IsGoing program built job faults struck new
    going-fault more =
        let marked : marks_by fault.event (happened rom fault.event s) ≡ record { cause = Faulted fault.event; at = struck } ∷ [] = ap (marks_by fault.event) same ∙ marks-fault size fault.event struck is in
        record {
          done = going.done ++ fault.event ∷ [];
          rest = struck_play.0;
          play = subst (Play rom job.rounds job.script job.start) (split going.done struck_play.0 fault.event s going.here) struck-split;
          later = struck_play.2;
          here = here-next going.done struck_play.0 fault.event s going.here ∙ same;
          text = subst (λ l. Appends job.held new (text_of program built l)) (sym (due-next going.done struck_play.0 fault.event s going.here ∙ ap (λ l. before going.done ++ l) marked))
              (grown going.done (record { cause = Faulted fault.event; at = struck } ∷ []) now new going.text more);
          soon = subst (λ (x : Standing). (reached rom struck_play.0 x).time ≤ job.latest) same (subst (λ l. (reached rom l s).time ≤ job.latest) struck_play.1 going.soon);
        }

    pub cut-fault : IsPartly program built (record { cause = Faulted fault.event; at = struck } ∷ []) now new → IsCut program built job struck.hart struck.feed new
    cut-fault partly =
        let marked : marks_by fault.event (happened rom fault.event s) ≡ record { cause = Faulted fault.event; at = struck } ∷ [] = ap (marks_by fault.event) same ∙ marks-fault size fault.event struck is in
        let whole = cut-at going.done struck_play.0 fault.event (fault ∷ faults) s now new going going.here going.text struck-split
        (subst (λ l. IsPartly program built l now new) (sym marked) partly)
        (λ cut only. let one : cut ∷ [] ≡ record { cause = Faulted fault.event; at = struck } ∷ [] = sym only ∙ marked in ap (λ (x : Mark). x.at) (ap (first cut) one) ∙ sym same) in
        subst (λ (x : Standing). IsCut program built job x.hart x.feed new) same whole
      where
        first : Mark → List Mark → Mark
        first cut [] = cut
        first cut (x ∷ xs) = x

  module _ (s : Standing) (now new : Option (List ℕ)) (going : IsGoing program built job [] s now) (over : job.rounds < s.heads) where
    ended_at : going.rest ≡ []
    ended_at = over-of going.later over

    all : going.done ++ going.rest ≡ going.done
    all = ap (λ l. going.done ++ l) ended_at ∙ append-nil going.done

    end : Mark
    end = record { cause = AtEnd; at = s }

    whole : marks rom going.done job.start ≡ before going.done ++ record { cause = AtEnd; at = s } ∷ []
    whole =
        ap (λ x. head_marks job.start ++ (marks_of rom going.done job.start ++ record { cause = AtEnd; at = x } ∷ [])) going.here
        ∙ sym (append_assoc (head_marks job.start) (marks_of rom going.done job.start) (record { cause = AtEnd; at = s } ∷ []))

    pub done-end : Appends now new (text_of program built (record { cause = AtEnd; at = s } ∷ [])) → IsDone program built job s.hart s.feed s.time new
    unfolding trace_text
    done-end more = record {
      events = going.done;
      play = subst (Play rom job.rounds job.script job.start) all going.play;
      text = subst (λ l. Appends job.held new (text_of program built l)) (sym whole) (grown going.done (record { cause = AtEnd; at = s } ∷ []) now new going.text more);
      hart = ap (λ (x : Standing). x.hart) (sym going.here);
      feed = ap (λ (x : Standing). x.feed) (sym going.here);
      ticks = ap (λ (x : Standing). x.time) (sym going.here);
    }

    pub cut-end : IsPartly program built (record { cause = AtEnd; at = s } ∷ []) now new → IsCut program built job s.hart s.feed new
    cut-end partly =
        let one : partly.cut ≡ record { cause = AtEnd; at = s } = ap (first partly.cut) (sym partly.only) in
        let stands = ap (λ (x : Mark). x.at) one in
        record {
          events = going.done;
          play = subst (Play rom job.rounds job.script job.start) all going.play;
          before = before going.done;
          cut = partly.cut;
          later = [];
          due = whole ∙ ap (λ l. before going.done ++ l) partly.only;
          part = partly.part;
          begins = partly.begins;
          text = Appends-trans job.held now new (text_of program built (before going.done)) partly.part going.text partly.text;
          hart = ap (λ (x : Standing). x.hart) (sym stands);
          feed = ap (λ (x : Standing). x.feed) (sym stands);
        }
      where
        first : Mark → List Mark → Mark
        first cut [] = cut
        first cut (x ∷ xs) = x

    pub soon-end : s.time ≤ job.latest
    soon-end = subst (λ l. (reached rom l s).time ≤ job.latest) ended_at going.soon

  -- the time is up only where the play is over
  pub late-end : (s : Standing) (now : Option (List ℕ)) → IsGoing program built job [] s now → job.latest ≤ s.time → job.rounds < s.heads
  late-end s now going late = let soon = going.soon in late-of going.later (omega arith)

-- ---- the same in the terms of the calls
head-at : (s : Standing) (cut : Mark) → head_marks s ≡ cut ∷ [] → cut.at ≡ s
head-at s cut e =
    ⊎_elim (λ (h : s.hart.pc ≡ 0). ap (λ (x : Mark). x.at) (ap (first cut) (sym e ∙ marks-head s h)))
    (λ (h : s.hart.pc ≢ 0). absurd (false≢true (ap some (sym (marks-away s h) ∙ e))))
    (cases_eq s.hart.pc 0)
  where
    first : Mark → List Mark → Mark
    first cut [] = cut
    first cut (x ∷ xs) = x

    some : List Mark → Bool
    some [] = false
    some (x ∷ xs) = true

-- the line was not written whole
pub part-of : {A E : Type 0} (r : Result A E) (program : Resolved) (built : Compiled) (mark : Mark) (text : List ℕ) (now new : Option (List ℕ)) → text ≡ ended (line_of program built mark)
    → OnErr r (AppendsPart now new text) → OnErr r (IsPartly program built (mark ∷ []) now new)
part-of (Ok x) program built mark text now new is part = tt
part-of (Err e) program built mark text now new is part = record { cut = mark; only = refl; part = part.0; begins = subst (λ l. IsProperFront l part.0) is part.1; text = part.2 }

pub on_err : {A E P : Type 0} (r : Result A E) → P → OnErr r P
on_err (Ok x) h = tt
on_err (Err e) h = h

module _ (program : Resolved) (built : Compiled) (s0 s s' : Standing) (now0 now new : Option (List ℕ)) (next : s' ≡ ticked built.rom s) where
  pub up-tick : (time : ℕ) → s.time < time → GoesUpTo program built time s0 now0 s now → Appends now new (text_of program built (head_marks s')) → GoesUpTo program built time s0 now0 s' new
  up-tick time before goes more = λ job fault faults at start.
      subst (λ (x : Standing). IsGoing program built job (fault ∷ faults) x new) (sym next)
      (going-tick program built job (fault ∷ faults) s now new (goes job fault faults at start) (λ due. let d : fault.time ≡ s.time = due in omega arith) (λ over. over)
      (subst (λ (x : Standing). Appends now new (text_of program built (head_marks x))) next more))

  pub up-cut : (time : ℕ) → s.time < time → GoesUpTo program built time s0 now0 s now → IsPartly program built (head_marks s') now new → CutsUpTo program built time s0 now0 s' new
  up-cut time before goes partly = λ job fault faults at start.
      subst (λ (x : Standing). IsCut program built job x.hart x.feed new) (sym next)
      (cut-tick program built job (fault ∷ faults) s now new (goes job fault faults at start) (λ due. let d : fault.time ≡ s.time = due in omega arith) (λ over. over)
      (subst (λ (x : Standing). IsPartly program built (head_marks x) now new) next partly) (head-at (ticked built.rom s)))

  pub out-tick : (job : Job) → s.heads ≤ job.rounds → IsGoing program built job [] s now → Appends now new (text_of program built (head_marks s')) → IsGoing program built job [] s' new
  out-tick job before going more =
      subst (λ (x : Standing). IsGoing program built job [] x new) (sym next)
      (going-tick program built job [] s now new going (λ due. due) (λ over. let o : job.rounds < s.heads = over in omega arith)
      (subst (λ (x : Standing). Appends now new (text_of program built (head_marks x))) next more))

  pub out-cut : (job : Job) → s.heads ≤ job.rounds → IsGoing program built job [] s now → IsPartly program built (head_marks s') now new → IsCut program built job s'.hart s'.feed new
  out-cut job before going partly =
      subst (λ (x : Standing). IsCut program built job x.hart x.feed new) (sym next)
      (cut-tick program built job [] s now new going (λ due. due) (λ over. let o : job.rounds < s.heads = over in omega arith)
      (subst (λ (x : Standing). IsPartly program built (head_marks x) now new) next partly) (head-at (ticked built.rom s)))

  pub time-next : s'.time ≡ s.time + 1
  time-next = ap (λ (x : Standing). x.time) next

  pub few-next : s.heads ≤ s.time + 1 → s'.heads ≤ s'.time + 1
  few-next few =
      let t = time-next in
      let h = ap (λ (x : Standing). x.heads) next in
      let most = counted-most (ticked built.rom s).hart s.heads in
      omega arith

module _ (program : Resolved) (built : Compiled) (job : Job) (new : Option (List ℕ)) (plays : Plays built.rom job.rounds job.script job.start job.latest) where
  pub cut-first : IsPartly program built (head_marks job.start) job.held new → IsCut program built job job.start.hart job.start.feed new
  cut-first partly = cut-start program built job new plays partly (head-at job.start)

  pub going-first : Appends job.held new (text_of program built (head_marks job.start)) → IsGoing program built job job.script job.start new
  going-first text = going-start program built job new plays text

pub nil_of : {A : Type 0} (xs : List A) → length xs ≡ 0 → xs ≡ []
nil_of [] e = refl
nil_of (x ∷ xs) e = absurd (omega arith)
