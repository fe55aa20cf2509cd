-- Lines that stand side by side in a trace: what holds of the second by the first.
use Rattle.std.proofs.Common.{◌≡◌, ◌≢◌, ℕ, ◌+◌, ◌%◌, ◌<◌, ◌≤◌, List, [], ◌∷◌, ◌++◌, refl, sym, ap, ◌∙◌, subst, ⊎_elim, arith}
use Rattle.std.proofs.lemmas.Bool.{cases_eq, cases_lt}
use Rattle.asm_names.specs.declared.program.Resolved.{Resolved}
use Rattle.state_layout.specs.declared.layout.Layout.{Layout}
use Rattle.bound_count.specs.declared.shape.Shape.{Shape}
use Rattle.fault_script.specs.Faults.{AreEvents}
use Rattle.fault_script.specs.declared.event.Event.{Event}
use Rattle.fault_script.specs.declared.event.Event.TheVariants.{Tick}
use Rattle.fault_script.proofs.Struck.{valid-struck}
use Rattle.rv_machine.specs.Hart.{HartState, IsValid}
use Rattle.round_spec.specs.Round.{Compiled, Round}
use Rattle.round_spec.specs.Stabilizes.{Stabilizes}
use Rattle.trace_decode.specs.Play.{AtEnd, AtHead, Cause, Faulted, Mark, Standing, faulted, marks, marks_of, reached, ticked}
use Rattle.trace_decode.specs.Stretches.{FollowsBy, IsFirstHead, IsNextHead, Linked, LinkedFrom, onward}
use Rattle.trace_decode.proofs.Bounds.{head-soon, next-head}
use Rattle.trace_decode.proofs.Standings.{marks-away, marks-head, onward-away, onward-hart, onward-more, onward-time, ticked-head, valid-onward}

abbrev head_mark : Standing → Mark
head_mark s = record { cause = AtHead; at = s }

abbrev end_mark : Standing → Mark
end_mark s = record { cause = AtEnd; at = s }

-- why a line was written, if a head line may follow with nothing between
abbrev Opens : Standing → Cause → Type 0
Opens s AtHead = s.hart.pc ≡ 0
Opens s (Faulted fault) = s.heads ≡ 0
Opens s AtEnd = ⊥

-- since the line of a mark there were so many ticks, none of which ended at the head
record Since (size : ℕ) (rom : List ℕ) (mark : Mark) (s : Standing) : Type 0 where
  ticks : ℕ
  here : s ≡ onward rom ticks mark.at
  away : (i : ℕ) → 0 < i → i ≤ ticks → (onward rom i mark.at).hart.pc ≢ 0
  opens : Opens mark.at mark.cause
  valid : IsValid size mark.at.hart

since-head : (size : ℕ) (rom : List ℕ) (s : Standing) → IsValid size s.hart → s.hart.pc ≡ 0 → Since size rom (head_mark s) s
since-head size rom s v head = record { ticks = 0; here = refl; away = λ i some few. absurd (omega arith); opens = head; valid = v }

since-fault : (size : ℕ) (rom : List ℕ) (fault : Event) (s : Standing) → IsValid size (faulted fault s).hart
    → Since size rom (record { cause = Faulted fault; at = faulted fault s }) (faulted fault s)
since-fault size rom fault s v = record { ticks = 0; here = refl; away = λ i some few. absurd (omega arith); opens = refl; valid = v }

module _ (rom_size size : ℕ) (multiple : size % 4 ≡ 0) (shape : Shape) (layout : Layout) (program : Resolved) (built : Compiled) (st : Stabilizes rom_size size shape layout program built) where
  abbrev rom : List ℕ
  rom = built.rom

  -- the end follows every line
  ends : (s next : Standing) (cause : Cause) → FollowsBy program built s next cause AtEnd
  ends s next AtHead = tt
  ends s next (Faulted fault) = tt
  ends s next AtEnd = tt

  -- so does a fault
  strikes : (s next : Standing) (cause : Cause) (fault : Event) → FollowsBy program built s next cause (Faulted fault)
  strikes s next AtHead fault = tt
  strikes s next (Faulted other) fault = tt
  strikes s next AtEnd fault = tt

  module _ (from s : Standing) (n : ℕ) (here : s ≡ onward rom n from) (away : (i : ℕ) → 0 < i → i ≤ n → (onward rom i from).hart.pc ≢ 0) (v : IsValid size from.hart) (head : (ticked rom s).hart.pc ≡ 0) where
    -- the tick that ends at the head, counted from the line
    last : ticked rom s ≡ onward rom (n + 1) from
    last = ap (ticked rom) here ∙ sym (onward-more rom n from)

    at_head : (onward rom (n + 1) from).hart.pc ≡ 0
    at_head = ap (λ (x : Standing). x.hart.pc) (sym last) ∙ head

    time : (ticked rom s).time ≡ from.time + (n + 1)
    time = ap (λ (x : Standing). x.time) last ∙ onward-time rom (n + 1) from

    heads : (ticked rom s).heads ≡ from.heads + 1
    heads = ticked-head rom s head ∙ ap (λ (x : Standing). x.heads + 1) here ∙ ap (λ k. k + 1) (onward-away rom n from away)

    -- a head that is reached at some tick is not before this one
    not_before : (t : ℕ) → 0 < t → (onward rom t from).hart.pc ≡ 0 → n + 1 ≤ t
    not_before t some h = ⊎_elim (λ (l : t < n + 1). absurd (away t some (omega arith) h)) (λ (g : n + 1 ≤ t). g) (cases_lt t (n + 1))

    first-behind : from.heads ≡ 0 → IsFirstHead built from (ticked rom s)
    first-behind none =
        let r = head-soon rom_size size multiple shape layout program built st from v in
        let before = not_before r.0 r.1 r.3 in
        let soon = r.2 in
        record { soon = omega (arith, time); heads = omega (arith, heads) }

    next-behind : from.hart.pc ≡ 0 → IsNextHead program built from (ticked rom s)
    next-behind start =
        let r = next-head rom_size size multiple shape layout program built st from v start in
        let round = r.2 in
        let before = not_before r.0 round.lasts round.ends in
        let off : r.0 < n + 2 =
        ⊎_elim (λ (l : n + 1 < r.0). absurd (round.away (n + 1) (omega arith) l (ap (λ (m : HartState). m.pc) (sym (onward-hart rom (n + 1) from)) ∙ at_head)))
        (λ (g : r.0 ≤ n + 1). let h : r.0 < n + 2 = omega arith in h)
        (cases_lt (n + 1) r.0) in
        let e : r.0 ≡ n + 1 = omega arith in
        let soon = r.1 in
        record {
          ticks = n + 1;
          time = time;
          soon = omega arith;
          round = subst (λ (x : Standing). Round program built from.feed.left from.hart (n + 1) x.hart) (sym last)
              (subst (λ t. Round program built from.feed.left from.hart t (onward rom t from).hart) e round);
          heads = heads;
        }

  heads-follow : (from : Standing) (cause : Cause) (s : Standing) → Since size rom (record { cause = cause; at = from }) s → (ticked rom s).hart.pc ≡ 0
      → FollowsBy program built from (ticked rom s) cause AtHead
  heads-follow from AtHead s since head = next-behind from s since.ticks since.here since.away since.valid head since.opens
  heads-follow from (Faulted fault) s since head = first-behind from s since.ticks since.here since.away since.valid head since.opens
  heads-follow from AtEnd s since head = absurd since.opens

  -- a tick that doesn't end at the head
  since-more : (mark : Mark) (s : Standing) → Since size rom mark s → (ticked rom s).hart.pc ≢ 0 → Since size rom mark (ticked rom s)
  since-more mark s since off =
      let last : ticked rom s ≡ onward rom (since.ticks + 1) mark.at = ap (ticked rom) since.here ∙ sym (onward-more rom since.ticks mark.at) in
      record {
        ticks = since.ticks + 1;
        here = last;
        away = λ i some few.
            ⊎_elim (λ (l : i < since.ticks + 1). since.away i some (omega arith))
            (λ (g : since.ticks + 1 ≤ i). let e : since.ticks + 1 ≡ i = omega arith in subst (λ j. (onward rom j mark.at).hart.pc ≢ 0) e (subst (λ (x : Standing). x.hart.pc ≢ 0) last off))
            (cases_lt i (since.ticks + 1));
        opens = since.opens;
        valid = since.valid;
      }

  valid-tick : (s : Standing) → IsValid size s.hart → IsValid size (ticked rom s).hart
  valid-tick s v = valid-onward size multiple rom st.image.words 1 s v

  linked-from : (events : List Event) (mark : Mark) (s : Standing) → AreEvents size events → IsValid size s.hart → Since size rom mark s
      → LinkedFrom program built mark (marks_of rom events s ++ end_mark (reached rom events s) ∷ [])
  linked-from [] mark s e v since = (ends mark.at s mark.cause, tt)
  linked-from (Tick ∷ events) mark s e v since =
      let next = ticked rom s in
      let valid = valid-tick s v in
      let rest = marks_of rom events next ++ end_mark (reached rom events next) ∷ [] in
      ⊎_elim (λ (h : next.hart.pc ≡ 0).
      rw (marks-head next h)
      (heads-follow mark.at mark.cause s since h, linked-from events (head_mark next) next e.1 valid (since-head size rom next valid h)))
      (λ (h : next.hart.pc ≢ 0). rw (marks-away next h) (linked-from events mark next e.1 valid (since-more mark s since h)))
      (cases_eq next.hart.pc 0)
  linked-from (event ∷ events) mark s e v since =
      let next = faulted event s in
      let valid = valid-struck size event s.hart multiple e.0 v in
      (strikes mark.at next mark.cause event, linked-from events (record { cause = Faulted event; at = next }) next e.1 valid (since-fault size rom event s valid))

  -- before any line
  linked-first : (events : List Event) (s : Standing) → AreEvents size events → IsValid size s.hart
      → Linked program built (marks_of rom events s ++ end_mark (reached rom events s) ∷ [])
  linked-first [] s e v = tt
  linked-first (Tick ∷ events) s e v =
      let next = ticked rom s in
      let valid = valid-tick s v in
      ⊎_elim (λ (h : next.hart.pc ≡ 0).
      rw (marks-head next h) (linked-from events (head_mark next) next e.1 valid (since-head size rom next valid h)))
      (λ (h : next.hart.pc ≢ 0). rw (marks-away next h) (linked-first events next e.1 valid))
      (cases_eq next.hart.pc 0)
  linked-first (event ∷ events) s e v =
      let next = faulted event s in
      let valid = valid-struck size event s.hart multiple e.0 v in
      linked-from events (record { cause = Faulted event; at = next }) next e.1 valid (since-fault size rom event s valid)

  pub linked : (events : List Event) (s : Standing) → AreEvents size events → IsValid size s.hart → Linked program built (marks rom events s)
  linked events s e v =
      ⊎_elim (λ (h : s.hart.pc ≡ 0). rw (marks-head s h) (linked-from events (head_mark s) s e v (since-head size rom s v h)))
      (λ (h : s.hart.pc ≢ 0). rw (marks-away s h) (linked-first events s e v))
      (cases_eq s.hart.pc 0)
