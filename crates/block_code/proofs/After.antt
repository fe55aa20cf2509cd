-- A run that comes to an end, counted in ticks.
use Rattle.std.proofs.Common.{◌≡◌, ℕ, zero, suc, ◌<◌, List, [], ◌∷◌, ◌++◌, true, false, refl, sym, ap, ◌∙◌, inl, inr, ◌⊎◌, arith}
use Rattle.block_code.specs.Ends.{Arrived, Ends, EndsAt, Onward, Stopped}
use Rattle.block_code.specs.Moment.{Moment, MomentsAreRuns, at_ports, logged, moment_after, moment_by, next, ticked, traps}
use Rattle.std.proofs.lemmas.List.{append-nil, append_assoc}
use Rattle.rv_machine.specs.Run.{after, events, left_after, left_by}
use Rattle.rv_machine.specs.Tick.{Event, Quiet, Took, Sent, Trapped}

module _ (rom : List ℕ) where
  pub ends-at : {I G C : Moment → Type 0} {n : ℕ} {s : Moment} → Ends rom I G C n s → EndsAt rom I G C n s
  ends-at (Arrived g) = record { ticks = 0; soon = omega arith; inside = λ u h. absurd (omega arith); untrapped = λ u h. absurd (omega arith); ends = inl g }
  ends-at (Stopped i t c) = record { ticks = 0; soon = omega arith; inside = λ u h. absurd (omega arith); untrapped = λ u h. absurd (omega arith); ends = inr (i, omega arith, t, c) }
  ends-at {I = I} {G = G} {C = C} {n = suc n} {s = s} (Onward i t e) = later (ends-at e)
    where
      later : EndsAt rom I G C n (next rom s) → EndsAt rom I G C (suc n) s
      later r = record {
        ticks = suc r.ticks;
        soon = let h = r.soon in omega arith;
        inside = inside_now;
        untrapped = untrapped_now;
        ends = ends_now r.ends;
      }
        where
          inside_now : (u : ℕ) → u < suc r.ticks → I (moment_after rom u s)
          inside_now zero h = i
          inside_now (suc u) h = r.inside u (omega arith)

          untrapped_now : (u : ℕ) → u < suc r.ticks → traps rom (moment_after rom u s) ≡ false
          untrapped_now zero h = t
          untrapped_now (suc u) h = r.untrapped u (omega arith)

          ends_now : G (moment_after rom r.ticks (next rom s)) ⊎ (I (moment_after rom r.ticks (next rom s)) × (r.ticks < n) × (traps rom (moment_after rom r.ticks (next rom s)) ≡ true) × C (moment_after rom r.ticks (next rom s)))
              → G (moment_after rom (suc r.ticks) s) ⊎ (I (moment_after rom (suc r.ticks) s) × (suc r.ticks < suc n) × (traps rom (moment_after rom (suc r.ticks) s) ≡ true) × C (moment_after rom (suc r.ticks) s))
          ends_now (inl g) = inl g
          ends_now (inr c) = inr (c.0, omega arith, c.2, c.3)

-- what is logged of an event, before what is logged of others
logged-first : (e : Event) (log : List Event) (es : List Event) → logged e log ++ at_ports es ≡ log ++ at_ports (e ∷ es)
logged-first Quiet log es = refl
logged-first (Took port) log es = append_assoc log (Took port ∷ []) (at_ports es)
logged-first (Sent port value) log es = append_assoc log (Sent port value ∷ []) (at_ports es)
logged-first Trapped log es = refl

pub moments-are-runs : MomentsAreRuns
unfolding next
moments-are-runs rom zero s = ap (λ l. record { hart = s.hart; readings = s.readings; log = l }) (sym (append-nil s.log))
moments-are-runs rom (suc t) s =
    let n = ticked rom s in
    moments-are-runs rom t (moment_by n s)
    ∙ ap (λ l. record { hart = after rom t (left_by n.event s.readings) n.hart; readings = left_after rom t (left_by n.event s.readings) n.hart; log = l })
    (logged-first n.event s.log (events rom t (left_by n.event s.readings) n.hart))
