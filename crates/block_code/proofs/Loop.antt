-- Both laws of loops.
use Rattle.std.proofs.Common.{◌≡◌, ℕ, zero, suc, ◌+◌, ◌-◌, ◌*◌, ◌%◌, ◌^◌, ◌≤◌, List, Some, refl, sym, ap, ◌∙◌, subst, inl, inr, ⊎_elim, arith, lit<}
use Rattle.std.proofs.Math.Nat.{mul-le-mul_left}
use Rattle.std.proofs.lemmas.Bool.{cases_lt}
use Rattle.rv_machine.specs.Code.{Stands}
use Rattle.rv_machine.specs.Memory.{stored}
use Rattle.rv_machine.specs.Tick.{fetched}
use Rattle.block_code.specs.Block.{IsCount, IsSlot, Keeps}
use Rattle.block_code.specs.During.{Allows, During, IsQuiet}
use Rattle.block_code.specs.Effect.{Does, Holds, Own, Pass, Passes, PassesStop, Stops, moved}
use Rattle.block_code.specs.Ends.{Arrived, Ends}
use Rattle.block_code.specs.Moment.{IsValidMoment, Moment}
use Rattle.block_code.specs.Place.{IsMachine, Within, word_in}
use Rattle.block_code.specs.Plan.{Loop, Plan, backward, code, compared, entry, forward, full, len, raised, reset, skip_below}
use Rattle.block_code.proofs.Counter.{compare-then, raise-then, reset-then}
use Rattle.block_code.proofs.Ends.{ends-map, ends-more, ends-then}
use Rattle.block_code.proofs.Forms.{Entered, EntryLaw, Top, TopLaw, between, block-end, branches, entered-top, jumps, plus-backward, plus-forward}
use Rattle.block_code.proofs.Keeps.{keeps-word, own-word, word_at}
use Rattle.block_code.proofs.Place.{LoopStands, full-le-entry, loop-stands, widen, wider}
use Rattle.block_code.proofs.Plain.{line-entry}
use Rattle.rv_machine.specs.Run.{offered}
use Rattle.block_code.proofs.Machine.{access-skip_below, does-skip_below, takes}

module _ (rom : List ℕ) (size : ℕ) (machine : IsMachine rom size) (Q : Moment → Type 0) (quiet : IsQuiet rom Q) (count slot : ℕ) (is_count : IsCount count) (is_slot : IsSlot slot) (allowed : Allows rom size Q slot) (body : Plan)
    (top_body : TopLaw rom size machine Q quiet body) (low address : ℕ) (above : address ≤ low) (near : low ≤ address + 1)
    (stands : Stands rom address (code (Loop count slot body))) where
  abbrev head : ℕ
  head = address + 8

  abbrev body_at : ℕ
  body_at = address + 32

  abbrev tail : ℕ
  tail = address + 32 + 4 * len body

  abbrev loop_end : ℕ
  loop_end = address + 52 + 4 * len body

  placed : LoopStands rom address count slot body
  placed = loop-stands rom address count slot body stands

  bounds : (address % 4 ≡ 0) × (loop_end ≤ 2 ^ 20)
  bounds = let e = block-end rom size machine Q quiet (Loop count slot body) address stands (omega arith) in (e.0, omega (arith, e.1))

  same-end : loop_end ≡ address + 4 * (13 + len body)
  same-end = omega arith

  abbrev pass_cost : ℕ
  pass_cost = full body + 16

  abbrev Left : ℕ → ℕ → Moment → Moment → Type 0
  Left more c s s' = IsValidMoment size s' × ((s'.hart.pc ≡ loop_end) × Passes (Does rom body_at body) head body_at loop_end slot more c s s')

  abbrev Caught : ℕ → ℕ → Moment → Moment → Type 0
  Caught more c s s' = Holds size (Loop count slot body) → PassesStop (Does rom body_at body) (Stops rom body_at body) head body_at slot more c s s'

  -- from the head, with so many passes to come
  passes : Keeps slot body → (more c : ℕ) → c + more ≡ count → (s : Moment) → IsValidMoment size s → s.hart.pc ≡ head → word_at slot s ≡ c
      → Ends rom (During Q low loop_end) (Left more c s) (Caught more c s) (6 + more * pass_cost) s
  passes keeps zero c total s valid at counter =
      let b = bounds in
      ends-more rom (6 + 0 * pass_cost) (omega arith)
      (compare-then rom size machine Q quiet slot is_slot allowed {n = 0} low loop_end head count (len body + 6) loop_end s is_count placed.compared_at
      (subst (λ a. fetched rom a ≡ Some skip_below) (omega arith) placed.test_at)
      (subst (λ a. fetched rom a ≡ Some (forward (len body + 6))) (omega arith) placed.out_at)
      (omega arith) (omega (arith, b.1)) (omega arith) (omega arith) at valid
      (λ h less s' v own. absurd (omega arith))
      (λ h more s' v own. Arrived (v, (own.pc, own)))
      (λ h s' holds. absurd (omega (arith, holds.0))))
  passes keeps (suc more) c total s valid at counter =
      let b = bounds in
      let few = is_count.few in
      let rest = 6 + more * pass_cost in
      ends-more rom (6 + suc more * pass_cost) (omega arith)
      (compare-then rom size machine Q quiet slot is_slot allowed {n = full body + (5 + rest)} low loop_end head count (len body + 6) loop_end s is_count placed.compared_at
      (subst (λ a. fetched rom a ≡ Some skip_below) (omega arith) placed.test_at)
      (subst (λ a. fetched rom a ≡ Some (forward (len body + 6))) (omega arith) placed.out_at)
      (omega arith) (omega (arith, b.1)) (omega arith) (omega arith) at valid
      (λ h less s1 v1 own1.
      let begun_at : s1.hart.pc ≡ body_at = own1.pc ∙ omega arith in
      let entered : Own body_at s.hart.ram s s1 = record { pc = begun_at; regs = own1.regs; ram = own1.ram; readings = own1.readings; log = own1.log; low = omega (arith, own1.low); fit = own1.fit } in
      let counter1 : word_at slot s1 ≡ c = ap (word_in slot) own1.ram ∙ counter in
      ends-then rom (5 + rest) (full body + (5 + rest)) (omega arith)
      (ends-map rom (widen Q (omega arith) (omega arith)) (λ s' g. g)
      (λ s' stop holds. inl (record { begun = s1; enters = entered; counter = counter1; stops = stop holds.1 }))
      (keeps-word rom slot (keeps rom size body_at s1 machine placed.body_at v1 begun_at) (top_body body_at s1 placed.body_at v1 begun_at)))
      (λ s2 moment_done.
      let c2 : word_at slot s2 ≡ c = moment_done.0 ∙ counter1 in
      let raised_to : (word_at slot s2 + 1) % 2 ^ 32 ≡ c + 1 = omega arith in
      raise-then rom size machine Q quiet slot is_slot allowed {n = rest} low loop_end tail head (len body + 10) s2 placed.raised_at
      (subst (λ a. fetched rom a ≡ Some (backward (len body + 10))) (omega arith) placed.back_at)
      (omega arith) (omega arith) (omega arith) (moment_done.1.1.0) moment_done.1.0
      (λ h' s3 v3 own3.
      let raised_own : Own head (stored 4 slot (c + 1) s2.hart.ram) s2 s3 = subst (λ x. Own head (stored 4 slot x s2.hart.ram) s2 s3) raised_to own3 in
      let pass : Pass (Does rom body_at body) head body_at slot c s s3 = record { begun = s1; ended = s2; enters = entered; counter = counter1; does = moment_done.1.1.1; raises = raised_own } in
      ends-map rom (λ s' i. i) (λ s' g. (g.0, (g.1.0, (s3, pass, g.1.1)))) (λ s' stop holds. inr (s3, pass, stop holds))
      (passes keeps more (c + 1) (omega arith) s3 v3 own3.pc (own-word size slot head (c + 1) s2 s3 is_slot machine.ram_aligned h' moment_done.1.0 (omega arith) raised_own)))
      (λ h' s' holds. absurd (omega (arith, holds.0)))))
      (λ h past s' v own. absurd (omega arith))
      (λ h s' holds. absurd (omega (arith, holds.0))))

  pub loop-top : low ≤ address → Keeps slot body → (s : Moment) → IsValidMoment size s → s.hart.pc ≡ address → Top rom size machine Q quiet address (Loop count slot body) s
  loop-top lowest keeps s valid at =
      let b = bounds in
      let inner : Ends rom (During Q low loop_end) (λ s'. IsValidMoment size s' × ((s'.hart.pc ≡ loop_end) × Does rom address (Loop count slot body) s s'))
      (λ s'. Holds size (Loop count slot body) → Stops rom address (Loop count slot body) s s') (2 + (6 + count * pass_cost)) s =
      reset-then rom size machine Q quiet slot is_slot allowed {n = 6 + count * pass_cost} low loop_end address s placed.reset_at (omega arith) (omega arith) at valid
      (λ h s0 v0 own.
      ends-map rom (λ s' i. i) (λ s' g. (g.0, (g.1.0, (s0, own, g.1.1)))) (λ s' stop holds. (s0, own, stop holds))
      (passes keeps count 0 (omega arith) s0 v0 own.pc (own-word size slot head 0 s s0 is_slot machine.ram_aligned h valid (lit< tt) own)))
      (λ h s' holds. absurd (omega (arith, holds.0))) in
      ends-more rom (16 + count * pass_cost) (omega arith)
      (ends-map rom (widen Q (omega arith) (omega arith)) (λ s' g. (g.0, (g.1.0 ∙ same-end, g.1.1))) (λ s' c. c) inner)

  -- ---- from anywhere inside

  abbrev Out : Moment → Type 0
  Out s' = IsValidMoment size s' × (s'.hart.pc ≡ loop_end)

  abbrev Ended : ℕ → Moment → Type 0
  Ended n s = Ends rom (During Q low loop_end) Out (λ s'. Unit {0}) n s

  -- a bound from the head, whatever the slot holds
  abbrev again : ℕ
  again = 6 + count * pass_cost

  from-head : ((s : Moment) → Q s) → Keeps slot body → (s : Moment) → IsValidMoment size s → s.hart.pc ≡ head → Ended again s
  from-head always keeps s valid at =
      let b = bounds in
      ⊎_elim
      (λ h.
      let more = count - word_at slot s in
      let cost : pass_cost * more ≤ pass_cost * count = mul-le-mul_left pass_cost (omega arith) in
      ends-more rom again (omega (arith, cost))
      (ends-map rom (λ s' i. i) (λ s' g. (g.0, g.1.0)) (λ s' c. tt) (passes keeps more (word_at slot s) (omega arith) s valid at refl)))
      (λ h. ends-more rom again (omega arith)
      (compare-then rom size machine Q quiet slot is_slot allowed {n = 0} low loop_end head count (len body + 6) loop_end s is_count placed.compared_at
      (subst (λ a. fetched rom a ≡ Some skip_below) (omega arith) placed.test_at)
      (subst (λ a. fetched rom a ≡ Some (forward (len body + 6))) (omega arith) placed.out_at)
      (omega arith) (omega (arith, b.1)) (omega arith) (omega arith) at valid
      (λ h' less s' v own. absurd (omega arith))
      (λ h' more s' v own. Arrived (v, own.pc))
      (λ h' s'. tt)))
      (cases_lt (word_at slot s) count)

  -- at the jump back, in the tail, behind the body
  back : ((s : Moment) → Q s) → Keeps slot body → (s : Moment) → IsValidMoment size s → s.hart.pc ≡ address + 48 + 4 * len body → Ended (1 + again) s
  back always keeps s valid at =
      let b = bounds in
      ends-more rom (1 + again) (omega arith)
      (jumps rom size machine Q quiet {n = again} s _ head (subst (λ a. fetched rom a ≡ Some (backward (len body + 10))) (sym at) placed.back_at)
      (plus-backward s.hart.pc (4 * (len body + 10)) (omega arith) (omega (arith, b.1)) ∙ omega arith) (omega (arith, b.0))
      (record { from = omega arith; below = omega arith }) valid (λ v. from-head always keeps (moved head s) v refl))

  from-tail : ((s : Moment) → Q s) → Keeps slot body → (s : Moment) → IsValidMoment size s → Within tail (tail + 4 * 4) s → Ended (5 + again) s
  from-tail always keeps s valid within =
      ends-then rom (1 + again) (5 + again) (omega arith)
      (ends-map rom (widen Q (omega arith) (omega arith)) (λ s' g. g) (λ s' c. c)
      (line-entry rom size machine Q quiet (raised slot) (tt, (tt, (tt, (tt, tt)))) always tail tail s (omega arith) (omega arith) placed.raised_at valid within))
      (λ s' g. back always keeps s' g.0 (g.1 ∙ omega arith))

  at-tail : (s : Moment) → s.hart.pc ≡ tail → Within tail (tail + 4 * 4) s
  at-tail s at = record { from = omega arith; below = omega arith }

  from-body : ((s : Moment) → Q s) → Keeps slot body → (s : Moment) → IsValidMoment size s → s.hart.pc ≡ body_at → Ended (full body + (5 + again)) s
  from-body always keeps s valid at =
      ends-then rom (5 + again) (full body + (5 + again)) (omega arith)
      (ends-map rom (widen Q (omega arith) (omega arith)) (λ s' g. g) (λ s' c. c)
      (entered-top rom size machine Q quiet body_at (full body) body s (omega arith) (top_body body_at s placed.body_at valid at)))
      (λ s' g. from-tail always keeps s' g.0 (at-tail s' g.1))

  -- at the jump out, and at the test before it
  out : (s : Moment) → IsValidMoment size s → s.hart.pc ≡ address + 28 → Ended 1 s
  out s valid at =
      let b = bounds in
      jumps rom size machine Q quiet {n = 0} s _ loop_end (subst (λ a. fetched rom a ≡ Some (forward (len body + 6))) (sym at) placed.out_at)
      (plus-forward s.hart.pc (4 * (len body + 6)) (omega (arith, b.1)) ∙ omega arith) (omega (arith, b.0))
      (record { from = omega arith; below = omega arith }) valid (λ v. Arrived (v, refl))

  from-test : ((s : Moment) → Q s) → Keeps slot body → (s : Moment) → IsValidMoment size s → s.hart.pc ≡ address + 24 → Ended (6 + full body + again) s
  from-test always keeps s valid at =
      let b = bounds in
      ends-more rom (6 + full body + again) (omega arith)
      (branches rom size machine Q quiet {n = 5 + full body + again} s skip_below (takes skip_below s.hart) 8 body_at (address + 28)
      (subst (λ a. fetched rom a ≡ Some skip_below) (sym at) placed.test_at)
      (does-skip_below rom (offered s.readings) s.hart) (access-skip_below rom s) (omega arith) (omega arith) (omega (arith, b.1)) (omega arith) (omega (arith, b.0)) (record { from = omega arith; below = omega arith }) valid
      (λ taken v. ends-more rom (5 + full body + again) (omega arith) (from-body always keeps (moved body_at s) v refl))
      (λ passed v. ends-more rom (5 + full body + again) (omega arith) (out (moved (address + 28) s) v refl)))

  loop-entry-in : ((s : Moment) → Q s) → Keeps slot body → EntryLaw rom size machine Q quiet body → (s : Moment) → IsValidMoment size s → Within low loop_end s
      → Ended (entry body + (16 + count * pass_cost)) s
  loop-entry-in always keeps entry_body s valid within =
      let f = within.from in let b = within.below in
      let most = entry body + (16 + count * pass_cost) in
      let top_le = full-le-entry body in
      ⊎_elim (λ h. between rom size machine Q quiet most s (omega arith) (omega arith) within)
      (λ aligned. ⊎_elim
      (λ h. ends-then rom again most (omega arith)
      (ends-map rom (widen Q (omega arith) (omega arith)) (λ s' g. g) (λ s' c. c)
      (line-entry rom size machine Q quiet (reset slot) (tt, (tt, tt)) always low address s above near placed.reset_at valid (record { from = f; below = h })))
      (λ s' g. from-head always keeps s' g.0 g.1))
      (λ from_head. ⊎_elim
      (λ h. ends-then rom (6 + full body + again) most (omega arith)
      (ends-map rom (widen Q (omega arith) (omega arith)) (λ s' g. g) (λ s' c. c)
      (line-entry rom size machine Q quiet (compared count slot) (tt, (tt, (tt, (tt, tt)))) always head head s (omega arith) (omega arith) placed.compared_at valid (record { from = from_head; below = h })))
      (λ s' g. from-test always keeps s' g.0 (g.1 ∙ omega arith)))
      (λ from_test. ⊎_elim
      (λ h. ends-more rom most (omega arith) (from-test always keeps s valid (omega (arith, bounds))))
      (λ from_out. ⊎_elim
      (λ h. ends-more rom most (omega arith) (out s valid (omega (arith, bounds))))
      (λ from_body. ⊎_elim
      (λ h. ends-then rom (5 + again) most (omega arith)
      (ends-map rom (widen Q (omega arith) (omega arith)) (λ s' g. g) (λ s' c. c) (entry_body body_at body_at s (omega arith) (omega arith) placed.body_at valid (record { from = from_body; below = h })))
      (λ s' g. from-tail always keeps s' g.0 (at-tail s' g.1)))
      (λ from_tail. ⊎_elim
      (λ h. ends-more rom most (omega arith) (from-tail always keeps s valid (record { from = from_tail; below = h })))
      (λ h. ends-more rom most (omega arith) (back always keeps s valid (omega (arith, bounds))))
      (cases_lt s.hart.pc (tail + 4 * 4)))
      (cases_lt s.hart.pc tail))
      (cases_lt s.hart.pc body_at))
      (cases_lt s.hart.pc (address + 28)))
      (cases_lt s.hart.pc (head + 4 * 4)))
      (cases_lt s.hart.pc (address + 4 * 2)))
      (cases_lt 0 (s.hart.pc % 4))

  pub loop-entry : ((s : Moment) → Q s) → Keeps slot body → EntryLaw rom size machine Q quiet body → (s : Moment) → IsValidMoment size s → Within low (address + 4 * (13 + len body)) s
      → Entered rom size machine Q quiet low address (Loop count slot body) s
  loop-entry always keeps entry_body s valid within =
      ends-map rom (widen Q (omega arith) (omega arith)) (λ s' g. (g.0, g.1 ∙ same-end)) (λ s' c. c)
      (loop-entry-in always keeps entry_body s valid (wider (omega arith) (omega arith) s within))
