-- Both laws of lines, sequences and choices.
use Rattle.std.proofs.Common.{◌≡◌, ◌≢◌, ℕ, suc, ◌+◌, ◌*◌, ◌%◌, ◌^◌, ◌≤◌, max, pos, List, [], ◌∷◌, length, Some, refl, sym, ap, ◌∙◌, subst, inl, inr, ⊎_elim, arith}
use Rattle.std.proofs.lemmas.Bool.{cases_lt}
use Rattle.std.proofs.lemmas.Bool.Decides.{nat_tests}
use Rattle.rv_isa.specs.declared.instr.Instr.{Instr}
use Rattle.rv_machine.specs.Code.{Stands}
use Rattle.rv_machine.specs.Tick.{fetched}
use Rattle.block_code.specs.During.{During, IsQuiet, Spared}
use Rattle.block_code.specs.Effect.{moved, reg_at}
use Rattle.block_code.specs.Ends.{Arrived, Ends}
use Rattle.block_code.specs.Moment.{IsValidMoment, Moment}
use Rattle.block_code.specs.Place.{IsMachine, Within}
use Rattle.block_code.specs.Plan.{If, IsLine, Line, Plan, Seq, code, entry, forward, full, len, skip_if_set}
use Rattle.block_code.proofs.Ends.{ends-both, ends-map, ends-more, ends-then}
use Rattle.block_code.proofs.Forms.{Entered, EntryLaw, Top, TopLaw, between, block-end, branches, ends-valid, entered-top, jumps, plus-forward}
use Rattle.block_code.proofs.Line.{line-ends}
use Rattle.block_code.proofs.Place.{IfStands, full-le-entry, if-stands, stands-block, widen}
use Rattle.block_code.proofs.Steps.{fetched-place}
use Rattle.rv_machine.specs.Run.{offered}
use Rattle.block_code.proofs.Machine.{access-skip_if_set, does-skip_if_set, takes}

module _ (rom : List ℕ) (size : ℕ) (machine : IsMachine rom size) (Q : Moment → Type 0) (quiet : IsQuiet rom Q) where
  -- ---- lines
  pub line-top : (instrs : List Instr) → IsLine instrs → Spared rom size Q (Line instrs) → TopLaw rom size machine Q quiet (Line instrs)
  line-top [] line spared address s stands valid at = Arrived (valid, (omega arith, refl))
  line-top (i ∷ is) line spared address s stands valid at =
      let place = fetched-place rom address i stands.0 in
      ends-valid rom size machine Q quiet valid
      (ends-map rom (λ s i. i) (λ s g. g) (λ s c h. c)
      (ends-both rom (λ s' h w. let b = w.below in absurd (omega arith)) (line-ends rom machine.rom_small address (i ∷ is) address s stands line (omega arith) (omega arith) (omega arith) (omega (arith, place.0)))
      (spared address s stands valid at)))

  pub line-entry : (instrs : List Instr) → IsLine instrs → ((s : Moment) → Q s) → EntryLaw rom size machine Q quiet (Line instrs)
  line-entry [] line always low address s above near stands valid within = let f = within.from in let b = within.below in absurd (omega arith)
  line-entry (i ∷ is) line always low address s above near stands valid within =
      let f = within.from in let b = within.below in
      ⊎_elim (λ h. between rom size machine Q quiet (suc (length is)) s (omega arith) (omega arith) within)
      (λ h. ends-valid rom size machine Q quiet valid (ends-map rom (λ s i. (i, always s)) (λ s g. g.0) (λ s c. tt)
      (line-ends rom machine.rom_small low (i ∷ is) address s stands line f (omega arith) (omega arith) (omega arith))))
      (cases_lt 0 (s.hart.pc % 4))

  -- ---- one part after another
  pub seq-top : (first second : Plan) → TopLaw rom size machine Q quiet first → TopLaw rom size machine Q quiet second → TopLaw rom size machine Q quiet (Seq first second)
  seq-top first second top_first top_second address s stands valid at =
      let parts = stands-block rom address first (code second) stands in
      let end : address + 4 * len first + 4 * len second ≡ address + 4 * (len first + len second) = omega arith in
      ends-then rom (full second) (full first + full second) (omega arith)
      (ends-map rom (widen Q (omega arith) (omega arith)) (λ s' g. g) (λ s' c h. inl (c h.0)) (top_first address s parts.0 valid at))
      (λ mid g. ends-map rom (widen Q (omega arith) (omega arith))
      (λ s' d. (d.0, (d.1.0 ∙ end, (mid, g.1.1, d.1.1)))) (λ s' c h. inr (mid, g.1.1, c h.1))
      (top_second (address + 4 * len first) mid parts.1 g.0 g.1.0))

  pub seq-entry : (first second : Plan) → TopLaw rom size machine Q quiet second → EntryLaw rom size machine Q quiet first → EntryLaw rom size machine Q quiet second
      → EntryLaw rom size machine Q quiet (Seq first second)
  seq-entry first second top_second entry_first entry_second low address s above near stands valid within =
      let parts = stands-block rom address first (code second) stands in
      let f = within.from in let b = within.below in
      let end : address + 4 * len first + 4 * len second ≡ address + 4 * (len first + len second) = omega arith in
      ⊎_elim
      (λ h. ends-then rom (full second) (entry (Seq first second)) (omega arith)
      (ends-map rom (widen Q (omega arith) (omega arith)) (λ s' g. g) (λ s' c. c) (entry_first low address s above near parts.0 valid (record { from = f; below = h })))
      (λ mid g. ends-map rom (widen Q (omega arith) (omega arith)) (λ s' d. (d.0, d.1 ∙ end)) (λ s' c. c)
      (entered-top rom size machine Q quiet (address + 4 * len first) (full second) second mid (omega arith)
      (top_second (address + 4 * len first) mid parts.1 g.0 g.1))))
      (λ h. ends-more rom (entry (Seq first second)) (omega arith)
      (ends-map rom (widen Q (omega arith) (omega arith)) (λ s' d. (d.0, d.1 ∙ end)) (λ s' c. c)
      (entry_second (max low (address + 4 * len first)) (address + 4 * len first) s (omega arith) (omega arith) parts.1 valid (record { from = omega arith; below = omega arith }))))
      (cases_lt s.hart.pc (address + 4 * len first))

  -- ---- one of two parts
  module _ (test : ℕ) (then_part else_part : Plan) (address : ℕ) (stands : Stands rom address (code (If test then_part else_part))) where
    abbrev else_at : ℕ
    else_at = address + 12 + 4 * len then_part

    abbrev if_end : ℕ
    if_end = address + 4 * (3 + len then_part + len else_part)

    placed : IfStands rom address test then_part else_part
    placed = if-stands rom address test then_part else_part stands

    bounds : (address % 4 ≡ 0) × (address + 8 + 4 * len then_part + 4 ≤ 2 ^ 20)
    bounds =
        let small = machine.rom_small in
        let first = fetched-place rom address _ placed.test_at in
        let last = fetched-place rom (address + 8 + 4 * len then_part) _ placed.out_at in (first.0, omega (arith, last.1))

    -- the end of the else part lies in ROM, or just behind it
    end_low : if_end ≤ 2 ^ 20
    end_low = (block-end rom size machine Q quiet (If test then_part else_part) address stands (omega arith)).1

    -- behind the then part
    out : {G C : Moment → Type 0} (low : ℕ) (s : Moment) → low ≤ address + 1 → IsValidMoment size s → s.hart.pc ≡ address + 8 + 4 * len then_part
        → (IsValidMoment size (moved if_end s) → G (moved if_end s)) → Ends rom (During Q low if_end) G C 1 s
    out low s near valid at g =
        let e = end_low in let b = bounds in
        jumps rom size machine Q quiet s (pos (4 * (len else_part + 1))) if_end (subst (λ a. fetched rom a ≡ Some (forward (len else_part + 1))) (sym at) placed.out_at)
        (plus-forward s.hart.pc (4 * (len else_part + 1)) (omega (arith, bounds)) ∙ omega arith) (omega (arith, bounds))
        (record { from = omega arith; below = omega arith }) valid (λ v. Arrived (g v))

    -- at the jump to the else part
    over : {G C : Moment → Type 0} {n : ℕ} (low : ℕ) (s : Moment) → low ≤ address + 1 → IsValidMoment size s → s.hart.pc ≡ address + 4
        → (IsValidMoment size (moved else_at s) → Ends rom (During Q low if_end) G C n (moved else_at s)) → Ends rom (During Q low if_end) G C (suc n) s
    over low s near valid at rest =
        jumps rom size machine Q quiet s (pos (4 * (len then_part + 2))) else_at (subst (λ a. fetched rom a ≡ Some (forward (len then_part + 2))) (sym at) placed.over_at)
        (plus-forward s.hart.pc (4 * (len then_part + 2)) (omega (arith, bounds)) ∙ omega arith) (omega (arith, bounds))
        (record { from = omega arith; below = omega arith }) valid rest

    same-end : else_at + 4 * len else_part ≡ if_end
    same-end = omega arith

    pub if-top : TopLaw rom size machine Q quiet then_part → TopLaw rom size machine Q quiet else_part → (s : Moment) → IsValidMoment size s → s.hart.pc ≡ address
        → Top rom size machine Q quiet address (If test then_part else_part) s
    if-top top_then top_else s valid at =
        let x0 : reg_at 0 s ≡ 0 = valid.hart.regs.zero_reg in
        ends-more rom (3 + max (full then_part) (full else_part)) (omega arith)
        (branches rom size machine Q quiet {n = 2 + max (full then_part) (full else_part)} s (skip_if_set test 8) (takes (skip_if_set test 8) s.hart) 8 (address + 8) (address + 4)
        (subst (λ a. fetched rom a ≡ Some (skip_if_set test 8)) (sym at) placed.test_at) (does-skip_if_set rom (offered s.readings) s.hart test 8) (access-skip_if_set rom test 8 s) (omega arith) (omega arith) (omega (arith, bounds)) (omega arith) (omega (arith, bounds))
        (record { from = omega arith; below = omega arith }) valid
        (λ taken v.
        let other : reg_at test s ≢ 0 = grind (arith, nat_tests) in
        ends-then rom 1 (2 + max (full then_part) (full else_part)) (omega arith)
        (ends-map rom (widen Q (omega arith) (omega arith)) (λ s' g. g) (λ s' c h. inl (other, c h.0)) (top_then (address + 8) (moved (address + 8) s) placed.then_at v refl))
        (λ mid g. out address mid (omega arith) g.0 g.1.0 (λ w. (w, (refl, inl (other, (mid, g.1.1, ap (λ a. moved a mid) (sym same-end))))))))
        (λ passed v.
        let zeroed : reg_at test s ≡ 0 = grind (arith, nat_tests) in
        ends-more rom (2 + max (full then_part) (full else_part)) (omega arith)
        (over {n = full else_part} address (moved (address + 4) s) (omega arith) v refl (λ w.
        ends-map rom (widen Q (omega arith) (omega arith)) (λ s' g. (g.0, (g.1.0 ∙ same-end, inr (zeroed, g.1.1)))) (λ s' c h. inr (zeroed, c h.1))
        (top_else else_at (moved else_at s) placed.else_at w refl)))))

    pub if-entry : TopLaw rom size machine Q quiet then_part → TopLaw rom size machine Q quiet else_part → EntryLaw rom size machine Q quiet then_part → EntryLaw rom size machine Q quiet else_part
        → (low : ℕ) (s : Moment) → address ≤ low → low ≤ address + 1 → IsValidMoment size s → Within low if_end s → Entered rom size machine Q quiet low address (If test then_part else_part) s
    if-entry top_then top_else entry_then entry_else low s above near valid within =
        let f = within.from in let b = within.below in
        let most = 3 + max (entry then_part) (entry else_part) in
        ⊎_elim (λ h. between rom size machine Q quiet most s (omega arith) (omega arith) within)
        (λ aligned. ⊎_elim
        (λ past. ⊎_elim
        (λ h. ends-more rom most (omega (arith, full-le-entry else_part))
        (over {n = full else_part} low s near valid (omega (arith, bounds)) (λ w.
        ends-map rom (widen Q (omega arith) (omega arith)) (λ s' g. (g.0, g.1 ∙ same-end)) (λ s' c. c)
        (entered-top rom size machine Q quiet else_at (full else_part) else_part (moved else_at s) (omega arith)
        (top_else else_at (moved else_at s) placed.else_at w refl)))))
        (λ inside. ⊎_elim
        (λ h. ends-then rom 1 most (omega arith)
        (ends-map rom (widen Q (omega arith) (omega arith)) (λ s' g. g) (λ s' c. c) (entry_then (address + 8) (address + 8) s (omega arith) (omega arith) placed.then_at valid (record { from = inside; below = h })))
        (λ mid g. out low mid near g.0 g.1 (λ w. (w, refl))))
        (λ behind. ⊎_elim
        (λ h. ends-more rom most (omega arith) (out low s near valid (omega (arith, bounds)) (λ w. (w, refl))))
        (λ h. ends-more rom most (omega arith)
        (ends-map rom (widen Q (omega arith) (omega arith)) (λ s' g. (g.0, g.1 ∙ same-end)) (λ s' c. c)
        (entry_else else_at else_at s (omega arith) (omega arith) placed.else_at valid (record { from = h; below = omega arith }))))
        (cases_lt s.hart.pc else_at))
        (cases_lt s.hart.pc (address + 8 + 4 * len then_part)))
        (cases_lt s.hart.pc (address + 8)))
        (λ h. ends-map rom (widen Q (omega arith) (omega arith)) (λ s' g. g) (λ s' c. c)
        (entered-top rom size machine Q quiet address most (If test then_part else_part) s (full-le-entry (If test then_part else_part))
        (if-top top_then top_else s valid (omega arith))))
        (cases_lt address s.hart.pc))
        (cases_lt 0 (s.hart.pc % 4))
