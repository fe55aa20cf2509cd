-- Both laws of scans.
use Rattle.std.proofs.Common.{◌≡◌, ◌≢◌, ℕ, zero, suc, ◌+◌, ◌-◌, ◌*◌, ◌%◌, ◌^◌, ◌<◌, ◌≤◌, max, pos, List, Some, refl, sym, ap, ◌∙◌, subst, inl, inr, ⊎_elim, arith, lit<}
use Rattle.std.proofs.Math.Nat.{mul-le-mul_left}
use Rattle.std.proofs.lemmas.Bool.{cases_lt}
use Rattle.std.proofs.lemmas.Bool.Decides.{nat_tests}
use Rattle.rv_machine.specs.Code.{Stands}
use Rattle.rv_machine.specs.Memory.{stored}
use Rattle.rv_machine.specs.Tick.{fetched}
use Rattle.block_code.specs.Block.{IsCount, IsSlot, Keeps}
use Rattle.block_code.specs.During.{Allows, During, IsQuiet}
use Rattle.block_code.specs.Effect.{Does, Holds, Own, SearchStops, Searches, Stops, moved, reg_at}
use Rattle.block_code.specs.Ends.{Arrived, Ends}
use Rattle.block_code.specs.Moment.{IsValidMoment, Moment}
use Rattle.block_code.specs.Place.{IsMachine, Within, word_in}
use Rattle.block_code.specs.Plan.{Plan, Scan, backward, code, compared, entry, forward, full, len, raised, reset, skip_below, skip_if_set}
use Rattle.block_code.proofs.Counter.{compare-then, raise-then, reset-then}
use Rattle.block_code.proofs.Ends.{ends-map, ends-more, ends-then}
use Rattle.block_code.proofs.Forms.{Entered, EntryLaw, Top, TopLaw, between, block-end, branches, entered-top, jumps, plus-backward, plus-forward}
use Rattle.block_code.proofs.Keeps.{keeps-word, own-word, word_at}
use Rattle.block_code.proofs.Place.{ScanStands, full-le-entry, scan-stands, widen, wider}
use Rattle.block_code.proofs.Plain.{line-entry}
use Rattle.rv_machine.specs.Run.{offered}
use Rattle.block_code.proofs.Machine.{access-skip_below, access-skip_if_set, does-skip_below, does-skip_if_set, takes}

module _ (rom : List ℕ) (size : ℕ) (machine : IsMachine rom size) (Q : Moment → Type 0) (quiet : IsQuiet rom Q) (count slot : ℕ) (is_count : IsCount count) (is_slot : IsSlot slot) (allowed : Allows rom size Q slot)
    (guard : Plan) (test : ℕ) (found none : Plan)
    (top_guard : TopLaw rom size machine Q quiet guard) (top_found : TopLaw rom size machine Q quiet found) (top_none : TopLaw rom size machine Q quiet none)
    (low address : ℕ) (above : address ≤ low) (near : low ≤ address + 1) (stands : Stands rom address (code (Scan count slot guard test found none))) where
  abbrev whole : Plan
  whole = Scan count slot guard test found none

  abbrev head : ℕ
  head = address + 8

  abbrev guard_at : ℕ
  guard_at = address + 32

  abbrev judged_at : ℕ
  judged_at = address + 32 + 4 * len guard

  abbrev tail : ℕ
  tail = address + 36 + 4 * len guard

  abbrev found_at : ℕ
  found_at = address + 56 + 4 * len guard

  abbrev past_at : ℕ
  past_at = found_at + 4 * len found

  abbrev none_at : ℕ
  none_at = found_at + 4 * len found + 4

  abbrev scan_end : ℕ
  scan_end = none_at + 4 * len none

  placed : ScanStands rom address count slot guard test found none
  placed = scan-stands rom address count slot guard test found none stands

  bounds : (address % 4 ≡ 0) × (scan_end ≤ 2 ^ 20)
  bounds = let e = block-end rom size machine Q quiet whole address stands (omega arith) in (e.0, omega (arith, e.1))

  same-end : scan_end ≡ address + 4 * (15 + len guard + len found + len none)
  same-end = omega arith

  abbrev pass_cost : ℕ
  pass_cost = full guard + 24

  abbrev last_cost : ℕ
  last_cost = max (full found) (full none)

  abbrev Sought : ℕ → ℕ → Moment → Moment → Type 0
  Sought more c s s' = Searches (Does rom guard_at guard) (Does rom found_at found) (Does rom none_at none) head guard_at found_at none_at scan_end slot test more c s s'

  abbrev SoughtStops : ℕ → ℕ → Moment → Moment → Type 0
  SoughtStops more c s s' = SearchStops (Does rom guard_at guard) (Stops rom guard_at guard) (Stops rom found_at found) (Stops rom none_at none) head guard_at found_at none_at slot test more c s s'

  abbrev Seeks : ℕ → ℕ → ℕ → Moment → Moment → Type 0
  Seeks n more c s at = Ends rom (During Q low scan_end) (λ s'. IsValidMoment size s' × ((s'.hart.pc ≡ scan_end) × Sought more c s s'))
      (λ s'. Holds size whole → SoughtStops more c s s') n at

  abbrev cost : ℕ → ℕ
  cost more = 8 + more * pass_cost + last_cost

  -- behind `found`
  past : {G C : Moment → Type 0} (s : Moment) → IsValidMoment size s → s.hart.pc ≡ past_at
      → (IsValidMoment size (moved scan_end s) → G (moved scan_end s)) → Ends rom (During Q low scan_end) G C 1 s
  past s valid at g =
      let b = bounds in
      jumps rom size machine Q quiet s (pos (4 * (len none + 1))) scan_end (subst (λ a. fetched rom a ≡ Some (forward (len none + 1))) (sym at) placed.past_at)
      (plus-forward s.hart.pc (4 * (len none + 1)) (omega (arith, b.1)) ∙ omega arith) (omega (arith, b.0))
      (record { from = omega arith; below = omega arith }) valid (λ v. Arrived (g v))

  -- the test behind the guard
  judge : {G C : Moment → Type 0} {n : ℕ} (s : Moment) → IsValidMoment size s → s.hart.pc ≡ judged_at
      → (reg_at test s ≢ 0 → IsValidMoment size (moved found_at s) → Ends rom (During Q low scan_end) G C n (moved found_at s))
      → (reg_at test s ≡ 0 → IsValidMoment size (moved tail s) → Ends rom (During Q low scan_end) G C n (moved tail s))
      → Ends rom (During Q low scan_end) G C (suc n) s
  judge s valid at is_set is_clear =
      let b = bounds in
      let x0 : reg_at 0 s ≡ 0 = valid.hart.regs.zero_reg in
      branches rom size machine Q quiet s (skip_if_set test 24) (takes (skip_if_set test 24) s.hart) 24 found_at tail
      (subst (λ a. fetched rom a ≡ Some (skip_if_set test 24)) (sym at) placed.judged_at) (does-skip_if_set rom (offered s.readings) s.hart test 24) (access-skip_if_set rom test 24 s) (omega arith) (omega arith) (omega (arith, b.1)) (omega arith) (omega (arith, b.0))
      (record { from = omega arith; below = omega arith }) valid
      (λ taken v. let other : reg_at test s ≢ 0 = grind (arith, nat_tests) in is_set other v)
      (λ passed v. let zeroed : reg_at test s ≡ 0 = grind (arith, nat_tests) in is_clear zeroed v)

  -- from the head, with so many counters to come
  searches : Keeps slot guard → (more c : ℕ) → c + more ≡ count → (s : Moment) → IsValidMoment size s → s.hart.pc ≡ head → word_at slot s ≡ c → Seeks (cost more) more c s s
  searches keeps zero c total s valid at counter =
      let b = bounds in
      ends-more rom (cost 0) (omega arith)
      (compare-then rom size machine Q quiet slot is_slot allowed {n = full none} low scan_end head count (len guard + len found + 8) none_at s is_count placed.compared_at
      (subst (λ a. fetched rom a ≡ Some skip_below) (omega arith) placed.test_at)
      (subst (λ a. fetched rom a ≡ Some (forward (len guard + len found + 8))) (omega arith) placed.out_at)
      (omega arith) (omega (arith, b.1)) (omega arith) (omega arith) at valid
      (λ h less s' v own. absurd (omega arith))
      (λ h less s1 v1 own.
      ends-map rom (widen Q (omega arith) (omega arith)) (λ s' g. (g.0, (g.1.0, (s1, own, g.1.1)))) (λ s' stop holds. (s1, own, stop holds.3))
      (top_none none_at s1 placed.none_at v1 own.pc))
      (λ h s' holds. absurd (omega (arith, holds.0))))
  searches keeps (suc more) c total s valid at counter =
      let b = bounds in
      let few = is_count.few in
      ends-more rom (cost (suc more)) (omega arith)
      (compare-then rom size machine Q quiet slot is_slot allowed {n = full guard + (1 + max (full found + 1) (5 + cost more))} low scan_end head count (len guard + len found + 8) none_at s is_count placed.compared_at
      (subst (λ a. fetched rom a ≡ Some skip_below) (omega arith) placed.test_at)
      (subst (λ a. fetched rom a ≡ Some (forward (len guard + len found + 8))) (omega arith) placed.out_at)
      (omega arith) (omega (arith, b.1)) (omega arith) (omega arith) at valid
      (λ h less s1 v1 own1.
      let begun_at : s1.hart.pc ≡ guard_at = own1.pc ∙ omega arith in
      let entered : Own guard_at s.hart.ram s s1 = record { pc = begun_at; regs = own1.regs; ram = own1.ram; readings = own1.readings; log = own1.log; low = omega (arith, own1.low); fit = own1.fit } in
      let counter1 : word_at slot s1 ≡ c = ap (word_in slot) own1.ram ∙ counter in
      ends-then rom (1 + max (full found + 1) (5 + cost more)) (full guard + (1 + max (full found + 1) (5 + cost more))) (omega arith)
      (ends-map rom (widen Q (omega arith) (omega arith)) (λ s' g. g) (λ s' stop holds. (s1, entered, counter1, inl (stop holds.1)))
      (keeps-word rom slot (keeps rom size guard_at s1 machine placed.guard_at v1 begun_at) (top_guard guard_at s1 placed.guard_at v1 begun_at)))
      (λ s2 moment_done.
      let c2 : word_at slot s2 ≡ c = moment_done.0 ∙ counter1 in
      let raised_to : (word_at slot s2 + 1) % 2 ^ 32 ≡ c + 1 = omega arith in
      ends-more rom (1 + max (full found + 1) (5 + cost more)) (omega arith)
      (judge {n = max (full found + 1) (5 + cost more)} s2 moment_done.1.0 moment_done.1.1.0
      (λ other v.
      ends-then rom 1 (max (full found + 1) (5 + cost more)) (omega arith)
      (ends-map rom (widen Q (omega arith) (omega arith)) (λ s' g. g)
      (λ s' stop holds. (s1, entered, counter1, inr (s2, moment_done.1.1.1, inl (other, c2, stop holds.2))))
      (top_found found_at (moved found_at s2) placed.found_at v refl))
      (λ s3 g. past s3 g.0 g.1.0 (λ w. (w, (refl, (s1, s2, entered, counter1, moment_done.1.1.1, inl (other, c2, (s3, g.1.1, refl))))))))
      (λ zeroed v.
      ends-more rom (max (full found + 1) (5 + cost more)) (omega arith)
      (raise-then rom size machine Q quiet slot is_slot allowed {n = cost more} low scan_end tail head (len guard + 11) (moved tail s2) placed.raised_at
      (subst (λ a. fetched rom a ≡ Some (backward (len guard + 11))) (omega arith) placed.back_at)
      (omega arith) (omega arith) (omega arith) refl v
      (λ h' s3 v3 own3.
      let raised_own : Own head (stored 4 slot (c + 1) s2.hart.ram) (moved tail s2) s3 =
      subst (λ x. Own head (stored 4 slot x s2.hart.ram) (moved tail s2) s3) raised_to own3 in
      let from_guard : Own head (stored 4 slot (c + 1) s2.hart.ram) s2 s3 =
      record { pc = raised_own.pc; regs = raised_own.regs; ram = raised_own.ram; readings = raised_own.readings; log = raised_own.log; low = raised_own.low; fit = raised_own.fit } in
      ends-map rom (λ s' i. i) (λ s' g. (g.0, (g.1.0, (s1, s2, entered, counter1, moment_done.1.1.1, inr (zeroed, (s3, from_guard, g.1.1))))))
      (λ s' stop holds. (s1, entered, counter1, inr (s2, moment_done.1.1.1, inr (zeroed, (s3, from_guard, stop holds)))))
      (searches keeps more (c + 1) (omega arith) s3 v3 own3.pc (own-word size slot head (c + 1) (moved tail s2) s3 is_slot machine.ram_aligned h' v (omega arith) raised_own)))
      (λ h' s' holds. absurd (omega (arith, holds.0))))))))
      (λ h more' s' v own. absurd (omega arith))
      (λ h s' holds. absurd (omega (arith, holds.0))))

  pub scan-top : low ≤ address → Keeps slot guard → (s : Moment) → IsValidMoment size s → s.hart.pc ≡ address → Top rom size machine Q quiet address whole s
  scan-top lowest keeps s valid at =
      let b = bounds in
      let inner : Ends rom (During Q low scan_end) (λ s'. IsValidMoment size s' × ((s'.hart.pc ≡ scan_end) × Does rom address whole s s'))
      (λ s'. Holds size whole → Stops rom address whole s s') (2 + cost count) s =
      reset-then rom size machine Q quiet slot is_slot allowed {n = cost count} low scan_end address s placed.reset_at (omega arith) (omega arith) at valid
      (λ h s0 v0 own.
      ends-map rom (λ s' i. i) (λ s' g. (g.0, (g.1.0, (s0, own, g.1.1)))) (λ s' stop holds. (s0, own, stop holds))
      (searches keeps count 0 (omega arith) s0 v0 own.pc (own-word size slot head 0 s s0 is_slot machine.ram_aligned h valid (lit< tt) own)))
      (λ h s' holds. absurd (omega (arith, holds.0))) in
      ends-more rom (24 + count * pass_cost + last_cost) (omega arith)
      (ends-map rom (widen Q (omega arith) (omega arith)) (λ s' g. (g.0, (g.1.0 ∙ same-end, g.1.1))) (λ s' c. c) inner)

  -- ---- from anywhere inside

  abbrev Ended : ℕ → Moment → Type 0
  Ended n s = Ends rom (During Q low scan_end) (λ s'. IsValidMoment size s' × (s'.hart.pc ≡ scan_end)) (λ s'. Unit {0}) n s

  from-found : (s : Moment) → IsValidMoment size s → s.hart.pc ≡ found_at → Ended (full found + 1) s
  from-found s valid at =
      ends-then rom 1 (full found + 1) (omega arith)
      (ends-map rom (widen Q (omega arith) (omega arith)) (λ s' g. g) (λ s' c. c)
      (entered-top rom size machine Q quiet found_at (full found) found s (omega arith) (top_found found_at s placed.found_at valid at)))
      (λ s' g. past s' g.0 g.1 (λ w. (w, refl)))

  from-none : (s : Moment) → IsValidMoment size s → s.hart.pc ≡ none_at → Ended (full none) s
  from-none s valid at =
      ends-map rom (widen Q (omega arith) (omega arith)) (λ s' g. g) (λ s' c. c)
      (entered-top rom size machine Q quiet none_at (full none) none s (omega arith) (top_none none_at s placed.none_at valid at))

  -- a bound from the head, whatever the slot holds
  abbrev again : ℕ
  again = cost count

  from-head : ((s : Moment) → Q s) → Keeps slot guard → (s : Moment) → IsValidMoment size s → s.hart.pc ≡ head → Ended again s
  from-head always keeps s valid at =
      let b = bounds in
      ⊎_elim
      (λ h.
      let more = count - word_at slot s in
      let less : pass_cost * more ≤ pass_cost * count = mul-le-mul_left pass_cost (omega arith) in
      ends-more rom again (omega (arith, less))
      (ends-map rom (λ s' i. i) (λ s' g. (g.0, g.1.0)) (λ s' c. tt) (searches keeps more (word_at slot s) (omega arith) s valid at refl)))
      (λ h. ends-more rom again (omega arith)
      (compare-then rom size machine Q quiet slot is_slot allowed {n = full none} low scan_end head count (len guard + len found + 8) none_at s is_count placed.compared_at
      (subst (λ a. fetched rom a ≡ Some skip_below) (omega arith) placed.test_at)
      (subst (λ a. fetched rom a ≡ Some (forward (len guard + len found + 8))) (omega arith) placed.out_at)
      (omega arith) (omega (arith, b.1)) (omega arith) (omega arith) at valid
      (λ h' less s' v own. absurd (omega arith))
      (λ h' more s' v own. from-none s' v own.pc)
      (λ h' s'. tt)))
      (cases_lt (word_at slot s) count)

  back : ((s : Moment) → Q s) → Keeps slot guard → (s : Moment) → IsValidMoment size s → s.hart.pc ≡ address + 52 + 4 * len guard → Ended (1 + again) s
  back always keeps s valid at =
      let b = bounds in
      ends-more rom (1 + again) (omega arith)
      (jumps rom size machine Q quiet {n = again} s _ head (subst (λ a. fetched rom a ≡ Some (backward (len guard + 11))) (sym at) placed.back_at)
      (plus-backward s.hart.pc (4 * (len guard + 11)) (omega arith) (omega (arith, b.1)) ∙ omega arith) (omega (arith, b.0))
      (record { from = omega arith; below = omega arith }) valid (λ v. from-head always keeps (moved head s) v refl))

  from-tail : ((s : Moment) → Q s) → Keeps slot guard → (s : Moment) → IsValidMoment size s → Within tail (tail + 4 * 4) s → Ended (5 + again) s
  from-tail always keeps s valid within =
      ends-then rom (1 + again) (5 + again) (omega arith)
      (ends-map rom (widen Q (omega arith) (omega arith)) (λ s' g. g) (λ s' c. c)
      (line-entry rom size machine Q quiet (raised slot) (tt, (tt, (tt, (tt, tt)))) always tail tail s (omega arith) (omega arith) placed.raised_at valid within))
      (λ s' g. back always keeps s' g.0 (g.1 ∙ omega arith))

  -- at the test behind the guard
  from-judged : ((s : Moment) → Q s) → Keeps slot guard → (s : Moment) → IsValidMoment size s → s.hart.pc ≡ judged_at → Ended (6 + again) s
  from-judged always keeps s valid at =
      let some : 0 < again = omega arith in
      ends-more rom (6 + again) (omega arith)
      (judge {n = 5 + again} s valid at
      (λ other v. ends-more rom (5 + again) (omega arith) (from-found (moved found_at s) v refl))
      (λ zeroed v. from-tail always keeps (moved tail s) v (record { from = omega arith; below = omega arith })))

  from-guard : ((s : Moment) → Q s) → Keeps slot guard → (s : Moment) → IsValidMoment size s → s.hart.pc ≡ guard_at → Ended (full guard + (6 + again)) s
  from-guard always keeps s valid at =
      ends-then rom (6 + again) (full guard + (6 + again)) (omega arith)
      (ends-map rom (widen Q (omega arith) (omega arith)) (λ s' g. g) (λ s' c. c)
      (entered-top rom size machine Q quiet guard_at (full guard) guard s (omega arith) (top_guard guard_at s placed.guard_at valid at)))
      (λ s' g. from-judged always keeps s' g.0 g.1)

  out : (s : Moment) → IsValidMoment size s → s.hart.pc ≡ address + 28 → Ended (1 + full none) s
  out s valid at =
      let b = bounds in
      ends-more rom (1 + full none) (omega arith)
      (jumps rom size machine Q quiet {n = full none} s _ none_at (subst (λ a. fetched rom a ≡ Some (forward (len guard + len found + 8))) (sym at) placed.out_at)
      (plus-forward s.hart.pc (4 * (len guard + len found + 8)) (omega (arith, b.1)) ∙ omega arith) (omega (arith, b.0))
      (record { from = omega arith; below = omega arith }) valid (λ v. from-none (moved none_at s) v refl))

  from-test : ((s : Moment) → Q s) → Keeps slot guard → (s : Moment) → IsValidMoment size s → s.hart.pc ≡ address + 24 → Ended (7 + full guard + again) s
  from-test always keeps s valid at =
      let b = bounds in
      ends-more rom (7 + full guard + again) (omega arith)
      (branches rom size machine Q quiet {n = 6 + full guard + again} s skip_below (takes skip_below s.hart) 8 guard_at (address + 28)
      (subst (λ a. fetched rom a ≡ Some skip_below) (sym at) placed.test_at)
      (does-skip_below rom (offered s.readings) s.hart) (access-skip_below rom s) (omega arith) (omega arith) (omega (arith, b.1)) (omega arith) (omega (arith, b.0)) (record { from = omega arith; below = omega arith }) valid
      (λ taken v. ends-more rom (6 + full guard + again) (omega arith) (from-guard always keeps (moved guard_at s) v refl))
      (λ passed v. ends-more rom (6 + full guard + again) (omega arith) (out (moved (address + 28) s) v refl)))

  abbrev most : ℕ
  most = max (max (entry guard) (entry found)) (entry none) + (24 + count * pass_cost + last_cost)

  -- from the test behind the guard on
  second-half : ((s : Moment) → Q s) → Keeps slot guard → EntryLaw rom size machine Q quiet found → EntryLaw rom size machine Q quiet none → (s : Moment) → IsValidMoment size s → s.hart.pc % 4 ≡ 0
      → judged_at ≤ s.hart.pc → s.hart.pc < scan_end → Ended most s
  second-half always keeps entry_found entry_none s valid aligned from below =
      ⊎_elim
      (λ h. ends-more rom most (omega arith) (from-judged always keeps s valid (omega (arith, bounds))))
      (λ from_tail. ⊎_elim
      (λ h. ends-more rom most (omega arith) (from-tail always keeps s valid (record { from = from_tail; below = h })))
      (λ from_back. ⊎_elim
      (λ h. ends-more rom most (omega arith) (back always keeps s valid (omega (arith, bounds))))
      (λ from_found. ⊎_elim
      (λ h. ends-then rom 1 most (omega arith)
      (ends-map rom (widen Q (omega arith) (omega arith)) (λ s' g. g) (λ s' c. c) (entry_found found_at found_at s (omega arith) (omega arith) placed.found_at valid (record { from = from_found; below = h })))
      (λ s' g. past s' g.0 g.1 (λ w. (w, refl))))
      (λ from_past. ⊎_elim
      (λ h. ends-more rom most (omega arith) (past s valid (omega (arith, bounds)) (λ w. (w, refl))))
      (λ h. ends-more rom most (omega arith)
      (ends-map rom (widen Q (omega arith) (omega arith)) (λ s' g. g) (λ s' c. c) (entry_none none_at none_at s (omega arith) (omega arith) placed.none_at valid (record { from = h; below = below }))))
      (cases_lt s.hart.pc none_at))
      (cases_lt s.hart.pc past_at))
      (cases_lt s.hart.pc found_at))
      (cases_lt s.hart.pc (tail + 4 * 4)))
      (cases_lt s.hart.pc tail)

  first-half : ((s : Moment) → Q s) → Keeps slot guard → EntryLaw rom size machine Q quiet guard → (s : Moment) → IsValidMoment size s → s.hart.pc % 4 ≡ 0
      → low ≤ s.hart.pc → s.hart.pc < judged_at → Ended most s
  first-half always keeps entry_guard s valid aligned from below =
      let top_le = full-le-entry guard in
      ⊎_elim
      (λ h. ends-then rom again most (omega arith)
      (ends-map rom (widen Q (omega arith) (omega arith)) (λ s' g. g) (λ s' c. c)
      (line-entry rom size machine Q quiet (reset slot) (tt, (tt, tt)) always low address s above near placed.reset_at valid (record { from = from; below = h })))
      (λ s' g. from-head always keeps s' g.0 g.1))
      (λ from_head. ⊎_elim
      (λ h. ends-then rom (7 + full guard + again) most (omega arith)
      (ends-map rom (widen Q (omega arith) (omega arith)) (λ s' g. g) (λ s' c. c)
      (line-entry rom size machine Q quiet (compared count slot) (tt, (tt, (tt, (tt, tt)))) always head head s (omega arith) (omega arith) placed.compared_at valid (record { from = from_head; below = h })))
      (λ s' g. from-test always keeps s' g.0 (g.1 ∙ omega arith)))
      (λ from_test. ⊎_elim
      (λ h. ends-more rom most (omega arith) (from-test always keeps s valid (omega (arith, bounds))))
      (λ from_out. ⊎_elim
      (λ h. ends-more rom most (omega arith) (out s valid (omega (arith, bounds))))
      (λ h. ends-then rom (6 + again) most (omega arith)
      (ends-map rom (widen Q (omega arith) (omega arith)) (λ s' g. g) (λ s' c. c) (entry_guard guard_at guard_at s (omega arith) (omega arith) placed.guard_at valid (record { from = h; below = below })))
      (λ s' g. from-judged always keeps s' g.0 g.1))
      (cases_lt s.hart.pc guard_at))
      (cases_lt s.hart.pc (address + 28)))
      (cases_lt s.hart.pc (head + 4 * 4)))
      (cases_lt s.hart.pc (address + 4 * 2))

  pub scan-entry : ((s : Moment) → Q s) → Keeps slot guard → EntryLaw rom size machine Q quiet guard → EntryLaw rom size machine Q quiet found → EntryLaw rom size machine Q quiet none
      → (s : Moment) → IsValidMoment size s → Within low (address + 4 * (15 + len guard + len found + len none)) s → Entered rom size machine Q quiet low address whole s
  scan-entry always keeps entry_guard entry_found entry_none s valid within =
      let f = within.from in let b = within.below in
      ends-map rom (widen Q (omega arith) (omega arith)) (λ s' g. (g.0, g.1 ∙ same-end)) (λ s' c. c)
      (⊎_elim {C = Ended most s} (λ h. between rom size machine Q quiet most s (omega arith) (omega arith) (wider (omega arith) (omega arith) s within))
      (λ aligned. ⊎_elim
      (λ h. first-half always keeps entry_guard s valid (omega arith) f h)
      (λ h. second-half always keeps entry_found entry_none s valid (omega arith) h (omega arith))
      (cases_lt s.hart.pc judged_at))
      (cases_lt 0 (s.hart.pc % 4)))
