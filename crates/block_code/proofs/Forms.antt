-- Jumps, branches and the laws' forms.
use Rattle.std.proofs.Common.{◌≡◌, ◌≢◌, ℕ, zero, suc, ◌+◌, ◌-◌, ◌*◌, ◌%◌, ◌^◌, ◌<◌, ◌≤◌, ℤ, pos, neg_ℤ, List, [], ◌∷◌, length, Some, Bool, true, false, cond, refl, ap, ◌∙◌, subst, arith}
use Rattle.std.proofs.lemmas.Bool.Decides.{nat_tests}
use Rattle.std.specs.Prelude.{◌==◌}
use Rattle.rv_isa.specs.declared.instr.Instr.{Instr}
use Rattle.rv_isa.specs.declared.instr.Instr.TheVariants.{Jal}
use Rattle.rv_machine.specs.Code.{Stands, step}
use Rattle.rv_machine.specs.Hart.{HartState}
use Rattle.rv_machine.specs.Run.{offered}
use Rattle.rv_machine.specs.Tick.{Quiet, Ticks, fetched, jump, trap}
use Rattle.block_code.specs.Access.{NoAccess, access_of}
use Rattle.block_code.specs.During.{During, IsQuiet}
use Rattle.block_code.specs.Effect.{Does, Holds, Stops, moved}
use Rattle.block_code.specs.Ends.{Ends, Stopped}
use Rattle.block_code.specs.Moment.{IsValidMoment, Moment, is_trap, moment_by}
use Rattle.block_code.specs.Place.{IsMachine, Within}
use Rattle.block_code.specs.Plan.{Plan, code, entry, full, len}
use Rattle.block_code.proofs.Ends.{ends-keep, ends-map, ends-more}
use Rattle.block_code.proofs.Line.{stands-end}
use Rattle.block_code.proofs.Machine.{branch_tick, displaced, valid-next}
use Rattle.block_code.proofs.Place.{length-code}
use Rattle.block_code.proofs.Steps.{next-at, step-on, traps-between}
use Rattle.block_code.proofs.Machine.{access-fetched, access-jal, does-jal}

pub plus-forward : (pc offset : ℕ) → pc + offset < 2 ^ 32 → displaced pc (pos offset) ≡ pc + offset
plus-forward pc offset h = omega arith

pub plus-backward : (pc offset : ℕ) → offset ≤ pc → pc < 2 ^ 32 → displaced pc (neg_ℤ (pos offset)) ≡ pc - offset
plus-backward pc zero h k = omega arith
plus-backward pc (suc n) h k = omega arith

pub jump-to : (m : HartState) (target : ℕ) → target % 4 ≡ 0 → jump m target m.regs ≡ record { hart = record { pc = target; regs = m.regs; ram = m.ram }; event = Quiet }
jump-to m target h =
    let test : (target % 4 == 0) ≡ true = grind (arith, nat_tests) in
    ap (λ b. cond b (record { hart = record { pc = target; regs = m.regs; ram = m.ram }; event = Quiet }) (trap m)) test

module _ (rom : List ℕ) (size : ℕ) (machine : IsMachine rom size) (Q : Moment → Type 0) (quiet : IsQuiet rom Q) where
  -- a tick that leaves RAM alone
  pub step-still : {from to : ℕ} {G C : Moment → Type 0} {n : ℕ} (s : Moment) (i : Instr) (t : Ticks) → fetched rom s.hart.pc ≡ Some i
      → step rom (offered s.readings) i s.hart ≡ t → is_trap t.event ≡ false → t.hart.ram ≡ s.hart.ram → access_of rom i s ≡ NoAccess → Within from to s → IsValidMoment size s
      → (IsValidMoment size (moment_by t s) → Ends rom (During Q from to) G C n (moment_by t s)) → Ends rom (During Q from to) G C (suc n) s
  step-still s i t f e untrapped same none inside valid rest =
      step-on rom size machine s i t f e untrapped (inside, quiet.still s (ap (λ x. x.hart.ram) (next-at rom s i f) ∙ ap (λ x. x.hart.ram) e ∙ same) (access-fetched rom s i f ∙ none)) valid rest

  pub ends-valid : {I G C : Moment → Type 0} {n : ℕ} {s : Moment} → IsValidMoment size s → Ends rom I G C n s
      → Ends rom I (λ s'. IsValidMoment size s' × G s') C n s
  ends-valid v e = ends-map rom (λ s p. p.1) (λ s p. p) (λ s p. p.1)
      (ends-keep rom (λ s v i t. valid-next size machine.ram_aligned rom machine.words s v) v e)

  -- a jump
  pub jumps : {from to : ℕ} {G C : Moment → Type 0} {n : ℕ} (s : Moment) (imm : ℤ) (target : ℕ) → fetched rom s.hart.pc ≡ Some (Jal 0 imm)
      → displaced s.hart.pc imm ≡ target → target % 4 ≡ 0 → Within from to s → IsValidMoment size s
      → (IsValidMoment size (moved target s) → Ends rom (During Q from to) G C n (moved target s)) → Ends rom (During Q from to) G C (suc n) s
  jumps s imm target f to aligned inside valid rest =
      step-still s (Jal 0 imm) (record { hart = record { pc = target; regs = s.hart.regs; ram = s.hart.ram }; event = Quiet }) f
      (does-jal rom (offered s.readings) s.hart imm ∙ ap (λ t. jump s.hart t s.hart.regs) to ∙ jump-to s.hart target aligned) refl refl (access-jal rom 0 imm s) inside valid rest

  -- a branch forward to `target`, or on to `past`
  pub branches : {from to : ℕ} {G C : Moment → Type 0} {n : ℕ} (s : Moment) (i : Instr) (taken : Bool) (offset target past : ℕ) → fetched rom s.hart.pc ≡ Some i
      → step rom (offered s.readings) i s.hart ≡ branch_tick s.hart taken (pos offset) → access_of rom i s ≡ NoAccess
      → s.hart.pc + offset ≡ target → s.hart.pc + 4 ≡ past → target < 2 ^ 32 → 4 ≤ offset → target % 4 ≡ 0 → Within from to s → IsValidMoment size s
      → (taken ≡ true → IsValidMoment size (moved target s) → Ends rom (During Q from to) G C n (moved target s))
      → (taken ≡ false → IsValidMoment size (moved past s) → Ends rom (During Q from to) G C n (moved past s))
      → Ends rom (During Q from to) G C (suc n) s
  branches s i true offset target past f e none to beyond low high aligned inside valid on off =
      let there : displaced s.hart.pc (pos offset) ≡ target = plus-forward s.hart.pc offset (omega arith) ∙ to in
      step-still s i (record { hart = record { pc = target; regs = s.hart.regs; ram = s.hart.ram }; event = Quiet }) f
      (e ∙ ap (λ t. jump s.hart t s.hart.regs) there ∙ jump-to s.hart target aligned) refl refl none inside valid (on refl)
  branches s i false offset target past f e none to beyond low high aligned inside valid on off =
      let next_pc : (s.hart.pc + 4) % 2 ^ 32 ≡ past = omega arith in
      step-still s i (record { hart = record { pc = past; regs = s.hart.regs; ram = s.hart.ram }; event = Quiet }) f
      (e ∙ ap (λ p. record { hart = record { pc = p; regs = s.hart.regs; ram = s.hart.ram }; event = Quiet }) next_pc) refl refl none inside valid (off refl)

  -- the law of the top at s, with the structured effect
  abbrev pub Top : ℕ → Plan → Moment → Type 0
  Top address tree s = Ends rom (During Q address (address + 4 * len tree))
      (λ s'. IsValidMoment size s' × ((s'.hart.pc ≡ address + 4 * len tree) × Does rom address tree s s'))
      (λ s'. Holds size tree → Stops rom address tree s s') (full tree) s

  -- the law of the entry at s, with what pc does not come below
  abbrev pub Entered : (low address : ℕ) → Plan → Moment → Type 0
  Entered low address tree s = Ends rom (During Q low (address + 4 * len tree))
      (λ s'. IsValidMoment size s' × (s'.hart.pc ≡ address + 4 * len tree)) (λ s'. Unit {0}) (entry tree) s

  abbrev pub TopLaw : Plan → Type 0
  TopLaw tree = (address : ℕ) (s : Moment) → Stands rom address (code tree) → IsValidMoment size s → s.hart.pc ≡ address → Top address tree s

  -- from anywhere inside, and from anywhere behind the first word, to which the run then does not come back
  abbrev pub EntryLaw : Plan → Type 0
  EntryLaw tree = (low address : ℕ) (s : Moment) → address ≤ low → low ≤ address + 1 → Stands rom address (code tree) → IsValidMoment size s
      → Within low (address + 4 * len tree) s → Entered low address tree s

  -- from the top, with no more than the law of the entry says
  pub entered-top : (address n : ℕ) (tree : Plan) (s : Moment) → full tree ≤ n → Top address tree s
      → Ends rom (During Q address (address + 4 * len tree)) (λ s'. IsValidMoment size s' × (s'.hart.pc ≡ address + 4 * len tree)) (λ s'. Unit {0}) n s
  entered-top address n tree s h t = ends-more rom n h (ends-map rom (λ s i. i) (λ s g. (g.0, g.1.0)) (λ s c. tt) t)

  -- where a block ends that has words
  pub block-end : (tree : Plan) (address : ℕ) → Stands rom address (code tree) → 0 < len tree → (address % 4 ≡ 0) × (address + 4 * len tree ≤ 2 ^ 20)
  block-end tree address stands some =
      subst (λ n. (address % 4 ≡ 0) × (address + 4 * n ≤ 2 ^ 20)) (length-code tree)
      (of_list (code tree) stands (omega (arith, length-code tree)))
    where
      of_list : (xs : List Instr) → Stands rom address xs → 0 < length xs → (address % 4 ≡ 0) × (address + 4 * length xs ≤ 2 ^ 20)
      of_list [] s h = absurd (omega arith)
      of_list (i ∷ is) s h = let e = stands-end rom address i is s in let small = machine.rom_small in (e.0, omega (arith, e.1))

  -- a place that is no word's
  pub between : {from to : ℕ} {G : Moment → Type 0} (n : ℕ) (s : Moment) → 0 < n → s.hart.pc % 4 ≢ 0 → Within from to s → Ends rom (During Q from to) G (λ s'. Unit {0}) n s
  between zero s some h i = absurd (omega arith)
  between (suc n) s some h i = Stopped (i, quiet.stopped s (traps-between rom s h)) (traps-between rom s h) tt
