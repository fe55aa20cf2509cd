-- Both laws of a line.
use Rattle.std.proofs.Common.{◌≡◌, ◌≢◌, ℕ, suc, ◌+◌, ◌*◌, ◌%◌, ◌^◌, ◌<◌, ◌≤◌, ℤ, pos, negsuc, List, [], ◌∷◌, length, Bool, true, false, cond, refl, sym, ap, ◌∙◌, subst, inl, inr, ⊎_elim, arith}
use Rattle.std.proofs.lemmas.Bool.{cases_lt}
use Rattle.std.proofs.lemmas.Bool.Decides.{nat_tests}
use Rattle.std.specs.Prelude.{◌==◌}
use Rattle.rv_isa.specs.declared.instr.Instr.{Instr}
use Rattle.rv_isa.specs.declared.instr.Instr.TheVariants.{Lui, Auipc, Jal, Jalr, Beq, Bne, Blt, Bge, Bltu, Bgeu, Lb, Lh, Lw, Lbu, Lhu, Sb, Sh, Sw, Addi, Slti, Sltiu, Xori, Ori, Andi, Slli, Srli, Srai}
use Rattle.rv_isa.specs.declared.instr.Instr.TheVariants.{Add, Sub, Sll, Slt, Sltu, Xor, Srl, Sra, Or, And, Fence, Ecall, Ebreak}
use Rattle.rv_machine.specs.Code.{Stands, step}
use Rattle.rv_machine.specs.Hart.{HartState}
use Rattle.rv_machine.specs.Run.{offered}
use Rattle.rv_machine.specs.Tick.{Event, Quiet, Sent, Ticks, Took, fetched, jump, load, store, trap}
use Rattle.trap_model.specs.declared.map.Loads.{Loads}
use Rattle.trap_model.specs.declared.map.Loads.TheVariants.{InPort, Ram as FromRam, Rom as FromRom, Trap as NoLoad}
use Rattle.trap_model.specs.declared.map.Stores.{Stores}
use Rattle.trap_model.specs.declared.map.Stores.TheVariants.{OutPort, Ram as IntoRam, Trap as NoStore}
use Rattle.block_code.specs.Effect.{LineDoes, LineStops, moment_done, stops}
use Rattle.block_code.specs.Ends.{Arrived, Ends, Onward, Stopped}
use Rattle.block_code.specs.Moment.{Moment, is_trap}
use Rattle.block_code.specs.Place.{Within}
use Rattle.block_code.specs.Plan.{IsLine, IsSkip, StaysIn}
use Rattle.block_code.proofs.Ends.{ends-map, ends-more}
use Rattle.block_code.proofs.Machine.{displaced}
use Rattle.block_code.proofs.Steps.{fetched-place, next-at, traps-at}
use Rattle.rv_machine.specs.Effect.{branch, effect}
use Rattle.rv_machine.specs.Tick.{done}
use Rattle.trap_model.specs.declared.width.Width.{Width}
use Rattle.trap_model.specs.declared.width.Width.TheVariants.{Byte, Half, Word}

module _ (m : HartState) (left : ℕ) (aligned : m.pc % 4 ≡ 0) (some : 0 < left) (low : m.pc + 4 * left ≤ 2 ^ 20) where
  -- a tick that does not trap goes on inside the line, or to its end
  abbrev pub Moves : ℕ → Event → Type 0
  Moves pc e = is_trap e ≡ false → (m.pc + 4 ≤ pc) × (pc ≤ m.pc + 4 * left) × (pc % 4 ≡ 0)

  abbrev pub MovesOn : Ticks → Type 0
  MovesOn t = Moves t.hart.pc t.event

  on-onward : (e : Event) → Moves ((m.pc + 4) % 2 ^ 32) e
  on-onward e h = (omega arith, omega arith, omega arith)

  on-trap : MovesOn (trap m)
  on-trap h = absurd (cc)

  on-jump : (offset : ℕ) → 0 < offset → offset ≤ 4 * left → MovesOn (jump m (displaced m.pc (pos offset)) m.regs)
  on-jump offset h k = cases (displaced m.pc (pos offset) % 4 == 0) refl
    where
      target : displaced m.pc (pos offset) ≡ m.pc + offset
      target = omega arith

      cases : (b : Bool) → (displaced m.pc (pos offset) % 4 == 0) ≡ b
          → MovesOn (cond b (record { hart = record { pc = displaced m.pc (pos offset); regs = m.regs; ram = m.ram }; event = Quiet }) (trap m))
      cases true e q = let multiple : displaced m.pc (pos offset) % 4 ≡ 0 = grind (arith, nat_tests) in (omega (arith, target), omega (arith, target), multiple)
      cases false e q = absurd (cc)

  on-branch : (rom : List ℕ) (reading : ℕ) (taken : Bool) (imm : ℤ) → IsSkip imm left → MovesOn (done rom reading (branch taken m imm) m)
  unfolding done
  on-branch rom reading true (pos offset) s = on-jump offset s.0 s.1
  on-branch rom reading true (negsuc offset) s = absurd s
  on-branch rom reading false imm s = on-onward Quiet

  on-load : (rom : List ℕ) (reading rd : ℕ) (width : Width) (signed : Bool) (from : Loads) → MovesOn (load rom reading rd width signed m from)
  on-load rom reading rd width signed (FromRom offset) = on-onward Quiet
  on-load rom reading rd width signed (FromRam offset) = on-onward Quiet
  on-load rom reading rd width signed (InPort port) = on-onward (Took port)
  on-load rom reading rd width signed NoLoad = on-trap

  on-store : (width x : ℕ) (to : Stores) → MovesOn (store m width x to)
  on-store width x (IntoRam offset) = on-onward Quiet
  on-store width x (OutPort port) = on-onward (Sent port x)
  on-store width x NoStore = on-trap

  pub on-step : (rom : List ℕ) (reading : ℕ) (i : Instr) → StaysIn i left → MovesOn (step rom reading i m)
  unfolding effect done
  on-step rom reading (Lui rd imm) s = on-onward Quiet
  on-step rom reading (Auipc rd imm) s = on-onward Quiet
  on-step rom reading (Jal rd imm) s = absurd s
  on-step rom reading (Jalr rd rs1 imm) s = absurd s
  on-step rom reading (Beq rs1 rs2 imm) s = on-branch rom reading _ imm s
  on-step rom reading (Bne rs1 rs2 imm) s = on-branch rom reading _ imm s
  on-step rom reading (Blt rs1 rs2 imm) s = on-branch rom reading _ imm s
  on-step rom reading (Bge rs1 rs2 imm) s = on-branch rom reading _ imm s
  on-step rom reading (Bltu rs1 rs2 imm) s = on-branch rom reading _ imm s
  on-step rom reading (Bgeu rs1 rs2 imm) s = on-branch rom reading _ imm s
  on-step rom reading (Lb rd rs1 imm) s = on-load rom reading rd Byte true _
  on-step rom reading (Lh rd rs1 imm) s = on-load rom reading rd Half true _
  on-step rom reading (Lw rd rs1 imm) s = on-load rom reading rd Word true _
  on-step rom reading (Lbu rd rs1 imm) s = on-load rom reading rd Byte false _
  on-step rom reading (Lhu rd rs1 imm) s = on-load rom reading rd Half false _
  on-step rom reading (Sb rs1 rs2 imm) s = on-store 1 _ _
  on-step rom reading (Sh rs1 rs2 imm) s = on-store 2 _ _
  on-step rom reading (Sw rs1 rs2 imm) s = on-store 4 _ _
  on-step rom reading (Addi rd rs1 imm) s = on-onward Quiet
  on-step rom reading (Slti rd rs1 imm) s = on-onward Quiet
  on-step rom reading (Sltiu rd rs1 imm) s = on-onward Quiet
  on-step rom reading (Xori rd rs1 imm) s = on-onward Quiet
  on-step rom reading (Ori rd rs1 imm) s = on-onward Quiet
  on-step rom reading (Andi rd rs1 imm) s = on-onward Quiet
  on-step rom reading (Slli rd rs1 shift) s = on-onward Quiet
  on-step rom reading (Srli rd rs1 shift) s = on-onward Quiet
  on-step rom reading (Srai rd rs1 shift) s = on-onward Quiet
  on-step rom reading (Add rd rs1 rs2) s = on-onward Quiet
  on-step rom reading (Sub rd rs1 rs2) s = on-onward Quiet
  on-step rom reading (Sll rd rs1 rs2) s = on-onward Quiet
  on-step rom reading (Slt rd rs1 rs2) s = on-onward Quiet
  on-step rom reading (Sltu rd rs1 rs2) s = on-onward Quiet
  on-step rom reading (Xor rd rs1 rs2) s = on-onward Quiet
  on-step rom reading (Srl rd rs1 rs2) s = on-onward Quiet
  on-step rom reading (Sra rd rs1 rs2) s = on-onward Quiet
  on-step rom reading (Or rd rs1 rs2) s = on-onward Quiet
  on-step rom reading (And rd rs1 rs2) s = on-onward Quiet
  on-step rom reading (Fence rd rs1 imm) s = on-onward Quiet
  on-step rom reading Ecall s = on-trap
  on-step rom reading Ebreak s = on-trap

module _ (rom : List ℕ) where
  -- a place of code, and its end
  pub stands-end : (address : ℕ) (i : Instr) (is : List Instr) → Stands rom address (i ∷ is)
      → (address % 4 ≡ 0) × (address + 4 * suc (length is) ≤ 4 * length rom)
  stands-end address i [] s = let place = fetched-place rom address i s.0 in (place.0, omega (arith, place.1))
  stands-end address i (j ∷ is) s =
      let place = fetched-place rom address i s.0 in
      let rest = stands-end (address + 4) j is s.1 in (place.0, omega (arith, rest.1))

  abbrev end : ℕ → List Instr → ℕ
  end address is = address + 4 * length is

  -- from any of its instructions on, a line does what it says, or stops where it says
  pub line-ends : 4 * length rom ≤ 2 ^ 20 → (low : ℕ) (is : List Instr) (address : ℕ) (s : Moment) → Stands rom address is → IsLine is → low ≤ s.hart.pc
      → address ≤ s.hart.pc → s.hart.pc ≤ end address is → s.hart.pc % 4 ≡ 0
      → Ends rom (Within low (end address is)) (λ s'. (s'.hart.pc ≡ end address is) × LineDoes rom address is s s')
      (λ s'. LineStops rom address is s s') (length is) s
  line-ends small low [] address s stands line near from to aligned = Arrived (omega arith, refl)
  line-ends small low (i ∷ is) address s stands line near from to aligned =
      ⊎_elim
      (λ h. passed (omega arith) (line-ends small low is (address + 4) s stands.1 line.1 near (omega (arith, place)) (omega arith) aligned))
      (λ h. let here : s.hart.pc ≡ address = omega arith in
      tried here (stops rom i s) refl (λ q.
      let on = on-step s.hart (suc (length is)) aligned (omega arith) (omega (arith, place)) rom (offered s.readings) i line.0 q in
      line-ends small low is (address + 4) (moment_done rom i s) stands.1 line.1 (omega (arith, on)) (omega (arith, on)) (omega (arith, on)) on.2))
      (cases_lt address s.hart.pc)
    where
      place : (address % 4 ≡ 0) × (address + 4 * suc (length is) ≤ 4 * length rom)
      place = stands-end address i is stands

      Ended : Moment → Moment → Type 0
      Ended s s' = (s'.hart.pc ≡ end (address + 4) is) × LineDoes rom (address + 4) is s s'

      Rest : Moment → Type 0
      Rest s = Ends rom (Within low (end (address + 4) is)) (λ s'. (s'.hart.pc ≡ end (address + 4) is) × LineDoes rom (address + 4) is s s') (λ s'. LineStops rom (address + 4) is s s') (length is) s

      Whole : ℕ → Moment → Type 0
      Whole n s' = Ends rom (Within low (end address (i ∷ is))) (λ s'. (s'.hart.pc ≡ end address (i ∷ is)) × LineDoes rom address (i ∷ is) s s') (λ s'. LineStops rom address (i ∷ is) s s') n s'

      wider : (s : Moment) → Within low (end (address + 4) is) s → Within low (end address (i ∷ is)) s
      wider s w = let f = w.from in let b = w.below in record { from = omega arith; below = omega arith }

      passed : s.hart.pc ≢ address → Rest s → Whole (suc (length is)) s
      passed past ih = ends-more rom (suc (length is)) (omega arith)
          (ends-map rom wider (λ s' g. (omega (arith, g.0), inr (past, g.1))) (λ s' c. inr (inr (past, c))) ih)

      tried : s.hart.pc ≡ address → (b : Bool) → stops rom i s ≡ b → (stops rom i s ≡ false → Rest (moment_done rom i s)) → Whole (suc (length is)) s
      tried here true e ih =
          let f = ap (fetched rom) here ∙ stands.0 in
          Stopped (record { from = near; below = omega arith }) (traps-at rom s i f ∙ e) (inl (here, e, refl))
      tried here false e ih =
          let f = ap (fetched rom) here ∙ stands.0 in
          Onward (record { from = near; below = omega arith }) (traps-at rom s i f ∙ e)
          (subst (λ x. Whole (length is) x) (sym (next-at rom s i f))
          (ends-map rom wider (λ s' g. (omega (arith, g.0), inl (here, e, g.1))) (λ s' c. inr (inl (here, e, c))) (ih e)))
