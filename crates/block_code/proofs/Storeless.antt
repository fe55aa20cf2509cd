-- Lines that store nothing.
use Rattle.std.proofs.Common.{◌≡◌, ℕ, ◌+◌, ◌*◌, ◌%◌, ℤ, List, [], ◌∷◌, length, Some, Bool, true, false, cond, refl, sym, ap, ◌∙◌, inl, inr, ◌⊎◌, ⊎_elim, arith}
use Rattle.std.proofs.lemmas.Bool.{cases_lt}
use Rattle.std.specs.Prelude.{◌==◌}
use Rattle.rv_isa.specs.declared.instr.Instr.{Instr}
use Rattle.rv_isa.specs.declared.instr.Instr.TheVariants.{Jal, Jalr, Beq, Bne, Blt, Bge, Bltu, Bgeu, Lb, Lh, Lw, Lbu, Lhu, Sb, Sh, Sw}
use Rattle.rv_machine.specs.Code.{Stands, step}
use Rattle.rv_machine.specs.Hart.{HartState}
use Rattle.rv_machine.specs.Run.{offered}
use Rattle.rv_machine.specs.Tick.{Quiet, fetched, jump, load, trap}
use Rattle.trap_model.specs.declared.map.Loads.{Loads}
use Rattle.trap_model.specs.declared.map.Loads.TheVariants.{InPort, Ram as FromRam, Rom as FromRom, Trap as NoLoad}
use Rattle.block_code.specs.Block.{Keeps}
use Rattle.block_code.specs.Moment.{Moment, moment_after, next, traps}
use Rattle.block_code.specs.Place.{Within, word_in}
use Rattle.block_code.specs.Plan.{AreStoreless, IsStoreless, Line}
use Rattle.block_code.proofs.Machine.{displaced}
use Rattle.block_code.proofs.Steps.{fetched-place, next-at, traps-between}
use Rattle.rv_machine.specs.Effect.{branch, effect}
use Rattle.rv_machine.specs.Tick.{done}
use Rattle.trap_model.specs.declared.width.Width.{Width}
use Rattle.trap_model.specs.declared.width.Width.TheVariants.{Byte, Half, Word}

module _ (m : HartState) where
  jump-ram : (target : ℕ) (regs : List ℕ) → (jump m target regs).hart.ram ≡ m.ram
  jump-ram target regs = cases (target % 4 == 0)
    where
      cases : (b : Bool) → (cond b (record { hart = record { pc = target; regs = regs; ram = m.ram }; event = Quiet }) (trap m)).hart.ram ≡ m.ram
      cases true = refl
      cases false = refl

  branch-ram : (rom : List ℕ) (reading : ℕ) (taken : Bool) (imm : ℤ) → (done rom reading (branch taken m imm) m).hart.ram ≡ m.ram
  unfolding done
  branch-ram rom reading true imm = jump-ram (displaced m.pc imm) m.regs
  branch-ram rom reading false imm = refl

  load-ram : (rom : List ℕ) (reading rd : ℕ) (width : Width) (signed : Bool) (from : Loads) → (load rom reading rd width signed m from).hart.ram ≡ m.ram
  load-ram rom reading rd width signed (FromRom offset) = refl
  load-ram rom reading rd width signed (FromRam offset) = refl
  load-ram rom reading rd width signed (InPort port) = refl
  load-ram rom reading rd width signed NoLoad = refl

  pub effect-ram : (rom : List ℕ) (reading : ℕ) (i : Instr) → IsStoreless i → (step rom reading i m).hart.ram ≡ m.ram
  unfolding effect done
  effect-ram rom reading (Jal rd imm) s = jump-ram _ _
  effect-ram rom reading (Jalr rd rs1 imm) s = jump-ram _ _
  effect-ram rom reading (Beq rs1 rs2 imm) s = branch-ram rom reading _ imm
  effect-ram rom reading (Bne rs1 rs2 imm) s = branch-ram rom reading _ imm
  effect-ram rom reading (Blt rs1 rs2 imm) s = branch-ram rom reading _ imm
  effect-ram rom reading (Bge rs1 rs2 imm) s = branch-ram rom reading _ imm
  effect-ram rom reading (Bltu rs1 rs2 imm) s = branch-ram rom reading _ imm
  effect-ram rom reading (Bgeu rs1 rs2 imm) s = branch-ram rom reading _ imm
  effect-ram rom reading (Lb rd rs1 imm) s = load-ram rom reading rd Byte true _
  effect-ram rom reading (Lh rd rs1 imm) s = load-ram rom reading rd Half true _
  effect-ram rom reading (Lw rd rs1 imm) s = load-ram rom reading rd Word true _
  effect-ram rom reading (Lbu rd rs1 imm) s = load-ram rom reading rd Byte false _
  effect-ram rom reading (Lhu rd rs1 imm) s = load-ram rom reading rd Half false _
  effect-ram rom reading (Sb rs1 rs2 imm) s = absurd s
  effect-ram rom reading (Sh rs1 rs2 imm) s = absurd s
  effect-ram rom reading (Sw rs1 rs2 imm) s = absurd s
  effect-ram rom reading _ s = refl

module _ (rom : List ℕ) where
  -- the instruction at a place of a line, if the tick there does not trap
  found : (is : List Instr) (address : ℕ) (s : Moment) → Stands rom address is → AreStoreless is → Within address (address + 4 * length is) s
      → (traps rom s ≡ true) ⊎ ((i : Instr) × (fetched rom s.hart.pc ≡ Some i) × IsStoreless i)
  found [] address s stands p w = let f = w.from in let b = w.below in absurd (omega arith)
  found (i ∷ is) address s stands p w =
      let f = w.from in let b = w.below in let place = fetched-place rom address i stands.0 in
      ⊎_elim
      (λ h. ⊎_elim
      (λ k. inl (traps-between rom s (omega (arith, place.0))))
      (λ k. found is (address + 4) s stands.1 p.1 (record { from = k; below = omega arith }))
      (cases_lt s.hart.pc (address + 4)))
      (λ h. let at : address ≡ s.hart.pc = omega arith in inr (i, ap (fetched rom) (sym at) ∙ stands.0, p.0))
      (cases_lt address s.hart.pc)

-- a line that stores nothing keeps every word
pub keeps-storeless : (slot : ℕ) (instrs : List Instr) → AreStoreless instrs → Keeps slot (Line instrs)
keeps-storeless slot instrs p rom size address s machine stands valid at t inside untrapped =
    by_instr (found rom instrs address (moment_after rom t s) stands p (inside t (omega arith)))
  where
    here : Moment
    here = moment_after rom t s

    by_instr : (traps rom here ≡ true) ⊎ ((i : Instr) × (fetched rom here.hart.pc ≡ Some i) × IsStoreless i)
        → word_in slot (next rom here).hart.ram ≡ word_in slot here.hart.ram
    by_instr (inl e) = let u = untrapped t (omega arith) in absurd (cc)
    by_instr (inr f) = ap (word_in slot) (ap (λ m. m.hart.ram) (next-at rom here f.0 f.1) ∙ effect-ram here.hart rom (offered here.readings) f.0 f.2)
