-- The first tick of a block.
use Rattle.std.proofs.Common.{◌≡◌, ℕ, suc, ◌+◌, ◌*◌, ◌%◌, ◌^◌, ◌<◌, ◌≤◌, List, [], ◌∷◌, length, Some, false, sym, ◌∙◌, subst, ⊎_elim, arith}
use Rattle.std.proofs.lemmas.Bool.{cases_lt}
use Rattle.rv_isa.specs.declared.instr.Instr.{Instr}
use Rattle.rv_isa.specs.declared.instr.Instr.TheVariants.{Lui}
use Rattle.rv_machine.specs.Code.{Stands}
use Rattle.rv_machine.specs.Run.{offered}
use Rattle.rv_machine.specs.Tick.{fetched}
use Rattle.trap_model.specs.Map.{ram_base}
use Rattle.block_code.specs.Block.{IsBlock}
use Rattle.block_code.specs.Law.{LawOfStart}
use Rattle.block_code.specs.Moment.{Moment, next, traps}
use Rattle.block_code.specs.Place.{IsMachine}
use Rattle.block_code.specs.Plan.{If, Line, Loop, Plan, Scan, Seq, StaysIn, code, len, skip_if_set}
use Rattle.block_code.specs.Sequence.{high_part, scratch}
use Rattle.block_code.proofs.Forms.{block-end}
use Rattle.block_code.proofs.Line.{on-step}
use Rattle.block_code.proofs.Place.{stands-block}
use Rattle.block_code.proofs.Steps.{next-at, traps-at}

-- the first instruction of a loop and of a scan
abbrev enters : ℕ → Instr
enters slot = Lui scratch (high_part (ram_base + slot))

module _ (rom : List ℕ) (size : ℕ) (machine : IsMachine rom size) where
  first-tick : (s : Moment) (i : Instr) (left : ℕ) → fetched rom s.hart.pc ≡ Some i → StaysIn i left → 0 < left → s.hart.pc % 4 ≡ 0 → s.hart.pc + 4 * left ≤ 2 ^ 20
      → traps rom s ≡ false → s.hart.pc < (next rom s).hart.pc
  first-tick s i left f stays some aligned low t =
      let on = on-step s.hart left aligned some low rom (offered s.readings) i stays (sym (traps-at rom s i f) ∙ t) in
      subst (λ m. s.hart.pc < m.hart.pc) (sym (next-at rom s i f)) (omega (arith, on))

  starts : (tree : Plan) → IsBlock tree → (address : ℕ) (s : Moment) → Stands rom address (code tree) → s.hart.pc ≡ address → 0 < len tree
      → traps rom s ≡ false → address < (next rom s).hart.pc
  starts (Line []) b address s stands at some t = absurd (omega arith)
  starts (Line (i ∷ is)) b address s stands at some t =
      let e = block-end rom size machine (λ s. Unit {0}) (record { still = λ s e a. tt; stopped = λ s e. tt }) (Line (i ∷ is)) address stands some in
      let h = first-tick s i (suc (length is)) (subst (λ a. fetched rom a ≡ Some i) (sym at) stands.0) b.0 (omega arith) (omega (arith, e)) (omega (arith, e)) t in omega arith
  starts (Seq first second) b address s stands at some t =
      let parts = stands-block rom address first (code second) stands in
      ⊎_elim (λ h. starts first b.0 address s parts.0 at h t)
      (λ h. let later = starts second b.1 (address + 4 * len first) s parts.1 (omega arith) (omega arith) t in omega arith)
      (cases_lt 0 (len first))
  starts (If test then_part else_part) b address s stands at some t =
      let e = block-end rom size machine (λ s. Unit {0}) (record { still = λ s e a. tt; stopped = λ s e. tt }) (If test then_part else_part) address stands some in
      let h = first-tick s (skip_if_set test 8) 3 (subst (λ a. fetched rom a ≡ Some (skip_if_set test 8)) (sym at) stands.0) (omega arith, omega arith) (omega arith) (omega (arith, e)) (omega (arith, e)) t in omega arith
  starts (Loop count slot body) b address s stands at some t =
      let e = block-end rom size machine (λ s. Unit {0}) (record { still = λ s e a. tt; stopped = λ s e. tt }) (Loop count slot body) address stands some in
      let h = first-tick s (enters slot) 1 (subst (λ a. fetched rom a ≡ Some (enters slot)) (sym at) stands.0) tt (omega arith) (omega (arith, e)) (omega (arith, e)) t in omega arith
  starts (Scan count slot guard test found none) b address s stands at some t =
      let e = block-end rom size machine (λ s. Unit {0}) (record { still = λ s e a. tt; stopped = λ s e. tt }) (Scan count slot guard test found none) address stands some in
      let h = first-tick s (enters slot) 1 (subst (λ a. fetched rom a ≡ Some (enters slot)) (sym at) stands.0) tt (omega arith) (omega (arith, e)) (omega (arith, e)) t in omega arith

pub law-of-start : (tree : Plan) → IsBlock tree → LawOfStart tree
law-of-start tree b rom size address s machine stands valid at = starts rom size machine tree b address s stands at
