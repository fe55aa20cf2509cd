-- Single ticks, at instructions that are known.
use Rattle.std.proofs.Common.{◌≡◌, ◌≢◌, ℕ, suc, ◌+◌, ◌*◌, ◌/◌, ◌%◌, ◌≤◌, List, length, Some, None, true, false, cond, ◌&&◌, sym, ap, ◌∙◌, subst, arith}
use Rattle.std.proofs.lemmas.Bool.Decides.{nat_tests}
use Rattle.std.specs.Prelude.{◌==◌, nat_lt}
use Rattle.rv_isa.specs.declared.instr.Instr.{Instr}
use Rattle.rv_machine.specs.Code.{step}
use Rattle.rv_machine.specs.Run.{offered}
use Rattle.rv_machine.specs.Tick.{Ticks, fetched, perform}
use Rattle.block_code.specs.Ends.{Ends, Onward, Stopped}
use Rattle.block_code.specs.Moment.{IsValidMoment, Moment, is_trap, moment_by, next, ticked, traps}
use Rattle.block_code.specs.Place.{IsMachine}
use Rattle.block_code.proofs.Machine.{valid-next}
use Rattle.rv_machine.proofs.Fetch.{word-fetched}
use Rattle.rv_machine.proofs.Run.{tick-fetched}
use Rattle.rv_machine.specs.Tick.{decoded_at, tick}
use Rattle.trap_model.specs.Map.{fetch_at}

-- an address from which something is fetched is that of a word of ROM
pub fetched-place : (rom : List ℕ) (pc : ℕ) (i : Instr) → fetched rom pc ≡ Some i → (pc % 4 ≡ 0) × (pc + 4 ≤ 4 * length rom)
fetched-place rom pc i f = let place = word-fetched rom pc i f in (omega (arith, place.0), omega (arith, place.0, place.1))

-- nothing is fetched between words
fetched-between : (rom : List ℕ) (pc : ℕ) → pc % 4 ≢ 0 → fetched rom pc ≡ None
unfolding fetched fetch_at
fetched-between rom pc h =
    let test : ((pc % 4 == 0) && nat_lt pc (4 * length rom)) ≡ false = grind (arith, nat_tests) in
    ap (λ b. decoded_at rom (cond b (Some (pc / 4)) None)) test

module _ (rom : List ℕ) where
  tick-at : (s : Moment) (i : Instr) → fetched rom s.hart.pc ≡ Some i → ticked rom s ≡ step rom (offered s.readings) i s.hart
  tick-at s i f = tick-fetched rom (offered s.readings) s.hart i f

  pub next-at : (s : Moment) (i : Instr) → fetched rom s.hart.pc ≡ Some i → next rom s ≡ moment_by (step rom (offered s.readings) i s.hart) s
  unfolding next
  next-at s i f = ap (λ t. moment_by t s) (tick-at s i f)

  pub traps-at : (s : Moment) (i : Instr) → fetched rom s.hart.pc ≡ Some i → traps rom s ≡ is_trap (step rom (offered s.readings) i s.hart).event
  unfolding traps
  traps-at s i f = ap (λ t. is_trap t.event) (tick-at s i f)

  -- a tick between words traps
  pub traps-between : (s : Moment) → s.hart.pc % 4 ≢ 0 → traps rom s ≡ true
  unfolding traps tick
  traps-between s h = ap (λ o. is_trap (perform rom (offered s.readings) o s.hart).event) (fetched-between rom s.hart.pc h)

module _ (rom : List ℕ) (size : ℕ) (machine : IsMachine rom size) where
  -- a tick with a known outcome, and what follows
  pub step-on : {I G C : Moment → Type 0} {n : ℕ} (s : Moment) (i : Instr) (t : Ticks) → fetched rom s.hart.pc ≡ Some i
      → step rom (offered s.readings) i s.hart ≡ t → is_trap t.event ≡ false → I s → IsValidMoment size s
      → (IsValidMoment size (moment_by t s) → Ends rom I G C n (moment_by t s)) → Ends rom I G C (suc n) s
  step-on {I = I} {G = G} {C = C} {n = n} s i t f e quiet inside valid rest =
      let here : next rom s ≡ moment_by t s = next-at rom s i f ∙ ap (λ x. moment_by x s) e in
      Onward inside (traps-at rom s i f ∙ ap (λ x. is_trap x.event) e ∙ quiet)
      (subst (λ x. Ends rom I G C n x) (sym here) (rest (subst (λ x. IsValidMoment size x) here (valid-next size machine.ram_aligned rom machine.words s valid))))

  -- a tick that traps
  pub step-stop : {I G C : Moment → Type 0} {n : ℕ} (s : Moment) (i : Instr) (t : Ticks) → fetched rom s.hart.pc ≡ Some i
      → step rom (offered s.readings) i s.hart ≡ t → is_trap t.event ≡ true → I s → C s → Ends rom I G C (suc n) s
  step-stop s i t f e stops inside c = Stopped inside (traps-at rom s i f ∙ ap (λ x. is_trap x.event) e ∙ stops) c
