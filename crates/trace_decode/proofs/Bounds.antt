-- Where an image stabilizes, heads come within the bounds after whatever happened.
use Rattle.std.proofs.Common.{◌≡◌, ◌≢◌, ℕ, zero, suc, ◌+◌, ◌*◌, ◌%◌, ◌<◌, ◌≤◌, List, sym, ap, ◌∙◌, subst, ⊎_elim, arith}
use Rattle.std.proofs.Math.Nat.{suc-mul, mul-le-mul_right}
use Rattle.std.proofs.lemmas.Bool.{cases_eq, cases_lt}
use Rattle.asm_names.specs.declared.program.Resolved.{Resolved}
use Rattle.bound_count.specs.Numbers.{loop_depth, round_number}
use Rattle.state_layout.specs.declared.layout.Layout.{Layout}
use Rattle.bound_count.specs.declared.shape.Shape.{Shape}
use Rattle.fault_script.specs.Faults.{AreEvents}
use Rattle.fault_script.specs.declared.event.Event.{Event}
use Rattle.rv_machine.specs.Hart.{HartState, IsValid}
use Rattle.rv_machine.specs.Run.{after}
use Rattle.round_spec.specs.Round.{Compiled, Round}
use Rattle.round_spec.specs.Stabilizes.{Stabilizes}
use Rattle.trace_decode.specs.Play.{Standing, reached}
use Rattle.trace_decode.specs.Stretches.{HeadsCome, onward}
use Rattle.trace_decode.proofs.Standings.{onward-add, onward-hart, onward-head, valid-onward, valid-reached}

module _ (rom_size size : ℕ) (multiple : size % 4 ≡ 0) (shape : Shape) (layout : Layout) (program : Resolved) (built : Compiled) (st : Stabilizes rom_size size shape layout program built) where
  pub round-anchor : built.needs.round ≤ built.needs.anchor
  round-anchor =
      let few : 1 * round_number shape program ≤ (loop_depth shape program.rule + 2) * round_number shape program = mul-le-mul_right (round_number shape program) (omega arith) in
      let r = st.within.is_round in
      let a = st.within.is_anchor in
      omega arith

  -- a hart at the head makes a round
  pub next-head : (s : Standing) → IsValid size s.hart → s.hart.pc ≡ 0
      → (t : ℕ) × (t ≤ built.needs.round) × Round program built s.feed.left s.hart t (onward built.rom t s).hart
  next-head s v head =
      let r = st.rounds s.hart s.feed.left v head in
      (r.0, r.1, subst (Round program built s.feed.left s.hart r.0) (sym (onward-hart built.rom r.0 s)) r.2)

  -- from everywhere the head is reached at the end of a tick
  pub head-soon : (s : Standing) → IsValid size s.hart → (t : ℕ) × (0 < t) × (t ≤ built.needs.anchor) × ((onward built.rom t s).hart.pc ≡ 0)
  head-soon s v =
      ⊎_elim (λ (head : s.hart.pc ≡ 0).
      let r = next-head s v head in
      let few = r.1 in
      (r.0, r.2.lasts, (omega (arith, round-anchor)), r.2.ends))
      (λ (off : s.hart.pc ≢ 0).
      let r = st.anchored s.hart s.feed.left v in
      ⊎_elim (λ (some : 0 < r.0). (r.0, some, r.1, ap (λ (m : HartState). m.pc) (onward-hart built.rom r.0 s) ∙ r.2))
      (λ (none : r.0 ≤ 0). let e : r.0 ≡ 0 = omega arith in absurd (off (ap (λ t. (after built.rom t s.feed.left s.hart).pc) (sym e) ∙ r.2)))
      (cases_lt 0 r.0))
      (cases_eq s.hart.pc 0)

  -- from the head k rounds follow
  pub rounds-come : (k : ℕ) (s : Standing) → IsValid size s.hart → s.hart.pc ≡ 0
      → (t : ℕ) × (t ≤ k * built.needs.round) × ((onward built.rom t s).hart.pc ≡ 0) × (s.heads + k ≤ (onward built.rom t s).heads)
  rounds-come zero s v head = (0, omega arith, head, omega arith)
  rounds-come (suc k) s v head =
      let r = next-head s v head in
      let first = r.2 in
      let next = onward built.rom r.0 s in
      let rest = rounds-come k next (valid-onward size multiple built.rom st.image.words r.0 s v) first.ends in
      let all : onward built.rom (r.0 + rest.0) s ≡ onward built.rom rest.0 next = onward-add built.rom r.0 rest.0 s in
      let soon = r.1 in
      let later = rest.1 in
      let counts = onward-head built.rom r.0 s first.lasts first.ends in
      let more = rest.3 in
      let product = suc-mul k built.needs.round in
      let heads : s.heads + suc k ≤ (onward built.rom rest.0 next).heads = omega arith in
      (r.0 + rest.0, omega arith, ap (λ (x : Standing). x.hart.pc) all ∙ rest.2, subst (λ (x : Standing). s.heads + suc k ≤ x.heads) (sym all) heads)

  pub heads-from : (k : ℕ) (s : Standing) → IsValid size s.hart → HeadsCome built.rom built.needs.anchor built.needs.round k s
  heads-from k s v =
      let r = head-soon s v in
      let next = onward built.rom r.0 s in
      let rest = rounds-come k next (valid-onward size multiple built.rom st.image.words r.0 s v) r.3 in
      let all : onward built.rom (r.0 + rest.0) s ≡ onward built.rom rest.0 next = onward-add built.rom r.0 rest.0 s in
      let some = r.1 in
      let soon = r.2 in
      let later = rest.1 in
      let counts = onward-head built.rom r.0 s r.1 r.3 in
      let more = rest.3 in
      let heads : s.heads + (k + 1) ≤ (onward built.rom rest.0 next).heads = omega arith in
      record {
        ticks = r.0 + rest.0;
        some = omega arith;
        soon = omega arith;
        head = ap (λ (x : Standing). x.hart.pc) all ∙ rest.2;
        heads = subst (λ (x : Standing). s.heads + (k + 1) ≤ x.heads) (sym all) heads;
      }

  pub heads-come : (k : ℕ) (events : List Event) (start : Standing) → IsValid size start.hart → AreEvents size events
      → HeadsCome built.rom built.needs.anchor built.needs.round k (reached built.rom events start)
  heads-come k events start v e = heads-from k (reached built.rom events start) (valid-reached size multiple built.rom st.image.words events start e v)
