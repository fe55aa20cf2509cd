-- From every valid hart, the code of the index of arguments leaves a number below the function's padded size.
use Rattle.std.proofs.Common.{◌≡◌, ℕ, zero, suc, ◌+◌, ◌*◌, ◌^◌, ◌<◌, ◌≤◌, List, [], ◌∷◌, map, refl, sym, ap, ◌∙◌, subst, arith}
use Rattle.asm_names.specs.declared.{program.Resolved.{Resolved}, resolved_term.ResolvedTerm.{ResolvedTerm}}
use Rattle.state_space.specs.{declared.signature.{Range.{Range}}, Decoding.{index_of, padded}, Sizes.{padded_count}}
use Rattle.state_space.proofs.{Indices.{index-below}, Numbers.{block-below}}
use Rattle.rv_isa.specs.declared.instr.Instr.{Instr}
use Rattle.rv_machine.specs.Word.{minus}
use Rattle.block_code.specs.Effect.{Does, LineDoes, reg_at}
use Rattle.block_code.specs.Leads.{IsBehind, IsEntered}
use Rattle.block_code.specs.Moment.{IsValidMoment, Moment}
use Rattle.block_code.specs.Plan.{Line, Plan, Seq, len}
use Rattle.block_code.specs.Sequence.{load_immediate}
use Rattle.block_code.proofs.Behind.{comes-out}
use Rattle.block_code.proofs.Counter.{reg-same}
use Rattle.block_code.proofs.Parts.{lines-lead-one-way}
use Rattle.block_code.proofs.Sequences.{immediate-loaded}
use Rattle.block_code.proofs.Silent.{keeps-regs}
use Rattle.mask_guard.specs.Mask.{word_of}
use Rattle.state_layout.specs.Map.{Placement}
use Rattle.bound_count.specs.TermWeights.{arguments_registers, term_registers}
use Rattle.instr_select.specs.{Terms.{argument_line, further_plan, index_plan, joined_line, term_plan}}
use Rattle.instr_select.proofs.{Entered.{enter-first, enter-second, entered-at}, Index.{AreNarrow, argument-turns, joined-turns, padded-enough}, Instructions.{LineLeads}, Registers.{arguments-some, registers-some}, TermCode.{terms-are-coded}, Values.{padded-some}}

widens : (x n : ℕ) → 1 ≤ n → x ≤ x * n
widens x zero h = absurd (omega arith)
widens x (suc n) h = omega arith

-- where a line leads, it goes
pub led : (rom : List ℕ) (address : ℕ) (instrs : List Instr) (s s' : Moment) (Post : Moment → Type 0) → LineLeads rom address instrs s Post → LineDoes rom address instrs s s' → Post s'
led rom address instrs s s' Post l d = subst Post (sym ((lines-lead-one-way rom address instrs s l.end s' l.does).0 d)) l.post

module _ (rom : List ℕ) (size : ℕ) where
  -- the second part is entered where the first comes out
  pub enters-second : (address : ℕ) (first second : Plan) (s mid : Moment) → IsEntered rom size address (Seq first second) s → Does rom address first s mid → IsEntered rom size (address + 4 * len first) second mid
  enters-second address first second s mid e d =
      let out = comes-out (enter-first rom size address first second s e) d in
      enter-second rom size address first second s e mid (behind mid out.0 out.1)
    where
      behind : (m : Moment) → IsValidMoment size m → m.hart.pc ≡ address + 4 * len first → IsBehind size address first (λ m. Unit {0}) m
      behind m v h = record { valid = v; here = h; good = tt }

  immediate-is : (address q x : ℕ) (s s' : Moment) → x < 2 ^ 32 → suc q < 32 → IsEntered rom size address (Line (load_immediate (suc q) x)) s → LineDoes rom address (load_immediate (suc q) x) s s' → reg_at (suc q) s' ≡ x
  immediate-is address q x s s' small few e d =
      let at = entered-at rom size address (load_immediate (suc q) x) s e (omega arith) in
      let room = at.room in
      let l = immediate-loaded rom size address (suc q) x s (record { valid = e.valid; here = e.here; room = omega arith }) few small in
      ap (reg_at (suc q)) ((lines-lead-one-way rom address (load_immediate (suc q) x) s _ s' l).0 d) ∙ reg-same size (address + 8) q x s e.valid few

  module _ (program : Resolved) (placement : Placement) (tables : ℕ) where
    abbrev plan : ResolvedTerm → ℕ → Plan
    plan = term_plan program placement tables

    -- a term keeps the registers below its own
    term-keeps : (t : ResolvedTerm) (q address r : ℕ) (s s' : Moment) → suc q ≤ 21 → IsEntered rom size address (plan t (suc q)) s → Does rom address (plan t (suc q)) s s' → 5 ≤ r → r < suc q
        → reg_at r s' ≡ reg_at r s
    term-keeps t q address r s s' few e d low high =
        (keeps-regs 5 (suc q) few (plan t (suc q)) ((terms-are-coded program placement tables t (suc q) (suc q) (omega arith) few).0).writes).does rom size address s s' e d r low high

    further-bounded : (ranges : List Range) (ts : List ResolvedTerm) (acc a : ℕ) → AreNarrow ranges → acc < a → a * padded_count ranges ≤ 524288 → (q : ℕ) → 5 ≤ suc q
        → suc q + arguments_registers 1 (map term_registers ts) ≤ 21 → (address : ℕ) (s s' : Moment) → IsEntered rom size address (further_plan ranges (map plan ts) (suc q)) s → reg_at (suc q) s ≡ acc
        → Does rom address (further_plan ranges (map plan ts) (suc q)) s s' → reg_at (suc q) s' < a * padded_count ranges
    further-bounded [] ts acc a n below few q low high address s s' e so_far d = let h = ap (reg_at (suc q)) d ∙ so_far in omega arith
    further-bounded (range ∷ ranges) [] acc a n below few q low high address s s' e so_far d =
        let h = ap (reg_at (suc q)) d ∙ so_far in
        let one = padded-some (range ∷ ranges) n in let w = widens a (padded_count (range ∷ ranges)) one in omega arith
    further-bounded (range ∷ ranges) (t ∷ ts) acc a n below few q low high address s s' e so_far (mid, d1, (mid2, d2, d3)) =
        let one = registers-some t in
        let first = enter-first rom size address (plan t (suc (suc q))) (Seq (Line (joined_line range (suc q))) (further_plan ranges (map plan ts) (suc q))) s e in
        let e1 = enters-second address (plan t (suc (suc q))) (Seq (Line (joined_line range (suc q))) (further_plan ranges (map plan ts) (suc q))) s mid e d1 in
        let at = address + 4 * len (plan t (suc (suc q))) in
        let e2 = enters-second at (Line (joined_line range (suc q))) (further_plan ranges (map plan ts) (suc q)) mid mid2 e1 d2 in
        let i = index_of range.size (minus (reg_at (suc (suc q)) mid) (word_of range.lo)) in
        let i_below : i < range.size = index-below range.size _ n.0.some in
        let enough = padded-enough range.size in
        let inner : acc * padded range.size + i < a * padded range.size = block-below acc a i (padded range.size) below (omega arith) in
        let shrinks = widens (a * padded range.size) (padded_count ranges) (padded-some ranges n.1) in
        let regroup : a * (padded range.size * padded_count ranges) ≡ a * padded range.size * padded_count ranges = omega arith in
        let kept : reg_at (suc q) mid ≡ acc = term-keeps t (suc q) address (suc q) s mid (omega arith) first d1 low (omega arith) ∙ so_far in
        let line = led rom at (joined_line range (suc q)) mid mid2 _
        (joined-turns rom size at q acc i range mid low (omega arith) n.0 kept refl (omega arith) (entered-at rom size at (joined_line range (suc q)) mid (enter-first rom size at _ _ mid e1) (omega arith))) d2 in
        let rest = further-bounded ranges ts (acc * padded range.size + i) (a * padded range.size) n.1 inner (omega arith) q low (omega arith) _ mid2 s' e2 line.holds d3 in
        omega (arith, rest, regroup)

    pub index-bounded : (ranges : List Range) (ts : List ResolvedTerm) → AreNarrow ranges → padded_count ranges ≤ 524288 → (q : ℕ) → 5 ≤ suc q
        → suc q + arguments_registers 0 (map term_registers ts) ≤ 21 → (address : ℕ) (s s' : Moment) → IsEntered rom size address (index_plan ranges (map plan ts) (suc q)) s
        → Does rom address (index_plan ranges (map plan ts) (suc q)) s s' → reg_at (suc q) s' < padded_count ranges
    index-bounded [] ts n few q low high address s s' e d =
        let some = arguments-some 0 (map term_registers ts) in let h = immediate-is address q 0 s s' (omega arith) (omega arith) e d in omega arith
    index-bounded (range ∷ ranges) [] n few q low high address s s' e d =
        let h = immediate-is address q 0 s s' (omega arith) (omega arith) e d in let one = padded-some (range ∷ ranges) n in omega arith
    index-bounded (range ∷ ranges) (t ∷ ts) n few q low high address s s' e (mid, d1, (mid2, d2, d3)) =
        let one = registers-some t in
        let rest = further_plan ranges (map plan ts) (suc q) in
        let e1 = enters-second address (plan t (suc q)) (Seq (Line (argument_line range (suc q))) rest) s mid e d1 in
        let at = address + 4 * len (plan t (suc q)) in
        let e2 = enters-second at (Line (argument_line range (suc q))) rest mid mid2 e1 d2 in
        let i = index_of range.size (minus (reg_at (suc q) mid) (word_of range.lo)) in
        let i_below : i < range.size = index-below range.size _ n.0.some in
        let enough = padded-enough range.size in
        let line = led rom at (argument_line range (suc q)) mid mid2 _
        (argument-turns rom size at q range mid low (omega arith) n.0 (entered-at rom size at (argument_line range (suc q)) mid (enter-first rom size at _ _ mid e1) (omega arith))) d2 in
        further-bounded ranges ts i (padded range.size) n.1 (omega arith) few q low (omega arith) _ mid2 s' e2 line.holds d3
