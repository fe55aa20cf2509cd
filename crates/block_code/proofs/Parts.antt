-- Lines that are made by appending, and the one way that a line leads.
use Rattle.std.proofs.Common.{◌≡◌, ℕ, suc, ◌+◌, ◌*◌, ◌≤◌, ℤ, pos, negsuc, List, [], ◌∷◌, ◌++◌, length, length-append, refl, sym, ap, ◌∙◌, subst, inl, inr, ◌⊎◌, arith}
use Rattle.rv_isa.specs.declared.instr.Instr.{Instr}
use Rattle.rv_isa.specs.declared.instr.Instr.TheVariants.{Jal, Jalr, Beq, Bne, Blt, Bge, Bltu, Bgeu}
use Rattle.block_code.specs.Effect.{LineDoes, LineStops, moment_done}
use Rattle.block_code.specs.Moment.{IsValidMoment, Moment}
use Rattle.block_code.specs.Parts.{LinesAppend, LinesKeepValid, LinesLeadOneWay, PartsAreDone, PartsStop}
use Rattle.rv_machine.specs.Tick.{fetched}
use Rattle.block_code.proofs.Machine.{valid-next}
use Rattle.block_code.proofs.Steps.{next-at}
use Rattle.block_code.specs.Plan.{IsSkip, StaysIn}

-- a skip that stays in a line stays in a longer one
longer-skip : (imm : ℤ) (left more : ℕ) → left ≤ more → IsSkip imm left → IsSkip imm more
longer-skip (pos offset) left more h s = (s.0, let k = s.1 in omega arith)
longer-skip (negsuc offset) left more h s = s

longer : (i : Instr) (left more : ℕ) → left ≤ more → StaysIn i left → StaysIn i more
longer (Jal rd imm) left more h s = s
longer (Jalr rd rs1 imm) left more h s = s
longer (Beq rs1 rs2 imm) left more h s = longer-skip imm left more h s
longer (Bne rs1 rs2 imm) left more h s = longer-skip imm left more h s
longer (Blt rs1 rs2 imm) left more h s = longer-skip imm left more h s
longer (Bge rs1 rs2 imm) left more h s = longer-skip imm left more h s
longer (Bltu rs1 rs2 imm) left more h s = longer-skip imm left more h s
longer (Bgeu rs1 rs2 imm) left more h s = longer-skip imm left more h s
longer _ left more h s = tt

pub lines-append : LinesAppend
lines-append [] second f s = s
lines-append (i ∷ is) second f s =
    (longer i (suc (length is)) (suc (length (is ++ second))) (let e = length-append is second in omega arith) f.0, lines-append is second f.1 s)

-- behind the first instruction, and then behind the rest
pub shift : (address : ℕ) (is : List Instr) → address + 4 + 4 * length is ≡ address + 4 * suc (length is)
shift address is = omega arith

pub parts-are-done : PartsAreDone
parts-are-done rom address first second s s' = (to first address s, λ (mid, a, b). from first address s mid a b)
  where
    to : (is : List Instr) (address : ℕ) (s : Moment) → LineDoes rom address (is ++ second) s s'
        → (mid : Moment) × LineDoes rom address is s mid × LineDoes rom (address + 4 * length is) second mid s'
    to [] address s d = let e : address ≡ address + 4 * 0 = omega arith in (s, refl, subst (λ n. LineDoes rom n second s s') e d)
    to (i ∷ is) address s (inl d) =
        let r = to is (address + 4) (moment_done rom i s) d.2 in
        (r.0, inl (d.0, d.1, r.1), subst (λ n. LineDoes rom n second r.0 s') (shift address is) r.2)
    to (i ∷ is) address s (inr d) = let r = to is (address + 4) s d.1 in (r.0, inr (d.0, r.1), subst (λ n. LineDoes rom n second r.0 s') (shift address is) r.2)

    from : (is : List Instr) (address : ℕ) (s mid : Moment) → LineDoes rom address is s mid → LineDoes rom (address + 4 * length is) second mid s'
        → LineDoes rom address (is ++ second) s s'
    from [] address s mid a b = let e : address + 4 * 0 ≡ address = omega arith in subst (λ n. LineDoes rom n second s s') e (subst (λ m. LineDoes rom (address + 4 * 0) second m s') a b)
    from (i ∷ is) address s mid (inl a) b = inl (a.0, a.1, from is (address + 4) (moment_done rom i s) mid a.2 (subst (λ n. LineDoes rom n second mid s') (sym (shift address is)) b))
    from (i ∷ is) address s mid (inr a) b = inr (a.0, from is (address + 4) s mid a.1 (subst (λ n. LineDoes rom n second mid s') (sym (shift address is)) b))

pub lines-lead-one-way : LinesLeadOneWay
lines-lead-one-way rom address [] s end other d = (λ e. e ∙ sym d, λ x. x)
lines-lead-one-way rom address (i ∷ is) s end other d =
    let rest = λ (s : Moment). lines-lead-one-way rom (address + 4) is s end other in (same rest d, never rest d)
  where
    Rest : Type 0
    Rest = (s : Moment) → LineDoes rom (address + 4) is s end → (LineDoes rom (address + 4) is s other → other ≡ end) × (LineStops rom (address + 4) is s other → ⊥)

    same : Rest → LineDoes rom address (i ∷ is) s end → LineDoes rom address (i ∷ is) s other → other ≡ end
    same rest (inl d) (inl e) = (rest (moment_done rom i s) d.2).0 e.2
    same rest (inl d) (inr e) = absurd (e.0 d.0)
    same rest (inr d) (inl e) = absurd (d.0 e.0)
    same rest (inr d) (inr e) = (rest s d.1).0 e.1

    never : Rest → LineDoes rom address (i ∷ is) s end → LineStops rom address (i ∷ is) s other → ⊥
    never rest (inl d) (inl e) = let u = d.1 in let v = e.1 in absurd (cc)
    never rest (inl d) (inr (inl e)) = (rest (moment_done rom i s) d.2).1 e.2
    never rest (inl d) (inr (inr e)) = e.0 d.0
    never rest (inr d) (inl e) = d.0 e.0
    never rest (inr d) (inr (inl e)) = d.0 e.0
    never rest (inr d) (inr (inr e)) = (rest s d.1).1 e.1

pub parts-stop : PartsStop
parts-stop rom address first second s s' = (to first address s, from first address s)
  where
    Either : List Instr → ℕ → Moment → Type 0
    Either is address s = LineStops rom address is s s' ⊎ ((mid : Moment) × LineDoes rom address is s mid × LineStops rom (address + 4 * length is) second mid s')

    to : (is : List Instr) (address : ℕ) (s : Moment) → LineStops rom address (is ++ second) s s' → Either is address s
    to [] address s d = let e : address ≡ address + 4 * 0 = omega arith in inr (s, refl, subst (λ n. LineStops rom n second s s') e d)
    to (i ∷ is) address s (inl d) = inl (inl d)
    to (i ∷ is) address s (inr (inl d)) = on (to is (address + 4) (moment_done rom i s) d.2)
      where
        on : Either is (address + 4) (moment_done rom i s) → Either (i ∷ is) address s
        on (inl t) = inl (inr (inl (d.0, d.1, t)))
        on (inr t) = inr (t.0, inl (d.0, d.1, t.1), subst (λ n. LineStops rom n second t.0 s') (shift address is) t.2)
    to (i ∷ is) address s (inr (inr d)) = on (to is (address + 4) s d.1)
      where
        on : Either is (address + 4) s → Either (i ∷ is) address s
        on (inl t) = inl (inr (inr (d.0, t)))
        on (inr t) = inr (t.0, inr (d.0, t.1), subst (λ n. LineStops rom n second t.0 s') (shift address is) t.2)

    from : (is : List Instr) (address : ℕ) (s : Moment) → Either is address s → LineStops rom address (is ++ second) s s'
    from [] address s (inl t) = absurd t
    from [] address s (inr t) = let e : address + 4 * 0 ≡ address = omega arith in subst (λ n. LineStops rom n second s s') e (subst (λ m. LineStops rom (address + 4 * 0) second m s') t.1 t.2)
    from (i ∷ is) address s (inl (inl t)) = inl t
    from (i ∷ is) address s (inl (inr (inl t))) = inr (inl (t.0, t.1, from is (address + 4) (moment_done rom i s) (inl t.2)))
    from (i ∷ is) address s (inl (inr (inr t))) = inr (inr (t.0, from is (address + 4) s (inl t.1)))
    from (i ∷ is) address s (inr (mid, inl t, u)) =
        inr (inl (t.0, t.1, from is (address + 4) (moment_done rom i s) (inr (mid, t.2, subst (λ n. LineStops rom n second mid s') (sym (shift address is)) u))))
    from (i ∷ is) address s (inr (mid, inr t, u)) =
        inr (inr (t.0, from is (address + 4) s (inr (mid, t.1, subst (λ n. LineStops rom n second mid s') (sym (shift address is)) u))))

pub lines-keep-valid : LinesKeepValid
lines-keep-valid rom size address [] s end machine stands valid d = subst (IsValidMoment size) (sym d) valid
lines-keep-valid rom size address (i ∷ is) s end machine stands valid (inl d) =
    let next_is = next-at rom s i (ap (fetched rom) d.0 ∙ stands.0) in
    lines-keep-valid rom size (address + 4) is (moment_done rom i s) end machine stands.1
    (subst (IsValidMoment size) next_is (valid-next size machine.ram_aligned rom machine.words s valid)) d.2
lines-keep-valid rom size address (i ∷ is) s end machine stands valid (inr d) = lines-keep-valid rom size (address + 4) is s end machine stands.1 valid d.1
